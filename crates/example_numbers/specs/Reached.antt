-- EACH LISTED NUMBER DOES OCCUR: for each kind of event and each number listed for it (theorems/specs/Numbers, `numbers_for`) a table, a state
-- and an event of that kind that is answered that number.
use Rattle.std.specs.Prelude.{ℕ, ◌≡◌, Bool, true, false, ◌&&◌, List, [], ◌∷◌, eqb, replicate, set}
use Rattle.connection.specs.declared.Mode.TheVariants.{Reconnect}
use Rattle.connection.specs.declared.Event.TheVariants.{Open, Close, Connected, Lost, SetRemote, Switch, Cancel}
use Rattle.state.specs.declared.State.{State}
use Rattle.model.specs.Events.{change, segment, walk, take_waiting, datagram, accept, tick, transmit, switch_all, read_count, clear_count, Event, on, on_whole}
use Rattle.model_refines.specs.Machine.{Machine, machine}
use Rattle.theorems.specs.Numbers.{number_of}
use Rattle.example_edges.specs.Table.{image, fresh, waiting_for, used, moving, exact, receive_memory, send_memory}
use Rattle.example_changes.specs.Changes.{stands, met, peer}

-- the kind of an event, by its number in docs/EVENTS.md
unfoldable pub kind_of : Event → ℕ
kind_of (on_whole tick) = 0
kind_of (on k (change Open)) = 1
kind_of (on k (change Close)) = 2
kind_of (on k (change Connected)) = 3
kind_of (on k (change Lost)) = 4
kind_of (on k (change (SetRemote remote))) = 5
kind_of (on k (change (Switch number position))) = 6
kind_of (on k (segment bytes)) = 7
kind_of (on k (walk d place)) = 8
kind_of (on k (take_waiting room)) = 9
kind_of (on_whole (datagram group source)) = 10
kind_of (on_whole (accept group source)) = 11
kind_of (on_whole (transmit pdu payload)) = 12
kind_of (on_whole (switch_all number position)) = 13
kind_of (on_whole (read_count protocol)) = 14
kind_of (on_whole (clear_count protocol)) = 15
kind_of (on k (change Cancel)) = 16

-- an event of a kind is answered a number
pub record Reached (kind number : ℕ) : Type 0 where
  pub image : List ℕ
  pub machine : Machine
  pub event : Event
  pub of-kind : kind_of event ≡ kind
  pub answered : number_of image machine event ≡ number

-- THE EXAMPLES past 11 and 12, which every event can be answered: a table, a state, an event and its number, lent both memories in their
-- lengths
pub record Example : Type 0 where
  pub table : List ℕ
  pub state : State
  pub event : Event
  pub number : ℕ

abbrev pub example : State → Event → ℕ → Example
example s e n = record { table = image; state = s; event = e; number = n }

-- the edges' image with its destination under switch 0, which is off
abbrev pub shut : List ℕ
shut = set image 167 1

abbrev pub examples : List Example
examples =
    example fresh (on_whole tick) 0
    -- open, close, connected, lost, set remote: 2, 3, 0
    ∷ example fresh (on 3 (change Open)) 2
    ∷ example (used 10) (on 2 (change Open)) 3
    ∷ example fresh (on 0 (change Open)) 0
    ∷ example fresh (on 3 (change Close)) 2
    ∷ example fresh (on 0 (change Close)) 3
    ∷ example (used 10) (on 2 (change Close)) 0
    ∷ example fresh (on 3 (change Connected)) 2
    ∷ example fresh (on 2 (change Connected)) 3
    ∷ example (stands 2 Reconnect false false) (on 2 (change Connected)) 0
    ∷ example fresh (on 3 (change Lost)) 2
    ∷ example fresh (on 2 (change Lost)) 3
    ∷ example (used 10) (on 2 (change Lost)) 0
    ∷ example fresh (on 3 (change (SetRemote exact))) 2
    ∷ example (used 10) (on 2 (change (SetRemote exact))) 3
    ∷ example fresh (on 0 (change (SetRemote exact))) 0
    -- switch: 2, 0
    ∷ example fresh (on 0 (change (Switch 32 true))) 2
    ∷ example fresh (on 0 (change (Switch 31 true))) 0
    -- segment and walk: 2, 3, 4, 0
    ∷ example fresh (on 3 (segment [])) 2
    ∷ example fresh (on 0 (segment [])) 3
    ∷ example fresh (on 2 (segment [])) 4
    ∷ example (used 10) (on 2 (segment [])) 0
    ∷ example fresh (on 3 (walk [] 0)) 2
    ∷ example fresh (on 2 (walk [] 0)) 3
    ∷ example fresh (on 0 (walk [] 0)) 4
    ∷ example met (on 0 (walk [] 0)) 0
    -- take waiting: 2, 9, 0
    ∷ example fresh (on 3 (take_waiting 0)) 2
    ∷ example (used 10) (on 2 (take_waiting 9)) 9
    ∷ example (used 10) (on 2 (take_waiting 10)) 0
    -- datagram and accept: 2, 3, 10, 0
    ∷ example fresh (on_whole (datagram 2 exact)) 2
    ∷ example fresh (on_whole (datagram 1 exact)) 3
    ∷ example fresh (on_whole (datagram 0 exact)) 10
    ∷ example waiting_for (on_whole (datagram 0 exact)) 0
    ∷ example fresh (on_whole (accept 2 peer)) 2
    ∷ example fresh (on_whole (accept 0 peer)) 3
    ∷ example fresh (on_whole (accept 1 peer)) 10
    ∷ example (stands 2 Reconnect false false) (on_whole (accept 1 peer)) 0
    -- transmit: 5, 6, 4, 7, 8, 0
    ∷ example fresh (on_whole (transmit 8 [])) 5
    ∷ record { table = shut; state = fresh; event = on_whole (transmit 9 []); number = 6 }
    ∷ example fresh (on_whole (transmit 9 [])) 4
    ∷ example (used 10) (on_whole (transmit 9 (replicate 1465 0))) 7
    ∷ example (used 1463) (on_whole (transmit 9 (1 ∷ 2 ∷ []))) 8
    ∷ example (used 1462) (on_whole (transmit 9 (1 ∷ 2 ∷ []))) 0
    -- a switch on all connections: 2, 0; the counts: 3, 0
    ∷ example fresh (on_whole (switch_all 32 true)) 2
    ∷ example fresh (on_whole (switch_all 31 true)) 0
    ∷ example fresh (on_whole (read_count 0)) 3
    ∷ example fresh (on_whole (read_count 1)) 0
    ∷ example fresh (on_whole (clear_count 3)) 3
    ∷ example fresh (on_whole (clear_count 2)) 0
    -- cancel: 2, 3, 0
    ∷ example fresh (on 3 (change Cancel)) 2
    ∷ example (used 10) (on 2 (change Cancel)) 3
    ∷ example (moving 5) (on 2 (change Cancel)) 0
    ∷ []

abbrev pub example_holds : Example → Bool
example_holds x = eqb (number_of x.table (machine x.state receive_memory send_memory) x.event) x.number

abbrev pub examples_hold : List Example → Bool
examples_hold [] = true
examples_hold (x ∷ xs) = example_holds x && examples_hold xs
