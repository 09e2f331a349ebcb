-- R10.10, WHAT AN EVENT MAKES OF THE BYTES WAITING ON A CONNECTION, by the event: a loss, a closing tick, a tick that lets a silent peer go and a
-- non-empty take empty them; a stored transmit adds the frames of its switched-on destinations there; every other event leaves them.
-- And the PDUs whose frames these bytes are.
use Rattle.std.specs.Prelude.{ℕ, zero, suc, Bool, cond, not, ◌&&◌, List, [], ◌∷◌, ◌++◌, eqb, ltb, length}
use Rattle.table_layout.specs.Layout.{rows_of}
use Rattle.table_layout.specs.declared.Kind.TheVariants.{Connection as Connections}
use Rattle.table_rows.specs.Rows.{destination_of}
use Rattle.connection.specs.declared.Config.{Config}
use Rattle.connection.specs.declared.Connection.{Connection}
use Rattle.frame.specs.Frame.{Sent, frames}
use Rattle.state.specs.declared.State.{State}
use Rattle.state.specs.State.{record_at}
use Rattle.state.specs.Fresh.{config_of}
use Rattle.send.specs.Verdict.{is_stored}
use Rattle.send.specs.Send.{destinations, check_of}
use Rattle.law_waits.specs.Waits.{goes_to, emptied_at_tick, emptied_by, was_taken, was_lost, Emptied, not_emptied, is_emptied, emptied_if, only_if, Turn}
use Rattle.law_waits.specs.Waits.{turn_by}
use Rattle.model.specs.Events.{Own, change, segment, walk, take_waiting, datagram, accept, tick, transmit, switch_all, read_count, clear_count, Event, on}
use Rattle.model.specs.Events.{on_whole}
use Rattle.model_refines.specs.Machine.{Machine}
use Rattle.model_refines.specs.Run.{after_event}

-- A TRANSMIT of a payload for a PDU, seen from connection k: id and payload for each switched-on destination of the PDU there, of n rows
-- from i on, in table order
module _ (image : List ℕ) (s : State) (pdu : ℕ) (payload : List ℕ) (k : ℕ) where
  unfoldable pub sent_from : ℕ → ℕ → List Sent
  sent_from zero i = []
  sent_from (suc n) i = cond (goes_to image s pdu payload k i) (record { id = (destination_of image i).id; body = payload } ∷ []) [] ++ sent_from n (suc i)

  -- all of them, where the check refuses nothing
  unfoldable pub sent_to : List Sent
  sent_to = cond (is_stored (check_of image s pdu (length payload))) (sent_from (destinations image) 0) []

-- a take empties where something waits, and the out buffer has room for it
abbrev pub drains : ℕ → Connection → Bool
drains room c = not (eqb c.used 0) && not (ltb room c.used)

-- which events of a connection empty it, by its record, and why: a loss that is allowed, a non-empty take
abbrev pub own_empties : Own → Config → Connection → Emptied
own_empties (change e) g c = emptied_if (emptied_by e g c) was_lost
own_empties (segment bytes) g c = not_emptied
own_empties (walk bytes place) g c = not_emptied
own_empties (take_waiting room) g c = emptied_if (drains room c) was_taken

-- ANY EVENT, seen from connection j
module _ (image : List ℕ) (j : ℕ) where
  -- whether it empties, and why (a number that is not there is refused): its own loss or non-empty take, a tick with close wanted, and
  -- one that lets go
  abbrev pub empties_by : Machine → Event → Emptied
  empties_by m (on k e) = only_if (eqb k j && ltb j (rows_of image Connections)) (own_empties e (config_of image j) (record_at m.state j))
  empties_by m (on_whole (datagram group source)) = not_emptied
  empties_by m (on_whole (accept group source)) = not_emptied
  empties_by m (on_whole tick) = only_if (ltb j (rows_of image Connections)) (emptied_at_tick (config_of image j) (record_at m.state j))
  empties_by m (on_whole (transmit pdu payload)) = not_emptied
  empties_by m (on_whole (switch_all number position)) = not_emptied
  empties_by m (on_whole (read_count protocol)) = not_emptied
  empties_by m (on_whole (clear_count protocol)) = not_emptied

  -- what it adds: a transmit its frames, every other event nothing
  abbrev pub adds_by : Machine → Event → List Sent
  adds_by m (on k e) = []
  adds_by m (on_whole (datagram group source)) = []
  adds_by m (on_whole (accept group source)) = []
  adds_by m (on_whole tick) = []
  adds_by m (on_whole (transmit pdu payload)) = sent_to image m.state pdu payload j
  adds_by m (on_whole (switch_all number position)) = []
  adds_by m (on_whole (read_count protocol)) = []
  adds_by m (on_whole (clear_count protocol)) = []

  abbrev pub turn_of : Machine → Event → Turn
  turn_of m e = turn_by (empties_by m e) (frames (adds_by m e))

  -- in a run
  unfoldable pub turns_of : Machine → List Event → List Turn
  turns_of m [] = []
  turns_of m (e ∷ es) = turn_of m e ∷ turns_of (after_event image e m) es

  -- THE PDUS THAT WAIT after a run, where ss waited before it: those stored since it was last emptied
  unfoldable pub sent_in : Machine → List Event → List Sent → List Sent
  sent_in m [] ss = ss
  sent_in m (e ∷ es) ss = sent_in (after_event image e m) es (cond (is_emptied (empties_by m e)) [] (ss ++ adds_by m e))
