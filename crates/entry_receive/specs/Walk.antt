-- A step of a walk over a datagram on one of the sixteen connections: the whole answer.
use Rattle.std.specs.Prelude.{ℕ, Bool, false, cond, not, ◌&&◌, List, leb, length, Result, Ok}
use Rattle.table_layout.specs.Layout.{body_of}
use Rattle.table_layout.specs.declared.Kind.TheVariants.{Route as Routes}
use Rattle.state.specs.declared.State.{State}
use Rattle.state.specs.State.{record_at, counted, dropped_of}
use Rattle.state.specs.Fresh.{config_of}
use Rattle.receive_datagram.specs.declared.Outcome.{Outcome}
use Rattle.receive_datagram.specs.declared.Outcome.TheVariants.{End, Pdu, Drop}
use Rattle.receive_datagram.specs.declared.Walked.{Walked}
use Rattle.receive_datagram.specs.Datagram.{walked_of}
use Rattle.gate.specs.Lent.{Lent}
use Rattle.entry_receive.specs.declared.DatagramWalked.{DatagramWalked}
use Rattle.entry_receive.specs.declared.WalkStep.{WalkStep}
use Rattle.entry_receive.specs.Answer.{is_done, judged_answer}
use Rattle.entry_receive.specs.declared.NotReceived.{NotReceived}

-- R7.11: a drop adds 1 to its protocol's count, UDP's
abbrev pub count_walk : Outcome → State → State
count_walk End s = s
count_walk (Pdu route id at n) s = s
count_walk (Drop reason id n) s = dropped_of false s

abbrev pub walk_drops : Outcome → ℕ → ℕ
walk_drops End drops = drops
walk_drops (Pdu route id at n) drops = drops
walk_drops (Drop reason id n) drops = counted drops

-- what changes after an answer, the UDP count, and what is told: in a refusal the end, the place as it was given, and the count stays
unfoldable pub step_walked : List ℕ → ℕ → ℕ → ℕ → List ℕ → ℕ → Result Unit NotReceived → WalkStep
step_walked image switches drops connection datagram place answer =
    cond (is_done answer)
    (record {
      drops = walk_drops (walked_of datagram place (body_of image Routes) connection switches).outcome drops;
      outcome = (walked_of datagram place (body_of image Routes) connection switches).outcome;
      next = (walked_of datagram place (body_of image Routes) connection switches).next;
    })
    (record { drops = drops; outcome = End; next = place })

module _ (image : List ℕ) (s : State) (connection : ℕ) (datagram : List ℕ) (place : ℕ) where
  -- the walk with the record's switches and the table's routes
  abbrev pub walked_at : Walked
  walked_at = walked_of datagram place (body_of image Routes) connection (record_at s connection).switches

  -- R7.11, where nothing refuses it: nothing is carried to the next datagram
  unfoldable pub walk_on : DatagramWalked
  walk_on =
      record {
        answer = Ok tt;
        outcome = walked_at.outcome;
        next = walked_at.next;
        state = count_walk walked_at.outcome s;
      }

-- a refusal: the end, the place as it was given, and the state stays
abbrev pub none_walked : State → ℕ → Result Unit NotReceived → DatagramWalked
none_walked s place a = record { answer = a; outcome = End; next = place; state = s }

-- R7.7: a TCP connection, or a place beyond the end, gets 3
abbrev pub walk_allowed : List ℕ → ℕ → List ℕ → ℕ → Bool
walk_allowed image connection datagram place = not (config_of image connection).tcp && leb place (length datagram)

abbrev pub walk_answer : Lent → ℕ → List ℕ → ℕ → Result Unit NotReceived
walk_answer l connection datagram place = judged_answer l connection (walk_allowed l.image connection datagram place)

-- THE WALK
unfoldable pub walk_of : Lent → ℕ → List ℕ → ℕ → DatagramWalked
walk_of l connection datagram place =
    cond (is_done (walk_answer l connection datagram place))
    (walk_on l.image l.state connection datagram place)
    (none_walked l.state place (walk_answer l connection datagram place))
