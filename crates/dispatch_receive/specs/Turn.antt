-- What the inner functions hand back of a take and of all takes, and the front of the event's answer.
use Rattle.std.specs.Prelude.{ℕ, ◌+◌, ◌*◌, ◌<◌, ◌≤◌, ◌≡◌, true, List, length, drop, Result, Ok, Err}
use Rattle.wire.specs.Lay.{lay}
use Rattle.receive_part.specs.declared.Part.{Part}
use Rattle.connection.specs.Connection.{with_part}
use Rattle.state.specs.declared.State.{State}
use Rattle.state.specs.State.{record_at, with_record, with_count}
use Rattle.state.specs.Memory.{stretch}
use Rattle.receive_stream.specs.declared.Taken.{Taken}
use Rattle.receive_stream.specs.Stream.{taken_of, rx_after, Fit}
use Rattle.entry_receive.specs.declared.NotReceived.TheVariants.{Refused, NotReceiving}
use Rattle.entry_receive.specs.Segment.{drops_after, payload_of}
use Rattle.pieces.specs.Pieces.{place_after}
use Rattle.event_answer.specs.Answers.{refused, refusal, done_with}
use Rattle.dispatch_receive.specs.declared.Turn as turn
use Rattle.dispatch_receive.specs.declared.Takes as takes
use Rattle.dispatch_receive.specs.Walk.{or_refused}
use Rattle.dispatch_receive.specs.Segment.{take_bytes, bytes_if_done, Progress}
use Rattle.entry_receive.specs.declared.NotReceived.{NotReceived}

-- PAST THE GATE, over the routes and the switches of a connection: the take over what is left of the segment, receive memory after it,
-- and its bytes of the answer
module _ (routes : List ℕ) (switches connection : ℕ) (segment : List ℕ) (t : turn.Turn) (rx : List ℕ) where
  abbrev pub taken_from : Taken
  taken_from = taken_of routes connection switches t.part (stretch 1464 connection rx) (drop t.at segment)

  abbrev pub memory_from : List ℕ
  memory_from = lay rx (connection * 1464) (rx_after routes connection switches t.part (stretch 1464 connection rx) (drop t.at segment))

  abbrev pub turn_bytes : List ℕ
  turn_bytes = take_bytes t.at taken_from.read taken_from.outcome (payload_of (drop t.at segment) memory_from connection taken_from.outcome)

  -- one take more
  abbrev pub take_turn : List ℕ → turn.Turn
  take_turn out =
      record {
        part = taken_from.part;
        drops = drops_after taken_from.outcome t.drops;
        at = t.at + taken_from.read;
        place = place_after out t.place turn_bytes;
        count = t.count + 1;
      }

-- what a take asks: one of the sixteen, its stretch, a part that fits it, and no more read than there is
pub record Goes (routes : List ℕ) (connection : ℕ) (segment : List ℕ) (t : turn.Turn) (rx : List ℕ) : Type 0 where
  pub small : connection < 16
  pub room : length rx ≡ 23424
  pub fit : Fit routes t.part (stretch 1464 connection rx)
  pub within : t.at ≤ length segment
  pub low : t.count ≤ t.at

-- the state that a connection's part and the TCP drop count are put back into
abbrev pub put_back : State → ℕ → Part → ℕ → State
put_back s connection part drops = with_count true drops (with_record connection (with_part part (record_at s connection)) s)

-- all of them: four bytes of the answer come before theirs, and of a refusal none follows
abbrev pub taken_bytes : Progress → List ℕ
taken_bytes r = bytes_if_done r.answer r.bytes

abbrev pub takes_of : Progress → takes.Takes
takes_of r = record { answer = r.answer; count = r.count; place = 4 + length (taken_bytes r); state = r.state }

-- the number of takes before their bytes, or the refusal of the first
abbrev pub front_of : Result Unit NotReceived → ℕ → List ℕ
front_of a count = or_refused a (done_with 2 count)

-- the length of the answer: up to the place after the last take's bytes
abbrev pub answer_length : Result Unit NotReceived → ℕ → ℕ
answer_length (Ok tt) place = place
answer_length (Err (Refused r)) place = length (refusal r)
answer_length (Err NotReceiving) place = length (refused 4 0)
