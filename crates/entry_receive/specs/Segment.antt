-- A take of a segment on one of the sixteen connections: the whole answer, and all of receive memory afterwards; and the payload
-- that it hands out.
use Rattle.std.specs.Prelude.{ℕ, ◌*◌, ◌<◌, ◌≡◌, true, cond, List, [], length, Result, Ok}
use Rattle.wire.specs.Lay.{lay}
use Rattle.wire.specs.Place.{behind, from_at}
use Rattle.table_layout.specs.Layout.{body_of, part_of, part_at, Laid}
use Rattle.table_layout.specs.declared.Kind.TheVariants.{Route as Routes}
use Rattle.connection.specs.declared.Connection.{Connection}
use Rattle.connection.specs.Connection.{with_part}
use Rattle.state.specs.declared.State.{State}
use Rattle.state.specs.State.{record_at, with_record, count_of, with_count, counted}
use Rattle.state.specs.Fresh.{config_of}
use Rattle.receive_stream.specs.declared.Outcome.{Outcome}
use Rattle.receive_stream.specs.declared.Outcome.TheVariants.{More, Pdu, Drop, Start, Piece}
use Rattle.receive_stream.specs.declared.Taken.{Taken}
use Rattle.receive_stream.specs.Stream.{taken_of, rx_after, payload_at, payload_place, Fit}
use Rattle.state.specs.Memory.{stretch}
use Rattle.gate.specs.Lent.{Lent, Loan, sizes}
use Rattle.entry_receive.specs.declared.SegmentTaken.{SegmentTaken}
use Rattle.entry_receive.specs.declared.TakeStep.{TakeStep}
use Rattle.entry_receive.specs.Answer.{is_done, judged_answer}
use Rattle.entry_receive.specs.declared.NotReceived.{NotReceived}

-- R5.6: a drop adds 1 to its protocol's count, TCP's; a transfer's start and its pieces add none
abbrev pub drops_after : Outcome → ℕ → ℕ
drops_after More drops = drops
drops_after (Pdu route id inside at n) drops = drops
drops_after (Drop reason id n) drops = counted drops
drops_after (Start route id n last) drops = drops
drops_after (Piece route id at n last) drops = drops

abbrev pub count_take : Outcome → State → State
count_take outcome s = with_count true (drops_after outcome (count_of true s)) s

module _ (image : List ℕ) (s : State) (rx : List ℕ) (connection : ℕ) (segment : List ℕ) where
  -- the take over the record's part and switches, its stretch of receive memory, and the table's routes
  abbrev pub taken_at : Taken
  taken_at = taken_of (body_of image Routes) connection (record_at s connection).switches (record_at s connection).part (stretch 1464 connection rx) segment

  -- R2.7: the connection's stretch afterwards
  abbrev pub stretch_at : List ℕ
  stretch_at = rx_after (body_of image Routes) connection (record_at s connection).switches (record_at s connection).part (stretch 1464 connection rx) segment

  -- where nothing refuses it: the record has the part that the take leaves
  unfoldable pub take_on : SegmentTaken
  take_on =
      record {
        answer = Ok tt;
        read = taken_at.read;
        outcome = taken_at.outcome;
        state = count_take taken_at.outcome (with_record connection (with_part taken_at.part (record_at s connection)) s);
      }

  -- and no other byte of receive memory changes than those of its stretch
  unfoldable pub memory_on : List ℕ
  memory_on = lay rx (connection * 1464) stretch_at

-- what the take on a record asks, and the gate has shown
pub record Takes (image : List ℕ) (c : Connection) (rx : List ℕ) (connection : ℕ) : Type 0 where
  pub laid : Laid image
  pub small : connection < 16
  pub room : length rx ≡ 23424
  pub fit : Fit (body_of image Routes) c.part (stretch 1464 connection rx)

module _ (image : List ℕ) (c : Connection) (rx : List ℕ) (connection : ℕ) (segment : List ℕ) where
  -- the same take, of a record alone
  abbrev pub taken_by : Taken
  taken_by = taken_of (body_of image Routes) connection c.switches c.part (stretch 1464 connection rx) segment

  abbrev pub stretch_by : List ℕ
  stretch_by = rx_after (body_of image Routes) connection c.switches c.part (stretch 1464 connection rx) segment

  -- receive memory after an answer
  unfoldable pub step_memory : Result Unit NotReceived → List ℕ
  step_memory answer = cond (is_done answer) (lay rx (connection * 1464) stretch_by) rx

-- what changes after an answer, and what is told: in a refusal nothing is read, and record and count stay
unfoldable pub step_taken : List ℕ → Connection → ℕ → List ℕ → ℕ → List ℕ → Result Unit NotReceived → TakeStep
step_taken image c drops rx connection segment answer =
    cond (is_done answer)
    (record {
      connection = with_part (taken_by image c rx connection segment).part c;
      drops = drops_after (taken_by image c rx connection segment).outcome drops;
      read = (taken_by image c rx connection segment).read;
      outcome = (taken_by image c rx connection segment).outcome;
    })
    (record { connection = c; drops = drops; read = 0; outcome = More })

-- a refusal: nothing is read, and the state stays
abbrev pub none_taken : State → Result Unit NotReceived → SegmentTaken
none_taken s a = record { answer = a; read = 0; outcome = More; state = s }

-- R5.14: TCP, else 3
abbrev pub segment_answer : Lent → ℕ → Result Unit NotReceived
segment_answer l connection = judged_answer l connection (config_of l.image connection).tcp

-- THE SEGMENT TAKE
unfoldable pub segment_of : Loan → ℕ → List ℕ → SegmentTaken
segment_of l connection segment =
    cond (is_done (segment_answer (sizes l) connection))
    (take_on l.image l.state l.rx connection segment)
    (none_taken l.state (segment_answer (sizes l) connection))

-- RECEIVE MEMORY AFTER IT. R4.7: in a refusal it stays
unfoldable pub memory_of : Loan → ℕ → List ℕ → List ℕ
memory_of l connection segment =
    cond (is_done (segment_answer (sizes l) connection)) (memory_on l.image l.state l.rx connection segment) l.rx

-- R2.8: when connection k takes, every other stretch of receive memory stays, and so do every other record and UDP's count
pub record Apart (k : ℕ) (s t : State) (rx rx' : List ℕ) : Type 0 where
  pub records : (j : ℕ) → (j ≡ k → ⊥) → record_at t j ≡ record_at s j
  pub stretches : (j : ℕ) → (j ≡ k → ⊥) → stretch 1464 j rx' ≡ stretch 1464 j rx
  pub udp : t.udp_drops ≡ s.udp_drops

-- R5.11: the payload, out of the segment when all of it stands there, otherwise out of receive memory; R19.3: a transfer's piece, out of the
-- segment; where neither is handed out there is none
unfoldable pub payload_of : List ℕ → List ℕ → ℕ → Outcome → List ℕ
payload_of segment rx connection More = []
payload_of segment rx connection (Pdu route id inside at n) = payload_at segment (stretch 1464 connection rx) inside at n
payload_of segment rx connection (Drop reason id n) = []
payload_of segment rx connection (Start route id n last) = []
payload_of segment rx connection (Piece route id at n last) = part_of segment at n

-- and where it stands: in the segment, whose front is at the place p, or in the connection's stretch of receive memory, whose front is at
-- q; an empty part at the segment's front
unfoldable pub payload_stands : ℕ × ℕ → List ℕ → ℕ × ℕ → List ℕ → ℕ → Outcome → ℕ × ℕ
payload_stands p segment q rx connection More = p
payload_stands p segment q rx connection (Pdu route id inside at n) =
    payload_place p segment (behind q (from_at rx (connection * 1464))) (stretch 1464 connection rx) inside at n
payload_stands p segment q rx connection (Drop reason id n) = p
payload_stands p segment q rx connection (Start route id n last) = p
payload_stands p segment q rx connection (Piece route id at n last) = behind p (part_at segment at n)
