-- A segment event (R5.14), the takes over one segment until all is read, one at least; and its answer as bytes (R16.2; docs/EVENTS.md).
use Rattle.std.specs.Prelude.{ℕ, zero, suc, ◌+◌, ◌*◌, ◌/◌, Bool, true, false, cond, not, ◌&&◌, List, [], ◌++◌, ltb, length, drop, Result, Ok, Err}
use Rattle.reading.specs.Reasons.{reason_number}
use Rattle.wire.specs.Lay.{spell}
use Rattle.lists.specs.Search.{every}
use Rattle.table_layout.specs.Layout.{row_bytes, body_of}
use Rattle.table_layout.specs.declared.Kind.TheVariants.{Route as Routes}
use Rattle.table_rows.specs.Rows.{route_of}
use Rattle.state.specs.declared.State.{State}
use Rattle.receive_stream.specs.declared.Outcome.{Outcome}
use Rattle.receive_stream.specs.declared.Outcome.TheVariants.{More, Pdu, Drop, Start, Piece}
use Rattle.entry_receive.specs.declared.NotReceived.TheVariants.{Refused, NotReceiving}
use Rattle.entry_receive.specs.declared.SegmentTaken.{SegmentTaken}
use Rattle.entry_receive.specs.Answer.{is_done}
use Rattle.entry_receive.specs.Segment.{segment_of, memory_of, payload_of}
use Rattle.event_answer.specs.Answers.{Effect, answers, done_with, found_bytes}
use Rattle.dispatch_receive.specs.Long.{if_fits}
use Rattle.gate.specs.Lent.{Loan, received}
use Rattle.dispatch_receive.specs.Walk.{or_refused}
use Rattle.entry_receive.specs.declared.NotReceived.{NotReceived}

-- a PDU: "where its payload stood: 0 (1) and the place in the segment (4)", for a take that began at the place from of the segment ..
abbrev pub here_bytes : ℕ → ℕ → ℕ → ℕ → ℕ → ℕ → List ℕ
here_bytes read route id n from at = found_bytes read 1 route id n ++ spell 1 0 ++ spell 4 (from + at)

-- ".. or 1 (1) and the payload's bytes out of receive memory"
abbrev pub held_bytes : ℕ → ℕ → ℕ → ℕ → List ℕ → List ℕ
held_bytes read route id n payload = found_bytes read 1 route id n ++ spell 1 1 ++ payload

-- R19.3, R19.4: a piece of a transfer: 4, or 5 for the last one, the piece's length, "then its place in the event's whole segment (4)"
abbrev pub piece_kind : Bool → ℕ
piece_kind true = 5
piece_kind false = 4

abbrev pub piece_spelt : ℕ → ℕ → ℕ → ℕ → Bool → ℕ → ℕ → List ℕ
piece_spelt read route id n last from at = found_bytes read (piece_kind last) route id n ++ spell 4 (from + at)

-- a take: "bytes read (4), kind (1: 0 more wanted, 1 PDU, 2 drop, 3 start, 4 piece, 5 last piece), route or reason (1), id (4), length (4);
-- for more wanted these three are 0". A start's end mark is its length 0
abbrev pub take_bytes : ℕ → ℕ → Outcome → List ℕ → List ℕ
take_bytes from read More payload = found_bytes read 0 0 0 0
take_bytes from read (Pdu route id true at n) payload = here_bytes read route id n from at
take_bytes from read (Pdu route id false at n) payload = held_bytes read route id n payload
take_bytes from read (Drop reason id n) payload = found_bytes read 2 (reason_number reason) id n
take_bytes from read (Start route id n last) payload = found_bytes read 3 route id n
take_bytes from read (Piece route id at n last) payload = piece_spelt read route id n last from at

-- a refused take has none
abbrev pub bytes_if_done : Result Unit NotReceived → List ℕ → List ℕ
bytes_if_done (Ok tt) bytes = bytes
bytes_if_done (Err (Refused r)) bytes = []
bytes_if_done (Err NotReceiving) bytes = []

-- HOW FAR A SEGMENT EVENT IS: the answer of its last take, state and receive memory after it, the bytes of the takes so far, how many
-- takes, and the bytes read
pub record Progress : Type 0 where
  pub answer : Result Unit NotReceived
  pub state : State
  pub rx : List ℕ
  pub bytes : List ℕ
  pub count : ℕ
  pub at : ℕ

-- before the first take
abbrev pub begun : State → List ℕ → Progress
begun s rx = record { answer = Ok tt; state = s; rx = rx; bytes = []; count = 0; at = 0 }

-- THE TAKE over what is left of the segment, receive memory after it, and its bytes of the answer
module _ (l : Loan) (connection : ℕ) (segment : List ℕ) (at : ℕ) where
  abbrev pub take_at : SegmentTaken
  take_at = segment_of l connection (drop at segment)

  abbrev pub memory_at : List ℕ
  memory_at = memory_of l connection (drop at segment)

  unfoldable pub bytes_at : List ℕ
  bytes_at =
      bytes_if_done take_at.answer (take_bytes at take_at.read take_at.outcome (payload_of (drop at segment) memory_at connection take_at.outcome))

module _ (l : Loan) (connection : ℕ) (segment : List ℕ) where
  -- what the next take of a run is lent
  abbrev pub lent_next : Progress → Loan
  lent_next r = received l r.state r.rx

  -- one take more
  unfoldable pub one_take : Progress → Progress
  one_take r =
      record {
        answer = (take_at (lent_next r) connection segment r.at).answer;
        state = (take_at (lent_next r) connection segment r.at).state;
        rx = memory_at (lent_next r) connection segment r.at;
        bytes = r.bytes ++ bytes_at (lent_next r) connection segment r.at;
        count = r.count + 1;
        at = r.at + (take_at (lent_next r) connection segment r.at).read;
      }

  -- R5.14, until all is read: a take follows where bytes are left and this one was not refused
  abbrev pub take_follows : Progress → Bool
  take_follows r = is_done r.answer && ltb r.at (length segment)

  -- at most n takes after the next; each reads a byte, so as many as the segment has bytes are enough
  unfoldable pub takes_up_to : ℕ → Progress → Progress
  takes_up_to zero r = one_take r
  takes_up_to (suc n) r = cond (take_follows (one_take r)) (takes_up_to n (one_take r)) (one_take r)

  abbrev pub all_takes : Progress
  all_takes = takes_up_to (length segment) (begun l.state l.rx)

-- "number of takes (2), then for every take" its bytes; "a refusal of the first take is the event's answer (later takes are never
-- refused)": so the last take's answer is the first's (proofs/Run `first-answer`)
abbrev pub event_bytes : Result Unit NotReceived → ℕ → List ℕ → List ℕ
event_bytes a count bytes = or_refused a (done_with 2 count ++ bytes)

abbrev pub takes_effect : Progress → List ℕ → List ℕ → Effect
takes_effect r tx out = answers (event_bytes r.answer r.count r.bytes) r.state r.rx tx out

-- THE ROOM that the event's answer never exceeds, whatever the takes find (proofs/Room `event-fits`): a payload out of receive memory
-- and what comes with it once, and 32 bytes for every nine of the segment, as a transfer of one byte has them: a start and a piece
abbrev pub answer_room : List ℕ → ℕ
answer_room segment = 1503 + 32 * length segment / 9

-- R19.1: no route of the image is marked
unfoldable pub none_marked : List ℕ → Bool
none_marked image = every (λ (i : ℕ). not (route_of image i).transfer) (length (body_of image Routes) / row_bytes image Routes)

-- .. and then no take is a start or a piece, and the room is less (proofs/Room `plain_fits`): three bytes for each of the segment
abbrev pub plain_room : List ℕ → ℕ
plain_room segment = 1502 + 3 * length segment

-- WHAT A SEGMENT EVENT LEAVES
unfoldable pub segment_effect : Loan → List ℕ → ℕ → List ℕ → Effect
segment_effect l out connection segment = if_fits l out segment (takes_effect (all_takes l connection segment) l.tx out)
