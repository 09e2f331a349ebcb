-- WHAT A CALL WRITES (R2.8): only the payload bytes that it adds to an unfinished payload, the last ones included but none of a payload
-- handed out from the segment and none of a transfer, and the bytes that a transmit appends; all other lent bytes stay.
use Rattle.std.specs.Prelude.{ℕ, ◌+◌, ◌-◌, ◌*◌, ◌≤◌, ◌<◌, ◌≡◌, true, false, List, length}
use Rattle.wire.specs.Be.{byte_at}
use Rattle.table_rows.specs.Rows.{destination_of}
use Rattle.state.specs.State.{record_at}
use Rattle.receive_stream.specs.declared.Outcome.{Outcome}
use Rattle.receive_stream.specs.declared.Outcome.TheVariants.{More, Pdu, Drop, Start, Piece}
use Rattle.entry_receive.specs.Answer.{is_done}
use Rattle.send.specs.Verdict.{is_stored}
use Rattle.send.specs.Send.{destinations, wanted_at}
use Rattle.entry_send.specs.Sending.{send_of}
use Rattle.model.specs.World.{held_by}
use Rattle.model.specs.Events.{segment, transmit, Event, on, on_whole}
use Rattle.model_refines.specs.Machine.{Machine, loan_to, taken, after_one, rest_of, goes_on}
use Rattle.model_refines.specs.Run.{after_event}

-- place i is one of the n from `at` on
abbrev pub Within : ℕ → ℕ → ℕ → Type 0
Within at n i = (at ≤ i) × (i < at + n)

-- RECEIVE MEMORY: the payload bytes added to an unfinished payload, by a take's outcome and by how many the record's part holds before
-- and after it: those that it holds now and did not before; of a payload handed out from receive memory (false) the last ones included;
-- none of a payload handed out from the segment (true); R19.3: none of a transfer
abbrev pub added_by : Outcome → ℕ → ℕ → ℕ
added_by More before after = after - before
added_by (Pdu route id false at n) before after = n - before
added_by (Pdu route id true at n) before after = 0
added_by (Drop reason id n) before after = 0
added_by (Start route id n last) before after = 0
added_by (Piece route id at n last) before after = 0

-- how many payload bytes connection k holds in receive memory
abbrev pub payload_held : ℕ → Machine → ℕ
payload_held k m = held_by (record_at m.state k).part

module _ (image : List ℕ) (k : ℕ) where
  -- ONE TAKE writes place i: the bytes that it adds stand behind those held before it, in the connection's stretch
  abbrev pub TakeWrites : Machine → List ℕ → ℕ → Type 0
  TakeWrites m bytes i =
      Within (k * 1464 + payload_held k m)
      (added_by (taken image k m bytes).outcome (payload_held k m) (payload_held k (after_one image k m bytes))) i

  -- A SEGMENT EVENT writes it: its first take does, or, where another follows (as in `after_takes`), one of those
  pub data SegmentWrites (i : ℕ) : Machine → List ℕ → Type 0 where
    by_first_take : (m : Machine) (bytes : List ℕ) → TakeWrites m bytes i → SegmentWrites i m bytes
    by_later_take : (m : Machine) (bytes : List ℕ) → goes_on image k (is_done (taken image k m bytes).answer) (rest_of image k m bytes) ≡ true
        → SegmentWrites i (after_one image k m bytes) (rest_of image k m bytes) → SegmentWrites i m bytes

module _ (image : List ℕ) (m : Machine) where
  -- AN EVENT WRITES PLACE i OF RECEIVE MEMORY: only a segment event writes any
  pub data WritesRx : Event → ℕ → Type 0 where
    by_segment : (k : ℕ) (bytes : List ℕ) (i : ℕ) → SegmentWrites image k i m bytes → WritesRx (on k (segment bytes)) i

  -- A FRAME writes place i of send memory: header and payload at destination row d, behind the bytes used on its connection
  abbrev pub FrameWrites : ℕ → List ℕ → ℕ → Type 0
  FrameWrites d payload i =
      Within ((destination_of image d).connection * 1472 + (record_at m.state (destination_of image d).connection).used) (8 + length payload) i

  -- AN EVENT WRITES PLACE i OF SEND MEMORY: the bytes that a transmit appends, where it is stored, one frame at each destination of the PDU
  -- that is switched on at the call (no two destinations share PDU and connection: at most one frame on each connection)
  pub data WritesTx : Event → ℕ → Type 0 where
    by_transmit : (pdu : ℕ) (payload : List ℕ) (d i : ℕ) → is_stored (send_of (loan_to image m) pdu payload).answer ≡ true
        → d < destinations image → wanted_at image m.state pdu payload d ≡ true → FrameWrites d payload i → WritesTx (on_whole (transmit pdu payload)) i

-- THE STATEMENT: all other lent bytes stay, and both memories are as long as they were
pub record Writes (image : List ℕ) (m : Machine) (e : Event) : Type 0 where
  pub rx_long : length (after_event image e m).rx ≡ length m.rx
  pub tx_long : length (after_event image e m).tx ≡ length m.tx
  pub rx_stays : (i : ℕ) → (WritesRx image m e i → ⊥) → byte_at (after_event image e m).rx i ≡ byte_at m.rx i
  pub tx_stays : (i : ℕ) → (WritesTx image m e i → ⊥) → byte_at (after_event image e m).tx i ≡ byte_at m.tx i
