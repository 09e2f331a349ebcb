-- THE TAKES WHOSE BYTES AN ANSWER IS (R16.3; docs/EVENTS.md, "The answer"): those of a segment event, each as its answer tells it, and
-- the outcomes that they tell, and that a walk's answer tells: PDUs, drops, and of transfers the start and the pieces.
use Rattle.std.specs.Prelude.{ℕ, zero, suc, ◌+◌, Bool, true, false, cond, List, [], ◌∷◌, ◌++◌, eqb, ltb, length, drop, Result, Ok, Err}
use Rattle.table_layout.specs.Layout.{part_of}
use Rattle.reading.specs.Feed.{Out, pdu, dropped, start, piece}
use Rattle.receive_stream.specs.declared.Outcome.{Outcome}
use Rattle.receive_stream.specs.declared.Outcome.TheVariants as Found
use Rattle.gate.specs.Lent.{Loan}
use Rattle.entry_receive.specs.Answer.{is_done}
use Rattle.entry_receive.specs.Segment.{payload_of}
use Rattle.entry_receive.specs.Walk.{walk_of}
use Rattle.event_decode.specs.declared.Call.{Call}
use Rattle.event_decode.specs.declared.BadCall.{BadCall}
use Rattle.event_decode.specs.declared.Call.TheVariants.{Ticks, Own, Lost, Segment, Walk, TakeWaiting, Datagram, Accept, Transmit}
use Rattle.event_decode.specs.declared.Call.TheVariants.{SwitchAll, ReadCount, ClearCount}
use Rattle.event_decode.specs.Calls.{call_of, bytes_from}
use Rattle.dispatch_receive.specs.Segment.{lent_next, take_bytes, Progress, begun, take_at, memory_at, one_take}
use Rattle.model_refines.specs.Machine.{Machine, lent_to, loan_to}
use Rattle.model_refines.specs.Run.{told_walk}
use Rattle.event_answer.specs.Answers.{room}
use Rattle.dispatch_refines.specs.Spelt.{Spoken, after_dispatch}

-- ONE TAKE THAT IS NOT REFUSED: where in the segment it began, the bytes read, what it found, and the payload that it handed out
pub record Take : Type 0 where
  pub begins : ℕ
  pub read : ℕ
  pub outcome : Outcome
  pub payload : List ℕ

-- "for every take" its bytes of the answer
unfoldable pub bytes_in : List Take → List ℕ
bytes_in [] = []
bytes_in (t ∷ ts) = take_bytes t.begins t.read t.outcome t.payload ++ bytes_in ts

-- what those bytes tell: a PDU, "0 and the place in the segment, or 1 and the payload's bytes", a drop with its reason, id and length, a
-- transfer's start with its route, id and length (R19.2), or a piece of it (R19.3). "A place in the segment counts from the front of the
-- event's whole segment, whichever take found" it
abbrev pub out_in : List ℕ → ℕ → Outcome → List ℕ → List Out
out_in segment begins Found.More payload = []
out_in segment begins (Found.Pdu route id true at n) payload = pdu route (part_of segment (begins + at) n) ∷ []
out_in segment begins (Found.Pdu route id false at n) payload = pdu route payload ∷ []
out_in segment begins (Found.Drop reason id n) payload = dropped reason id n ∷ []
out_in segment begins (Found.Start route id n last) payload = start route id n last ∷ []
out_in segment begins (Found.Piece route id at n last) payload = piece route (part_of segment (begins + at) n) last ∷ []

unfoldable pub outs_in : List ℕ → List Take → List Out
outs_in segment [] = []
outs_in segment (t ∷ ts) = out_in segment t.begins t.outcome t.payload ++ outs_in segment ts

-- a take that is done comes first, and where bytes are left the others follow
abbrev pub took_then : Bool → Bool → Take → List Take → List Take
took_then done left t ts = cond done (t ∷ cond left ts []) []

module _ (l : Loan) (connection : ℕ) (segment : List ℕ) where
  -- the next take of a segment event that has come so far
  abbrev pub next_take : Progress → Take
  next_take r =
      record {
        begins = r.at;
        read = (take_at (lent_next l connection segment r) connection segment r.at).read;
        outcome = (take_at (lent_next l connection segment r) connection segment r.at).outcome;
        payload =
            payload_of (drop r.at segment) (memory_at (lent_next l connection segment r) connection segment r.at) connection
            (take_at (lent_next l connection segment r) connection segment r.at).outcome;
      }

  -- its takes from here on: the next, and n at most after it
  unfoldable pub takes_from : ℕ → Progress → List Take
  takes_from zero r = took_then (is_done (one_take l connection segment r).answer) false (next_take r) []
  takes_from (suc n) r =
      took_then (is_done (one_take l connection segment r).answer) (ltb (one_take l connection segment r).at (length segment)) (next_take r)
      (takes_from n (one_take l connection segment r))

module _ (image : List ℕ) (k : ℕ) where
  -- the outcomes that the answer of a call tells for connection k, by the takes or the walk that it answers
  unfoldable pub tells_of : Machine → List ℕ → Result Call BadCall → List Out
  tells_of m body (Err bad) = []
  tells_of m body (Ok (Ticks n)) = []
  tells_of m body (Ok (Own c e)) = []
  tells_of m body (Ok (Lost c)) = []
  tells_of m body (Ok (Segment c at)) =
      cond (eqb c k)
      (outs_in (bytes_from body at) (takes_from (loan_to image m) c (bytes_from body at) (length (bytes_from body at)) (begun m.state m.rx)))
      []
  tells_of m body (Ok (Walk c place at)) =
      cond (eqb c k) (told_walk (bytes_from body at) (walk_of (lent_to image m) c (bytes_from body at) place).outcome) []
  tells_of m body (Ok (TakeWaiting c n)) = []
  tells_of m body (Ok (Datagram group source)) = []
  tells_of m body (Ok (Accept group source)) = []
  tells_of m body (Ok (Transmit number at)) = []
  tells_of m body (Ok (SwitchAll number position)) = []
  tells_of m body (Ok (ReadCount protocol)) = []
  tells_of m body (Ok (ClearCount protocol)) = []

  -- an out buffer that is too short has no answer
  unfoldable pub tells_by : Machine → Spoken → List Out
  tells_by m c = cond (ltb (length c.out) room) [] (tells_of m c.body (call_of c.number c.body))

  -- .. and calls one after the other
  unfoldable pub tells_in : Machine → List Spoken → List Out
  tells_in m [] = []
  tells_in m (c ∷ cs) = tells_by m c ++ tells_in (after_dispatch image c m) cs
