-- READING AN ANSWER (R16.3; docs/EVENTS.md, "The answer"): the PDUs, drops, starts and pieces that a caller gets out of the bytes of an
-- answer, with the segment or datagram that he handed in, and by nothing else.
use Rattle.std.specs.Prelude.{ℕ, zero, suc, ◌+◌, Bool, cond, ◌||◌, List, [], ◌∷◌, ◌++◌, eqb, ltb, length, take, drop}
use Rattle.std.specs.Prelude.{Option, Some, None, Result, Ok, Err}
use Rattle.wire.specs.Be.{be}
use Rattle.table_layout.specs.Layout.{part_of}
use Rattle.reading.specs.declared.DropReason.{DropReason}
use Rattle.reading.specs.Reasons.{reason_of_number}
use Rattle.reading.specs.Feed.{Out, nothing, pdu, dropped, start, piece}
use Rattle.event_decode.specs.declared.Call.{Call}
use Rattle.event_decode.specs.declared.BadCall.{BadCall}
use Rattle.event_decode.specs.declared.Call.TheVariants.{Ticks, Own, Lost, Segment, Walk, TakeWaiting, Datagram, Accept, Transmit}
use Rattle.event_decode.specs.declared.Call.TheVariants.{SwitchAll, ReadCount, ClearCount}
use Rattle.event_decode.specs.Calls.{call_of, bytes_from}
use Rattle.event_answer.specs.Answers.{room}
use Rattle.model_refines.specs.Machine.{Machine}
use Rattle.dispatch_refines.specs.Spelt.{Spoken, after_dispatch}
use Rattle.dispatch_refines.specs.Answer.{answer_by}

-- bytes of a take or a walk: "bytes read (4)" or "next place (4), kind (1: .. 1 PDU, 2 drop), route or reason (1), id (4), length (4)"; of a
-- take the kinds 3 start, 4 piece and 5 last piece, too
abbrev pub is_pdu : List ℕ → Bool
is_pdu l = eqb (be 1 l 4) 1

abbrev pub is_drop : List ℕ → Bool
is_drop l = eqb (be 1 l 4) 2

abbrev pub is_start : List ℕ → Bool
is_start l = eqb (be 1 l 4) 3

abbrev pub is_last : List ℕ → Bool
is_last l = eqb (be 1 l 4) 5

abbrev pub is_piece : List ℕ → Bool
is_piece l = eqb (be 1 l 4) 4 || is_last l

abbrev pub which_read : List ℕ → ℕ
which_read l = be 1 l 5

abbrev pub id_read : List ℕ → ℕ
id_read l = be 4 l 6

abbrev pub length_read : List ℕ → ℕ
length_read l = be 4 l 10

-- a drop: its reason, id and length; a number that is no reason's is told too, as what no take and no walk tells
abbrev pub drop_told : Option DropReason → ℕ → ℕ → List Out
drop_told (Some reason) id n = dropped reason id n ∷ []
drop_told None id n = nothing ∷ []

-- .. and else there is nothing to tell
abbrev pub drop_read : List ℕ → List Out
drop_read l = cond (is_drop l) (drop_told (reason_of_number (which_read l)) (id_read l) (length_read l)) []

-- of a take: "For a PDU then where its payload stood: 0 (1) and the place in the segment (4), or 1 (1) and the payload's bytes"
abbrev pub from_segment : List ℕ → Bool
from_segment l = eqb (be 1 l 14) 0

unfoldable pub payload_read : List ℕ → List ℕ → List ℕ
payload_read segment l = cond (from_segment l) (part_of segment (be 4 l 15) (length_read l)) (take (length_read l) (drop 15 l))

-- R19.2, R19.5, a start: its route, id and length, "its mark is length 0"
abbrev pub start_read : List ℕ → Out
start_read l = start (which_read l) (id_read l) (length_read l) (eqb (length_read l) 0)

-- R19.3, R19.4, a piece: "length is the piece's bytes, then its place in the event's whole segment (4)"; kind 5 has the end mark
abbrev pub piece_read : List ℕ → List ℕ → Out
piece_read segment l = piece (which_read l) (part_of segment (be 4 l 14) (length_read l)) (is_last l)

unfoldable pub take_read : List ℕ → List ℕ → List Out
take_read segment l =
    cond (is_pdu l) (pdu (which_read l) (payload_read segment l) ∷ [])
    (cond (is_start l) (start_read l ∷ [])
    (cond (is_piece l) (piece_read segment l ∷ [])
    (drop_read l)))

-- .. and how many bytes it has
unfoldable pub take_long : List ℕ → ℕ
take_long l = cond (is_pdu l) (cond (from_segment l) 19 (15 + length_read l)) (cond (is_piece l) 18 14)

-- so many takes, one after the other
unfoldable pub takes_read : List ℕ → ℕ → List ℕ → List Out
takes_read segment zero l = []
takes_read segment (suc n) l = take_read segment l ++ takes_read segment n (drop (take_long l) l)

-- of a walk: "For a PDU then the payload's place in the datagram (4)"
unfoldable pub step_read : List ℕ → List ℕ → List Out
step_read datagram l = cond (is_pdu l) (pdu (which_read l) (take (length_read l) (drop (be 4 l 14) datagram)) ∷ []) (drop_read l)

-- AN ANSWER: "Answer number (2)"; of a refusal there is no more to read
abbrev pub if_done : List ℕ → List Out → List Out
if_done answer read = cond (eqb (be 2 answer 0) 0) read []

-- "number of takes (2), then for every take" its bytes
unfoldable pub segment_read : List ℕ → List ℕ → List Out
segment_read segment answer = if_done answer (takes_read segment (be 2 answer 2) (drop 4 answer))

unfoldable pub walk_read : List ℕ → List ℕ → List Out
walk_read datagram answer = if_done answer (step_read datagram (drop 2 answer))

-- the answer of a call, for connection k
unfoldable pub call_read : ℕ → List ℕ → Result Call BadCall → List ℕ → List Out
call_read k body (Err bad) answer = []
call_read k body (Ok (Ticks n)) answer = []
call_read k body (Ok (Own c e)) answer = []
call_read k body (Ok (Lost c)) answer = []
call_read k body (Ok (Segment c at)) answer = cond (eqb c k) (segment_read (bytes_from body at) answer) []
call_read k body (Ok (Walk c place at)) answer = cond (eqb c k) (walk_read (bytes_from body at) answer) []
call_read k body (Ok (TakeWaiting c n)) answer = []
call_read k body (Ok (Datagram group source)) answer = []
call_read k body (Ok (Accept group source)) answer = []
call_read k body (Ok (Transmit number at)) answer = []
call_read k body (Ok (SwitchAll number position)) answer = []
call_read k body (Ok (ReadCount protocol)) answer = []
call_read k body (Ok (ClearCount protocol)) answer = []

module _ (image : List ℕ) (k : ℕ) where
  -- what a call of the dispatcher has told for connection k; an out buffer that is too short has no answer
  unfoldable pub told_by_call : Machine → Spoken → List Out
  told_by_call m c = cond (ltb (length c.out) room) [] (call_read k c.body (call_of c.number c.body) (answer_by image m c))

  -- .. and calls one after the other
  unfoldable pub told_in : Machine → List Spoken → List Out
  told_in m [] = []
  told_in m (c ∷ cs) = told_by_call m c ++ told_in (after_dispatch image c m) cs
