-- The answer of an event as bytes (R16.2; docs/EVENTS.md, "The answer").
use Rattle.std.specs.Prelude.{ℕ, cond, List, ◌++◌, ltb, length, Result, Ok, Err}
use Rattle.wire.specs.Lay.{spell, lay}
use Rattle.connection.specs.declared.Remote.{Remote}
use Rattle.connection.specs.declared.Refusal.{Refusal}
use Rattle.connection.specs.Event.{refusal_number}
use Rattle.state.specs.declared.State.{State}
use Rattle.event_decode.specs.declared.BadCall.{BadCall}
use Rattle.event_decode.specs.declared.BadCall.TheVariants.{Unknown as NoEvent, Unfit as DoesNotFit}
use Rattle.event_answer.specs.declared.NoAnswer.{NoAnswer}
use Rattle.event_answer.specs.declared.NoAnswer.TheVariants.{Unknown, Unfit, Small}
use Rattle.event_answer.specs.declared.Dispatched.{Dispatched}

-- "Answer number (2). Then, when it is not 0: the destination's row number (4) with a transmit's 4, 7 and 8; else 0 (4)"
abbrev pub refused : ℕ → ℕ → List ℕ
refused number destination = spell 2 number ++ spell 4 destination

-- 11, 12, 2, 3
abbrev pub refusal : Refusal → List ℕ
refusal reason = refused (refusal_number reason) 0

-- what spells no call has no answer
abbrev pub no_answer : BadCall → NoAnswer
no_answer NoEvent = Unknown
no_answer DoesNotFit = Unfit

-- an answer of so many bytes, or why there is none
abbrev pub Verdict : Type 0
Verdict = Result ℕ NoAnswer

-- WHAT AN EVENT LEAVES: its verdict, the state, both lent memories, and the out buffer
pub record Effect : Type 0 where
  pub verdict : Verdict
  pub state : State
  pub rx : List ℕ
  pub tx : List ℕ
  pub out : List ℕ

-- an answer of these bytes, at the front of the out buffer
abbrev pub answers : List ℕ → State → List ℕ → List ℕ → List ℕ → Effect
answers bytes s rx tx out = record { verdict = Ok (length bytes); state = s; rx = rx; tx = tx; out = lay out 0 bytes }

-- "refused and changes nothing"
abbrev pub untouched : Verdict → State → List ℕ → List ℕ → List ℕ → Effect
untouched v s rx tx out = record { verdict = v; state = s; rx = rx; tx = tx; out = out }

-- THE ROOM that a function with an answer asks of its out buffer: enough for the answer to any body of 4,096 bytes (dispatch/proofs/Whole
-- `answer-whole`: every answer stands whole)
abbrev pub room : ℕ
room = 16384

-- "An out buffer shorter than 16,384 bytes is refused and changes nothing"; with any other, what the event leaves
abbrev pub if_room : State → List ℕ → List ℕ → List ℕ → Effect → Effect
if_room s rx tx out e = cond (ltb (length out) room) (untouched (Err Small) s rx tx out) e

-- the test of it, by the buffer's length
abbrev pub has_room : ℕ → Result Unit NoAnswer
has_room long = cond (ltb long room) (Err Small) (Ok tt)

-- what is handed back by value
abbrev pub dispatched : Effect → Dispatched
dispatched e = record { verdict = e.verdict; state = e.state }

-- "any other: nothing"
abbrev pub done_alone : List ℕ
done_alone = spell 2 0

-- a value after the answer number 0
abbrev pub done_bytes : List ℕ → List ℕ
done_bytes value = spell 2 0 ++ value

-- one of w bytes: failed connections (2), failed (1), connection (1), value (4)
abbrev pub done_with : ℕ → ℕ → List ℕ
done_with w v = done_bytes (spell w v)

-- an address: family, "sixteen bytes (16), of which the first twelve are 0 and the last four the IPv4 address", port
abbrev pub address : Remote → List ℕ
address r = spell 1 4 ++ spell 12 0 ++ spell 4 r.address ++ spell 2 r.port

-- take waiting: "count (4), address (19): the remote before the call, bytes"
abbrev pub waiting : Remote → List ℕ → List ℕ
waiting r bytes = spell 2 0 ++ spell 4 (length bytes) ++ address r ++ bytes

-- a take or a walk: "bytes read (4)" or "next place (4), kind (1), route or reason (1), id (4), length (4)"
abbrev pub found_bytes : ℕ → ℕ → ℕ → ℕ → ℕ → List ℕ
found_bytes first kind which id n = spell 4 first ++ spell 1 kind ++ spell 1 which ++ spell 4 id ++ spell 4 n
