-- BYTES THAT ARE TOO LONG FOR AN EVENT (R16.1; docs/EVENTS.md, "A script").
use Rattle.std.specs.Prelude.{ℕ, Bool, cond, List, ltb, length, Err}
use Rattle.event_answer.specs.declared.NoAnswer.TheVariants.{Unfit}
use Rattle.event_answer.specs.Answers.{Effect, untouched, if_room}
use Rattle.gate.specs.Lent.{Loan}

-- an event's body has so many bytes at most
abbrev pub longest_body : ℕ
longest_body = 4096

-- a segment or a datagram that stands in no body
abbrev pub too_long : List ℕ → Bool
too_long bytes = ltb longest_body (length bytes)

-- an out buffer that is too short, and then bytes that are too long, are "refused and changes nothing"; else, what the event leaves
abbrev pub if_fits : Loan → List ℕ → List ℕ → Effect → Effect
if_fits l out bytes e = if_room l.state l.rx l.tx out (cond (too_long bytes) (untouched (Err Unfit) l.state l.rx l.tx out) e)
