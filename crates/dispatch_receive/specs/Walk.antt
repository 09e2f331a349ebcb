-- The answer of a walk as bytes (R16.2; docs/EVENTS.md, "The answer").
use Rattle.std.specs.Prelude.{ℕ, List, ◌++◌, Result, Ok, Err}
use Rattle.reading.specs.Reasons.{reason_number}
use Rattle.wire.specs.Lay.{spell}
use Rattle.receive_datagram.specs.declared.Outcome.{Outcome}
use Rattle.receive_datagram.specs.declared.Outcome.TheVariants.{End, Pdu, Drop}
use Rattle.entry_receive.specs.declared.NotReceived.TheVariants.{Refused, NotReceiving}
use Rattle.entry_receive.specs.declared.DatagramWalked.{DatagramWalked}
use Rattle.entry_receive.specs.Walk.{walk_of}
use Rattle.event_answer.specs.Answers.{Effect, answers, refused, refusal, done_alone, found_bytes}
use Rattle.gate.specs.Lent.{Loan, sizes}
use Rattle.dispatch_receive.specs.Long.{if_fits}
use Rattle.entry_receive.specs.declared.NotReceived.{NotReceived}

-- a refusal's bytes; where there is none, these
abbrev pub or_refused : Result Unit NotReceived → List ℕ → List ℕ
or_refused (Ok tt) bytes = bytes
or_refused (Err (Refused r)) bytes = refusal r
or_refused (Err NotReceiving) bytes = refused 4 0

-- "next place (4), kind (1: 0 the end, 1 PDU, 2 drop), route or reason (1), id (4), length (4)"
abbrev pub step_bytes : ℕ → ℕ → ℕ → ℕ → ℕ → List ℕ
step_bytes next kind which id n = done_alone ++ found_bytes next kind which id n

-- "For a PDU then the payload's place in the datagram (4)"
abbrev pub pdu_bytes : ℕ → ℕ → ℕ → ℕ → ℕ → List ℕ
pdu_bytes next route id n at = step_bytes next 1 route id n ++ spell 4 at

-- "for the end these three are 0"
abbrev pub walk_bytes : ℕ → Outcome → List ℕ
walk_bytes next End = step_bytes next 0 0 0 0
walk_bytes next (Pdu route id at n) = pdu_bytes next route id n at
walk_bytes next (Drop reason id n) = step_bytes next 2 (reason_number reason) id n

abbrev pub walked_bytes : DatagramWalked → List ℕ
walked_bytes w = or_refused w.answer (walk_bytes w.next w.outcome)

-- of any datagram
abbrev pub walked_effect : Loan → List ℕ → ℕ → ℕ → List ℕ → Effect
walked_effect l out connection place datagram =
    answers (walked_bytes (walk_of (sizes l) connection datagram place)) (walk_of (sizes l) connection datagram place).state l.rx l.tx out

-- WHAT A WALK LEAVES
unfoldable pub walk_effect : Loan → List ℕ → ℕ → ℕ → List ℕ → Effect
walk_effect l out connection place datagram = if_fits l out datagram (walked_effect l out connection place datagram)
