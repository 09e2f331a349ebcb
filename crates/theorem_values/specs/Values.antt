-- EACH ANSWER ENUM BY ITS NUMBER AND ITS VALUES (R4.1, R14.9): one definition for each.
use Rattle.std.specs.Prelude.{ℕ, List, [], ◌∷◌, Result, Ok, Err}
use Rattle.connection.specs.Event.{answer_number}
use Rattle.entry_events.specs.Count.{count_number}
use Rattle.entry_receive.specs.Answer.{receive_number}
use Rattle.select.specs.declared.NotMet.TheVariants as Arrivals
use Rattle.select.specs.Choose.{arrival_number}
use Rattle.send.specs.declared.NotSent.TheVariants as Sends
use Rattle.send.specs.Verdict.{transmission_number}
use Rattle.send_waiting.specs.declared.NotTaken.TheVariants as Takes
use Rattle.send_waiting.specs.Waiting.{taking_number}
use Rattle.table.specs.declared.BadTable.TheVariants as Tables
use Rattle.frame.specs.declared.FrameError.{FrameError}
use Rattle.frame.specs.Framing.{framed_number}
use Rattle.table.specs.declared.BadTable.{BadTable}
use Rattle.connection.specs.declared.Refusal.{Refusal}
use Rattle.entry_receive.specs.declared.NotReceived.{NotReceived}
use Rattle.select.specs.declared.NotMet.{NotMet}
use Rattle.send.specs.declared.NotSent.{NotSent}
use Rattle.send_waiting.specs.declared.NotTaken.{NotTaken}
use Rattle.connection.specs.declared.Remote.{Remote}

-- a connection event, a switch on all, a tick; framing; a segment, a walk: the number alone
abbrev pub answer_values : Result Unit Refusal → List ℕ
answer_values a = answer_number a ∷ []

abbrev pub framed_values : Result Unit FrameError → List ℕ
framed_values a = framed_number a ∷ []

abbrev pub receive_values : Result Unit NotReceived → List ℕ
receive_values a = receive_number a ∷ []

-- the table check: 1 with its place
abbrev pub table_values : Result Unit BadTable → List ℕ
table_values (Ok tt) = 0 ∷ []
table_values (Err (Tables.At place)) = 1 ∷ place ∷ []

-- a count: 0 with the value read
abbrev pub count_values : Result ℕ Refusal → List ℕ
count_values (Ok value) = 0 ∷ value ∷ []
count_values (Err r) = count_number (Err r) ∷ []

-- a datagram, an accept: 0 with the connection met
abbrev pub arrival_values : Result ℕ NotMet → List ℕ
arrival_values (Ok connection) = 0 ∷ connection ∷ []
arrival_values (Err (Arrivals.Refused r)) = arrival_number (Err (Arrivals.Refused r)) ∷ []
arrival_values (Err Arrivals.Unmatched) = 10 ∷ []

-- a transmit: 4, 7 and 8 with the destination
abbrev pub transmission_values : Result Unit NotSent → List ℕ
transmission_values (Ok tt) = 0 ∷ []
transmission_values (Err (Sends.Refused r)) = transmission_number (Err (Sends.Refused r)) ∷ []
transmission_values (Err Sends.NoDestination) = 5 ∷ []
transmission_values (Err Sends.SwitchedOff) = 6 ∷ []
transmission_values (Err (Sends.RefusedAt number destination)) = number ∷ destination ∷ []

-- the waiting bytes: 0 with their count and the remote before the call
abbrev pub taking_values : Result (ℕ × Remote) NotTaken → List ℕ
taking_values (Ok (count, remote)) = 0 ∷ count ∷ remote.address ∷ remote.port ∷ []
taking_values (Err (Takes.Refused r)) = taking_number (Err (Takes.Refused r)) ∷ []
taking_values (Err Takes.Short) = 9 ∷ []
