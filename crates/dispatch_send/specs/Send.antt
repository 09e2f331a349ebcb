-- The answers of a datagram, an accept, a transmit and a take of waiting bytes, as bytes (R16.2; docs/EVENTS.md, "The answer").
use Rattle.std.specs.Prelude.{ℕ, min, List, take, replicate, Result, Ok, Err}
use Rattle.connection.specs.declared.Remote.{Remote}
use Rattle.select.specs.declared.NotMet.{NotMet}
use Rattle.select.specs.declared.NotMet.TheVariants.{Refused, Unmatched}
use Rattle.select.specs.declared.Arrived.{Arrived}
use Rattle.entry_arrivals.specs.Arrivals.{datagram_of, accept_of}
use Rattle.send.specs.declared.NotSent.{NotSent}
use Rattle.send.specs.declared.NotSent.TheVariants.{Refused as Unsent, NoDestination, SwitchedOff, RefusedAt}
use Rattle.send_waiting.specs.declared.NotTaken.{NotTaken}
use Rattle.send_waiting.specs.declared.NotTaken.TheVariants.{Refused as Untaken, Short}
use Rattle.entry_send.specs.Sending.{send_of, sent_memory, taken_waiting, taken_out}
use Rattle.gate.specs.Lent.{Loan, sizes}
use Rattle.event_answer.specs.Answers.{Effect, answers, if_room, refused, refusal, done_alone, done_with, waiting}

-- "datagram, accept: connection (1)"
abbrev pub arrival_bytes : Result ℕ NotMet → List ℕ
arrival_bytes (Ok k) = done_with 1 k
arrival_bytes (Err (Refused r)) = refusal r
arrival_bytes (Err Unmatched) = refused 10 0

-- "the destination's row number (4)" after 4, 7 and 8
abbrev pub transmission_bytes : Result Unit NotSent → List ℕ
transmission_bytes (Ok tt) = done_alone
transmission_bytes (Err (Unsent r)) = refusal r
transmission_bytes (Err NoDestination) = refused 5 0
transmission_bytes (Err SwitchedOff) = refused 6 0
transmission_bytes (Err (RefusedAt number destination)) = refused number destination

-- "take waiting: count (4), address (19): the remote before the call, bytes": the first of the call's own out buffer
abbrev pub taking_bytes : Result (ℕ × Remote) NotTaken → List ℕ → List ℕ
taking_bytes (Ok (count, remote)) buffer = waiting remote (take count buffer)
taking_bytes (Err (Untaken r)) buffer = refusal r
taking_bytes (Err Short) buffer = refused 9 0

-- "a room above 1,472 answers as 1,472"
abbrev pub room_of : ℕ → ℕ
room_of room = min room 1472

abbrev pub arrived_effect : Arrived → List ℕ → List ℕ → List ℕ → Effect
arrived_effect a rx tx out = answers (arrival_bytes a.answer) a.state rx tx out

-- WHAT EACH LEAVES: an out buffer that is too short is refused
module _ (l : Loan) (out : List ℕ) where
  unfoldable pub datagram_effect : ℕ → Remote → Effect
  datagram_effect group source = if_room l.state l.rx l.tx out (arrived_effect (datagram_of (sizes l) group source) l.rx l.tx out)

  unfoldable pub accept_effect : ℕ → Remote → Effect
  accept_effect group source = if_room l.state l.rx l.tx out (arrived_effect (accept_of (sizes l) group source) l.rx l.tx out)

  abbrev pub sent_effect : ℕ → List ℕ → Effect
  sent_effect pdu payload =
      answers (transmission_bytes (send_of l pdu payload).answer) (send_of l pdu payload).state l.rx (sent_memory l pdu payload) out

  unfoldable pub transmit_effect : ℕ → List ℕ → Effect
  transmit_effect pdu payload = if_room l.state l.rx l.tx out (sent_effect pdu payload)

  -- with a buffer of the call's own
  abbrev pub take_into : ℕ → List ℕ → Effect
  take_into connection buffer =
      answers (taking_bytes (taken_waiting l connection buffer).answer (taken_out l connection buffer))
      (taken_waiting l connection buffer).state l.rx l.tx out

  unfoldable pub take_effect : ℕ → ℕ → Effect
  take_effect connection room = if_room l.state l.rx l.tx out (take_into connection (take (room_of room) (replicate 1472 0)))
