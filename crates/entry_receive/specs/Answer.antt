-- What a segment take and a walk are answered: the gate (11, 12, 2), then 3, then 4.
use Rattle.std.specs.Prelude.{ℕ, Bool, true, false, cond, Result, Ok, Err}
use Rattle.connection.specs.declared.Connection.{Connection}
use Rattle.connection.specs.declared.Refusal.{Refusal}
use Rattle.connection.specs.declared.Refusal.TheVariants.{Denied}
use Rattle.connection.specs.Event.{receiving, refusal_number}
use Rattle.state.specs.State.{record_at}
use Rattle.gate.specs.Lent.{Lent}
use Rattle.gate.specs.Gate.{gate_at, through}
use Rattle.entry_receive.specs.declared.NotReceived.TheVariants.{Refused, NotReceiving}
use Rattle.entry_receive.specs.declared.NotReceived.{NotReceived}

-- R4.1: the number of an answer
abbrev pub receive_number : Result Unit NotReceived → ℕ
receive_number (Ok tt) = 0
receive_number (Err (Refused r)) = refusal_number r
receive_number (Err NotReceiving) = 4

abbrev pub is_done : Result Unit NotReceived → Bool
is_done (Ok tt) = true
is_done (Err (Refused r)) = false
is_done (Err NotReceiving) = false

-- past the gate: 3, not allowed for this protocol or argument; then 4, not online or with close wanted
unfoldable pub judged_of : Bool → Connection → Result Unit NotReceived
judged_of allowed c = cond allowed (cond (receiving c) (Ok tt) (Err NotReceiving)) (Err (Refused Denied))

-- the gate's refusal, or past the gate that of the record
abbrev pub answer_past : Result Unit Refusal → Bool → Connection → Result Unit NotReceived
answer_past asked allowed c = through asked (λ x. Err (Refused x)) (judged_of allowed c)

-- a connection's protocol, asked for past the gate
abbrev pub stream_past : Result Unit Refusal → Bool → Bool
stream_past asked tcp = through asked (λ (r : Refusal). false) tcp

-- R4.2, the checks in their order
unfoldable pub judged_answer : Lent → ℕ → Bool → Result Unit NotReceived
judged_answer l connection allowed = through (gate_at l connection) (λ x. Err (Refused x)) (judged_of allowed (record_at l.state connection))
