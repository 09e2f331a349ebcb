-- A transmit (R10.1), and taking the waiting bytes (R10.5), as a caller sees them: the gate (11, 12; for a connection 2), then the event's own
-- order. A refusal carries its number; the state, send memory and the out buffer stay.
use Rattle.std.specs.Prelude.{ℕ, List, length, Err}
use Rattle.connection.specs.declared.Refusal.{Refusal}
use Rattle.gate.specs.Lent.{Loan, sizes}
use Rattle.gate.specs.Gate.{gate_of, gate_at, through}
use Rattle.send.specs.declared.NotSent.TheVariants.{Refused as SendRefused}
use Rattle.send.specs.declared.Transmitted.{Transmitted}
use Rattle.send.specs.Send.{transmit_of, transmitted_of}
use Rattle.state.specs.declared.State.{State}
use Rattle.state.specs.State.{record_at, with_record}
use Rattle.state.specs.Fresh.{config_of}
use Rattle.send_waiting.specs.declared.NotTaken.TheVariants.{Refused as TakeRefused}
use Rattle.send_waiting.specs.Waiting.{waiting_of, taking_of, take_of, out_of}
use Rattle.entry_send.specs.declared.Taken.{Taken}

abbrev pub not_sent : State → Refusal → Transmitted
not_sent s r = record { answer = Err (SendRefused r); state = s }

-- a transmit of a payload for a PDU
module _ (l : Loan) (pdu : ℕ) (payload : List ℕ) where
  unfoldable pub send_of : Transmitted
  send_of = through (gate_of (sizes l)) (not_sent l.state) (transmitted_of l.image l.state pdu payload l.tx)

  -- send memory afterwards
  unfoldable pub sent_memory : List ℕ
  sent_memory = through (gate_of (sizes l)) (λ r. l.tx) (transmit_of l.image l.state pdu payload l.tx).memory

abbrev pub not_taken : State → Refusal → Taken
not_taken s r = record { answer = Err (TakeRefused r); state = s }

-- past the gate: connection n's record drained into an out buffer of so much room
abbrev pub take_past : List ℕ → State → ℕ → ℕ → Taken
take_past image s n room =
    record {
      answer = taking_of room (record_at s n);
      state = with_record n (take_of (config_of image n) room (record_at s n)) s;
    }

-- taking the waiting bytes of connection n
module _ (l : Loan) (n : ℕ) (out : List ℕ) where
  unfoldable pub taken_waiting : Taken
  taken_waiting = through (gate_at (sizes l) n) (not_taken l.state) (take_past l.image l.state n (length out))

  -- the out buffer afterwards
  unfoldable pub taken_out : List ℕ
  taken_out = through (gate_at (sizes l) n) (λ r. out) (out_of (record_at l.state n) (waiting_of l.tx n (record_at l.state n).used) out)
