-- R8.2, the connection events that concern the record alone, as a caller sees them: the gate (11, 12, 2), then the event's own
-- 2 and 3, then one record replaced. A refusal carries its number, and the state stays.
use Rattle.std.specs.Prelude.{ℕ, List, Result, Ok, Err}
use Rattle.connection.specs.declared.Connection.{Connection}
use Rattle.connection.specs.declared.Refusal.{Refusal}
use Rattle.connection.specs.declared.Event.{Event}
use Rattle.connection.specs.declared.Event.TheVariants.{Lost}
use Rattle.connection.specs.Connection.{failed_of}
use Rattle.connection.specs.Event.{step_of}
use Rattle.state.specs.declared.State.{State}
use Rattle.state.specs.State.{record_at, with_record}
use Rattle.state.specs.Fresh.{config_of}
use Rattle.gate.specs.Lent.{Lent}
use Rattle.gate.specs.Gate.{gate_at, through}
use Rattle.entry_events.specs.declared.Told.{Told}
use Rattle.entry_events.specs.declared.Loss.{Loss}

-- the number of a refusal, and the state as it was
abbrev pub refused_told : State → Refusal → Told
refused_told s r = record { answer = Err r; state = s }

-- an answer with the record that it leaves
unfoldable pub told_of : State → ℕ → Result Unit Refusal → Connection → Told
told_of s n (Ok tt) c = record { answer = Ok tt; state = with_record n c s }
told_of s n (Err r) c = refused_told s r

-- past the gate
unfoldable pub change_of : List ℕ → State → ℕ → Event → Told
change_of image s n e =
    told_of s n (step_of e (config_of image n) (record_at s n)).answer (step_of e (config_of image n) (record_at s n)).connection

-- an event of connection n
unfoldable pub event_of : Lent → ℕ → Event → Told
event_of l n e = through (gate_at l n) (refused_told l.state) (change_of l.image l.state n e)

-- R19.7: a loss says as well whether a transfer of the connection ran before it, in the state s, and none runs after it
abbrev pub loss_from : State → ℕ → Told → Loss
loss_from s n t = record { answer = t.answer; state = t.state; failed = failed_of (record_at s n) (record_at t.state n) }

-- a loss
unfoldable pub loss_of : Lent → ℕ → Loss
loss_of l n = loss_from l.state n (event_of l n Lost)
