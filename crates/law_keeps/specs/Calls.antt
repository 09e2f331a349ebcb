-- Calls of `tick`, one after the other.
use Rattle.std.specs.Prelude.{ℕ, zero, suc}
use Rattle.state.specs.declared.State.{State}
use Rattle.gate.specs.Lent.{Lent, next}
use Rattle.entry_ticks.specs.Tick.{tick_event}

unfoldable pub calls : ℕ → Lent → State
calls zero l = l.state
calls (suc n) l = calls n (next l (tick_event l).state)
