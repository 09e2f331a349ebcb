-- `entry_events::switch_rows` meets its contract. The invariant: the records below i are switched.
use Prim.Native.Nat.{◌≤◌}
use mathlib.Core.Path.{◌≡◌}
use lib.ListN.{length}
use Rattle.state.proofs.Upto.{Upto}
use Rattle.entry_events.specs.Module.{switch_at}
use Rattle.entry_events.proofs.switch_rows.Given as goal

abbrev pub invariant-loop-i : goal.invariant-loop-i
invariant-loop-i l = (l.i ≤ l.rows) × (l.rows ≤ 16) × (length l.initial.state.connections ≡ 16) × Upto (switch_at l.number l.on) l.initial.state l.state l.i
