-- `entry_ticks::ticks_by` meets its contract. The invariant: the records below i have ticked, and those that failed are marked.
use Prim.Native.Nat.{◌≤◌}
use mathlib.Core.Path.{◌≡◌}
use lib.ListN.{length}
use Rattle.state.proofs.Upto.{Upto}
use Rattle.entry_ticks.proofs.Many.{many_at}
use Rattle.entry_ticks.proofs.Marks.{Marked}
use Rattle.entry_ticks.proofs.ticks_by.Given as goal

abbrev pub invariant-loop-i : goal.invariant-loop-i
invariant-loop-i l =
    (l.i ≤ l.rows) × (l.rows ≤ 16) × (length l.initial.after.connections ≡ 16) × Upto (many_at l.image l.count) l.initial.after l.after l.i
    × Marked l.image l.rows l.count l.initial.after l.i l.failed
