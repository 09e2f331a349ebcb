-- `table_scan::next_struck` meets its contract. The loop's invariant: what is left of the search has the whole one's answer, and the marks
-- of the rows passed are noted; `at` is where row at / 16 starts.
use Rattle.table_scan.specs.Marks.{Come}
use mathlib.Core.Path.{◌≡◌}
use lib.ListN.{length}
use Prim.Native.Nat.{◌-◌, ◌*◌, ◌/◌, ◌≤◌}
use Rattle.table_scan.proofs.next_struck.Given as goal

abbrev pub invariant-loop-at : goal.invariant-loop-at
invariant-loop-at g l =
    (l.from ≤ l.at / 16) × (length l.seen ≡ length l.initial.seen)
    × Come (g.R.Marked.rule l.rows) g.R.Marked.shares (g.R.Marked.mark_by l.shift) g.row.MET l.body l.seen (l.at / 16) × (l.at ≡ l.at / 16 * 16)

abbrev pub decreases-loop-at : goal.decreases-loop-at
decreases-loop-at g l = length l.body / 16 * 16 - l.at
