-- `table_scan::first_bad` meets its contract. The loop's invariant: what is left of the search has the whole one's answer, and the marks
-- of the rows passed are noted.
use Rattle.table_scan.specs.Marks.{Come}
use mathlib.Core.Path.{◌≡◌}
use lib.ListN.{length}
use Prim.Native.Nat.{◌-◌, ◌/◌}
use Rattle.table_scan.proofs.first_bad.Given as goal

abbrev pub invariant-loop-i : goal.invariant-loop-i
invariant-loop-i g l =
    (length l.seen ≡ length l.initial.seen)
    × Come (g.R.Marked.rule l.rows) g.R.Marked.shares (g.R.Marked.mark_by l.shift) g.row.MET l.body l.seen l.i

abbrev pub decreases-loop-i : goal.decreases-loop-i
decreases-loop-i g l = length l.body / 16 - l.i
