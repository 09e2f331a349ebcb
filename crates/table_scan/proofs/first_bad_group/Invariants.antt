-- `table_scan::first_bad_group` meets its contract. The loop's invariant: what is left of the search has the whole one's answer.
use Rattle.table_scan.proofs.Rows.{At}
use Rattle.table_scan.specs.Scan.{share}
use Rattle.table_rows.specs.Rules.{group_good}
use Rattle.table_layout.specs.declared.Kind.TheVariants.{Group}
use Rattle.table_scan.proofs.first_bad_group.Given as goal

abbrev pub invariant-loop-i : goal.invariant-loop-i
invariant-loop-i l = At group_good (share Group) 2 l.body l.i
