-- `table_scan::is_fresh` meets its contract. The loop's invariant: the rows passed are clear of row i.
use Rattle.table_scan.specs.Scan.{clear_in}
use Rattle.lists.proofs.Search.{GoodTo}
use Rattle.table_scan.proofs.is_fresh.Given as goal

abbrev pub invariant-loop-j : goal.invariant-loop-j
invariant-loop-j g l = GoodTo (clear_in g.R.Marked.shares 16 l.body l.i) l.i l.j
