-- `table_fault::shared_fault` meets its contract. The loop's invariant: what is left of the search has the whole one's answer.
use Rattle.table_fault.specs.Faults.{shares_nothing}
use Rattle.lists.proofs.Search.{Searched}
use Rattle.table_fault.proofs.shared_fault.Given as goal

abbrev pub invariant-loop-j : goal.invariant-loop-j
invariant-loop-j l = Searched (shares_nothing l.image l.k l.i) l.i l.j
