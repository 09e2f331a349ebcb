-- `sheet::last_alike` meets its contract. The invariant: the rest of the switches leads to the last one.
use Rattle.lists.proofs.Fold.{Folded}
use Rattle.sheet.specs.Sheet.{pick_alike}
use Rattle.sheet.proofs.last_alike.Given as goal

abbrev pub invariant-loop-i : goal.invariant-loop-i
invariant-loop-i l = Folded (pick_alike l.sheet l.k) l.n l.k l.i l.last
