use Rattle.std.proofs.Common.{rules}
use Rattle.lists.proofs.Fold.{fold_start, fold_on, fold_ended}
use Rattle.sheet.specs.Sheet.{last_alike}
use Rattle.sheet.proofs.last_alike.Goals as goal

pub loop-i-init : goal.loop-i-init
loop-i-init c = fold_start _ _ _

pub loop-i-preserved : goal.loop-i-preserved
loop-i-preserved c = fold_on _ _ _ _ _ _ c.loop-i.invariant (search rules) c.pick-last.ensures

pub returns : goal.returns
unfolding last_alike
returns c = fold_ended _ _ _ _ _ c.loop-i.invariant (search rules)
