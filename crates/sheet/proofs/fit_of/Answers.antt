use Rattle.std.proofs.Common.{rules}
use Rattle.sheet.proofs.Turns.{fit-bad, fit_on, fit-cut, fit-ended}
use Rattle.sheet.proofs.fit_of.Goals as goal

pub returns-then-sheet-k-gt1 : goal.returns-then-sheet-k-gt1
returns-then-sheet-k-gt1 c = fit-bad _ _ c.loop-k.invariant (search rules) (search rules)

pub loop-k-preserved : goal.loop-k-preserved
loop-k-preserved c = fit_on _ _ c.loop-k.invariant (search rules) (search rules)

pub returns-then-sheet-ne0 : goal.returns-then-sheet-ne0
returns-then-sheet-ne0 c = fit-cut _ _ c.loop-k.invariant (search rules) c.if-sheet-ne0.true

pub returns : goal.returns
returns c = fit-ended _ _ c.loop-k.invariant (search rules) (search rules)
