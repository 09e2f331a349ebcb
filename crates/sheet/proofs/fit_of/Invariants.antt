-- `sheet::fit_of` meets its contract. The invariant: what is left of the sheet fits as the whole does.
use Rattle.sheet.proofs.Turns.{Fitting}
use Rattle.sheet.proofs.fit_of.Given as goal

abbrev pub invariant-loop-k : goal.invariant-loop-k
invariant-loop-k l = Fitting l.sheet l.k
