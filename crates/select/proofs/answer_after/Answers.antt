-- `select::answer_after` meets its contract.
use borrow.Author.Tests.{eq-eqb, ne_eqb}
use Rattle.select.proofs.answer_after.Goals as goal

pub returns-then-best-eq0 : goal.returns-then-best-eq0
returns-then-best-eq0 c = rw (eq-eqb _ _ c.if-best-eq0.true)

pub returns : goal.returns
returns c = rw (ne_eqb _ _ c.if-best-eq0.false)
