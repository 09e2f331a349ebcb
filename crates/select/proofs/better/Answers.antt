-- `select::better` meets its contract.
use borrow.Author.Tests.{ne_eqb}
use Rattle.select.proofs.Pass.{turn-out, turn_no, turn_yes}
use Rattle.select.proofs.better.Goals as goal

pub returns-then-not-member : goal.returns-then-not-member
returns-then-not-member c =
    let a = c.args in
    turn-out a.accept a.group a.source a.best _ a.i a.c _ c.be8.ensures.is (ne_eqb _ _ c.if-not-member.true)

pub returns-then-found-best : goal.returns-then-found-best
returns-then-found-best c =
    let a = c.args in
    turn_no a.accept a.group a.source a.best _ a.i a.c _ c.be8.ensures.is _ c.score-found.ensures c.if-found-best.true

pub returns : goal.returns
returns c =
    let a = c.args in
    turn_yes a.accept a.group a.source a.best _ a.i a.c _ c.be8.ensures.is _ c.score-found.ensures c.if-found-best.false
