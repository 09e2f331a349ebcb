-- `sheet::pick` meets its contract.
use Rattle.sheet.proofs.Turns.{picks}
use Rattle.sheet.proofs.pick.Goals as goal

pub returns-then-s-t : goal.returns-then-s-t
returns-then-s-t c = picks _ _ c.switching_at-s.ensures
    c.switching_at-t.ensures c.if-s-t.true

pub returns : goal.returns
returns c = picks _ _ c.switching_at-s.ensures
    c.switching_at-t.ensures c.if-s-t.false
