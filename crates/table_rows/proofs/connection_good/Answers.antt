-- `table_rows::connection_good` meets its contract.
use Rattle.table_rows.proofs.Limits.{limit_bad, limit_none, limit_some}
use Rattle.table_rows.proofs.connection_good.Goals as goal

pub returns-then-not-good : goal.returns-then-not-good
returns-then-not-good c = limit_bad _ _ _ _ _ _ c.be8-group.ensures.is c.be8.ensures.is c.be16-size.ensures.is c.if-not-good.true

pub returns-then-be16-eq0 : goal.returns-then-be16-eq0
returns-then-be16-eq0 c =
    limit_none _ _ _ _ _ _ c.be8-group.ensures.is c.be8.ensures.is c.be16-size.ensures.is
    _ c.be16.ensures.is c.if-not-good.false c.if-be16-eq0.true

pub returns : goal.returns
returns c =
    limit_some _ _ _ _ _ _ c.be8-group.ensures.is c.be8.ensures.is c.be16-size.ensures.is
    _ c.be16.ensures.is c.if-not-good.false c.if-be16-eq0.false _ c.is_group_tcp.ensures
