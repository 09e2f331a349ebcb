-- `select::answer_before` meets its contract.
use Rattle.select.proofs.Arrivals.{before_missing, before_denied, before_nobody}
use Rattle.select.proofs.answer_before.Goals as goal

pub returns-then-groups-group : goal.returns-then-groups-group
returns-then-groups-group c = before_missing _ _ _ _ c.requires _ c.body_laid-groups.ensures.bytes c.if-groups-group.true

pub returns-then-denied : goal.returns-then-denied
returns-then-denied c =
    before_denied _ _ _ _ c.requires _ c.body_laid-groups.ensures.bytes c.if-groups-group.false _
    c.row_at-row.ensures _ c.protocol_of.ensures _ c.has_wildcard.ensures c.if-denied.true

pub returns : goal.returns
returns c =
    before_nobody _ _ _ _ c.requires _ c.body_laid-groups.ensures.bytes c.if-groups-group.false _
    c.row_at-row.ensures _ c.protocol_of.ensures _ c.has_wildcard.ensures c.if-denied.false
