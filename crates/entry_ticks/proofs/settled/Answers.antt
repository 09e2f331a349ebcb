-- `entry_ticks::settled` meets its contract.
use mathlib.Core.Path.{ap, ◌∙◌}
use Rattle.connection.specs.Connection.{reach_of}
use Rattle.entry_ticks.proofs.Many.{gone_at, settled_at}
use Rattle.entry_ticks.proofs.settled.Goals as goal

pub returns-then-stays-config : goal.returns-then-stays-config
returns-then-stays-config c = c.later.ensures ∙ settled_at _ _ _ c.stays.ensures c.if-stays-config.true

pub returns-then-lasts : goal.returns-then-lasts
returns-then-lasts c =
    c.let_go-gone.ensures
    ∙ gone_at _ _ _ c.lasts.ensures c.if-lasts.true
    ∙ settled_at _ _ _ c.stays.ensures c.if-stays-config.false

pub returns : goal.returns
returns c =
    c.reach.ensures
    ∙ ap (reach_of _) c.let_go-gone.ensures
    ∙ gone_at _ _ _ c.lasts.ensures c.if-lasts.false
    ∙ settled_at _ _ _ c.stays.ensures c.if-stays-config.false
