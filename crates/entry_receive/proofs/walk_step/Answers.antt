-- `entry_receive::walk_step` meets its contract.
use mathlib.Core.Path.{sym, ◌∙◌}
use Rattle.entry_receive.proofs.Walking.{step_done, step_none}
use Rattle.entry_receive.proofs.walk_step.Goals as goal

pub returns-then-not-done : goal.returns-then-not-done
returns-then-not-done c = step_none _ _ _ _ _ _ _ (sym c.is_done-done.ensures ∙ c.if-not-done.true)

pub body_laid-routes-requires : goal.body_laid-routes-requires
body_laid-routes-requires c = c.requires (sym c.is_done-done.ensures ∙ c.if-not-done.false)

pub returns : goal.returns
returns c =
    step_done _ _ _ _ _ _ _ (sym c.is_done-done.ensures ∙ c.if-not-done.false) c.body_laid-routes.result.now c.body_laid-routes.ensures.bytes
    c.walk-walked.result c.walk-walked.ensures c.walk_drops.result c.walk_drops.ensures
