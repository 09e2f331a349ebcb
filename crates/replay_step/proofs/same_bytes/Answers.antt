-- `replay_step::same_bytes` meets its contract.
use Rattle.std.proofs.Common.{sym, ◌∙◌}
use Rattle.replay_step.proofs.Same.{same_pointwise}
use Rattle.replay_step.proofs.same_bytes.Goals as goal

pub returns : goal.returns
returns c = c.eq.ensures ∙ sym (same_pointwise c.args.a.now c.args.b.now)
