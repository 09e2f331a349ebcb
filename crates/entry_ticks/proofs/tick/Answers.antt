-- `entry_ticks::tick` meets its contract.
use mathlib.Core.Path.{◌∙◌}
use Rattle.entry_ticks.proofs.Past.{ticks-once}
use Rattle.entry_ticks.proofs.tick.Goals as goal

pub returns : goal.returns
returns c = c.ticks_by.ensures ∙ ticks-once _
