-- `entry_ticks::ends_in` meets its contract.
use Rattle.entry_ticks.specs.Many.{ends_in}
use Rattle.entry_ticks.proofs.ends_in.Goals as goal

pub returns : goal.returns
unfolding ends_in
returns c = cc
