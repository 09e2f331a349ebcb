-- `entry_ticks::is_up` meets its contract.
use Rattle.entry_ticks.proofs.is_up.Goals as goal

pub returns : goal.returns
returns c = cc
