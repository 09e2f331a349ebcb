-- `entry_ticks::stays` meets its contract.
use Rattle.entry_ticks.proofs.stays.Goals as goal

pub returns : goal.returns
returns c = cc
