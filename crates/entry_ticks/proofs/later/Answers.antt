-- `entry_ticks::later` meets its contract.
use Rattle.entry_ticks.proofs.later.Goals as goal

pub returns : goal.returns
returns c = rw (c.fallen-alive.ensures, c.fallen-timer.ensures, c.ends_in-ends.ensures)
