-- `entry_ticks::marked` meets its contract.
use Rattle.entry_ticks.specs.Tick.{marked_of}
use Rattle.entry_ticks.proofs.Fails.{bit_is}
use Rattle.entry_ticks.proofs.marked.Goals as goal

pub returns-then-on : goal.returns-then-on
unfolding marked_of
returns-then-on c = rw (bit_is _ c.requires, c.if-on.true)

pub returns : goal.returns
unfolding marked_of
returns c = rw c.if-on.false
