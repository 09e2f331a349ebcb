-- `table::entry_good` meets its contract.
use Rattle.table.specs.Table.{entry_good}
use Rattle.table.proofs.entry_good.Goals as goal

pub returns : goal.returns
unfolding entry_good
returns c = cc
