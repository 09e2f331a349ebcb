-- `table::head_good` meets its contract.
use Rattle.table.specs.Table.{head_good}
use Rattle.table.proofs.head_good.Goals as goal

pub returns : goal.returns
unfolding head_good
returns c = cc
