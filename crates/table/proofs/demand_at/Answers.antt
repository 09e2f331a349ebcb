-- `table::demand_at` meets its contract.
use Rattle.table.proofs.demand_at.Goals as goal

pub returns-else-ok : goal.returns-else-ok
returns-else-ok c = rw c.if-ok.false
