-- `entry_receive::walk_drops` meets its contract.
use Rattle.entry_receive.proofs.walk_drops.Goals as goal

pub returns-in-Drop : goal.returns-in-Drop
returns-in-Drop c = rw c.in-Drop.is c.counted_once.ensures
