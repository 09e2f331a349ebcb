-- `entry_receive::drops_after` meets its contract.
use Rattle.entry_receive.proofs.drops_after.Goals as goal

pub returns-in-Drop : goal.returns-in-Drop
returns-in-Drop c = rw c.in-Drop.is c.counted_once.ensures
