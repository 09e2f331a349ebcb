-- `State::dropped` meets its contract.
use Rattle.state.proofs.State.dropped.Goals as goal

pub returns : goal.returns
returns c = rw (c.with_count.ensures, c.counted_once.ensures, c.count-count.ensures)
