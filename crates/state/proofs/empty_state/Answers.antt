-- `state::empty_state` meets its contract.
use Rattle.state.proofs.empty_state.Goals as goal

pub returns : goal.returns
returns c = rw c.fresh-zero.ensures
