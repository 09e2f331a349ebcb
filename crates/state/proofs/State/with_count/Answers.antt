-- `State::with_count` meets its contract.
use Rattle.state.proofs.State.with_count.Goals as goal

pub returns-then-tcp : goal.returns-then-tcp
returns-then-tcp c = rw c.if-tcp.true

pub returns : goal.returns
returns c = rw c.if-tcp.false
