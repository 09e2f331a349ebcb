-- `state::counted_once` meets its contract.
use borrow.Author.Tests.{lt-ltb, le-ltb}
use Rattle.state.specs.State.{counted}
use Rattle.state.proofs.counted_once.Goals as goal

pub returns-then-count-lt4294967295 : goal.returns-then-count-lt4294967295
unfolding counted
returns-then-count-lt4294967295 c = rw (lt-ltb _ _ c.if-count-lt4294967295.true)

pub returns : goal.returns
unfolding counted
returns c = rw (le-ltb _ _ c.if-count-lt4294967295.false)
