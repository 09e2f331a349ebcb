-- `select::rank` meets its contract.
use native.Mathlib.Omega.{arith}
use Rattle.select.specs.Choose.{rank_of}
use Rattle.select.proofs.rank.Goals as goal

pub returns : goal.returns
unfolding rank_of
returns c = (cc, omega arith)
