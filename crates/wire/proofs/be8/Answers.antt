-- `wire::be8` meets its contract.
use Rattle.wire.proofs.Join.{number-one, number_none}
use native.Mathlib.Omega.{arith}
use borrow.Author.Rules.{rules}
use Rattle.wire.proofs.be8.Goals as goal

pub returns-then-at-s : goal.returns-then-at-s
returns-then-at-s c = number-one _ _ _ c.wide.ensures.0 c.wide.ensures.1

pub returns-else-at-s : goal.returns-else-at-s
returns-else-at-s c = number_none 1 _ _ (search rules) (omega arith)
