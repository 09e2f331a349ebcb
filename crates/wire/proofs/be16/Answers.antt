-- `wire::be16` meets its contract.
use Rattle.wire.proofs.Join.{number-join, number_none}
use native.Mathlib.Omega.{arith}
use borrow.Author.Rules.{rules}
use Rattle.wire.proofs.be16.Goals as goal

pub returns-then-at-s : goal.returns-then-at-s
returns-then-at-s c = number-join 1 1 (search rules) (search rules)

pub returns-else-at-s : goal.returns-else-at-s
returns-else-at-s c = number_none 2 _ _ (search rules) (omega arith)
