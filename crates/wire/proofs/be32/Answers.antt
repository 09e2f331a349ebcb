-- `wire::be32` meets its contract.
use Rattle.wire.proofs.Join.{number-join, number_none, turned-number}
use native.Mathlib.Omega.{arith}
use borrow.Author.Rules.{rules}
use Rattle.wire.proofs.be32.Goals as goal

pub returns-then-s-at : goal.returns-then-s-at
returns-then-s-at c = number_none 4 _ _ (search rules) (omega arith)

pub returns-then-s-at-ge4 : goal.returns-then-s-at-ge4
returns-then-s-at-ge4 c = turned-number c.little.ensures c.turned.ensures

pub returns : goal.returns
returns c = number-join 2 2 (search rules) (search rules)
