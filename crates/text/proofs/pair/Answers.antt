-- `text::pair` meets its contract.
use mathlib.Core.Path.{ap₂}
use Prim.Native.Nat.{ℕ, ◌+◌, ◌*◌}
use native.Mathlib.Omega.{arith}
use Rattle.text.proofs.pair.Goals as goal

pub returns : goal.returns
returns c = ap₂ (λ (x y : ℕ). x * 256 + y) (c.digit.ensures.0 (omega arith)) (c.digit-2.ensures.0 (omega arith))
