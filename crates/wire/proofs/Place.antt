-- Places of parts.
use Prim.Native.Nat.{ℕ, ◌+◌, ◌≤◌, ◌<◌}
use mathlib.Core.Path.{◌≡◌, ap}
use mathlib.Core.List.{List}
use native.Mathlib.Omega.{arith}
use borrow.Author.Tests.{lt-ltb, le-ltb}
use lib.ListN.{length}
use Rattle.wire.specs.Place.{behind, from_at}

-- the front of a slice is no byte behind it
pub at_front : (p : ℕ × ℕ) → p ≡ behind p 0
at_front p = ap (λ (k : ℕ). (p.0, k)) (omega arith)

-- the sum as the code has it, the other way round
pub at-behind : (p : ℕ × ℕ) (k : ℕ) → (p.0, k + p.1) ≡ behind p k
at-behind p k = ap (λ (n : ℕ). (p.0, n)) (omega arith)

module _ (p : ℕ × ℕ) (l : List ℕ) (at : ℕ) where
  pub from_there : at ≤ length l → (p.0, at + p.1) ≡ behind p (from_at l at)
  unfolding from_at
  from_there h = rw (le-ltb (length l) at h) (at-behind p at)

  pub from_past : length l < at → p ≡ behind p (from_at l at)
  unfolding from_at
  from_past h = rw (lt-ltb (length l) at h) (at_front p)
