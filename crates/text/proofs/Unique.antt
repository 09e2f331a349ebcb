-- A number's text is unique: two counts of fewest digits are equal, so `Decimal` allows one place and one buffer.
use Prim.Native.Nat.{ℕ, ◌-◌, ◌^◌, ◌≤◌, ◌<◌}
use mathlib.Core.Path.{◌≡◌, sym, ap, ◌∙◌}
use mathlib.Core.List.{List}
use native.Mathlib.Decide.{dec_lt}
use native.Mathlib.Nat.{zero-lt-suc, pow-le-pow_right}
use native.Mathlib.Omega.{arith}
use Rattle.io.specs.Digits.{last_digits, IsDigitCount}
use Rattle.pieces.specs.Pieces.{place_after}
use Rattle.wire.specs.Lay.{lay}
use Rattle.text.specs.Text.{Decimal}

-- no count of fewest digits is below another
never_below : (v k m : ℕ) → IsDigitCount 10 1 v k → IsDigitCount 10 1 v m → k < m → ⊥
never_below v k m f g l =
    let grows : 10 ^ k ≤ 10 ^ (m - 1) = pow-le-pow_right (zero-lt-suc 9) (omega arith) in
    omega (arith, grows, f.1, g.2 (omega (arith, f.0)))

same_count : (v k m : ℕ) → IsDigitCount 10 1 v k → IsDigitCount 10 1 v m → k ≡ m
same_count v k m f g = go (dec_lt k m) (dec_lt m k)
  where
    go : Dec (k < m) → Dec (m < k) → k ≡ m
    go (yes l) d = absurd (never_below v k m f g l)
    go (no n) (yes l) = absurd (never_below v m k g f l)
    go (no n) (no n') = omega arith

module _ (v : ℕ) (d : List ℕ) (at r s : ℕ) (x y : List ℕ) (a : Decimal v d at r x) (b : Decimal v d at s y) where
  counts : a.count ≡ b.count
  counts = same_count v a.count b.count a.fewest b.fewest

  pub unique_place : r ≡ s
  unique_place = a.place ∙ ap (λ (k : ℕ). place_after d at (last_digits 10 k v)) counts ∙ sym b.place

  pub unique_memory : x ≡ y
  unique_memory = a.memory ∙ ap (λ (k : ℕ). lay d at (last_digits 10 k v)) counts ∙ sym b.memory
