-- THE FIRST OF SOME NUMBERS that is not good: all before it are, and it is the only such.
use Prim.Native.Nat.{ℕ, zero, suc, ◌+◌, ◌<◌, ◌≤◌}
use mathlib.Core.Path.{◌≡◌, refl, sym, ap, ◌∙◌}
use mathlib.Core.Logic.{⊎_elim}
use mathlib.Core.Bool.{Bool, true, false, cond}
use native.Mathlib.Nat.{eq-or-lt_of_le}
use native.Mathlib.Decide.{dec_lt}
use native.Mathlib.Omega.{arith}
use Rattle.lists.specs.Search.{bad_from, first_bad}
use Rattle.lists.proofs.Search.{found-bad}
use Rattle.lists.proofs.Both.{impossible}

module _ (good : ℕ → Bool) where
  from_before : (n k j : ℕ) → k ≤ j → j < bad_from good n k → good j ≡ true
  unfolding bad_from
  from_before zero k j l h = absurd (omega (arith, l, h))
  from_before (suc n) k j l h = go (good k) refl h (from_before n (suc k) j)
    where
      go : (b : Bool) → good k ≡ b → j < cond b (bad_from good n (suc k)) k → (suc k ≤ j → j < bad_from good n (suc k) → good j ≡ true) → good j ≡ true
      go true e h rest = ⊎_elim (λ (q : k ≡ j). ap good (sym q) ∙ e) (λ (m : k < j). rest m h) (eq-or-lt_of_le l)
      go false e h rest = absurd (omega (arith, l, h))

  from_most : (n k : ℕ) → bad_from good n k ≤ k + n
  unfolding bad_from
  from_most zero k = omega arith
  from_most (suc n) k = go (good k) (from_most n (suc k))
    where
      go : (b : Bool) → bad_from good n (suc k) ≤ suc k + n → cond b (bad_from good n (suc k)) k ≤ k + suc n
      go true h = omega (arith, h)
      go false h = omega arith

  pub before-bad : (n j : ℕ) → j < first_bad good n → good j ≡ true
  before-bad n j h = from_before n 0 j (omega arith) h

  pub bad-most : (n : ℕ) → first_bad good n ≤ n
  bad-most n = omega (arith, from_most n 0)

  pub bad-only : (n i : ℕ) → i < n → ((j : ℕ) → j < i → good j ≡ true) → good i ≡ false → first_bad good n ≡ i
  bad-only n i h all bad = go (dec_lt (first_bad good n) i) (dec_lt i (first_bad good n))
    where
      go : Dec (first_bad good n < i) → Dec (i < first_bad good n) → first_bad good n ≡ i
      go (yes l) m = impossible (sym (found-bad good n (omega (arith, l, h))) ∙ all (first_bad good n) l)
      go (no l) (yes m) = impossible (sym bad ∙ before-bad n i m)
      go (no l) (no m) = omega (arith, l, m)

  pub bad_none : (n : ℕ) → ((j : ℕ) → j < n → good j ≡ true) → first_bad good n ≡ n
  bad_none n all = go (dec_lt (first_bad good n) n)
    where
      go : Dec (first_bad good n < n) → first_bad good n ≡ n
      go (yes l) = impossible (sym (found-bad good n l) ∙ all (first_bad good n) l)
      go (no l) = omega (arith, l, bad-most n)
