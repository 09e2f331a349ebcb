-- THE FIRST DIFFERENCE THAT A FOLD KEEPS: of n numbers the first that is not the same, from 1; 0 where all are
use Prim.Native.Nat.{ℕ, zero, suc, ◌+◌, ◌<◌}
use mathlib.Core.Path.{◌≡◌, refl, sym, ap, ◌∙◌}
use mathlib.Core.Logic.{⊎_elim}
use mathlib.Core.Bool.{Bool, true, false, cond, not}
use native.Mathlib.Nat.{eq-or-lt_of_le}
use native.Mathlib.Decide.{dec_lt}
use native.Mathlib.Omega.{arith}
use borrow.Author.Tests.{eqb-true, eqb-false}
use lib.Dec.{eqb}
use Rattle.lists.proofs.Both.{impossible}
use Rattle.replay_whole.specs.Replay.{first_other}

module _ (same : ℕ → Bool) where
  unfoldable pub other_in : ℕ → ℕ
  other_in zero = 0
  other_in (suc n) = first_other (other_in n) n (not (same n))

  pub none_other : (n : ℕ) → other_in n ≡ 0 → (j : ℕ) → j < n → same j ≡ true
  unfolding other_in first_other
  none_other zero e j h = absurd (omega (arith, h))
  none_other (suc n) e j h = go (eqb (other_in n) 0) refl (same n) refl e (none_other n)
    where
      go : (b : Bool) → eqb (other_in n) 0 ≡ b → (s : Bool) → same n ≡ s → cond b (cond (not s) (n + 1) 0) (other_in n) ≡ 0
          → (other_in n ≡ 0 → (j : ℕ) → j < n → same j ≡ true) → same j ≡ true
      go true z true t e rest =
          ⊎_elim (λ (q : suc j ≡ suc n). ap same (omega (arith, q)) ∙ t)
          (λ (l : suc j < suc n). rest (eqb-true (other_in n) 0 z) j (omega (arith, l))) (eq-or-lt_of_le h)
      go true z false t e rest = absurd (omega (arith, e))
      go false z s t e rest = absurd (eqb-false (other_in n) 0 z e)

  pub some_other : (n i : ℕ) → other_in n ≡ suc i → (i < n) × (same i ≡ false) × ((j : ℕ) → j < i → same j ≡ true)
  unfolding other_in first_other
  some_other zero i e = absurd (omega (arith, e))
  some_other (suc n) i e = go (eqb (other_in n) 0) refl (same n) refl e (some_other n i)
    where
      go : (b : Bool) → eqb (other_in n) 0 ≡ b → (s : Bool) → same n ≡ s → cond b (cond (not s) (n + 1) 0) (other_in n) ≡ suc i
          → (other_in n ≡ suc i → (i < n) × (same i ≡ false) × ((j : ℕ) → j < i → same j ≡ true))
          → (i < suc n) × (same i ≡ false) × ((j : ℕ) → j < i → same j ≡ true)
      go true z true t e rest = absurd (omega (arith, e))
      go true z false t e rest =
          let is : i ≡ n = omega (arith, e) in
          (omega (arith, is), ap same is ∙ t, λ j h. none_other n (eqb-true (other_in n) 0 z) j (omega (arith, h, is)))
      go false z s t e rest = let f = rest e in (omega (arith, f.0), f.1, f.2)

  pub all_same : (n : ℕ) → ((j : ℕ) → j < n → same j ≡ true) → other_in n ≡ 0
  all_same n all = go (other_in n) refl
    where
      go : (d : ℕ) → other_in n ≡ d → d ≡ 0
      go zero e = refl
      go (suc i) e = let f = some_other n i e in impossible (sym f.1 ∙ all i f.0)

  pub first-other : (n i : ℕ) → i < n → same i ≡ false → ((j : ℕ) → j < i → same j ≡ true) → other_in n ≡ suc i
  first-other n i h other all = go (other_in n) refl
    where
      go : (d : ℕ) → other_in n ≡ d → d ≡ suc i
      go zero e = impossible (sym other ∙ none_other n e i h)
      go (suc k) e = at k (some_other n k e) (dec_lt k i) (dec_lt i k)
        where
          at : (k : ℕ) → (k < n) × (same k ≡ false) × ((j : ℕ) → j < k → same j ≡ true) → Dec (k < i) → Dec (i < k) → suc k ≡ suc i
          at k f (yes l) m = impossible (sym f.1 ∙ all k l)
          at k f (no l) (yes m) = impossible (sym other ∙ f.2 i m)
          at k f (no l) (no m) = omega (arith, l, m)
