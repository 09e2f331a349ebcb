-- Laws of the two searches: at the places where a loop stands, and what their answers say.
use Prim.Native.Nat.{ℕ, zero, suc, ◌+◌, ◌-◌, ◌<◌, ◌≤◌}
use mathlib.Core.Path.{◌≡◌, refl, sym, ap, ◌∙◌}
use mathlib.Core.Logic.{⊎_elim}
use mathlib.Core.Bool.{Bool, true, false, cond}
use native.Mathlib.Nat.{eq-or-lt_of_le, le_of_suc-le-suc, not-suc-le-zero, sub-zero}
use native.Mathlib.Numerals.{add-one}
use native.Mathlib.Omega.{arith}
use Rattle.lists.specs.Search.{bad_from, first_bad, every}
use Rattle.lists.proofs.Both.{and_left, and_right, and_both, and_second}

-- one row less is left
pub left_over : {n i : ℕ} → i < n → n - i ≡ suc (n - suc i)
left_over h = omega arith

module _ (good : ℕ → Bool) where
  -- a search for the first bad one, at i: what is left of it has the whole one's answer
  abbrev pub Searched : ℕ → ℕ → Type 0
  Searched n i = (i ≤ n) × (bad_from good (n - i) i ≡ first_bad good n)

  pub search_start : (n : ℕ) → Searched n 0
  search_start n = (omega arith, rw (sub-zero n))

  pub search_on : (n i : ℕ) → Searched n i → i < n → good i ≡ true → Searched n (i + 1)
  unfolding bad_from
  search_on n i inv h g = (omega arith, rw (left_over h, g, ← add-one i) at inv.1)

  pub search_found : (n i : ℕ) → Searched n i → i < n → good i ≡ false → i ≡ first_bad good n
  unfolding bad_from
  search_found n i inv h g = rw (left_over h, g) at inv.1

  pub search_ended : (n i : ℕ) → Searched n i → n ≤ i → i ≡ first_bad good n
  unfolding bad_from
  search_ended n i inv h =
      let e : n - i ≡ 0 = omega arith in
      rw e at inv.1

  -- a test of each in turn, at i: those passed are good
  abbrev pub GoodTo : ℕ → ℕ → Type 0
  GoodTo n i = (i ≤ n) × (every good i ≡ true)

  pub pass_start : (n : ℕ) → GoodTo n 0
  unfolding every
  pass_start n = (omega arith, refl)

  pub pass_on : (n i : ℕ) → GoodTo n i → i < n → good i ≡ true → GoodTo n (i + 1)
  unfolding every
  pass_on n i inv h g = (omega arith, rw (add-one i, inv.1, g))

  every_not : (n i : ℕ) → i < n → good i ≡ false → every good n ≡ false
  unfolding every
  every_not zero i h g = absurd (not-suc-le-zero h)
  every_not (suc n) i h g =
      ⊎_elim (λ e. and_second (every good n) (good n) (ap good (sym e) ∙ g)) (λ l. rw (every_not n i l g)) (eq-or-lt_of_le (le_of_suc-le-suc h))

  pub pass_failed : (n i : ℕ) → i < n → good i ≡ false → false ≡ every good n
  pass_failed n i h g = sym (every_not n i h g)

  pub pass_ended : (n i : ℕ) → GoodTo n i → n ≤ i → true ≡ every good n
  pass_ended n i inv h =
      let e : n ≡ i = omega arith in
      rw e (sym inv.1)

  -- all good: each is, and the other way round
  pub every-at : (n i : ℕ) → every good n ≡ true → i < n → good i ≡ true
  unfolding every
  every-at zero i e h = absurd (not-suc-le-zero h)
  every-at (suc n) i e h =
      ⊎_elim (λ q. ap good q ∙ and_right (every good n) (good n) e)
      (λ l. every-at n i (and_left (every good n) (good n) e) l) (eq-or-lt_of_le (le_of_suc-le-suc h))

  pub every-all : (n : ℕ) → ((i : ℕ) → i < n → good i ≡ true) → every good n ≡ true
  unfolding every
  every-all zero h = refl
  every-all (suc n) h = and_both (every-all n (λ i l. h i (omega arith))) (h n (omega arith))

  -- no bad one: each is good
  from-none : (n k : ℕ) → k + n ≤ bad_from good n k → (i : ℕ) → k ≤ i → i < k + n → good i ≡ true
  unfolding bad_from
  from-none zero k h i l u = absurd (omega arith)
  from-none (suc n) k h i l u = go (good k) refl (λ h' lt. from-none n (suc k) h' i lt (omega arith))
    where
      go : (b : Bool) → good k ≡ b → (suc k + n ≤ bad_from good n (suc k) → k < i → good i ≡ true) → good i ≡ true
      go true p rest =
          let h' : k + suc n ≤ bad_from good n (suc k) = rw p at h in
          ⊎_elim (λ (e : k ≡ i). ap good (sym e) ∙ p) (λ (lt : k < i). rest (omega arith) lt) (eq-or-lt_of_le l)
      go false p rest = absurd (let h' : k + suc n ≤ k = rw p at h in omega arith)

  pub none_bad : (n : ℕ) → n ≤ first_bad good n → (i : ℕ) → i < n → good i ≡ true
  none_bad n h i l = from-none n 0 (omega arith) i (omega arith) (omega arith)

  -- the first bad one, where there is one, is bad
  from_some : (n k : ℕ) → bad_from good n k < k + n → good (bad_from good n k) ≡ false
  unfolding bad_from
  from_some zero k h = absurd (omega arith)
  from_some (suc n) k h = go (good k) refl h (from_some n (suc k))
    where
      go : (b : Bool) → good k ≡ b → cond b (bad_from good n (suc k)) k < k + suc n
          → (bad_from good n (suc k) < suc k + n → good (bad_from good n (suc k)) ≡ false) → good (cond b (bad_from good n (suc k)) k) ≡ false
      go true p l rest = rest (omega arith)
      go false p l rest = p

  pub found-bad : (n : ℕ) → first_bad good n < n → good (first_bad good n) ≡ false
  found-bad n h = from_some n 0 (omega arith)
