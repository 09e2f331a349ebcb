-- Laws of a fold over numbered rows, at the places where a loop stands.
use Prim.Native.Nat.{ℕ, zero, suc, ◌+◌, ◌-◌, ◌<◌, ◌≤◌}
use mathlib.Core.Path.{◌≡◌, refl, ap, subst, ◌∙◌}
use native.Mathlib.Omega.{arith}
use native.Mathlib.Nat.{sub-zero}
use native.Mathlib.Numerals.{add-one}
use Rattle.lists.specs.Fold.{fold_from}
use Rattle.lists.proofs.Search.{left_over}

module _ {B : Type 0} (f : B → ℕ → B) where
  -- a loop over n rows at row i: the rest of the rows leads to the whole's end
  abbrev pub Folded : ℕ → B → ℕ → B → Type 0
  Folded n start i b = (i ≤ n) × (fold_from f (n - i) i b ≡ fold_from f n 0 start)

  pub fold_start : (n : ℕ) (b : B) → Folded n b 0 b
  fold_start n b = (omega arith, rw (sub-zero n))

  pub fold_on : (n : ℕ) (start : B) (i : ℕ) (b c : B) → Folded n start i b → i < n → c ≡ f b i → Folded n start (i + 1) c
  unfolding fold_from
  fold_on n start i b c inv h e =
      let q : fold_from f (n - suc i) (suc i) (f b i) ≡ fold_from f n 0 start = rw (left_over h) at inv.1 in
      (omega arith, ap (fold_from f (n - (i + 1)) (i + 1)) e ∙ rw (add-one i) q)

  pub fold_ended : (n : ℕ) (start : B) (i : ℕ) (b : B) → Folded n start i b → n ≤ i → b ≡ fold_from f n 0 start
  unfolding fold_from
  fold_ended n start i b inv h =
      let e : n - i ≡ 0 = omega arith in
      rw e at inv.1

  -- what each row hands on to the next, all rows hand on
  pub fold_goes : (P : ℕ → B → Type 0) (n k : ℕ) (b : B)
      → ((i : ℕ) (c : B) → k ≤ i → i < k + n → P i c → P (suc i) (f c i)) → P k b → P (k + n) (fold_from f n k b)
  unfolding fold_from
  fold_goes P zero k b step p = let e : k ≡ k + 0 = omega arith in subst (λ (i : ℕ). P i b) e p
  fold_goes P (suc n) k b step p =
      let e : suc k + n ≡ k + suc n = omega arith in
      subst (λ (i : ℕ). P i (fold_from f n (suc k) (f b k))) e
      (fold_goes P n (suc k) (f b k) (λ i c l u q. step i c (omega arith) (omega arith) q) (step k b (omega arith) (omega arith) p))

  -- and so what each keeps
  pub fold_keeps : (P : B → Type 0) (n k : ℕ) (b : B) → ((i : ℕ) (c : B) → k ≤ i → i < k + n → P c → P (f c i)) → P b → P (fold_from f n k b)
  fold_keeps P n k b step p = fold_goes (λ (i : ℕ) (c : B). P c) n k b step p

-- two folds of which each row of one looks like that row of the other
pub fold_alike : {B C : Type 0} (f : B → ℕ → B) (g : C → ℕ → C) (look : B → C) (P : ℕ → B → Type 0) (n k : ℕ) (b : B)
    → ((i : ℕ) (c : B) → k ≤ i → i < k + n → P i c → P (suc i) (f c i)) → ((i : ℕ) (c : B) → k ≤ i → i < k + n → P i c → look (f c i) ≡ g (look c) i)
    → P k b → look (fold_from f n k b) ≡ fold_from g n k (look b)
unfolding fold_from
fold_alike f g look P zero k b step alike p = refl
fold_alike f g look P (suc n) k b step alike p =
    fold_alike f g look P n (suc k) (f b k) (λ i c l u q. step i c (omega arith) (omega arith) q)
    (λ i c l u q. alike i c (omega arith) (omega arith) q) (step k b (omega arith) (omega arith) p)
    ∙ ap (fold_from g n (suc k)) (alike k b (omega arith) (omega arith) p)
