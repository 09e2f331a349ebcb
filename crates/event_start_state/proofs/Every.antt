-- A test of the first n numbers, as an iterator over them asks it.
use Rattle.std.proofs.Common.{ℕ, ◌+◌, zero, suc, ◌≡◌, sym, ap, ◌∙◌, Bool, ◌&&◌, arith, add-zero, add-one}
use Rattle.std.specs.List.{list_all, range_with_len}
use mathlib.Core.Bool.{and-true, and_assoc}
use Rattle.lists.specs.Search.{every}

module _ (good : ℕ → Bool) where
  from_there : (k n : ℕ) → (every good k && list_all good (range_with_len k n)) ≡ every good (k + n)
  unfolding every
  from_there k zero = and-true (every good k) ∙ ap (every good) (sym (add-zero k))
  from_there k (suc n) =
      sym (and_assoc (every good k) (good k) (list_all good (range_with_len (k + 1) n)))
      ∙ ap (λ j. every good j && list_all good (range_with_len (k + 1) n)) (sym (add-one k))
      ∙ from_there (k + 1) n
      ∙ (let e : k + 1 + n ≡ k + suc n = omega arith in ap (every good) e)

  pub every-below : (n : ℕ) → list_all good (range_with_len 0 n) ≡ every good n
  unfolding every
  every-below n = from_there 0 n ∙ (let e : 0 + n ≡ n = omega arith in ap (every good) e)
