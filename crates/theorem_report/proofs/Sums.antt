-- THINGS THAT ARE ADDED UP, with a test whether a sum of two passes 64 bits: what holds of the elements holds of lists of them, side by side.
use Prim.Native.Nat.{ℕ, zero, suc}
use mathlib.Core.Path.{◌≡◌, refl, sym, ap, ap₂, ◌∙◌}
use mathlib.Core.Bool.{Bool, true, ◌&&◌}
use mathlib.Core.List.{List, [], ◌∷◌}
use lib.ListN.{length, get_or, set, replicate}
use Rattle.lists.proofs.Both.{and_left, and_right, and_both}
use Rattle.report.specs.Pairwise.{pairwise, all_pairs}

-- adding up: in any order and any grouping; a test of two that does not ask which is first; a sum of three that passes in one grouping passes in the
-- other; and what fits with more fits with less
pub record Sums (A : Type 0) : Type 0 where
  pub add : A → A → A
  pub fit : A → A → Bool
  pub comm : (x y : A) → add x y ≡ add y x
  pub assoc : (x y z : A) → add (add x y) z ≡ add x (add y z)
  pub fit_comm : (x y : A) → fit x y ≡ fit y x
  pub fit-turn : (x y z : A) → fit x y ≡ true → fit (add x y) z ≡ true → fit x (add y z) ≡ true
  pub fit_less : (x y z : A) → fit x (add y z) ≡ true → fit x y ≡ true

module _ {A : Type 0} (S : Sums A) where
  -- the other way round
  pub fit_back : (x y z : A) → S.fit y z ≡ true → S.fit x (S.add y z) ≡ true → S.fit (S.add x y) z ≡ true
  fit_back x y z h e =
      ap (λ (w : A). S.fit w z) (S.comm x y) ∙ S.fit_comm (S.add y x) z
      ∙ S.fit-turn z y x (S.fit_comm z y ∙ h) (ap (λ (w : A). S.fit w x) (S.comm z y) ∙ S.fit_comm (S.add y z) x ∙ e)

  -- what fits behind a sum fits behind each
  pub fit-second : (x y z : A) → S.fit (S.add x y) z ≡ true → S.fit y z ≡ true
  fit-second x y z e =
      S.fit_comm y z ∙ S.fit_less z y x (ap (S.fit z) (S.comm y x) ∙ S.fit_comm z (S.add x y) ∙ e)

  -- LISTS, side by side
  pub pairs_comm : (xs ys : List A) → pairwise S.add xs ys ≡ pairwise S.add ys xs
  unfolding pairwise
  pairs_comm [] [] = refl
  pairs_comm [] (y ∷ ys) = refl
  pairs_comm (x ∷ xs) [] = refl
  pairs_comm (x ∷ xs) (y ∷ ys) = ap₂ (λ (z : A) (l : List A). z ∷ l) (S.comm x y) (pairs_comm xs ys)

  pub pairs_assoc : (xs ys zs : List A)
      → pairwise S.add (pairwise S.add xs ys) zs ≡ pairwise S.add xs (pairwise S.add ys zs)
  unfolding pairwise
  pairs_assoc [] ys zs = refl
  pairs_assoc (x ∷ xs) [] zs = refl
  pairs_assoc (x ∷ xs) (y ∷ ys) [] = refl
  pairs_assoc (x ∷ xs) (y ∷ ys) (z ∷ zs) = ap₂ (λ (w : A) (l : List A). w ∷ l) (S.assoc x y z) (pairs_assoc xs ys zs)

  pub all_comm : (xs ys : List A) → all_pairs S.fit xs ys ≡ all_pairs S.fit ys xs
  unfolding all_pairs
  all_comm [] [] = refl
  all_comm [] (y ∷ ys) = refl
  all_comm (x ∷ xs) [] = refl
  all_comm (x ∷ xs) (y ∷ ys) = ap₂ ◌&&◌ (S.fit_comm x y) (all_comm xs ys)

  pub all-turn : (xs ys zs : List A) → all_pairs S.fit xs ys ≡ true → all_pairs S.fit (pairwise S.add xs ys) zs ≡ true
      → all_pairs S.fit xs (pairwise S.add ys zs) ≡ true
  unfolding all_pairs pairwise
  all-turn [] ys zs h e = refl
  all-turn (x ∷ xs) [] zs h e = e
  all-turn (x ∷ xs) (y ∷ ys) [] h e = h
  all-turn (x ∷ xs) (y ∷ ys) (z ∷ zs) h e =
      and_both (S.fit-turn x y z (and_left (S.fit x y) _ h) (and_left (S.fit (S.add x y) z) _ e))
      (all-turn xs ys zs (and_right (S.fit x y) _ h) (and_right (S.fit (S.add x y) z) _ e))

  pub all_less : (xs ys zs : List A) → all_pairs S.fit xs (pairwise S.add ys zs) ≡ true → all_pairs S.fit xs ys ≡ true
  unfolding all_pairs pairwise
  all_less [] ys zs e = refl
  all_less (x ∷ xs) [] zs e = refl
  all_less (x ∷ xs) (y ∷ ys) [] e = e
  all_less (x ∷ xs) (y ∷ ys) (z ∷ zs) e =
      and_both (S.fit_less x y z (and_left (S.fit x (S.add y z)) _ e)) (all_less xs ys zs (and_right (S.fit x (S.add y z)) _ e))

  abbrev pub list_sums : Sums (List A)
  list_sums =
      record {
        add = pairwise S.add;
        fit = all_pairs S.fit;
        comm = pairs_comm;
        assoc = pairs_assoc;
        fit_comm = all_comm;
        fit-turn = all-turn;
        fit_less = all_less;
      }

  -- with an element that adds nothing
  module _ (none : A) (neutral : (x : A) → S.add x none ≡ x) where
    pub pairs_none : (xs : List A) → pairwise S.add xs (replicate (length xs) none) ≡ xs
    unfolding pairwise
    pairs_none [] = refl
    pairs_none (x ∷ xs) = ap₂ (λ (z : A) (l : List A). z ∷ l) (neutral x) (pairs_none xs)

    -- one element more at a place is a list with this element alone, side by side
    pub one_added : (xs : List A) (i : ℕ) (v : A) → set xs i (S.add (get_or xs i none) v)
        ≡ pairwise S.add xs (set (replicate (length xs) none) i (S.add (get_or (replicate (length xs) none) i none) v))
    unfolding pairwise
    one_added [] i v = refl
    one_added (x ∷ xs) zero v =
        ap₂ (λ (z : A) (l : List A). z ∷ l) (ap (S.add x) (sym (S.comm none v ∙ neutral v))) (sym (pairs_none xs))
    one_added (x ∷ xs) (suc i) v = ap₂ (λ (z : A) (l : List A). z ∷ l) (sym (neutral x)) (one_added xs i v)
