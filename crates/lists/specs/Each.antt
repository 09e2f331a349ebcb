-- A list whose elements are changed or tested one after the other, each by what its index says, for any element.
use Rattle.std.specs.Prelude.{ℕ, zero, suc, List, [], ◌∷◌, Bool, true, ◌&&◌}

module _ {A : Type 0} (f : ℕ → A → A) where
  -- each element changed by f at its index, the first of which is k
  abbrev pub each : ℕ → List A → List A
  each k [] = []
  each k (x ∷ xs) = f k x ∷ each (suc k) xs

  -- only the first i elements changed
  abbrev pub each_to : ℕ → ℕ → List A → List A
  each_to k zero xs = xs
  each_to k (suc i) [] = []
  each_to k (suc i) (x ∷ xs) = f k x ∷ each_to (suc k) i xs

module _ {A : Type 0} (f : ℕ → A → Bool) where
  -- a test of every element at its index, the first of which is k
  abbrev pub all_from : ℕ → List A → Bool
  all_from k [] = true
  all_from k (x ∷ xs) = f k x && all_from (suc k) xs

  -- a test of the first i elements
  abbrev pub all_to : ℕ → ℕ → List A → Bool
  all_to k zero xs = true
  all_to k (suc i) [] = true
  all_to k (suc i) (x ∷ xs) = f k x && all_to (suc k) i xs
