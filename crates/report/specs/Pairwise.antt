-- R21.3, R21.4: two lists side by side, element by element, for any element; where one is longer, its rest stays.
use Rattle.std.specs.Prelude.{Bool, true, ◌&&◌, List, [], ◌∷◌}

-- each element with the other list's at its place
unfoldable pub pairwise : {A : Type 0} → (A → A → A) → List A → List A → List A
pairwise f [] ys = ys
pairwise f (x ∷ xs) [] = x ∷ xs
pairwise f (x ∷ xs) (y ∷ ys) = f x y ∷ pairwise f xs ys

-- a test of each element with the other list's at its place
unfoldable pub all_pairs : {A : Type 0} → (A → A → Bool) → List A → List A → Bool
all_pairs f [] ys = true
all_pairs f (x ∷ xs) [] = true
all_pairs f (x ∷ xs) (y ∷ ys) = f x y && all_pairs f xs ys
