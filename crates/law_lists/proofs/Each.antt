-- Lists whose first elements are changed one after the other, each by what its number says: changed once more, changed twice, left.
use Prim.Native.Nat.{ℕ, zero, suc, ◌+◌, ◌<◌, ◌≤◌}
use mathlib.Core.Path.{◌≡◌, refl, sym, ap, ap₂, ◌∙◌}
use mathlib.Core.List.{List, [], ◌∷◌}
use native.Mathlib.Omega.{arith}
use lib.ListN.{length, get_or, set}
use Rattle.lists.specs.Each.{each_to}

module _ {A : Type 0} where
  -- the same change of each
  pub each_same : (f g : ℕ → A → A) (k n : ℕ) (xs : List A) → ((i : ℕ) → k ≤ i → i < k + n → (x : A) → f i x ≡ g i x) → each_to f k n xs ≡ each_to g k n xs
  each_same f g k zero xs h = refl
  each_same f g k (suc n) [] h = refl
  each_same f g k (suc n) (x ∷ xs) h =
      ap₂ (λ (y : A) (l : List A). y ∷ l) (h k (omega arith) (omega arith) x) (each_same f g (suc k) n xs (λ i l u y. h i (omega arith) (omega arith) y))

  -- no change of any
  pub each-still : (k n : ℕ) (xs : List A) → each_to (λ (i : ℕ) (x : A). x) k n xs ≡ xs
  each-still k zero xs = refl
  each-still k (suc n) [] = refl
  each-still k (suc n) (x ∷ xs) = ap (λ (l : List A). x ∷ l) (each-still (suc k) n xs)

  -- two changes of each
  pub each_twice : (f g : ℕ → A → A) (k n : ℕ) (xs : List A) → each_to g k n (each_to f k n xs) ≡ each_to (λ (i : ℕ) (x : A). g i (f i x)) k n xs
  each_twice f g k zero xs = refl
  each_twice f g k (suc n) [] = refl
  each_twice f g k (suc n) (x ∷ xs) = ap (λ (l : List A). g k (f k x) ∷ l) (each_twice f g (suc k) n xs)

  -- one of them by its number
  pub each-own : (f : ℕ → A → A) (d : A) (k n i : ℕ) (xs : List A) → i < n → i < length xs → get_or (each_to f k n xs) i d ≡ f (k + i) (get_or xs i d)
  each-own f d k zero i xs h l = absurd (omega arith)
  each-own f d k (suc n) i [] h l = absurd (omega arith)
  each-own f d k (suc n) zero (x ∷ xs) h l = let e : k ≡ k + 0 = omega arith in ap (λ (m : ℕ). f m x) e
  each-own f d k (suc n) (suc i) (x ∷ xs) h l =
      let e : suc k + i ≡ k + suc i = omega arith in
      each-own f d (suc k) n i xs (omega arith) (omega arith) ∙ ap (λ (m : ℕ). f m (get_or xs i d)) e

  -- each changed, and then one of them once more
  pub each_more : (f g : ℕ → A → A) (h : A → A) (d : A) (k n c : ℕ) (xs : List A) → c < n → ((x : A) → h (f (k + c) x) ≡ g (k + c) x)
      → ((i : ℕ) → (i ≡ k + c → ⊥) → (x : A) → f i x ≡ g i x)
      → set (each_to f k n xs) c (h (get_or (each_to f k n xs) c d)) ≡ each_to g k n xs
  each_more f g h d k zero c xs l own other = absurd (omega arith)
  each_more f g h d k (suc n) c [] l own other = refl
  each_more f g h d k (suc n) zero (x ∷ xs) l own other =
      let z : k ≡ k + 0 = omega arith in
      ap₂ (λ (y : A) (r : List A). y ∷ r) (ap (λ (m : ℕ). h (f m x)) z ∙ own x ∙ ap (λ (m : ℕ). g m x) (sym z))
      (each_same f g (suc k) n xs (λ i a b y. other i (λ e. omega arith) y))
  each_more f g h d k (suc n) (suc c) (x ∷ xs) l own other =
      let z : suc k + c ≡ k + suc c = omega arith in
      ap₂ (λ (y : A) (r : List A). y ∷ r) (other k (λ e. omega arith) x)
      (each_more f g h d (suc k) n c xs (omega arith) (λ y. ap (λ (m : ℕ). h (f m y)) z ∙ own y
      ∙ ap (λ (m : ℕ). g m y) (sym z)) (λ i ne y. other i (λ e. ne (e ∙ sym z)) y))
