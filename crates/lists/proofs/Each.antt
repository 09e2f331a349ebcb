-- Laws of lists whose elements are changed or tested one after the other.
use Prim.Native.Nat.{ℕ, zero, suc, ◌+◌, ◌<◌}
use mathlib.Core.Path.{◌≡◌, refl, ap, sym, subst, ◌∙◌}
use mathlib.Core.List.{List, [], ◌∷◌, map}
use mathlib.Core.Bool.{Bool, true, ◌&&◌, and-true, and_assoc}
use native.Mathlib.Decide.{dec_lt, ℕ_discrete}
use native.Mathlib.Omega.{arith}
use native.Mathlib.Numerals.{add-one}
use lib.Seq.{get_or-set_same, get_or-set_other, set_out}
use lib.ListN.{length, get_or, set, length-map}
use Rattle.lists.specs.Each.{each, each_to, all_from, all_to}
use Rattle.lists.proofs.Both.{and_left, and_right, and_both}

module _ {A : Type 0} (f : ℕ → A → A) where
  pub each_get : (k i : ℕ) (xs : List A) (d : A) → get_or (each_to f k i xs) i d ≡ get_or xs i d
  each_get k zero xs d = refl
  each_get k (suc i) [] d = refl
  each_get k (suc i) (x ∷ xs) d = each_get (suc k) i xs d

  pub each-length : (k i : ℕ) (xs : List A) → length (each_to f k i xs) ≡ length xs
  each-length k zero xs = refl
  each-length k (suc i) [] = refl
  each-length k (suc i) (x ∷ xs) = ap suc (each-length (suc k) i xs)

  pub each_set : (k i : ℕ) (xs : List A) (d : A) → i < length xs
      → set (each_to f k i xs) i (f (k + i) (get_or xs i d)) ≡ each_to f k (suc i) xs
  each_set k zero [] d h = refl
  each_set k zero (x ∷ xs) d h = let e : k + 0 ≡ k = omega arith in ap (λ (n : ℕ). f n x ∷ xs) e
  each_set k (suc i) [] d h = refl
  each_set k (suc i) (x ∷ xs) d h =
      let e : k + suc i ≡ suc k + i = omega arith in
      let l : i < length xs = omega arith in
      ap (λ (ys : List A). f k x ∷ ys) (ap (λ (n : ℕ). set (each_to f (suc k) i xs) i (f n (get_or xs i d))) e ∙ each_set (suc k) i xs d l)

  pub each_all : (k : ℕ) (xs : List A) → each_to f k (length xs) xs ≡ each f k xs
  each_all k [] = refl
  each_all k (x ∷ xs) = ap (λ (ys : List A). f k x ∷ ys) (each_all (suc k) xs)

-- the length of an array of structs, as what owning it tells has it
pub long : {A B : Type 0} (f : A → B) (l : List A) {n : ℕ} → length (map f l) ≡ n → length l ≡ n
long f l h = sym (length-map l f) ∙ h

module _ {A : Type 0} (f : ℕ → A → Bool) where
  pub all_more : (k i : ℕ) (xs : List A) (d : A) → i < length xs → (all_to f k i xs && f (k + i) (get_or xs i d)) ≡ all_to f k (suc i) xs
  all_more k i [] d h = (let z : ⊥ = omega arith in elim z [ ])
  all_more k zero (x ∷ xs) d h =
      let e : k + 0 ≡ k = omega arith in
      ap (λ (n : ℕ). f n x) e ∙ sym (and-true (f k x))
  all_more k (suc i) (x ∷ xs) d h =
      let e : k + suc i ≡ suc k + i = omega arith in
      let l : i < length xs = omega arith in
      and_assoc (f k x) (all_to f (suc k) i xs) _
      ∙ ap (λ (b : Bool). f k x && b) (ap (λ (n : ℕ). all_to f (suc k) i xs && f n (get_or xs i d)) e ∙ all_more (suc k) i xs d l)

  pub all-all : (k : ℕ) (xs : List A) → all_to f k (length xs) xs ≡ all_from f k xs
  all-all k [] = refl
  all-all k (x ∷ xs) = ap (λ (b : Bool). f k x && b) (all-all (suc k) xs)

  -- what the test says of one element
  pub all-at : (k i : ℕ) (xs : List A) (d : A) → all_from f k xs ≡ true → i < length xs → f (k + i) (get_or xs i d) ≡ true
  all-at k i [] d p h = (let z : ⊥ = omega arith in elim z [ ])
  all-at k zero (x ∷ xs) d p h = let e : k + 0 ≡ k = omega arith in ap (λ (n : ℕ). f n x) e ∙ and_left (f k x) _ p
  all-at k (suc i) (x ∷ xs) d p h =
      let e : k + suc i ≡ suc k + i = omega arith in
      let l : i < length xs = omega arith in
      ap (λ (n : ℕ). f n (get_or xs i d)) e ∙ all-at (suc k) i xs d (and_right (f k x) _ p) l

  -- one element replaced by another that meets its test
  pub all_set : (k i : ℕ) (xs : List A) (y : A) → all_from f k xs ≡ true → f (k + i) y ≡ true → all_from f k (set xs i y) ≡ true
  all_set k i [] y p q = refl
  all_set k zero (x ∷ xs) y p q =
      let e : k + 0 ≡ k = omega arith in
      rw (rw e at q) (and_right (f k x) _ p)
  all_set k (suc i) (x ∷ xs) y p q =
      let e : k + suc i ≡ suc k + i = omega arith in
      rw (and_left (f k x) _ p) (all_set (suc k) i xs y (and_right (f k x) _ p) (rw e at q))

-- the first i elements changed, or every one, each into one that meets its test
module _ {A : Type 0} (test : ℕ → A → Bool) (f : ℕ → A → A) where
  pub all-each : (k i : ℕ) (xs : List A) → all_from test k xs ≡ true
      → ((j : ℕ) (x : A) → j < k + i → test j x ≡ true → test j (f j x) ≡ true) → all_from test k (each_to f k i xs) ≡ true
  all-each k zero xs p q = p
  all-each k (suc i) [] p q = refl
  all-each k (suc i) (x ∷ xs) p q =
      and_both (q k x (omega arith) (and_left (test k x) _ p)) (all-each (suc k) i xs (and_right (test k x) _ p) (λ j y l t. q j y (omega arith) t))

  pub all_changed : ((j : ℕ) (x : A) → test j (f j x) ≡ true) → (k : ℕ) (xs : List A) → all_from test k (each f k xs) ≡ true
  all_changed q k [] = refl
  all_changed q k (x ∷ xs) = and_both (q k x) (all_changed q (suc k) xs)

-- one turn of a loop that joins the tests
pub all-turn : {A : Type 0} (f : ℕ → A → Bool) (xs : List A) (d : A) (i : ℕ) (b ok one : Bool) → i < length xs
    → ok ≡ (b && all_to f 0 i xs) → one ≡ f i (get_or xs i d) → (ok && one) ≡ (b && all_to f 0 (i + 1) xs)
all-turn f xs d i b ok one h p q =
    let z : i ≡ 0 + i = omega arith in
    ap (λ (o : Bool). o && one) p
    ∙ and_assoc b (all_to f 0 i xs) one
    ∙ ap (λ (o : Bool). b && o) (ap (λ (o : Bool). all_to f 0 i xs && o) (q ∙ ap (λ (k : ℕ). f k (get_or xs i d)) z)
    ∙ all_more f 0 i xs d h ∙ ap (λ (k : ℕ). all_to f 0 k xs) (sym (add-one i)))

-- what stands at a place of a list after a change
module _ {A : Type 0} (d : A) where
  -- one replaced: there it is the new one, elsewhere as it was
  pub one_at : (xs : List A) (j k : ℕ) (x : A) (P : A → Type 0) → (j ≡ k → P x) → P (get_or xs k d) → P (get_or (set xs j x) k d)
  one_at xs j k x P p q = go (ℕ_discrete j k) (dec_lt k (length xs))
    where
      go : Dec (j ≡ k) → Dec (k < length xs) → P (get_or (set xs j x) k d)
      go (no ne) r = subst P (sym (get_or-set_other xs j k x d (λ e. ne (sym e)))) q
      go (yes e) (yes lt) = subst P (sym (ap (λ (i : ℕ). get_or (set xs i x) k d) e ∙ get_or-set_same xs k x d lt)) (p e)
      go (yes e) (no ge) = subst P (sym (ap (λ (i : ℕ). get_or (set xs i x) k d) e ∙ ap (λ (l : List A). get_or l k d) (set_out xs k x (omega arith)))) q

  -- so what the new one has of the old one's, each has
  pub part_kept : {B : Type 0} (f : A → B) (xs : List A) (i j : ℕ) (y : A) → f y ≡ f (get_or xs i d) → f (get_or (set xs i y) j d) ≡ f (get_or xs j d)
  part_kept f xs i j y e = one_at xs i j y (λ (x : A). f x ≡ f (get_or xs j d)) (λ q. e ∙ ap (λ (k : ℕ). f (get_or xs k d)) q) refl

  -- some changed by what their number says: each is changed, or as it was
  pub each_at : (f : ℕ → A → A) (P : A → Type 0) (b n : ℕ) (xs : List A) (k : ℕ)
      → P (f (b + k) (get_or xs k d)) → P (get_or xs k d) → P (get_or (each_to f b n xs) k d)
  each_at f P b zero xs k p q = q
  each_at f P b (suc n) [] k p q = q
  each_at f P b (suc n) (x ∷ xs) zero p q = let e : b + 0 ≡ b = omega arith in subst (λ (m : ℕ). P (f m x)) e p
  each_at f P b (suc n) (x ∷ xs) (suc k) p q =
      let e : b + suc k ≡ suc b + k = omega arith in
      each_at f P (suc b) n xs k (subst (λ (m : ℕ). P (f m (get_or xs k d))) e p) q
