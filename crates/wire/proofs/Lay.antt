-- Laws of bytes laid over others.
use Prim.Native.Nat.{ℕ, suc, ◌+◌, ◌-◌, ◌≤◌, ◌<◌}
use mathlib.Core.Path.{◌≡◌, refl, sym, ap, ap₂, ◌∙◌}
use mathlib.Core.Bool.{Bool, true, false, cond}
use mathlib.Core.List.{List, [], ◌∷◌, ◌++◌, append-nil, append_assoc}
use native.Mathlib.Omega.{arith}
use lib.Dec.{leb}
use lib.ListN.{length, take, drop, set, length-append, length-drop, take-append-drop}
use lib.Seq.{take-append-le, drop-append-le, take-add, drop_at, paste, take-length, take_at, length-take-le, drop-append-add, drop-drop, set_split, append_snoc}
use borrow.Author.Tests.{le-leb, lt-leb, leb-true}
use Rattle.wire.specs.Lay.{lay}

module _ (d : List ℕ) (at : ℕ) (x : List ℕ) where
  pub lay-fits : at + length x ≤ length d → lay d at x ≡ take at d ++ x ++ drop (at + length x) d
  unfolding lay
  lay-fits h = rw (le-leb (at + length x) (length d) h)

  pub lay-out : length d < at + length x → lay d at x ≡ d
  unfolding lay
  lay-out h = rw (lt-leb (at + length x) (length d) h)

  -- a law that holds either way holds of both
  lay_cases : (P : List ℕ → Type 0) → (at + length x ≤ length d → P (take at d ++ x ++ drop (at + length x) d)) → P d → P (lay d at x)
  unfolding lay
  lay_cases P yes₁ no₁ = go (leb (at + length x) (length d)) refl
    where
      go : (b : Bool) → leb (at + length x) (length d) ≡ b → P (cond b (take at d ++ x ++ drop (at + length x) d) d)
      go true e = yes₁ (leb-true (at + length x) (length d) e)
      go false e = no₁

  front_length : at + length x ≤ length d → length (take at d ++ x) ≡ at + length x
  front_length h = length-append (take at d) x ∙ ap (λ (k : ℕ). k + length x) (length-take-le at d (omega arith))

  pub lay-length : length (lay d at x) ≡ length d
  lay-length =
      lay_cases (λ (l : List ℕ). length l ≡ length d)
      (λ h. length-append (take at d ++ x) (drop (at + length x) d) ∙ omega (arith, front_length h, length-drop (at + length x) d))
      refl

  -- a part before what is laid
  pub lay-before : (a b : ℕ) → a + b ≤ at → take b (drop a (lay d at x)) ≡ take b (drop a d)
  lay-before a b u =
      lay_cases (λ (l : List ℕ). take b (drop a l) ≡ take b (drop a d))
      (λ h.
      let n : length (take at d) ≡ at = length-take-le at d (omega arith) in
      ap (λ (z : List ℕ). take b (drop a z)) (append_assoc (take at d) x (drop (at + length x) d))
      ∙ front (take at d) (x ++ drop (at + length x) d) (omega arith)
      ∙ sym (front (take at d) (drop at d) (omega arith))
      ∙ ap (λ (z : List ℕ). take b (drop a z)) (take-append-drop at d))
      refl
    where
      front : (p q : List ℕ) → a + b ≤ length p → take b (drop a (p ++ q)) ≡ take b (drop a p)
      front p q h =
          ap (take b) (drop-append-le a p q (omega arith))
          ∙ take-append-le b (drop a p) q (omega (arith, length-drop a p))

  -- a part after it
  pub lay-after : (a : ℕ) → at + length x ≤ a → drop a (lay d at x) ≡ drop a d
  lay-after a u =
      lay_cases (λ (l : List ℕ). drop a l ≡ drop a d)
      (λ h.
      let n = front_length h in
      let q : a ≡ length (take at d ++ x) + (a - (at + length x)) = omega (arith, n) in
      let r : at + length x + (a - (at + length x)) ≡ a = omega arith in
      ap (λ (k : ℕ). drop k (take at d ++ x ++ drop (at + length x) d)) q
      ∙ drop-append-add (take at d ++ x) (drop (at + length x) d) (a - (at + length x))
      ∙ drop-drop (a - (at + length x)) (at + length x) d
      ∙ ap (λ (k : ℕ). drop k d) r)
      refl

-- two runs laid one after the other are one run
pub lay-lay : (d : List ℕ) (at m : ℕ) (x y : List ℕ) → m ≡ at + length x → m + length y ≤ length d → lay (lay d at x) m y ≡ lay d at (x ++ y)
lay-lay d at m x y e h =
    let X : List ℕ = take at d ++ x ++ drop (at + length x) d in
    let n : length (take at d ++ x) ≡ at + length x = front_length d at x (omega arith) in
    let lx : lay d at x ≡ take at d ++ x ++ drop (at + length x) d = lay-fits d at x (omega arith) in
    let long : length (lay d at x) ≡ length d = lay-length d at x in
    let f : take m (take at d ++ x ++ drop (at + length x) d) ≡ take at d ++ x = take_at (take at d ++ x) (drop (at + length x) d) m (n ∙ sym e) in
    let q : m + length y ≡ length (take at d ++ x) + length y = omega arith in
    let r : at + length x + length y ≡ at + length (x ++ y) = omega (arith, length-append x y) in
    let g : drop (m + length y) (take at d ++ x ++ drop (at + length x) d) ≡ drop (at + length (x ++ y)) d =
    ap (λ (k : ℕ). drop k (take at d ++ x ++ drop (at + length x) d)) q
    ∙ drop-append-add (take at d ++ x) (drop (at + length x) d) (length y)
    ∙ drop-drop (length y) (at + length x) d
    ∙ ap (λ (k : ℕ). drop k d) r in
    lay-fits (lay d at x) m y (omega arith)
    ∙ ap (λ (l : List ℕ). take m l ++ y ++ drop (m + length y) l) lx
    ∙ ap₂ (λ (a b : List ℕ). a ++ y ++ b) f g
    ∙ ap (λ (a : List ℕ). a ++ drop (at + length (x ++ y)) d) (append_assoc (take at d) x y)
    ∙ sym (lay-fits d at (x ++ y) (omega arith))

-- what is laid, with the part from base on that ends where it begins
pub lay-held : (d : List ℕ) (base used : ℕ) (x : List ℕ) → base + used + length x ≤ length d
    → take (used + length x) (drop base (lay d (base + used) x)) ≡ take used (drop base d) ++ x
lay-held d base used x h =
    let n : length (take base d) ≡ base = length-take-le base d (omega arith) in
    let m : length (take used (drop base d)) ≡ used = length-take-le used (drop base d) (omega (arith, length-drop base d)) in
    let e : lay d (base + used) x ≡ take base d ++ (take used (drop base d) ++ x ++ drop (base + used + length x) d) =
    lay-fits d (base + used) x h ∙ ap (λ (z : List ℕ). z ++ x ++ drop (base + used + length x) d) (take-add base used d) ∙ simp append_assoc in
    ap (λ (z : List ℕ). take (used + length x) (drop base z)) e
    ∙ ap (take (used + length x)) (drop_at (take base d) (take used (drop base d) ++ x ++ drop (base + used + length x) d) base n)
    ∙ take_at (take used (drop base d) ++ x) (drop (base + used + length x) d) (used + length x)
    (length-append (take used (drop base d)) x ∙ ap (λ (k : ℕ). k + length x) m)

-- what is laid, by itself
pub lay-own : (d : List ℕ) (at : ℕ) (x : List ℕ) → at + length x ≤ length d → take (length x) (drop at (lay d at x)) ≡ x
lay-own d at x h =
    let z : at ≡ at + 0 = omega arith in
    let n : length x ≡ 0 + length x = omega arith in
    ap₂ (λ (k m : ℕ). take k (drop at (lay d m x))) n z ∙ lay-held d at 0 x (omega arith)

-- no bytes
pub lay-nothing : (d : List ℕ) (at : ℕ) → lay d at [] ≡ d
lay-nothing d at =
    let z : at + 0 ≡ at = omega arith in
    lay_cases d at [] (λ (l : List ℕ). l ≡ d) (λ h. ap₂ (λ (a : List ℕ) (k : ℕ). a ++ drop k d) (append-nil (take at d)) z ∙ take-append-drop at d) refl

-- one byte
pub lay-one : (d : List ℕ) (at v : ℕ) → at < length d → set d at v ≡ lay d at (v ∷ [])
lay-one d at v h =
    set_split d at v h ∙ sym (append_snoc (take at d) v (drop (suc at) d)) ∙ swap ∙ sym (lay-fits d at (v ∷ []) (omega arith))
  where
    swap : take at d ++ (v ∷ []) ++ drop (suc at) d ≡ take at d ++ (v ∷ []) ++ drop (at + 1) d
    swap = let e : suc at ≡ at + 1 = omega arith in ap (λ (k : ℕ). take at d ++ (v ∷ []) ++ drop k d) e

-- all of s, copied a byte at a time
pub lay_copied : (d : List ℕ) (at : ℕ) (s : List ℕ) → at + length s ≤ length d → paste d at s (length s) ≡ lay d at s
lay_copied d at s h = ap (λ (t : List ℕ). take at d ++ t ++ drop (at + length s) d) (take-length s) ∙ sym (lay-fits d at s h)
