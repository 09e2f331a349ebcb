-- What stands at the front of bytes, from what is known of them, and the other way round.
use Prim.Native.Nat.{ℕ, zero, suc, ◌+◌, ◌-◌, ◌≤◌, ◌<◌}
use mathlib.Core.Path.{◌≡◌, refl}
use mathlib.Core.Bool.{Bool, true, false, cond}
use mathlib.Core.List.{List}
use native.Mathlib.Omega.{arith}
use borrow.Author.Tests.{ltb-true, ltb-false, eqb-true, eqb-false, lt-ltb, le-ltb, eq-eqb, ne_eqb}
use lib.ListN.{length}
use lib.Dec.{ltb, eqb}
use Rattle.wire.specs.Be.{be}
use Rattle.reading_lengths.specs.Head.{Head, ended, short, beyond, whole, head_of}

-- what each head says of the bytes
pub data View (l : List ℕ) : Head → Type 0 where
  none_left : length l ≡ 0 → View l ended
  at-short : 0 < length l → length l < 8 → View l short
  at-beyond : 8 ≤ length l → length l < 8 + be 4 l 4 → View l (beyond (be 4 l 0) (be 4 l 4))
  at-whole : 8 + be 4 l 4 ≤ length l → View l (whole (be 4 l 0) (be 4 l 4))

pub view : (l : List ℕ) → View l (head_of l)
unfolding head_of
view l = none (eqb (length l) 0) refl
  where
    eight : (b : Bool) → 8 ≤ length l → ltb (length l - 8) (be 4 l 4) ≡ b → View l (cond b (beyond (be 4 l 0) (be 4 l 4)) (whole (be 4 l 0) (be 4 l 4)))
    eight true h e = at-beyond h (omega (arith, ltb-true (length l - 8) (be 4 l 4) e))
    eight false h e = at-whole (omega (arith, ltb-false (length l - 8) (be 4 l 4) e))

    some : (b : Bool) → 0 < length l → ltb (length l) 8 ≡ b
        → View l (cond b short (cond (ltb (length l - 8) (be 4 l 4)) (beyond (be 4 l 0) (be 4 l 4)) (whole (be 4 l 0) (be 4 l 4))))
    some true h e = at-short h (ltb-true _ _ e)
    some false h e = eight (ltb (length l - 8) (be 4 l 4)) (ltb-false _ _ e) refl

    positive : (n : ℕ) → (n ≡ 0 → ⊥) → 0 < n
    positive zero h = absurd (h refl)
    positive (suc n) h = omega arith

    none : (b : Bool) → eqb (length l) 0 ≡ b
        → View l (cond b ended (cond (ltb (length l) 8) short
        (cond (ltb (length l - 8) (be 4 l 4)) (beyond (be 4 l 0) (be 4 l 4)) (whole (be 4 l 0) (be 4 l 4)))))
    none true e = none_left (eqb-true _ _ e)
    none false e = some (ltb (length l) 8) (positive (length l) (eqb-false _ _ e)) refl

-- the head, from what is known of the bytes
pub head-end : (l : List ℕ) → length l ≡ 0 → ended ≡ head_of l
unfolding head_of
head-end l e = simp (eq-eqb _ _ e)

pub head-short : (l : List ℕ) → 0 < length l → length l < 8 → short ≡ head_of l
unfolding head_of
head-short l p h = simp (ne_eqb (length l) 0 (λ e. omega arith), lt-ltb _ _ h)

pub head-beyond : (l : List ℕ) (i n : ℕ) → 8 ≤ length l → i ≡ be 4 l 0 → n ≡ be 4 l 4 → length l - 8 < n → beyond i n ≡ head_of l
unfolding head_of
head-beyond l i n h ei en lt =
    rw (ei, en) (simp (ne_eqb (length l) 0 (λ e. omega arith), le-ltb (length l) 8 h, lt-ltb (length l - 8) (be 4 l 4) (omega arith)))

pub head-whole : (l : List ℕ) (i n : ℕ) → 8 ≤ length l → i ≡ be 4 l 0 → n ≡ be 4 l 4 → n ≤ length l - 8 → whole i n ≡ head_of l
unfolding head_of
head-whole l i n h ei en le =
    rw (ei, en) (simp (ne_eqb (length l) 0 (λ e. omega arith), le-ltb (length l) 8 h, le-ltb (length l - 8) (be 4 l 4) (omega arith)))

-- a whole PDU's payload stands in the bytes
pub whole-fits : (l : List ℕ) (i n : ℕ) → head_of l ≡ whole i n → 8 + n ≤ length l
whole-fits l i n e = go (head_of l) (view l) e
  where
    go : (h : Head) → View l h → h ≡ whole i n → 8 + n ≤ length l
    go ended (none_left p) q = let z : ◌≡◌ {A = ℕ} 0 1 = cc in absurd (omega arith)
    go short (at-short p p') q = let z : ◌≡◌ {A = ℕ} 0 1 = cc in absurd (omega arith)
    go (beyond _ _) (at-beyond p p') q = let z : ◌≡◌ {A = ℕ} 0 1 = cc in absurd (omega arith)
    go (whole _ _) (at-whole p) q = let z : be 4 l 4 ≡ n = cc in omega arith
