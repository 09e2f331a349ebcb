-- A step of the walk, and the walk to its end: every step moves forward and not past the end; at most as many steps as bytes
-- reach it; the list of a whole walk is the list by lengths.
use Prim.Native.Nat.{ℕ, zero, suc, ◌+◌, ◌-◌, ◌≤◌, ◌<◌}
use mathlib.Core.Path.{◌≡◌, refl, sym, ap, ap₂, ◌∙◌}
use mathlib.Core.List.{List, [], ◌∷◌, ◌++◌, map}
use native.Mathlib.Omega.{arith}
use native.Mathlib.Decide.{dec_lt}
use native.Mathlib.Nat.{add_assoc}
use lib.ListN.{length, take, drop, length-drop}
use lib.Seq.{drop-drop, length-take-le}
use Rattle.reading.specs.declared.Decision.{Decision}
use Rattle.reading.specs.declared.Decision.TheVariants.{Accept, Refuse, Transfer}
use Rattle.reading.specs.Feed.{Routes, Out, pdu, dropped}
use Rattle.frame.specs.Frame.{Sent}
use Rattle.reading_lengths.specs.Head.{Head, ended, short, beyond, whole, head_of}
use Rattle.reading_lengths.specs.Split.{sent, Split, split_by, splits}
use Rattle.reading_lengths.proofs.Heads.{View, none_left, at-short, at-beyond, at-whole, view, head-end, whole-fits}
use Rattle.reading_lengths.proofs.Splits.{split_enough}
use Rattle.wire.proofs.Part.{part_to_end}
use Rattle.reading.specs.declared.DropReason.TheVariants.{CutShort}
use Rattle.reading_walk.specs.Walk.{the_end, Walked, walked, whole_at, walk_step, walk_at, Forward}
use Rattle.reading_walk.specs.Walk.{outs_told, walks, place_after_steps, judge, left_over, list_of}

-- a whole PDU stands within the datagram
pub whole-place : (d : List ℕ) (p i n : ℕ) → p ≤ length d → head_of (take (length d - p) (drop p d)) ≡ whole i n → p + 8 + n ≤ length d
whole-place d p i n le e = omega (arith, whole-fits (drop p d) i n (ap head_of (sym (part_to_end d p)) ∙ e), length-drop p d)

whole-next : (q : Decision) (p i n : ℕ) → (whole_at q p i n).next ≡ p + 8 + n
whole-next (Accept r) p i n = refl
whole-next (Refuse k) p i n = refl
whole-next (Transfer r) p i n = refl

-- EVERY STEP MOVES FORWARD, and not past the end
pub forward : (R : Routes) (d : List ℕ) (p : ℕ) → p < length d → Forward (length d) p (walk_at R d p).next
unfolding walk_at
forward R d p lt = go (head_of (drop p d)) (view (drop p d))
  where
    go : (h : Head) → View (drop p d) h → Forward (length d) p (walk_step R (length d) p h).next
    go ended (none_left e) = absurd (omega (arith, length-drop p d))
    go short (at-short a b) = record { more = lt; within = omega arith }
    go (beyond _ _) (at-beyond a b) = record { more = lt; within = omega arith }
    go (whole i n) (at-whole a) = rw (whole-next (R i n) p i n) (record { more = omega arith; within = omega (arith, length-drop p d) })

-- at the end it answers the end, as often as asked, and the place stays
pub at_last : (R : Routes) (d : List ℕ) → walk_at R d (length d) ≡ walked the_end (length d)
unfolding walk_at
at_last R d = ap (walk_step R (length d) (length d)) (sym (head-end (drop (length d) d) (omega (arith, length-drop (length d) d))))

pub next-within : (R : Routes) (d : List ℕ) (p : ℕ) → p ≤ length d → (walk_at R d p).next ≤ length d
next-within R d p le = go (dec_lt p (length d))
  where
    go : Dec (p < length d) → (walk_at R d p).next ≤ length d
    go (yes lt) = (forward R d p lt).within
    go (no nlt) =
        let e : p ≡ length d = omega arith in
        let q : (walk_at R d p).next ≡ length d = ap (λ (x : ℕ). (walk_at R d x).next) e ∙ ap (λ (w : Walked). w.next) (at_last R d) in
        omega arith

-- AT MOST AS MANY STEPS AS BYTES reach the end, and one more answers it
pub reaches : (R : Routes) (f : ℕ) (d : List ℕ) (p : ℕ) → p ≤ length d → length d ≤ p + f → place_after_steps R f d p ≡ length d
unfolding place_after_steps
reaches R zero d p le h = omega arith
reaches R (suc f) d p le h = go (dec_lt p (length d)) (reaches R f d (walk_at R d p).next)
  where
    go : Dec (p < length d) → ((walk_at R d p).next ≤ length d → length d ≤ (walk_at R d p).next + f → place_after_steps R f d (walk_at R d p).next ≡ length d)
        → place_after_steps R f d (walk_at R d p).next ≡ length d
    go (yes lt) more = let w : Forward (length d) p (walk_at R d p).next = forward R d p lt in more w.within (omega (arith, w.more))
    go (no nlt) more =
        let e : p ≡ length d = omega arith in
        let q : (walk_at R d p).next ≡ length d = ap (λ (x : ℕ). (walk_at R d x).next) e ∙ ap (λ (w : Walked). w.next) (at_last R d) in
        more (omega arith) (omega arith)

pub steps_end : (R : Routes) (d : List ℕ) → walk_at R d (place_after_steps R (length d) d 0) ≡ walked the_end (length d)
steps_end R d = ap (walk_at R d) (reaches R (length d) d 0 (omega arith) (omega arith)) ∙ at_last R d

walks-end : (R : Routes) (f : ℕ) (d : List ℕ) → walks R f d (length d) ≡ []
unfolding walks
walks-end R zero d = refl
walks-end R (suc f) d = rw (at_last R d)

-- THE LIST OF A WALK from any place is the list by lengths of what stands there
abbrev list_by : Routes → Split → List Out
list_by R s = map (λ (x : Sent). judge (R x.id (length x.body)) x) s.pdus ++ left_over (head_of s.rest)

walks-splits : (R : Routes) (f : ℕ) (d : List ℕ) (p : ℕ) → p ≤ length d → length d ≤ p + f → walks R f d p ≡ list_by R (splits f (drop p d))
unfolding walks splits walk_at
walks-splits R zero d p le h = sym (ap left_over (sym (head-end (drop p d) (omega (arith, length-drop p d)))))
walks-splits R (suc f) d p le h = go (λ q a b. walks-splits R f d q a b) (head_of (drop p d)) (view (drop p d)) refl
  where
    l : List ℕ
    l = drop p d

    both : ((q : ℕ) → q ≤ length d → length d ≤ q + f → walks R f d q ≡ list_by R (splits f (drop q d)))
        → (q : Decision) (i n : ℕ) → p + 8 + n ≤ length d → R i n ≡ q
        → outs_told d (whole_at q p i n).found (walks R f d (whole_at q p i n).next)
        ≡ judge (R i (length (take n (drop 8 l)))) (sent i (take n (drop 8 l))) ∷ list_by R (splits f (drop (8 + n) l))
    both more q i n w e =
        let size : length (take n (drop 8 l)) ≡ n = length-take-le n (drop 8 l) (omega (arith, length-drop 8 l, length-drop p d)) in
        let later : walks R f d (p + 8 + n) ≡ list_by R (splits f (drop (8 + n) l)) =
        more (p + 8 + n) w (omega arith)
        ∙ ap (λ (x : List ℕ). list_by R (splits f x)) (ap (λ (x : ℕ). drop x d) (add_assoc p 8 n) ∙ sym (drop-drop (8 + n) p d)) in
        by q e size later
      where
        by : (q : Decision) → R i n ≡ q → length (take n (drop 8 l)) ≡ n → walks R f d (p + 8 + n) ≡ list_by R (splits f (drop (8 + n) l))
            → outs_told d (whole_at q p i n).found (walks R f d (whole_at q p i n).next)
            ≡ judge (R i (length (take n (drop 8 l)))) (sent i (take n (drop 8 l))) ∷ list_by R (splits f (drop (8 + n) l))
        by (Accept r) e size later =
            ap₂ (λ (x : List ℕ) (y : List Out). pdu r (take n x) ∷ y) (sym (drop-drop 8 p d)) later
            ∙ sym (ap (λ (o : Decision). judge o (sent i (take n (drop 8 l))) ∷ list_by R (splits f (drop (8 + n) l))) (ap (R i) size ∙ e))
        by (Transfer r) e size later =
            ap₂ (λ (x : List ℕ) (y : List Out). pdu r (take n x) ∷ y) (sym (drop-drop 8 p d)) later
            ∙ sym (ap (λ (o : Decision). judge o (sent i (take n (drop 8 l))) ∷ list_by R (splits f (drop (8 + n) l))) (ap (R i) size ∙ e))
        by (Refuse k) e size later =
            ap₂ (λ (x : ℕ) (y : List Out). dropped k i x ∷ y) (sym size) later
            ∙ sym (ap (λ (o : Decision). judge o (sent i (take n (drop 8 l))) ∷ list_by R (splits f (drop (8 + n) l))) (ap (R i) size ∙ e))

    go : ((q : ℕ) → q ≤ length d → length d ≤ q + f → walks R f d q ≡ list_by R (splits f (drop q d))) → (h : Head) → View l h → head_of l ≡ h
        → outs_told d (walk_step R (length d) p h).found (walks R f d (walk_step R (length d) p h).next) ≡ list_by R (split_by (splits f) l h)
    go more ended v e = sym (ap left_over e)
    go more short v e = ap (λ (y : List Out). dropped CutShort 0 0 ∷ y) (walks-end R f d) ∙ sym (ap left_over e)
    go more (beyond i n) v e = ap (λ (y : List Out). dropped CutShort i n ∷ y) (walks-end R f d) ∙ sym (ap left_over e)
    go more (whole i n) (at-whole w) e = both more (R i n) i n (omega (arith, length-drop p d)) refl

pub walk-list : (R : Routes) (f : ℕ) (d : List ℕ) (p : ℕ) → p ≤ length d → length d ≤ p + f → walks R f d p ≡ list_of R (drop p d)
unfolding list_of
walk-list R f d p le h = walks-splits R f d p le h ∙ ap (list_by R) (split_enough f (drop p d) (omega (arith, length-drop p d)))
