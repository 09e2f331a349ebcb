-- WHAT DEMAND 3 COMPARES depends on the single bytes alone: lists that are the same byte by byte are compared as the same, and so they
-- stay with anything before and behind them.
use Prim.Native.Nat.{ℕ, suc}
use mathlib.Core.Path.{◌≡◌, refl, sym, ap, ◌∙◌}
use mathlib.Core.Bool.{Bool, true, false, cond, false≢true}
use mathlib.Core.List.{List, [], ◌∷◌, ◌++◌, flatten}
use borrow.Author.Tests.{eq-eqb}
use lib.Dec.{eqb}
use Rattle.reading.specs.Feed.{Routes, Cell, Out, nothing, pdu, dropped, start, piece, Ran, segment_ran, segments, singles, single}
use Rattle.reading.specs.Feed.{fine, Handed, complete, began, middle, finished, push, push_all, marked, compared, middle_of, drops}
use Rattle.reading.proofs.Cut.{fine-append, cut, same_bytes}

-- byte by byte
pub compared-singles : (r b : ℕ) (bs : List ℕ) (m : Bool) (os : List Out) → compared (singles r b bs m os) ≡ push_all r (b ∷ bs) (marked r m (compared os))
unfolding compared
compared-singles r b [] m os = refl
compared-singles r b (c ∷ cs) m os = ap (push r b) (compared-singles r c cs m os)

compared-single : (o : Out) (os ps : List Out) → compared os ≡ compared ps → compared (single o os) ≡ compared (o ∷ ps)
unfolding compared
compared-single nothing os ps e = e
compared-single (pdu r p) os ps e = ap (λ (hs : List Handed). complete r p ∷ hs) e
compared-single (dropped k i n) os ps e = e
compared-single (start r i n m) os ps e = ap (λ (hs : List Handed). began r i n ∷ marked r m hs) e
compared-single (piece r [] m) os ps e = ap (marked r m) e
compared-single (piece r (b ∷ bs) m) os ps e = compared-singles r b bs m os ∙ ap (λ (hs : List Handed). push_all r (b ∷ bs) (marked r m hs)) e

pub compared-fine : (os : List Out) → compared (fine os) ≡ compared os
unfolding fine
compared-fine [] = refl
compared-fine (o ∷ os) = compared-single o (fine os) os (compared-fine os)

drops-singles : (r b : ℕ) (bs : List ℕ) (m : Bool) (os : List Out) → drops (singles r b bs m os) ≡ drops os
unfolding drops
drops-singles r b [] m os = refl
drops-singles r b (c ∷ cs) m os = drops-singles r c cs m os

pub drops-fine : (os : List Out) → drops (fine os) ≡ drops os
unfolding fine drops
drops-fine [] = refl
drops-fine (nothing ∷ os) = drops-fine os
drops-fine (pdu r p ∷ os) = drops-fine os
drops-fine (dropped k i n ∷ os) = ap suc (drops-fine os)
drops-fine (start r i n m ∷ os) = drops-fine os
drops-fine (piece r [] m ∷ os) = drops-fine os
drops-fine (piece r (b ∷ bs) m ∷ os) = drops-singles r b bs m (fine os) ∙ drops-fine os

-- THE SAME BYTE BY BYTE: compared as the same, between any neighbours
pub compared_same : (a b : List Out) → fine a ≡ fine b → compared a ≡ compared b
compared_same a b e = sym (compared-fine a) ∙ ap compared e ∙ compared-fine b

pub compared_between : (x a b y : List Out) → fine a ≡ fine b → compared (x ++ (a ++ y)) ≡ compared (x ++ (b ++ y))
compared_between x a b y e =
    compared_same (x ++ (a ++ y)) (x ++ (b ++ y))
    (fine-append x (a ++ y)
    ∙ ap (λ (l : List Out). fine x ++ l) (fine-append a y ∙ ap (λ (l : List Out). l ++ fine y) e ∙ sym (fine-append b y))
    ∙ sym (fine-append x (b ++ y)))

-- A SEGMENT CUT ANYWHERE, in the middle of a piece too: the same end, the same comparison whatever came before and comes later
pub cut-to : (R : Routes) (c : Cell) (a b : List ℕ) → (segment_ran R c (a ++ b)).to ≡ (segment_ran R (segment_ran R c a).to b).to
cut-to R c a b = ap (λ (q : Ran). q.to) (cut R c a b)

pub cut-compared : (R : Routes) (c : Cell) (a b : List ℕ) (x y : List Out)
    → compared (x ++ ((segment_ran R c (a ++ b)).list ++ y))
    ≡ compared (x ++ (((segment_ran R c a).list ++ (segment_ran R (segment_ran R c a).to b).list) ++ y))
cut-compared R c a b x y =
    compared_between x (segment_ran R c (a ++ b)).list ((segment_ran R c a).list ++ (segment_ran R (segment_ran R c a).to b).list) y
    (ap (λ (q : Ran). q.list) (cut R c a b) ∙ sym (fine-append (segment_ran R c a).list (segment_ran R (segment_ran R c a).to b).list))

pub bytes-compared : (R : Routes) (c : Cell) (ss ts : List (List ℕ))
    → flatten ss ≡ flatten ts → compared (segments R c ss).list ≡ compared (segments R c ts).list
bytes-compared R c ss ts e = compared_same (segments R c ss).list (segments R c ts).list (ap (λ (q : Ran). q.list) (same_bytes R c ss ts e))

-- JOINED BYTES in front of what begins with no byte of a transfer
abbrev pub free : List Handed → Bool
free [] = true
free (complete r p ∷ hs) = true
free (began r i n ∷ hs) = true
free (middle r p ∷ hs) = false
free (finished r ∷ hs) = true

push_free : (r b : ℕ) (hs : List Handed) → free hs ≡ true → push r b hs ≡ middle r (b ∷ []) ∷ hs
push_free r b [] e = refl
push_free r b (complete s p ∷ hs) e = refl
push_free r b (began s i n ∷ hs) e = refl
push_free r b (middle s p ∷ hs) e = absurd (false≢true e)
push_free r b (finished s ∷ hs) e = refl

pub push-body : (r : ℕ) (bs : List ℕ) (hs : List Handed) → free hs ≡ true → push_all r bs hs ≡ middle_of r bs hs
push-body r [] hs e = refl
push-body r (b ∷ []) hs e = push_free r b hs e
push-body r (b ∷ c ∷ bs) hs e =
    ap (push r b) (push-body r (c ∷ bs) hs e)
    ∙ ap (λ (t : Bool). cond t (middle r (b ∷ c ∷ bs) ∷ hs) (middle r (b ∷ []) ∷ middle r (c ∷ bs) ∷ hs)) (eq-eqb r r refl)

-- two lists one after the other, where the second begins with no byte of a transfer
push-append : (r b : ℕ) (xs ys : List Handed) → free ys ≡ true → push r b (xs ++ ys) ≡ push r b xs ++ ys
push-append r b [] ys e = push_free r b ys e
push-append r b (complete s p ∷ xs) ys e = refl
push-append r b (began s i n ∷ xs) ys e = refl
push-append r b (middle s p ∷ xs) ys e = go (eqb r s)
  where
    go : (t : Bool) → cond t (middle r (b ∷ p) ∷ (xs ++ ys)) (middle r (b ∷ []) ∷ middle s p ∷ (xs ++ ys))
        ≡ cond t (middle r (b ∷ p) ∷ xs) (middle r (b ∷ []) ∷ middle s p ∷ xs) ++ ys
    go true = refl
    go false = refl
push-append r b (finished s ∷ xs) ys e = refl

push_all-append : (r : ℕ) (bs : List ℕ) (xs ys : List Handed) → free ys ≡ true → push_all r bs (xs ++ ys) ≡ push_all r bs xs ++ ys
push_all-append r [] xs ys e = refl
push_all-append r (b ∷ bs) xs ys e = ap (push r b) (push_all-append r bs xs ys e) ∙ push-append r b (push_all r bs xs) ys e

marked_append : (r : ℕ) (m : Bool) (xs ys : List Handed) → marked r m (xs ++ ys) ≡ marked r m xs ++ ys
marked_append r true xs ys = refl
marked_append r false xs ys = refl

pub compared-append : (a b : List Out) → free (compared b) ≡ true → compared (a ++ b) ≡ compared a ++ compared b
unfolding compared
compared-append [] b e = refl
compared-append (nothing ∷ a) b e = compared-append a b e
compared-append (pdu r p ∷ a) b e = ap (λ (hs : List Handed). complete r p ∷ hs) (compared-append a b e)
compared-append (dropped k i n ∷ a) b e = compared-append a b e
compared-append (start r i n m ∷ a) b e =
    ap (λ (hs : List Handed). began r i n ∷ hs) (ap (marked r m) (compared-append a b e) ∙ marked_append r m (compared a) (compared b))
compared-append (piece r p m ∷ a) b e =
    ap (push_all r p) (ap (marked r m) (compared-append a b e) ∙ marked_append r m (compared a) (compared b))
    ∙ push_all-append r p (marked r m (compared a)) (compared b) e

pub free_append : (xs ys : List Handed) → free xs ≡ true → free ys ≡ true → free (xs ++ ys) ≡ true
free_append [] ys e f = f
free_append (complete r p ∷ xs) ys e f = refl
free_append (began r i n ∷ xs) ys e f = refl
free_append (middle r p ∷ xs) ys e f = e
free_append (finished r ∷ xs) ys e f = refl
