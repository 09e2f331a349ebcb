-- WHAT PAIRS OF WORDS DO (R18.3 to R18.5), for words of any width: one pair after the other is one pair, in whatever order that is put together; a bit
-- forced twice is as the last one forces it; different bits may change places; and what a pair does from every start tells it.
use Prim.Native.Nat.{ℕ, ◌<◌, ◌^◌}
use mathlib.Core.Path.{◌≡◌, refl, sym, ap, ap₂, ◌∙◌}
use mathlib.Core.Bool.{Bool, true, false, cond, ◌&&◌, ◌||◌}
use lib.Bits.{bit_or, bit_xor, or_zero_r, xor_zero_r, or_lt, xor_lt}
use lib.Dec.{ltb}
use lib.Pow.{pow-lt}
use native.Mathlib.Omega.{arith}
use borrow.Author.Tests.{eqb-true, eq-eqb, ltb-true}
use Rattle.connection.specs.Connection.{worth, switch_of}
use Rattle.lists.proofs.Both.{impossible}
use Rattle.sheet.specs.declared.Pair.{Pair}
use Rattle.sheet.specs.Force.{without, force_of, force_then, force_none, force_one, never_twice}
use Rattle.sheet.proofs.Lit.{lit, lit_or, lit_and, lit_without, lit_zero, same_word, worth-only}

-- a bit forced: off, or else on, or else as it was
abbrev forced : Bool → Bool → Bool → Bool
forced off on w = cond off false (cond on true w)

or_cond : (x y : Bool) → (x || y) ≡ cond y true x
or_cond true true = refl
or_cond true false = refl
or_cond false true = refl
or_cond false false = refl

lit_force : (k : ℕ) (p : Pair) (w : ℕ) → lit k (force_of p w) ≡ forced (lit k p.off) (lit k p.on) (lit k w)
unfolding force_of
lit_force k p w = lit_without k (bit_or w p.on) p.off ∙ ap (cond (lit k p.off) false) (lit_or k w p.on ∙ or_cond (lit k w) (lit k p.on))

module _ (k : ℕ) (p q : Pair) where
  lit_on : lit k (force_then p q).on ≡ forced (lit k q.off) (lit k q.on) (lit k p.on)
  unfolding force_then
  lit_on = lit_force k q p.on

  lit_off : lit k (force_then p q).off ≡ cond (lit k q.off) true (cond (lit k q.on) false (lit k p.off))
  unfolding force_then
  lit_off =
      lit_or k (without p.off q.on) q.off ∙ or_cond (lit k (without p.off q.on)) (lit k q.off)
      ∙ ap (cond (lit k q.off) true) (lit_without k p.off q.on)

same_pair : (p q : Pair) → ((k : ℕ) → lit k p.on ≡ lit k q.on) → ((k : ℕ) → lit k p.off ≡ lit k q.off) → p ≡ q
same_pair p q on off = ap₂ (λ (x y : ℕ). record { on = x; off = y }) (same_word p.on q.on on) (same_word p.off q.off off)

-- R18.4: one pair after another does what one does after the other
pub then_force : (p q : Pair) (w : ℕ) → force_of (force_then p q) w ≡ force_of q (force_of p w)
then_force p q w = same_word _ _ (λ k. lit_force k (force_then p q) w ∙ ap₂ (λ (x y : Bool). forced x y (lit k w)) (lit_off k p q) (lit_on k p q)
    ∙ go (lit k q.off) (lit k q.on) _ _ _ ∙ sym (lit_force k q (force_of p w) ∙ ap (forced (lit k q.off) (lit k q.on)) (lit_force k p w)))
  where
    go : (d c b a w : Bool) → forced (cond d true (cond c false b)) (forced d c a) w ≡ forced d c (forced b a w)
    go true c b a w = refl
    go false true b a w = refl
    go false false b a w = refl

-- R18.4: in whatever order three are put together
pub then_assoc : (p q r : Pair) → force_then (force_then p q) r ≡ force_then p (force_then q r)
then_assoc p q r =
    same_pair _ _
    (λ k. lit_on k (force_then p q) r ∙ ap (forced (lit k r.off) (lit k r.on)) (lit_on k p q) ∙ on (lit k r.off) (lit k r.on) _ _ _
    ∙ sym (lit_on k p (force_then q r) ∙ ap₂ (λ (x y : Bool). forced x y (lit k p.on)) (lit_off k q r) (lit_on k q r)))
    (λ k. lit_off k (force_then p q) r ∙ ap (λ (x : Bool). cond (lit k r.off) true (cond (lit k r.on) false x)) (lit_off k p q)
    ∙ off (lit k r.off) (lit k r.on) _ _ _
    ∙ sym (lit_off k p (force_then q r) ∙ ap₂ (λ (x y : Bool). cond x true (cond y false (lit k p.off))) (lit_off k q r) (lit_on k q r)))
  where
    on : (f e d c a : Bool) → forced f e (forced d c a) ≡ forced (cond f true (cond e false d)) (forced f e c) a
    on true e d c a = refl
    on false true d c a = refl
    on false false d c a = refl

    off : (f e d c b : Bool) → cond f true (cond e false (cond d true (cond c false b)))
        ≡ cond (cond f true (cond e false d)) true (cond (forced f e c) false b)
    off true e d c b = refl
    off false true d c b = refl
    off false false d c b = refl

-- R18.5: no bit in both
abbrev pub Apart : Pair → Type 0
Apart p = (k : ℕ) → (lit k p.on && lit k p.off) ≡ false

pub apart_from : (i : ℕ) (p : Pair) → never_twice i p ≡ true → Apart p
apart_from i p e k = sym (lit_and k p.on p.off) ∙ ap (lit k) (eqb-true _ _ e) ∙ lit_zero k

pub apart-to : (i : ℕ) (p : Pair) → Apart p → never_twice i p ≡ true
apart-to i p h = eq-eqb _ _ (same_word _ _ (λ k. lit_and k p.on p.off ∙ h k ∙ sym (lit_zero k)))

pub then_apart : (p q : Pair) → Apart p → Apart q → Apart (force_then p q)
then_apart p q g h k = ap₂ (λ (x y : Bool). x && y) (lit_on k p q) (lit_off k p q) ∙ go (lit k q.off) (lit k q.on) _ _ (h k) (g k)
  where
    go : (d c b a : Bool) → (c && d) ≡ false → (a && b) ≡ false → (forced d c a && cond d true (cond c false b)) ≡ false
    go true c b a p q = refl
    go false true b a p q = refl
    go false false b a p q = q

pub none_apart : Apart force_none
none_apart k = ap (λ (x : Bool). x && lit k 0) (lit_zero k)

-- from no bit, where none is in both, the bits forced on
bare : (b a : Bool) → (a && b) ≡ false → forced b a false ≡ a
bare true true e = sym e
bare true false e = refl
bare false true e = refl
bare false false e = refl

-- R18.4: nothing forced does nothing, before a pair and behind it
pub none_force : (w : ℕ) → force_of force_none w ≡ w
none_force w = same_word _ _ (λ k. lit_force k force_none w ∙ ap (λ (x : Bool). forced x x (lit k w)) (lit_zero k))

pub then_none : (p : Pair) → force_then p force_none ≡ p
then_none p =
    same_pair _ _ (λ k. lit_on k p force_none ∙ ap (λ (x : Bool). forced x x (lit k p.on)) (lit_zero k))
    (λ k. lit_off k p force_none ∙ ap (λ (x : Bool). cond x true (cond x false (lit k p.off))) (lit_zero k))

pub none_then : (p : Pair) → Apart p → force_then force_none p ≡ p
none_then p h =
    same_pair _ _ (λ k. lit_on k force_none p ∙ ap (forced (lit k p.off) (lit k p.on)) (lit_zero k) ∙ bare (lit k p.off) (lit k p.on) (h k))
    (λ k. lit_off k force_none p ∙ ap (λ (x : Bool). cond (lit k p.off) true (cond (lit k p.on) false x)) (lit_zero k)
    ∙ off (lit k p.off) (lit k p.on))
  where
    off : (b a : Bool) → cond b true (cond a false false) ≡ b
    off true a = refl
    off false true = refl
    off false false = refl

-- R18.3: the pair of one switch does what the switch does
pub one_force : (n : ℕ) (on : Bool) (w : ℕ) → force_of (force_one n on) w ≡ switch_of n on w
unfolding force_of force_one switch_of
one_force n true w = xor_zero_r _ ∙ or_zero_r _
one_force n false w = ap (λ (x : ℕ). bit_xor (bit_or x (worth n)) (worth n)) (or_zero_r w)

worth_width : (n : ℕ) → worth n < 2 ^ 32
unfolding worth
worth_width n = go (ltb n 32) refl
  where
    go : (b : Bool) → ltb n 32 ≡ b → cond b (2 ^ n) 0 < 2 ^ 32
    go true e = pow-lt (ltb-true n 32 e)
    go false e = omega arith

-- its bits: those of the switch's worth, on or off
module _ (k n : ℕ) where
  one_on : (b : Bool) → lit k (force_one n b).on ≡ cond b (lit k (worth n)) false
  unfolding force_one
  one_on true = refl
  one_on false = lit_zero k

  one-off : (b : Bool) → lit k (force_one n b).off ≡ cond b false (lit k (worth n))
  unfolding force_one
  one-off true = lit_zero k
  one-off false = refl

pub one_apart : (n : ℕ) (b : Bool) → Apart (force_one n b)
one_apart n b k = ap₂ (λ (x y : Bool). x && y) (one_on k n b) (one-off k n b) ∙ go b (lit k (worth n))
  where
    go : (b e : Bool) → (cond b e false && cond b false e) ≡ false
    go true true = refl
    go true false = refl
    go false e = refl

-- R18.8: the same switch twice is the last one
pub one-twice : (n : ℕ) (a b : Bool) → force_then (force_one n a) (force_one n b) ≡ force_one n b
one-twice n a b =
    same_pair _ _
    (λ k. lit_on k (force_one n a) (force_one n b) ∙ ap (λ (x : Bool). forced x (lit k (force_one n b).on) (lit k (force_one n a).on)) (one-off k n b)
    ∙ ap₂ (λ (x y : Bool). forced (cond b false (lit k (worth n))) x y) (one_on k n b) (one_on k n a) ∙ on a b (lit k (worth n)) ∙ sym (one_on k n b))
    (λ k. lit_off k (force_one n a) (force_one n b) ∙ ap (λ (x : Bool). cond x true (cond (lit k (force_one n b).on) false (lit k (force_one n a).off)))
    (one-off k n b)
    ∙ ap₂ (λ (x y : Bool). cond (cond b false (lit k (worth n))) true (cond x false y)) (one_on k n b) (one-off k n a) ∙ off a b (lit k (worth n))
    ∙ sym (one-off k n b))
  where
    on : (a b e : Bool) → forced (cond b false e) (cond b e false) (cond a e false) ≡ cond b e false
    on a true true = refl
    on true true false = refl
    on false true false = refl
    on a false true = refl
    on true false false = refl
    on false false false = refl

    off : (a b e : Bool) → cond (cond b false e) true (cond (cond b e false) false (cond a false e)) ≡ cond b false e
    off a true true = refl
    off true true false = refl
    off false true false = refl
    off a false true = refl
    off true false false = refl
    off false false false = refl

-- R18.8: different switches may change places
pub one-swap : (n m : ℕ) (a b : Bool) → (n ≡ m → ⊥) → force_then (force_one n a) (force_one m b) ≡ force_then (force_one m b) (force_one n a)
one-swap n m a b ne =
    same_pair _ _ (λ k. on-is k n m a b ∙ on a b (lit k (worth n)) (lit k (worth m)) (never k (lit k (worth n)) (lit k (worth m)) refl refl)
    ∙ sym (on-is k m n b a))
    (λ k. off-is k n m a b ∙ off a b (lit k (worth n)) (lit k (worth m)) (never k (lit k (worth n)) (lit k (worth m)) refl refl) ∙ sym (off-is k m n b a))
  where
    on-is : (k n m : ℕ) (a b : Bool) → lit k (force_then (force_one n a) (force_one m b)).on
        ≡ forced (cond b false (lit k (worth m))) (cond b (lit k (worth m)) false) (cond a (lit k (worth n)) false)
    on-is k n m a b =
        lit_on k (force_one n a) (force_one m b) ∙ ap (λ (x : Bool). forced x (lit k (force_one m b).on) (lit k (force_one n a).on)) (one-off k m b)
        ∙ ap₂ (λ (x y : Bool). forced (cond b false (lit k (worth m))) x y) (one_on k m b) (one_on k n a)

    off-is : (k n m : ℕ) (a b : Bool) → lit k (force_then (force_one n a) (force_one m b)).off
        ≡ cond (cond b false (lit k (worth m))) true (cond (cond b (lit k (worth m)) false) false (cond a false (lit k (worth n))))
    off-is k n m a b =
        lit_off k (force_one n a) (force_one m b) ∙ ap (λ (x : Bool). cond x true (cond (lit k (force_one m b).on) false (lit k (force_one n a).off)))
        (one-off k m b)
        ∙ ap₂ (λ (x y : Bool). cond (cond b false (lit k (worth m))) true (cond x false y)) (one_on k m b) (one-off k n a)

    never : (k : ℕ) (x y : Bool) → lit k (worth n) ≡ x → lit k (worth m) ≡ y → (x && y) ≡ false
    never k true true p q = absurd (ne (sym (worth-only k n p) ∙ worth-only k m q))
    never k true false p q = refl
    never k false y p q = refl

    on : (a b x y : Bool) → (x && y) ≡ false → forced (cond b false y) (cond b y false) (cond a x false)
        ≡ forced (cond a false x) (cond a x false) (cond b y false)
    on a b true true e = impossible (sym e)
    on true true true false e = refl
    on true false true false e = refl
    on false true true false e = refl
    on false false true false e = refl
    on true true false true e = refl
    on true false false true e = refl
    on false true false true e = refl
    on false false false true e = refl
    on true true false false e = refl
    on true false false false e = refl
    on false true false false e = refl
    on false false false false e = refl

    off : (a b x y : Bool) → (x && y) ≡ false
        → cond (cond b false y) true (cond (cond b y false) false (cond a false x)) ≡ cond (cond a false x) true (cond (cond a x false) false (cond b false y))
    off a b true true e = impossible (sym e)
    off true true true false e = refl
    off true false true false e = refl
    off false true true false e = refl
    off false false true false e = refl
    off true true false true e = refl
    off true false false true e = refl
    off false true false true e = refl
    off false false false true e = refl
    off true true false false e = refl
    off true false false false e = refl
    off false true false false e = refl
    off false false false false e = refl

-- R18.9: what a pair does from no switches, and from the other's bits forced off, tells it
pub only_pair : (p q : Pair) → Apart p → Apart q → force_of p 0 ≡ force_of q 0 → force_of p p.off ≡ force_of q p.off
    → force_of p q.off ≡ force_of q q.off → p ≡ q
only_pair p q g h zero own other = same_pair p q ons (λ k. off _ _ _ _ (g k) (h k) (ons k) (seen p.off own k) (seen q.off other k))
  where
    seen : (w : ℕ) → force_of p w ≡ force_of q w → (k : ℕ) → forced (lit k p.off) (lit k p.on) (lit k w) ≡ forced (lit k q.off) (lit k q.on) (lit k w)
    seen w e k = sym (lit_force k p w) ∙ ap (lit k) e ∙ lit_force k q w

    from_none : (r : Pair) → Apart r → (k : ℕ) → lit k (force_of r 0) ≡ lit k r.on
    from_none r apart k = lit_force k r 0 ∙ ap (forced (lit k r.off) (lit k r.on)) (lit_zero k) ∙ bare (lit k r.off) (lit k r.on) (apart k)

    ons : (k : ℕ) → lit k p.on ≡ lit k q.on
    ons k = sym (from_none p g k) ∙ ap (lit k) zero ∙ from_none q h k

    off : (a b c d : Bool) → (a && b) ≡ false → (c && d) ≡ false → a ≡ c → forced b a b ≡ forced d c b → forced b a d ≡ forced d c d → b ≡ d
    off a true c true g h e s t = refl
    off a false c false g h e s t = refl
    off true true c false g h e s t = impossible (sym g)
    off false true true false g h e s t = impossible e
    off false true false false g h e s t = sym s
    off a false true true g h e s t = impossible (sym h)
    off true false false true g h e s t = impossible (sym e)
    off false false false true g h e s t = sym t

-- the words of a pair stay within the width of those it is made of, whatever that is
pub then_width : (k : ℕ) (p q : Pair) → p.on < 2 ^ k → p.off < 2 ^ k → q.on < 2 ^ k → q.off < 2 ^ k
    → ((force_then p q).on < 2 ^ k) × ((force_then p q).off < 2 ^ k)
unfolding force_then force_of
then_width k p q a b c d =
    (xor_lt k _ _ (or_lt k _ _ (or_lt k _ _ a c) d) d, or_lt k _ _ (xor_lt k _ _ (or_lt k _ _ b c) c) d)

pub one_width : (n : ℕ) (b : Bool) → ((force_one n b).on < 2 ^ 32) × ((force_one n b).off < 2 ^ 32)
unfolding force_one
one_width n true = (worth_width n, omega arith)
one_width n false = (omega arith, worth_width n)
