-- What a switch is worth.
use Prim.Native.Nat.{ℕ, zero, suc, ◌-◌, ◌+◌, ◌<◌, ◌≤◌, ◌*◌, ◌/◌, ◌%◌, ◌^◌, max}
use mathlib.Core.Path.{◌≡◌, refl, sym, ap, ◌∙◌}
use mathlib.Core.Bool.{Bool, true, false, cond}
use borrow.Author.Tests.{lt-ltb, le-ltb, leb-true, leb-false}
use native.Mathlib.Omega.{arith}
use native.Mathlib.Nat.{mod-eq_of_lt, mul-mod_left, div-eq_of_lt, max-zero}
use lib.Dec.{leb}
use lib.Pow.{pow-lt, pow-add, shl-shr}
use lib.Bits.{bit_or, bit_xor, differ, or_shr, xor_shr, or_step, xor_step}
use Rattle.wire.specs.Bits.{bit_at}
use Rattle.connection.specs.Connection.{worth, switch_of}

-- one, moved n places up, is the switch's worth
pub worth-is : (n : ℕ) → n < 32 → (1 * 2 ^ n) % 4294967296 ≡ worth n
unfolding worth
worth-is n h =
    let e : 1 * 2 ^ n ≡ 2 ^ n = omega arith in
    let l : 2 ^ n < 4294967296 = pow-lt h in
    rw (lt-ltb n 32 h, e) (mod-eq_of_lt l)

-- past 31 there is no switch
pub worth_none : (n : ℕ) → 32 ≤ n → 0 ≡ worth n
unfolding worth
worth_none n h = rw (le-ltb n 32 h)

-- the last digit of a number that ends in b
ends : (a b : ℕ) → b < 2 → (a * 2 + b) % 2 ≡ b
ends a b h = omega arith

max-small : (x y : ℕ) → x < 2 → y < 2 → max x y < 2
max-small x y h l = omega arith

differ_small : (x y : ℕ) → x < 2 → y < 2 → differ x y < 2
differ_small zero y h l = l
differ_small (suc zero) zero h l = h
differ_small (suc zero) (suc y) h l = omega arith
differ_small (suc (suc x)) y h l = absurd (omega arith)

digit : (a : ℕ) → a % 2 < 2
digit a = omega arith

-- bit k of two words joined is the greater of their bits
pub or_bit : (k a b : ℕ) → bit_at k (bit_or a b) ≡ max (bit_at k a) (bit_at k b)
or_bit k a b =
    ap (λ (x : ℕ). x % 2) (or_shr a b k ∙ or_step (a / 2 ^ k) (b / 2 ^ k))
    ∙ ends (bit_or (a / 2 ^ k / 2) (b / 2 ^ k / 2)) (max (bit_at k a) (bit_at k b)) (max-small (bit_at k a) (bit_at k b) (digit _) (digit _))

-- bit k of the places where two words differ
xor_bit : (k a b : ℕ) → bit_at k (bit_xor a b) ≡ differ (bit_at k a) (bit_at k b)
xor_bit k a b =
    ap (λ (x : ℕ). x % 2) (xor_shr a b k ∙ xor_step (a / 2 ^ k) (b / 2 ^ k))
    ∙ ends (bit_xor (a / 2 ^ k / 2) (b / 2 ^ k / 2)) (differ (bit_at k a) (bit_at k b)) (differ_small (bit_at k a) (bit_at k b) (digit _) (digit _))

-- the word worth switch n has bit n, and no other
pub own-bit : (n : ℕ) → bit_at n (2 ^ n) ≡ 1
own-bit n =
    let e : 1 * 2 ^ n ≡ 2 ^ n = omega arith in
    ap (λ (x : ℕ). x % 2) (ap (λ (x : ℕ). x / 2 ^ n) (sym e) ∙ shl-shr 1 n)

low_bit : (k j : ℕ) → bit_at k (2 ^ (suc j + k)) ≡ 0
low_bit k j =
    let even : 2 ^ suc j ≡ 2 ^ j * 2 = omega arith in
    ap (λ (x : ℕ). x % 2) (ap (λ (x : ℕ). x / 2 ^ k) (pow-add 2 (suc j) k) ∙ shl-shr (2 ^ suc j) k ∙ even) ∙ mul-mod_left (2 ^ j) 2

pub other_bit : (n k : ℕ) → (k ≡ n → ⊥) → bit_at k (2 ^ n) ≡ 0
other_bit n k ne = go (leb k n) refl
  where
    go : (b : Bool) → leb k n ≡ b → bit_at k (2 ^ n) ≡ 0
    go true h =
        let e : n ≡ suc (n - suc k) + k = omega (arith, ne, leb-true k n h) in
        ap (λ (m : ℕ). bit_at k (2 ^ m)) e ∙ low_bit k (n - suc k)
    go false h = ap (λ (x : ℕ). x % 2) (div-eq_of_lt (pow-lt (leb-false k n h)))

-- R2.3, R8.8, switch n is the bit worth 2 to the n: it is on or off afterwards, and every other bit stays
pub switch_own : (n : ℕ) (on : Bool) (w : ℕ) → n < 32 → bit_at n (switch_of n on w) ≡ cond on 1 0
unfolding switch_of worth
switch_own n on w h = rw (lt-ltb n 32 h) (go on)
  where
    joined : bit_at n (bit_or w (2 ^ n)) ≡ 1
    joined = or_bit n w (2 ^ n) ∙ ap (max (bit_at n w)) (own-bit n) ∙ full (bit_at n w) (digit (w / 2 ^ n))
      where
        full : (x : ℕ) → x < 2 → max x 1 ≡ 1
        full x l = omega arith

    go : (b : Bool) → bit_at n (cond b (bit_or w (2 ^ n)) (bit_xor (bit_or w (2 ^ n)) (2 ^ n))) ≡ cond b 1 0
    go true = joined
    go false = xor_bit n (bit_or w (2 ^ n)) (2 ^ n) ∙ rw (joined, own-bit n)

pub switch_other : (n : ℕ) (on : Bool) (w k : ℕ) → n < 32 → (k ≡ n → ⊥) → bit_at k (switch_of n on w) ≡ bit_at k w
unfolding switch_of worth
switch_other n on w k h ne = rw (lt-ltb n 32 h) (go on)
  where
    joined : bit_at k (bit_or w (2 ^ n)) ≡ bit_at k w
    joined = or_bit k w (2 ^ n) ∙ ap (max (bit_at k w)) (other_bit n k ne) ∙ max-zero (bit_at k w)

    alone : (x : ℕ) → differ x 0 ≡ x
    alone zero = refl
    alone (suc x) = refl

    go : (b : Bool) → bit_at k (cond b (bit_or w (2 ^ n)) (bit_xor (bit_or w (2 ^ n)) (2 ^ n))) ≡ bit_at k w
    go true = joined
    go false = xor_bit k (bit_or w (2 ^ n)) (2 ^ n) ∙ ap (differ (bit_at k (bit_or w (2 ^ n)))) (other_bit n k ne) ∙ alone (bit_at k (bit_or w (2 ^ n)))
        ∙ joined
