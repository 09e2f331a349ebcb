-- The bits of a word as truth values, for words of any width: a word is told by its bits, and what is made of words bit by bit has the bits so made.
use Prim.Native.Nat.{ℕ, zero, suc, ◌+◌, ◌*◌, ◌/◌, ◌%◌, ◌^◌, ◌<◌, min, max}
use mathlib.Core.Path.{◌≡◌, refl, sym, ap, ◌∙◌}
use mathlib.Core.Bool.{Bool, true, false, cond, not, ◌&&◌, ◌||◌}
use native.Mathlib.Omega.{arith}
use native.Mathlib.Nat.{div-eq_of_lt}
use native.Mathlib.Decide.{ℕ_discrete, dec_lt}
use lib.Arith.{bin_ind}
use lib.Bits.{bit_and, bit_or, bit_xor, differ, and_step, or_step, xor_step, and_shr, or_shr, xor_shr, or_zero_l}
use lib.Dec.{eqb}
use lib.Pow.{pow_pos, shr-shr}
use Rattle.wire.specs.Bits.{bit_at}
use Rattle.connection.specs.Connection.{worth, switch_of}
use Rattle.connection.proofs.Bits.{switch_other, worth_none}
use Rattle.sheet.specs.Force.{without}
use Rattle.lists.proofs.Both.{impossible}

-- bit k of a word is set
abbrev pub lit : ℕ → ℕ → Bool
lit k w = eqb (bit_at k w) 1

digit : (a : ℕ) → a % 2 < 2
digit a = omega arith

ends : (a b : ℕ) → b < 2 → (a * 2 + b) % 2 ≡ b
ends a b h = omega arith

-- an operation that goes bit by bit, over any such operation
module _ (op f : ℕ → ℕ → ℕ) (g : Bool → Bool → Bool)
    (shr : (a b k : ℕ) → op a b / 2 ^ k ≡ op (a / 2 ^ k) (b / 2 ^ k))
    (step : (a b : ℕ) → op a b ≡ op (a / 2) (b / 2) * 2 + f (a % 2) (b % 2))
    (small : (x y : ℕ) → x < 2 → y < 2 → f x y < 2)
    (tells : (x y : ℕ) → x < 2 → y < 2 → eqb (f x y) 1 ≡ g (eqb x 1) (eqb y 1)) where
  bitwise : (k a b : ℕ) → lit k (op a b) ≡ g (lit k a) (lit k b)
  bitwise k a b =
      ap (λ (x : ℕ). eqb x 1)
      (ap (λ (x : ℕ). x % 2) (shr a b k ∙ step (a / 2 ^ k) (b / 2 ^ k))
      ∙ ends (op (a / 2 ^ k / 2) (b / 2 ^ k / 2)) (f (bit_at k a) (bit_at k b)) (small (bit_at k a) (bit_at k b) (digit _) (digit _)))
      ∙ tells (bit_at k a) (bit_at k b) (digit _) (digit _)

-- what holds of the digits 0 and 1 holds of two digits
two : (P : ℕ → ℕ → Type 0) → P 0 0 → P 0 1 → P 1 0 → P 1 1 → (x y : ℕ) → x < 2 → y < 2 → P x y
two P a b c d zero zero h l = a
two P a b c d zero (suc zero) h l = b
two P a b c d (suc zero) zero h l = c
two P a b c d (suc zero) (suc zero) h l = d
two P a b c d (suc (suc x)) y h l = absurd (omega arith)
two P a b c d zero (suc (suc y)) h l = absurd (omega arith)
two P a b c d (suc zero) (suc (suc y)) h l = absurd (omega arith)

abbrev either : Bool → Bool → Bool
either a b = a || b

abbrev both : Bool → Bool → Bool
both a b = a && b

abbrev unlike : Bool → Bool → Bool
unlike a b = cond b (not a) a

pub lit_or : (k a b : ℕ) → lit k (bit_or a b) ≡ (lit k a || lit k b)
lit_or =
    bitwise bit_or max either or_shr or_step (two (λ (x y : ℕ). max x y < 2) (omega arith) (omega arith) (omega arith) (omega arith))
    (two (λ (x y : ℕ). eqb (max x y) 1 ≡ either (eqb x 1) (eqb y 1)) refl refl refl refl)

pub lit_and : (k a b : ℕ) → lit k (bit_and a b) ≡ (lit k a && lit k b)
lit_and =
    bitwise bit_and min both and_shr and_step (two (λ (x y : ℕ). min x y < 2) (omega arith) (omega arith) (omega arith) (omega arith))
    (two (λ (x y : ℕ). eqb (min x y) 1 ≡ both (eqb x 1) (eqb y 1)) refl refl refl refl)

lit_xor : (k a b : ℕ) → lit k (bit_xor a b) ≡ unlike (lit k a) (lit k b)
lit_xor =
    bitwise bit_xor differ unlike xor_shr xor_step (two (λ (x y : ℕ). differ x y < 2) (omega arith) (omega arith) (omega arith) (omega arith))
    (two (λ (x y : ℕ). eqb (differ x y) 1 ≡ unlike (eqb x 1) (eqb y 1)) refl refl refl refl)

-- a bit that is turned off
pub lit_without : (k w off : ℕ) → lit k (without w off) ≡ cond (lit k off) false (lit k w)
lit_without k w off = lit_xor k (bit_or w off) off ∙ ap (λ (x : Bool). unlike x (lit k off)) (lit_or k w off) ∙ go (lit k w) (lit k off)
  where
    go : (x y : Bool) → unlike (x || y) y ≡ cond y false x
    go true true = refl
    go true false = refl
    go false true = refl
    go false false = refl

pub lit_zero : (k : ℕ) → lit k 0 ≡ false
lit_zero k = ap (λ (x : ℕ). eqb (x % 2) 1) (div-eq_of_lt (pow_pos k))

-- a word is told by its bits
same_digit : (x y : ℕ) → x < 2 → y < 2 → eqb x 1 ≡ eqb y 1 → x ≡ y
same_digit = two (λ (x y : ℕ). eqb x 1 ≡ eqb y 1 → x ≡ y) (λ _. refl) (λ e. impossible e) (λ e. impossible (sym e)) (λ _. refl)

module _ (a b : ℕ) (h : (k : ℕ) → lit k a ≡ lit k b) where
  halves : (k : ℕ) → lit k (a / 2) ≡ lit k (b / 2)
  halves k = ap (λ (x : ℕ). eqb (x % 2) 1) (shr-shr a 1 k) ∙ h (1 + k) ∙ sym (ap (λ (x : ℕ). eqb (x % 2) 1) (shr-shr b 1 k))

  lows : a % 2 ≡ b % 2
  lows =
      let e : a / 2 ^ 0 % 2 ≡ b / 2 ^ 0 % 2 = same_digit _ _ (digit _) (digit _) (h 0) in
      omega arith

pub same_word : (a b : ℕ) → ((k : ℕ) → lit k a ≡ lit k b) → a ≡ b
same_word =
    bin_ind (λ (a : ℕ). (b : ℕ) → ((k : ℕ) → lit k a ≡ lit k b) → a ≡ b)
    (bin_ind (λ (b : ℕ). ((k : ℕ) → lit k 0 ≡ lit k b) → 0 ≡ b) (λ _. refl) (λ b ih h. let l = lows 0 b h in let r = ih (halves 0 b h) in omega arith))
    (λ a ih b h. let l = lows a b h in let r = ih (b / 2) (halves a b h) in omega arith)

-- the word worth switch n has no other bit
other_bit : (k n : ℕ) → n < 32 → (k ≡ n → ⊥) → lit k (worth n) ≡ false
unfolding switch_of
other_bit k n h ne = ap (lit k) (sym (or_zero_l (worth n))) ∙ ap (λ (x : ℕ). eqb x 1) (switch_other n true 0 k h ne) ∙ lit_zero k

pub worth-only : (k n : ℕ) → lit k (worth n) ≡ true → k ≡ n
worth-only k n e = go (ℕ_discrete k n) (dec_lt n 32)
  where
    go : Dec (k ≡ n) → Dec (n < 32) → k ≡ n
    go (yes q) d = q
    go (no ne) (yes h) = impossible (sym (other_bit k n h ne) ∙ e)
    go (no ne) (no h) = impossible (sym (ap (lit k) (sym (worth_none n (omega arith))) ∙ lit_zero k) ∙ e)
