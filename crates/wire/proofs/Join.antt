-- Two numbers side by side are one number: the one law of the readers, over both widths.
use Prim.Native.Nat.{ℕ, zero, suc, ◌+◌, ◌*◌, ◌/◌, ◌%◌, ◌^◌, ◌<◌, ◌≤◌}
use mathlib.Core.Path.{◌≡◌, refl, sym, ap, ◌∙◌}
use mathlib.Core.List.{List}
use native.Mathlib.Nat.{add-zero, add-suc, add_assoc, mul-one, pow-zero, pow-suc, add-mul, mul_assoc, zero-mul, zero-add}
use native.Mathlib.Omega.{arith}
use lib.Arith.{digits_lt}
use lib.Pow.{pow-add}
use lib.ListN.{length, get_or-eq_default}
use Rattle.wire.specs.Be.{be, byte_at, Number, Little, turn}

-- m + n bytes are m bytes and, after them, n bytes
pub be-add : (m n : ℕ) (s : List ℕ) (at : ℕ) → be (m + n) s at ≡ be m s at * 256 ^ n + be n s (at + m)
unfolding be
be-add m zero s at = rw (add-zero, pow-zero, mul-one, add-zero)
be-add m (suc n) s at =
    rw (add-suc, be-add m n s at, pow-suc, add-mul, mul_assoc, add_assoc, add_assoc at m n)

-- one byte
pub number-one : (s : List ℕ) (at r : ℕ) → r ≡ byte_at s at → r < 256 → Number 1 s at r
unfolding be
number-one s at r e h = record { is = rw (zero-mul, zero-add, add-zero) e; small = h }

-- side by side
pub number-join : (m n : ℕ) {s : List ℕ} {at a b : ℕ} → Number m s at a → Number n s (at + m) b → Number (m + n) s at (a * 256 ^ n + b)
number-join m n {s} {at} x y =
    record {
      is = rw (be-add m n s at, x.is, y.is);
      small = rw (pow-add 256 m n) (digits_lt x.small y.small);
    }

-- past the end
past : (w : ℕ) (s : List ℕ) (at : ℕ) → length s ≤ at → be w s at ≡ 0
unfolding be
past zero s at h = refl
past (suc w) s at h = rw (past w s at h, beyond (at + w) (omega arith))
  where
    beyond : (n : ℕ) → length s ≤ n → byte_at s n ≡ 0
    beyond n l = get_or-eq_default s 0 l

pub number_none : (w : ℕ) (s : List ℕ) (at : ℕ) → length s ≤ at → 0 < 256 ^ w → Number w s at 0
number_none w s at h p = record { is = sym (past w s at h); small = p }

-- four bytes, the last the highest, turned round
module _ (a b d e : ℕ) (ha : a < 256) (hb : b < 256) (hd : d < 256) (he : e < 256) where
  abbrev little : ℕ
  little = a + b * 256 + d * 65536 + e * 16777216

  turn-first : little % 256 ≡ a
  turn-first = omega arith

  turn-second : little / 256 % 256 ≡ b
  turn-second = omega arith

  turn-third : little / 65536 % 256 ≡ d
  turn-third = omega arith

  turn-fourth : little / 16777216 ≡ e
  turn-fourth = omega arith

  turned-is : turn little ≡ (a * 256 + b) * 65536 + (d * 256 + e)
  unfolding turn
  turned-is = rw (turn-first, turn-second, turn-third, turn-fourth) (omega arith)

pub turned-number : {s : List ℕ} {at r x : ℕ} → Little s at r → x ≡ turn r → Number 4 s at x
turned-number {s} {at} {r} {x} l e =
    let third : at + 2 + 1 ≡ at + 3 = omega arith in
    let four : Number 4 s at ((byte_at s at * 256 + byte_at s (at + 1)) * 65536 + (byte_at s (at + 2) * 256 + byte_at s (at + 3))) =
    number-join 2 2 (number-join 1 1 (number-one s at _ refl l.first) (number-one s (at + 1) _ refl l.second))
    (number-join 1 1 (number-one s (at + 2) _ refl l.third) (number-one s (at + 2 + 1) _ (ap (byte_at s) (sym third)) l.fourth)) in
    let is : x ≡ (byte_at s at * 256 + byte_at s (at + 1)) * 65536 + (byte_at s (at + 2) * 256 + byte_at s (at + 3)) =
    e ∙ ap turn l.is ∙ turned-is (byte_at s at) (byte_at s (at + 1)) (byte_at s (at + 2)) (byte_at s (at + 3)) l.first l.second l.third l.fourth in
    record { is = is ∙ four.is; small = rw is four.small }
