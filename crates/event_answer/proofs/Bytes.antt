-- The bytes of a number, the highest first, are its spelling.
use Rattle.std.proofs.Common.{ℕ, ◌≡◌, ◌<◌, [], ◌∷◌, refl, sym, ap₂, arith, ◌/◌, ◌%◌, w16, w32}
use Rattle.std.specs.Int.{to_be_bytes}
use Rattle.wire.specs.Lay.{spell}
use Rattle.wire.proofs.Spell.{spell_one}

pub one_byte : (n : ℕ) → n < 256 → n ∷ [] ≡ spell 1 n
one_byte n small = sym (spell_one n small)

pub two_bytes : (n : ℕ) → to_be_bytes w16 n ≡ spell 2 n
unfolding spell
two_bytes n = refl

pub four_bytes : (n : ℕ) → to_be_bytes w32 n ≡ spell 4 n
unfolding spell
four_bytes n =
    let second : n / 65536 ≡ n / 256 / 256 = omega arith in
    let first : n / 16777216 ≡ n / 256 / 256 / 256 = omega arith in
    ap₂ (λ (x y : ℕ). x % 256 ∷ y % 256 ∷ n / 256 % 256 ∷ n % 256 ∷ []) first second
