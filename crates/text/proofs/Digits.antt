-- Hex digits, two by two.
use Prim.Native.Nat.{ℕ, zero, suc, ◌+◌, ◌*◌, ◌/◌, ◌%◌, ◌≤◌, ◌<◌}
use mathlib.Core.Path.{◌≡◌, refl, sym, ap, ap₂, ◌∙◌}
use mathlib.Core.Bool.{Bool, true, false, cond}
use mathlib.Core.List.{List, [], ◌∷◌, ◌++◌}
use native.Mathlib.Omega.{arith}
use lib.Dec.{ltb}
use lib.ListN.{length, take, get_or}
use lib.Seq.{length-take-le, take-length}
use Rattle.io.specs.Digits.{hex_digit_ascii}
use Rattle.wire.specs.Lay.{spell, lay}
use Rattle.wire.proofs.Lay.{lay-lay}
use Rattle.wire.proofs.Spell.{spell-join, spell_one}
use Rattle.text.specs.Text.{hex_of, pair_of}

glyph_small : (d : ℕ) → d < 16 → hex_digit_ascii d < 256
glyph_small d h = go (ltb d 10)
  where
    go : (b : Bool) → cond b (48 + d) (87 + d) < 256
    go true = omega arith
    go false = omega arith

-- the two digits of a byte
two : (b : ℕ) → b < 256 → spell 2 (pair_of b) ≡ hex_digit_ascii (b / 16) ∷ hex_digit_ascii (b % 16) ∷ []
two b h =
    let high : hex_digit_ascii (b / 16) < 256 = glyph_small (b / 16) (omega arith) in
    let low : hex_digit_ascii (b % 16) < 256 = glyph_small (b % 16) (omega arith) in
    spell-join 1 1 (hex_digit_ascii (b / 16)) (hex_digit_ascii (b % 16)) low
    ∙ ap₂ (λ (x y : List ℕ). x ++ y) (spell_one (hex_digit_ascii (b / 16)) high) (spell_one (hex_digit_ascii (b % 16)) low)

pub hex_length : (l : List ℕ) → length (hex_of l) ≡ length l * 2
hex_length [] = refl
hex_length (b ∷ bs) = omega (arith, hex_length bs)

hex_more : (l : List ℕ) (i : ℕ) → i < length l → hex_of (take (suc i) l)
    ≡ hex_of (take i l) ++ (hex_digit_ascii (get_or l i 0 / 16) ∷ hex_digit_ascii (get_or l i 0 % 16) ∷ [])
hex_more [] i h = absurd (omega arith)
hex_more (b ∷ bs) zero h = refl
hex_more (b ∷ bs) (suc i) h = ap (λ (t : List ℕ). hex_digit_ascii (b / 16) ∷ hex_digit_ascii (b % 16) ∷ t) (hex_more bs i (omega arith))

-- one byte more
pub hex_next : {e f : List ℕ} (d : List ℕ) (at i : ℕ) (l : List ℕ) → at + length l * 2 ≤ length d → i < length l → get_or l i 0 < 256
    → e ≡ lay d at (hex_of (take i l)) → f ≡ lay e (at + i * 2) (spell 2 (pair_of (get_or l i 0))) → f ≡ lay d at (hex_of (take (i + 1) l))
hex_next d at i l fits small byte p q =
    let n : length (hex_of (take i l)) ≡ i * 2 = hex_length (take i l) ∙ ap (λ (k : ℕ). k * 2) (length-take-le i l (omega arith)) in
    let s : suc i ≡ i + 1 = omega arith in
    q
    ∙ ap (λ (x : List ℕ). lay x (at + i * 2) (spell 2 (pair_of (get_or l i 0)))) p
    ∙ ap (lay (lay d at (hex_of (take i l))) (at + i * 2)) (two (get_or l i 0) byte)
    ∙ lay-lay d at (at + i * 2) (hex_of (take i l)) (hex_digit_ascii (get_or l i 0 / 16) ∷ hex_digit_ascii (get_or l i 0 % 16) ∷ []) (omega arith) (omega arith)
    ∙ ap (lay d at) (sym (hex_more l i small) ∙ ap (λ (k : ℕ). hex_of (take k l)) s)

-- all of them
pub hex_all : {e : List ℕ} (d : List ℕ) (at i : ℕ) (l : List ℕ) → i ≡ length l → e ≡ lay d at (hex_of (take i l)) → e ≡ lay d at (hex_of l)
hex_all d at i l e p = p ∙ ap (λ (k : ℕ). lay d at (hex_of (take k l))) e ∙ ap (λ (t : List ℕ). lay d at (hex_of t)) (take-length l)
