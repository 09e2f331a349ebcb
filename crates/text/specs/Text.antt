-- Decimal numbers and bytes in hex as text in a lent buffer (R16.5).
use Rattle.std.specs.Prelude.{ℕ, ◌+◌, ◌*◌, ◌/◌, ◌%◌, ◌≡◌, List, [], ◌∷◌}
use Rattle.io.specs.Digits.{last_digits, hex_digit_ascii, IsDigitCount}
use Rattle.pieces.specs.Pieces.{place_after}
use Rattle.wire.specs.Lay.{lay}

-- "bytes are lower-case hex without spaces"
abbrev pub hex_of : List ℕ → List ℕ
hex_of [] = []
hex_of (b ∷ bs) = hex_digit_ascii (b / 16) ∷ hex_digit_ascii (b % 16) ∷ hex_of bs

-- the two digits of a byte, as one number of two bytes
abbrev pub pair_of : ℕ → ℕ
pair_of b = hex_digit_ascii (b / 16) * 256 + hex_digit_ascii (b % 16)

-- v in decimal, with the fewest digits that hold it: the place afterwards and the buffer
pub record Decimal (v : ℕ) (d : List ℕ) (at : ℕ) (r : ℕ) (d' : List ℕ) : Type 0 where
  pub count : ℕ
  pub fewest : IsDigitCount 10 1 v count
  pub place : r ≡ place_after d at (last_digits 10 count v)
  pub memory : d' ≡ lay d at (last_digits 10 count v)
