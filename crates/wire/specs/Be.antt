-- Big-endian numbers (R1.1): the number that w bytes from a position stand for.
use Rattle.std.specs.Prelude.{ℕ, zero, suc, ◌+◌, ◌*◌, ◌/◌, ◌%◌, ◌<◌, ◌^◌, ◌≡◌, List, get_or}

-- the byte at a position, 0 past the end
abbrev pub byte_at : List ℕ → ℕ → ℕ
byte_at s at = get_or s at 0

-- w bytes from at, the first the highest
unfoldable pub be : ℕ → List ℕ → ℕ → ℕ
be zero s at = 0
be (suc w) s at = be w s at * 256 + byte_at s (at + w)

-- r is that number, and fits w bytes
pub record Number (w : ℕ) (s : List ℕ) (at r : ℕ) : Type 0 where
  pub is : r ≡ be w s at
  pub small : r < 256 ^ w

-- r is what four bytes stand for when the last is the highest, and each is a byte
pub record Little (s : List ℕ) (at r : ℕ) : Type 0 where
  pub is : r ≡ byte_at s at + byte_at s (at + 1) * 256 + byte_at s (at + 2) * 65536 + byte_at s (at + 3) * 16777216
  pub first : byte_at s at < 256
  pub second : byte_at s (at + 1) < 256
  pub third : byte_at s (at + 2) < 256
  pub fourth : byte_at s (at + 3) < 256

-- a number of four bytes with its bytes in the other order
unfoldable pub turn : ℕ → ℕ
turn x = x % 256 * 16777216 + x / 256 % 256 * 65536 + x / 65536 % 256 * 256 + x / 16777216
