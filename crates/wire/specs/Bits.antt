-- The bits of a word.
use Rattle.std.specs.Prelude.{ℕ, ◌/◌, ◌%◌, ◌^◌}

-- R2.3: bit k of a word is the one worth 2 to the k
abbrev pub bit_at : ℕ → ℕ → ℕ
bit_at k w = w / 2 ^ k % 2
