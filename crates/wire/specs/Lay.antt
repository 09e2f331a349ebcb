-- Numbers as big-endian bytes (R1.1), and bytes laid over others at a position.
use Rattle.std.specs.Prelude.{ℕ, zero, suc, ◌+◌, ◌/◌, ◌%◌, cond, List, [], ◌∷◌, ◌++◌, leb, length, take, drop}

-- v as w bytes, the first the highest
unfoldable pub spell : ℕ → ℕ → List ℕ
spell zero v = []
spell (suc w) v = spell w (v / 256) ++ (v % 256 ∷ [])

-- d with the bytes x at the position at; d itself where they do not fit: all or nothing
unfoldable pub lay : List ℕ → ℕ → List ℕ → List ℕ
lay d at x = cond (leb (at + length x) (length d)) (take at d ++ x ++ drop (at + length x) d) d
