-- WHERE A PART OF A LENT SLICE STANDS (R1.14). A reference points at a place: a block of memory, and how many bytes into it. Parts with the same
-- bytes may stand at two places; a contract that names the place says which of them is handed back.
use Rattle.std.specs.Prelude.{ℕ, ◌+◌, cond, List, ltb, length}

-- k bytes behind a place
abbrev pub behind : ℕ × ℕ → ℕ → ℕ × ℕ
behind p k = (p.0, p.1 + k)

-- how far from its front the bytes of l from `at` on stand; past the end there are none, and the empty part stands at the front
unfoldable pub from_at : List ℕ → ℕ → ℕ
from_at l at = cond (ltb (length l) at) 0 at
