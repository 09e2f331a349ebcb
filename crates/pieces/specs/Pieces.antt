-- Pieces laid one after the other into a lent buffer (R16.2).
use Rattle.std.specs.Prelude.{ℕ, ◌+◌, cond, List, leb, length}

-- the place after n bytes at a place of a buffer of so many bytes: the same place where they do not fit, for then none is written
unfoldable pub after_of : ℕ → ℕ → ℕ → ℕ
after_of long at n = cond (leb (at + n) long) (at + n) at

abbrev pub place_after : List ℕ → ℕ → List ℕ → ℕ
place_after d at x = after_of (length d) at (length x)
