-- Numbered things and a test of each: the first bad one (of rows, R1.10).
use Rattle.std.specs.Prelude.{ℕ, zero, suc, Bool, true, cond, ◌&&◌}

-- the first of the n numbers from k on that is not good; k + n where all are
unfoldable pub bad_from : (ℕ → Bool) → ℕ → ℕ → ℕ
bad_from good zero k = k
bad_from good (suc n) k = cond (good k) (bad_from good n (suc k)) k

-- the first of 0 .. n - 1 that is not good; n where all are
abbrev pub first_bad : (ℕ → Bool) → ℕ → ℕ
first_bad good n = bad_from good n 0

-- each of 0 .. n - 1 is good
unfoldable pub every : (ℕ → Bool) → ℕ → Bool
every good zero = true
every good (suc n) = every good n && good n
