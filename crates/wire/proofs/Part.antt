-- A number read out of a part is the one at its place in the whole; the part from a place on.
use Prim.Native.Nat.{ℕ, zero, suc, ◌+◌, ◌-◌, ◌≤◌}
use mathlib.Core.Path.{◌≡◌, refl}
use mathlib.Core.List.{List, ◌++◌}
use native.Mathlib.Nat.{add_assoc}
use native.Mathlib.Omega.{arith}
use lib.ListN.{length, take, drop, length-drop, get_or-append}
use lib.Seq.{get_or-take, get_or-drop, take_all}
use Rattle.wire.specs.Be.{be}

-- out of the n bytes from a on
pub be-part : (w n : ℕ) (s : List ℕ) (a j : ℕ) → j + w ≤ n → be w (take n (drop a s)) j ≡ be w s (a + j)
unfolding be
be-part zero n s a j h = refl
be-part (suc w) n s a j h =
    rw (be-part w n s a j (omega arith), get_or-take n (drop a s) (j + w) 0 (omega arith), get_or-drop a s (j + w) 0, ← add_assoc a j w)

-- out of the front of two lists side by side
pub be-front : (w : ℕ) (s t : List ℕ) (at : ℕ) → at + w ≤ length s → be w (s ++ t) at ≡ be w s at
unfolding be
be-front zero s t at h = refl
be-front (suc w) s t at h = rw (be-front w s t at (omega arith), get_or-append s t 0 (at + w) (omega arith))

-- `&s[a..]`, as the borrow checker says it, is all that stands from a on
pub part_to_end : (s : List ℕ) (a : ℕ) → take (length s - a) (drop a s) ≡ drop a s
part_to_end s a = take_all (length s - a) (drop a s) (omega (arith, length-drop a s))
