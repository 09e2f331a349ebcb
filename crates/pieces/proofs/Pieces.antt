-- Where a piece fits and where not.
use Prim.Native.Nat.{ℕ, ◌+◌, ◌≤◌, ◌<◌}
use mathlib.Core.Path.{◌≡◌, sym}
use mathlib.Core.List.{List, []}
use lib.ListN.{length}
use borrow.Author.Tests.{le-leb, lt-leb}
use Rattle.wire.specs.Lay.{lay}
use Rattle.wire.proofs.Lay.{lay-out, lay-nothing}
use Rattle.pieces.specs.Pieces.{after_of}

pub place-stays : (long at n : ℕ) → long < at + n → at ≡ after_of long at n
unfolding after_of
place-stays long at n h = rw (lt-leb (at + n) long h)

pub moves : (long at n : ℕ) → at + n ≤ long → at + n ≡ after_of long at n
unfolding after_of
moves long at n h = rw (le-leb (at + n) long h)

pub unwritten : (d : List ℕ) (at : ℕ) (x : List ℕ) → length d < at + length x → d ≡ lay d at x
unwritten d at x h = sym (lay-out d at x h)

-- an empty piece is no piece
pub empty_piece : (d : List ℕ) (at : ℕ) → at ≤ length d → d ≡ lay d at []
empty_piece d at h = sym (lay-nothing d at)
