-- `tally::recording` is safe: the room for its lines is an array of so many zeros. The level is written out: without it the check counts them one by one.
use Prim.Native.Nat.{ℕ}
use mathlib.Core.Path.{sym}
use lib.ListN.{length-replicate}
use Rattle.tally.proofs.recording.Goals as goal

pub slice_bounds-replayed-end-4 : goal.slice_bounds-replayed-end-4
slice_bounds-replayed-end-4 c = sym (length-replicate {0} {A = ℕ} 589824 0)
