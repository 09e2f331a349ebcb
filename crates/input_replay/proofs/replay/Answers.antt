-- `input_replay::replay` meets its contract; the length of a long array by its law, not by counting.
use Prim.Native.Nat.{ℕ}
use mathlib.Core.Path.{sym}
use lib.ListN.{length-replicate}
use Rattle.input_replay.proofs.replay.Goals as goal

pub slice_bounds-replayed-end : goal.slice_bounds-replayed-end
slice_bounds-replayed-end c = sym (length-replicate {A = ℕ} 23424 0)

pub slice_bounds-replayed-end-2 : goal.slice_bounds-replayed-end-2
slice_bounds-replayed-end-2 c = sym (length-replicate {A = ℕ} 23552 0)

pub slice_bounds-replayed-end-3 : goal.slice_bounds-replayed-end-3
slice_bounds-replayed-end-3 c = sym (length-replicate {A = ℕ} 20480 0)

pub slice_bounds-replayed-end-4 : goal.slice_bounds-replayed-end-4
slice_bounds-replayed-end-4 c = sym (length-replicate {A = ℕ} 589824 0)
