-- `input_script::run_under` meets its contract; the length of a long array by its law, not by counting.
use Prim.Native.Nat.{ℕ}
use mathlib.Core.Path.{sym}
use lib.ListN.{length-replicate}
use Rattle.input_script.proofs.run_under.Goals as goal

pub slice_bounds-run_script-end : goal.slice_bounds-run_script-end
slice_bounds-run_script-end c = sym (length-replicate {A = ℕ} 23424 0)

pub slice_bounds-run_script-end-2 : goal.slice_bounds-run_script-end-2
slice_bounds-run_script-end-2 c = sym (length-replicate {A = ℕ} 23552 0)

pub slice_bounds-run_script-end-3 : goal.slice_bounds-run_script-end-3
slice_bounds-run_script-end-3 c = sym (length-replicate {A = ℕ} 47720 0)

pub slice_bounds-run_script-end-4 : goal.slice_bounds-run_script-end-4
slice_bounds-run_script-end-4 c = sym (length-replicate {A = ℕ} 131072 0)

pub slice_bounds-run_script-end-5 : goal.slice_bounds-run_script-end-5
slice_bounds-run_script-end-5 c = sym (length-replicate {A = ℕ} 16384 0)
