-- `table_layout::part_of` meets its contract.
use Prim.Native.Nat.{◌+◌, ◌<◌}
use native.Mathlib.Omega.{arith}
use lib.ListN.{length}
use Rattle.table_layout.proofs.Parts.{part_out, part_range, part-there, part-front}
use Rattle.table_layout.proofs.part_of.Goals.{else-at-s-via-then-at-s+else-n-s, else-at-s-via-else-at-s}
use Rattle.table_layout.proofs.part_of.Goals as goal

pub returns-then-n-s : goal.returns-then-n-s
returns-then-n-s c = let a = c.args in
    record {
      bytes = part_range a.s.now a.at a.n (omega arith);
      place = part-there a.s.now a.at a.n a.s.ref_ptr (omega arith);
    }

pub returns-else-at-s : goal.returns-else-at-s
returns-else-at-s c = let a = c.args in
    let h : length a.s.now < a.at + a.n =
    elim c.else-at-s.branch [ else-at-s-via-then-at-s+else-n-s w ↦ omega arith | else-at-s-via-else-at-s w ↦ omega arith ] in
    record {
      bytes = part_out a.s.now a.at a.n h;
      place = part-front a.s.now a.at a.n a.s.ref_ptr h;
    }
