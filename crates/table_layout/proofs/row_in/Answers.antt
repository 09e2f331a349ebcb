-- `table_layout::row_in` meets its contract.
use Rattle.table_layout.proofs.Parts.{row_zero, row_none, row-in, row_range, row-there, row-front, row-front-zero}
use native.Mathlib.Omega.{arith}
use Rattle.table_layout.proofs.row_in.Goals as goal

pub returns-then-n-eq0 : goal.returns-then-n-eq0
returns-then-n-eq0 c = let a = c.args in
    record {
      bytes = row_zero a.body.now a.i a.n c.if-n-eq0.true;
      place = row-front-zero a.body.now a.i a.n a.body.ref_ptr c.if-n-eq0.true;
    }

pub overflow_mul-at : goal.overflow_mul-at
overflow_mul-at c = let a = c.args in omega (arith, row-in a.n a.body.now a.i c.if-i-body.true)

pub overflow_add-result : goal.overflow_add-result
overflow_add-result c = let a = c.args in omega (arith, row-in a.n a.body.now a.i c.if-i-body.true)

pub slice_bounds-result-end-then-i-body : goal.slice_bounds-result-end-then-i-body
slice_bounds-result-end-then-i-body c = let a = c.args in omega (arith, row-in a.n a.body.now a.i c.if-i-body.true)

pub returns-then-i-body : goal.returns-then-i-body
returns-then-i-body c = let a = c.args in
    record {
      bytes = row_range a.n a.body.now a.i c.if-i-body.true;
      place = row-there a.n a.body.now a.i a.body.ref_ptr c.if-i-body.true;
    }

pub returns-else-i-body : goal.returns-else-i-body
returns-else-i-body c = let a = c.args in
    record {
      bytes = row_none a.n a.body.now a.i c.if-i-body.false;
      place = row-front a.n a.body.now a.i a.body.ref_ptr c.if-i-body.false;
    }
