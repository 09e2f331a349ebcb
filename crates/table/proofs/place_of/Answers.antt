-- `table::place_of` meets its contract.
use Rattle.table.proofs.Places.{rows-small, no_place, some-place}
use Rattle.table_layout.proofs.Parts.{product_small}
use native.Mathlib.Omega.{arith}
use Prim.Native.Nat.{◌*◌, ◌≤◌}
use Rattle.table.proofs.place_of.Goals as goal

pub overflow_mul-result : goal.overflow_mul-result
overflow_mul-result c =
    let few : c.args.bad * c.row_bytes.result ≤ 1048576 = let a = c.args in
    product_small a.bad c.row_bytes.result (omega (arith, rows-small a.image.now (λ i. (c.shared_slice_known-1.given i).fits) a.k)) (omega arith) in
    omega (arith, few)

pub overflow_add-result : goal.overflow_add-result
overflow_add-result c =
    let few : c.args.bad * c.row_bytes.result ≤ 1048576 = let a = c.args in
    product_small a.bad c.row_bytes.result (omega (arith, rows-small a.image.now (λ i. (c.shared_slice_known-1.given i).fits) a.k)) (omega arith) in
    omega (arith, few)

pub returns-then-rows-bad : goal.returns-then-rows-bad
returns-then-rows-bad c = no_place _ _ _ _ 0 0 c.requires c.if-rows-bad.true

pub returns-else-rows-bad : goal.returns-else-rows-bad
returns-else-rows-bad c = some-place _ _ _ _ _ _ c.requires
    c.start_of.ensures.0 c.row_bytes.ensures.0 c.if-rows-bad.false
