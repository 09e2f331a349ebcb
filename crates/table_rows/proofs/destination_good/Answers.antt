-- `table_rows::destination_good` meets its contract.
use Rattle.table_layout.proofs.Parts.{row-in, row_range}
use Rattle.table_rows.proofs.Heads.{destination_without, destination_by_head}
use native.Mathlib.Omega.{arith}
use Prim.Native.Nat.{◌/◌}
use Rattle.table_rows.proofs.destination_good.Goals as goal

pub returns-then-connections-connection : goal.returns-then-connections-connection
returns-then-connections-connection c =
    destination_without _ (λ i. (c.shared_slice_known-1.given i).fits) _ c.be32-head.ensures.is _ _ c.if-connections-connection.true

pub slice_bounds-owner-end : goal.slice_bounds-owner-end
slice_bounds-owner-end c = omega (arith, row-in 16 c.args.connections.now (c.be32-head.result / 16777216) c.if-connections-connection.false)

pub returns : goal.returns
returns c =
    let h = c.be32-head in
    destination_by_head _ (λ i. (c.shared_slice_known-1.given i).fits) _ h.ensures.is _ _ _ _
    c.requires c.if-connections-connection.false (row_range 16 c.args.connections.now (h.result / 16777216) c.if-connections-connection.false) c.be16.ensures.is
