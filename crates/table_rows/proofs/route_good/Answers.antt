-- `table_rows::route_good` meets its contract.
use Rattle.table_rows.proofs.Heads.{route-unmarked, route_too_long, route-mark_above, route-marked}
use Rattle.table_rows.proofs.route_good.Goals as goal

pub returns-then-low-le1464 : goal.returns-then-low-le1464
returns-then-low-le1464 c =
    route-unmarked _ (λ i. (c.shared_slice_known-1.given i).fits) _
    c.be32-head.ensures.is _ _ _ c.be32.ensures.is c.if-low-le1464.true

pub returns-then-low-lt65536 : goal.returns-then-low-lt65536
returns-then-low-lt65536 c =
    route_too_long _ (λ i. (c.shared_slice_known-1.given i).fits) _ c.be32-head.ensures.is _ _ c.if-low-le1464.false c.if-low-lt65536.true

pub returns-then-low-gt67000 : goal.returns-then-low-gt67000
returns-then-low-gt67000 c =
    route-mark_above _ (λ i. (c.shared_slice_known-1.given i).fits) _ c.be32-head.ensures.is _ _ c.if-low-gt67000.true

pub returns : goal.returns
returns c =
    route-marked _ (λ i. (c.shared_slice_known-1.given i).fits) _ c.be32-head.ensures.is _ _ _ _ c.be32-2.ensures.is
    c.is_tcp.ensures c.if-low-lt65536.false c.if-low-gt67000.false
