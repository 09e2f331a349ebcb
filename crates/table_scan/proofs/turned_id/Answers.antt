-- `table_scan::turned_id` meets its contract.
use Rattle.table_rows.specs.Rows.{route_row}
use Rattle.table_scan.proofs.Agree.{four_turned, four_small}
use Rattle.table_scan.proofs.turned_id.Goals as goal

pub returns : goal.returns
unfolding route_row
returns c = (
  four_turned _ _ _ _ _ c.be8-4.ensures c.be8-3.ensures c.be8-2.ensures c.be8.ensures,
  four_small _ _ _ _ _ c.be8-4.ensures c.be8-3.ensures c.be8-2.ensures c.be8.ensures,
)
