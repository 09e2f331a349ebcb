-- `table_scan::turned_pdu` meets its contract.
use Rattle.table_rows.specs.Rows.{destination_row}
use Rattle.table_scan.proofs.Agree.{pair_turned, pair_small}
use Rattle.table_scan.proofs.turned_pdu.Goals as goal

pub returns : goal.returns
unfolding destination_row
returns c =
    (pair_turned _ _ _ c.be8-2.ensures c.be8.ensures, pair_small _ _ _ c.be8-2.ensures c.be8.ensures)
