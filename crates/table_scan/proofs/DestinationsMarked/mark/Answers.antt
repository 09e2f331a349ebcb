use Rattle.table_rows.specs.Rows.{destination_row}
use Rattle.table_scan.specs.Marks.{destination_mark}
use Rattle.table_scan.proofs.DestinationsMarked.mark.Goals as goal

pub returns : goal.returns
unfolding destination_mark destination_row
returns c = cc
