use Rattle.table_rows.specs.Rows.{route_row}
use Rattle.table_scan.specs.Marks.{route_mark}
use Rattle.table_scan.proofs.RoutesMarked.mark.Goals as goal

pub returns : goal.returns
unfolding route_mark route_row
returns c = cc
