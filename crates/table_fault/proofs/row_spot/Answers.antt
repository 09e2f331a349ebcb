-- `table_fault::row_spot` meets its contract.
use Rattle.table_fault.proofs.Ways.{in_groups, in_connections, in_routes, in_destinations}
use Rattle.table_fault.proofs.row_spot.Goals as goal

pub returns-then-place-start_of : goal.returns-then-place-start_of
returns-then-place-start_of c = in_groups _ _ c.start_of.ensures.0 c.if-place-start_of.true c.row_number.ensures

pub returns-then-place-start_of-2 : goal.returns-then-place-start_of-2
returns-then-place-start_of-2 c =
    in_connections _ _ c.start_of.ensures.0 c.if-place-start_of.false
    c.start_of-2.ensures.0 c.if-place-start_of-2.true c.row_number-then-place-start_of-2.ensures

pub returns-then-place-start_of-3 : goal.returns-then-place-start_of-3
returns-then-place-start_of-3 c =
    in_routes _ _ c.start_of.ensures.0 c.if-place-start_of.false c.start_of-2.ensures.0
    c.if-place-start_of-2.false c.start_of-3.ensures.0 c.if-place-start_of-3.true c.row_number-then-place-start_of-3.ensures

pub returns : goal.returns
returns c =
    in_destinations _ _ c.start_of.ensures.0 c.if-place-start_of.false c.start_of-2.ensures.0
    c.if-place-start_of-2.false c.start_of-3.ensures.0 c.if-place-start_of-3.false c.row_number-2.ensures
