-- `table_fault::row_fault` meets its contract.
use Rattle.table_fault.proofs.Rowed.{group_told, connection_told, route_told, destination_told}
use mathlib.Core.Path.{refl}
use Rattle.table_fault.proofs.row_fault.Goals as goal

pub returns-in-Group : goal.returns-in-Group
returns-in-Group c = group_told _ _ _ c.in-Group.is c.row_of-row.ensures c.group_fault.ensures

pub returns-in-Connection : goal.returns-in-Connection
returns-in-Connection c =
    connection_told _ _ _ c.in-Connection.is c.row_of-row.ensures c.be8.ensures.is c.row_of-group.ensures refl
    c.rows_of.ensures.0 c.connection_fault.ensures

pub returns-in-Route : goal.returns-in-Route
returns-in-Route c =
    route_told _ _ _ c.in-Route.is c.row_of-row.ensures c.shared_fault-shared.ensures
    c.be8-in-Route.ensures.is c.most_mark-most.ensures c.rows_of-in-Route.ensures.0 c.route_fault.ensures

pub returns-in-Destination : goal.returns-in-Destination
returns-in-Destination c =
    destination_told _ _ _ c.in-Destination.is c.row_of-row.ensures c.shared_fault-shared-in-Destination.ensures
    c.body_of.ensures.bytes c.be8-in-Destination.ensures.is
    c.size_in-size.ensures c.rows_of-in-Destination.ensures.0 c.destination_fault.ensures
