-- `Connection::switch` meets its contract.
use Rattle.connection.proofs.Connection.switch.Goals as goal

pub returns : goal.returns
returns c = rw c.switched.ensures
