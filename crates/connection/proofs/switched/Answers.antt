-- `connection::switched` meets its contract.
use Rattle.connection.specs.Connection.{switch_of}
use Rattle.connection.proofs.switched.Goals as goal

pub returns-then-on : goal.returns-then-on
unfolding switch_of
returns-then-on c = rw (c.if-on.true, c.bit_of-bit.ensures)

pub returns-else-on : goal.returns-else-on
unfolding switch_of
returns-else-on c = rw (c.if-on.false, c.bit_of-bit.ensures)
