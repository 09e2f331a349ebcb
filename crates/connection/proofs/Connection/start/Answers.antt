-- `Connection::start` meets its contract.
use Rattle.connection.specs.Connection.{started_of}
use Rattle.connection.proofs.Connection.start.Goals as goal

pub returns-then-starts : goal.returns-then-starts
unfolding started_of
returns-then-starts c = rw (← c.is_offline.ensures, c.if-starts.true)

pub returns-else-starts : goal.returns-else-starts
unfolding started_of
returns-else-starts c = rw (← c.is_offline.ensures, c.if-starts.false)
