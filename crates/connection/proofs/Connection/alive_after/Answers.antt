-- `Connection::alive_after` meets its contract.
use Rattle.connection.proofs.Watches.{alive_started, alive-stays}
use Rattle.connection.proofs.Connection.alive_after.Goals as goal

pub returns-then-starts : goal.returns-then-starts
returns-then-starts c = alive_started _ _ _ c.has_wildcard.ensures c.if-starts.true

pub returns-else-starts : goal.returns-else-starts
returns-else-starts c = alive-stays _ _ _ c.has_wildcard.ensures c.if-starts.false
