-- `Connection::reach` meets its contract.
use Rattle.connection.specs.Connection.{reach_of}
use Rattle.connection.proofs.Connection.reach.Goals as goal

pub returns-then-reaches : goal.returns-then-reaches
unfolding reach_of
returns-then-reaches c = rw (← c.is_reconnect.ensures, ← c.has_wildcard.ensures, c.if-reaches.true)
    c.connected.ensures

pub returns-else-reaches : goal.returns-else-reaches
unfolding reach_of
returns-else-reaches c = rw (← c.is_reconnect.ensures, ← c.has_wildcard.ensures, c.if-reaches.false)
