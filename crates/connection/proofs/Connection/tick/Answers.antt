-- `Connection::tick` meets its contract.
use mathlib.Core.Path.{◌∙◌}
use Rattle.connection.proofs.Ticks.{tick-closes, tick_lets_go, tick-goes-on}
use Rattle.connection.proofs.Connection.tick.Goals as goal

pub returns-then-self : goal.returns-then-self
returns-then-self c = c.closed.ensures ∙ tick-closes _ _ c.if-self.true

pub returns-then-self-config : goal.returns-then-self-config
returns-then-self-config c = c.let_go.ensures ∙ tick_lets_go _ _ c.if-self.false c.if-self-config.true

pub returns : goal.returns
returns c =
    rw (c.run.ensures, c.reach-reached.ensures, c.start-started.ensures, c.sink-sunk.ensures)
    (tick-goes-on _ _ c.if-self.false c.if-self-config.false)
