-- `gate::is_wished` meets its contract.
use Rattle.state.specs.Fresh.{config_in}
use Rattle.gate.proofs.Idle.{wished_none, wished_open, wished_close}
use Rattle.gate.proofs.is_wished.Goals as goal

pub returns-then-c : goal.returns-then-c
returns-then-c c =
    let a = c.args in
    wished_none (config_in a.connections.now a.groups.now a.n) a.c c.if-c.true

pub returns-then-c-2 : goal.returns-then-c-2
returns-then-c-2 c =
    let a = c.args in
    rw (c.rules_in-rules.ensures, c.is_offline-offline.ensures) (wished_open (config_in a.connections.now a.groups.now a.n) a.c c.if-c-2.true)

pub returns : goal.returns
returns c =
    let a = c.args in
    rw (c.rules_in-rules.ensures, c.is_offline-offline.ensures)
    (wished_close (config_in a.connections.now a.groups.now a.n) a.c c.if-c.false c.if-c-2.false)
