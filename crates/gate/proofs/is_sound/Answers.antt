-- `gate::is_sound` meets its contract.
use mathlib.Core.Path.{sym, ◌∙◌}
use Rattle.state.specs.Fresh.{config_in}
use Rattle.gate.proofs.Idle.{empty_not, empty_when}
use Rattle.gate.proofs.Records.{rules_enough}
use Rattle.gate.proofs.is_sound.Goals as goal

pub returns-then-not-is_quiet : goal.returns-then-not-is_quiet
returns-then-not-is_quiet c =
    let a = c.args in
    empty_not (config_in a.connections.now a.groups.now a.n) a.routes.now a.n a.connection
    (sym c.is_empty.ensures ∙ c.if-is_empty.true) (sym c.is_quiet.ensures ∙ c.if-not-is_quiet.true)

pub returns-then-is_empty : goal.returns-then-is_empty
returns-then-is_empty c =
    let a = c.args in
    empty_when (config_in a.connections.now a.groups.now a.n) a.routes.now a.n a.connection
    (sym c.is_empty.ensures ∙ c.if-is_empty.true) (sym c.is_quiet.ensures ∙ c.if-not-is_quiet.false) _ c.is_wished.ensures

pub returns : goal.returns
returns c =
    let a = c.args in
    rw (
      c.sound.ensures,
      c.is_routed-has_route.ensures,
      c.rules_in-rules.ensures,
      rules_enough a.connections.now a.groups.now a.n a.connection,
    )
