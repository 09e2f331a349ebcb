-- `gate::is_idle_sound` meets its contract.
use mathlib.Core.Path.{sym, ◌∙◌}
use mathlib.Core.Bool.{true}
use Rattle.table_rows.specs.Rules.{size_in}
use Rattle.connection.proofs.Fails.{always}
use Rattle.gate.proofs.Idle.{idle_unreached, idle-without, idle-with}
use Rattle.gate.proofs.is_idle_sound.Goals as goal

pub returns-then-not-is_reached : goal.returns-then-not-is_reached
returns-then-not-is_reached c =
    let a = c.args in
    idle_unreached (size_in 16 a.connections.now a.n) a.c (sym c.is_reached.ensures ∙ c.if-not-is_reached.true)

pub returns-then-c-eq0 : goal.returns-then-c-eq0
returns-then-c-eq0 c =
    let a = c.args in
    sym (always _)
    ∙ idle-without (size_in 16 a.connections.now a.n) a.c true (sym c.if-not-is_reached.false ∙ c.is_reached.ensures) c.if-c-eq0.true

pub returns : goal.returns
returns c =
    let a = c.args in
    sym (always _)
    ∙ idle-with (size_in 16 a.connections.now a.n) _ a.c true _ (sym c.if-not-is_reached.false ∙ c.is_reached.ensures)
    c.is_online-online.ensures c.size_in-size.ensures c.if-c-eq0.false
