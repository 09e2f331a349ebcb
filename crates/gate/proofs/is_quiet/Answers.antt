-- `gate::is_quiet` meets its contract.
use mathlib.Core.Path.{sym, ◌∙◌}
use Rattle.gate.proofs.Records.{quiet_not, quiet_when}
use Rattle.gate.proofs.is_quiet.Goals as goal

pub returns-then-not-is_idle_sound : goal.returns-then-not-is_idle_sound
returns-then-not-is_idle_sound c =
    let a = c.args in
    quiet_not a.connections.now a.groups.now a.n a.c (sym c.is_idle_sound.ensures ∙ c.if-not-is_idle_sound.true)

pub returns : goal.returns
returns c =
    let a = c.args in
    quiet_when a.connections.now a.groups.now a.n a.c (sym c.is_idle_sound.ensures ∙ c.if-not-is_idle_sound.false)
    _ c.is_watched.ensures
