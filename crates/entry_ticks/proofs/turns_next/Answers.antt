-- `entry_ticks::turns_next` meets its contract.
use mathlib.Core.Path.{sym, ◌∙◌}
use Rattle.entry_ticks.proofs.Many.{turns_closing, turns_offline, turns_else}
use Rattle.entry_ticks.proofs.turns_next.Goals as goal

pub returns-then-c : goal.returns-then-c
returns-then-c c = let a = c.args in turns_closing a.config a.c c.if-c.true

pub returns-then-is_offline : goal.returns-then-is_offline
returns-then-is_offline c =
    let a = c.args in
    turns_offline a.config a.c c.if-c.false (sym c.is_offline.ensures ∙ c.if-is_offline.true)

pub returns : goal.returns
returns c =
    let a = c.args in
    rw (c.is_reconnect.ensures, c.has_wildcard.ensures) (turns_else a.config a.c c.if-c.false (sym c.is_offline.ensures ∙ c.if-is_offline.false))
