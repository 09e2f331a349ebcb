-- `entry_events::happen` meets its contract.
use Prim.Native.Nat.{◌<◌}
use mathlib.Core.Path.{sym, ◌∙◌}
use Rattle.entry_events.specs.Change.{event_of}
use Rattle.entry_events.proofs.Changes.{change-is}
use Rattle.gate.proofs.Pass.{in_sixteen, gate_at-laid}
use Rattle.entry_events.proofs.happen.Goals as goal

pub returns-in-Err : goal.returns-in-Err
unfolding event_of
returns-in-Err c = rw (← c.ask_at-asked.ensures, c.in-Err.is)

pub bounds-after-n : goal.bounds-after-n
bounds-after-n c =
    let small : c.args.connection < 16 = in_sixteen _ _ (sym c.ask_at-asked.ensures ∙ c.in-Ok.is) in
    small

pub config_laid-requires : goal.config_laid-requires
config_laid-requires c = gate_at-laid _ _ (sym c.ask_at-asked.ensures ∙ c.in-Ok.is)

pub bounds-after-n-in-Ok : goal.bounds-after-n-in-Ok
bounds-after-n-in-Ok c =
    let small : c.args.connection < 16 = in_sixteen _ _ (sym c.ask_at-asked.ensures ∙ c.in-Ok.is) in
    small

pub returns-in-Ok : goal.returns-in-Ok
unfolding event_of
returns-in-Ok c =
    rw (← c.ask_at-asked.ensures, c.in-Ok.is) (change-is _ _ _ _ _ _ c.config_laid.ensures c.step-stepped.ensures)
