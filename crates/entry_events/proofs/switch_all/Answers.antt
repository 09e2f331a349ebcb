-- `entry_events::switch_all` meets its contract.
use mathlib.Core.Path.{sym, ◌∙◌}
use borrow.Author.Tests.{lt-ltb, le-ltb}
use Rattle.entry_events.specs.Module.{switch_all_of}
use Rattle.gate.proofs.Pass.{rows_in-sixteen}
use Rattle.entry_events.proofs.switch_all.Goals as goal

pub switch_rows-after-requires : goal.switch_rows-after-requires
switch_rows-after-requires c =
    rw c.rows_of.ensures.0 (rows_in-sixteen _ (sym c.ask-asked.ensures ∙ c.in-Ok.is))

pub returns-then-number-lt32 : goal.returns-then-number-lt32
unfolding switch_all_of
returns-then-number-lt32 c = rw (
  ← c.ask-asked.ensures,
  c.in-Ok.is,
  lt-ltb _ _ c.if-number-lt32.true,
  ← c.rows_of.ensures.0,
  c.switch_rows-after.ensures,
)

pub returns-in-Err : goal.returns-in-Err
unfolding switch_all_of
returns-in-Err c = rw (← c.ask-asked.ensures, c.in-Err.is)

pub returns-else-number-lt32 : goal.returns-else-number-lt32
unfolding switch_all_of
returns-else-number-lt32 c = rw (← c.ask-asked.ensures, c.in-Ok.is, le-ltb _ _ c.if-number-lt32.false)
