-- `entry_sheet::apply` meets its contract.
use mathlib.Core.Path.{sym, ◌∙◌}
use Rattle.entry_sheet.specs.Apply.{apply_of}
use Rattle.gate.proofs.Pass.{rows_in-sixteen}
use Rattle.entry_sheet.proofs.apply.Goals as goal

pub force_rows-after-requires : goal.force_rows-after-requires
force_rows-after-requires c =
    rw c.rows_of.ensures.0 (rows_in-sixteen _ (sym c.ask-asked.ensures ∙ c.in-Ok.is))

pub returns-then-agrees : goal.returns-then-agrees
unfolding apply_of
returns-then-agrees c =
    rw (
      ← c.ask-asked.ensures,
      c.in-Ok.is,
      sym c.agrees.ensures
          ∙ c.if-agrees.true,
      ← c.rows_of.ensures.0,
      c.force_rows-after.ensures,
    )

pub returns-in-Err : goal.returns-in-Err
unfolding apply_of
returns-in-Err c = rw (← c.ask-asked.ensures, c.in-Err.is)

pub returns-else-agrees : goal.returns-else-agrees
unfolding apply_of
returns-else-agrees c =
    rw (← c.ask-asked.ensures, c.in-Ok.is, sym c.agrees.ensures ∙ c.if-agrees.false)
