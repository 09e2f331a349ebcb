-- `table::check_table` meets its contract.
use Rattle.std.proofs.Common.{rules, sym, ◌∙◌, length}
use Rattle.table.specs.Table.{check_table, then_check}
use Rattle.table.proofs.Front.{front-laid, check-rows, check-refused}
use native.Mathlib.Omega.{arith}
use borrow.Author.Tests.{lt-leb}
use Rattle.table.proofs.check_table.Goals as goal

pub returns-then-image-lt36 : goal.returns-then-image-lt36
unfolding check_table then_check
returns-then-image-lt36 c = rw (lt-leb 36 (length c.args.image.now) (omega arith))

pub returns-in_err-head_place : goal.returns-in_err-head_place
unfolding then_check
returns-in_err-head_place c =
    rw (← check-refused c.args.image.now (omega arith) (sym c.is_laid.ensures ∙ c.if-not-is_laid.true), ← c.head_place.ensures) search rules

pub returns-then-not-is_laid : goal.returns-then-not-is_laid
unfolding then_check
returns-then-not-is_laid c =
    rw (← check-refused c.args.image.now (omega arith) (sym c.is_laid.ensures ∙ c.if-not-is_laid.true), ← c.head_place.ensures) search rules

pub all_rows_place-requires : goal.all_rows_place-requires
all_rows_place-requires c = front-laid _ (omega arith) (sym c.is_laid.ensures ∙ c.if-not-is_laid.false)

pub returns : goal.returns
returns c =
    check-rows _ _ (omega arith) (sym c.is_laid.ensures ∙ c.if-not-is_laid.false) c.all_rows_place.ensures
