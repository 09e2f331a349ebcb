-- `table_layout::rows_laid` meets its contract.
use mathlib.Core.Path.{◌∙◌}
use Rattle.table_layout.proofs.Parts.{front_long, front-rows}
use Rattle.table_layout.proofs.rows_laid.Goals as goal

pub slice_bounds-rows_of-end : goal.slice_bounds-rows_of-end
slice_bounds-rows_of-end c = front_long c.args.image.now c.requires.head

pub returns : goal.returns
returns c = (c.rows_of.ensures.0 ∙ front-rows _ _, c.rows_of.ensures.1)
