-- `report::fit` meets its contract.
use Rattle.std.proofs.Common.{sym, ap₂, ◌∙◌}
use mathlib.Core.Bool.{◌&&◌}
use Rattle.report.proofs.Turns.{fits_found}
use Rattle.report.proofs.fit.Goals as goal

pub returns : goal.returns
returns c = ap₂ ◌&&◌ c.all_fit.ensures c.all_fit-2.ensures ∙ sym (fits_found c.args.first.now c.args.second.now)
