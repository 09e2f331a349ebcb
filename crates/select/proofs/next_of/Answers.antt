-- `select::next_of` meets its contract.
use mathlib.Core.Path.{ap, ◌∙◌}
use Rattle.connection.specs.declared.Config.{Config}
use Rattle.connection.specs.Connection.{met_of}
use Rattle.select.specs.Choose.{is_met}
use Rattle.select.proofs.next_of.Goals as goal

pub config_laid-requires : goal.config_laid-requires
config_laid-requires c = c.requires (ap is_met c.in-Ok.is)

pub returns-in-Ok : goal.returns-in-Ok
returns-in-Ok c =
    let a = c.args in
    rw c.in-Ok.is (c.met.ensures ∙ ap (λ (h : Config). met_of h a.source a.c) c.config_laid.ensures)
