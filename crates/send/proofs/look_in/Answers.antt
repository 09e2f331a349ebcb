-- `send::look_in` meets its contract.
use mathlib.Core.Path.{ap, ◌∙◌}
use Rattle.table_rows.specs.declared.ConnectionBrief.{ConnectionBrief}
use Rattle.send_destination.specs.Destination.{look_of}
use Rattle.send.proofs.look_in.Goals as goal

pub returns : goal.returns
returns c =
    let a = c.args in
    c.look.ensures ∙ ap (λ (r : ConnectionBrief). look_of a.len r.size a.d a.c) c.brief_in-row.ensures
