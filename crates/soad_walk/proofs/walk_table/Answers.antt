-- `soad_walk::walk_table` meets its contract.
use mathlib.Core.Path.{sym, ◌∙◌}
use Rattle.soad_walk.proofs.Laws.{checked}
use Rattle.table.proofs.Facts.{accepted_facts}
use Rattle.soad_walk.proofs.walk_table.Goals as goal

pub walk_accepted-requires : goal.walk_accepted-requires
walk_accepted-requires c = accepted_facts _ (sym c.in-Ok.ensures)

pub returns-in-Err : goal.returns-in-Err
returns-in-Err c =
    let a = c.args in
    checked a.image.now a.connection a.switches a.datagram.now a.place _ (sym c.in-Err.ensures)

pub returns-in-Ok : goal.returns-in-Ok
returns-in-Ok c =
    let a = c.args in
    c.walk_accepted.ensures ∙ checked a.image.now a.connection a.switches
    a.datagram.now a.place _ (sym c.in-Ok.ensures)
