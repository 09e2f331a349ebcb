-- `table_scan::bad_rows` meets its contract.
use Rattle.table_scan.specs.Marks.{Wide}
use Rattle.table_scan.proofs.Agree.{route-in, destination-in, routes-marked, destinations-marked}
use mathlib.Core.Path.{sym, subst}
use Rattle.table_scan.proofs.bad_rows.Goals as goal

pub first_bad-requires-clause-room : goal.first_bad-requires-clause-room
first_bad-requires-clause-room c = route-in _ _ c.requires.wide

pub first_bad-requires-clause-agree : goal.first_bad-requires-clause-agree
first_bad-requires-clause-agree c = routes-marked _

pub first_bad-requires-2-clause-room : goal.first_bad-requires-2-clause-room
first_bad-requires-2-clause-room c = destination-in _ _ (subst (Wide c.args.shift) (sym c.first_bad.auto.seen) c.requires.wide)

pub first_bad-requires-2-clause-agree : goal.first_bad-requires-2-clause-agree
first_bad-requires-2-clause-agree c = destinations-marked _
