-- `entry_sheet::force_rows` meets its contract. The invariant: the records below i are forced.
use Rattle.state.proofs.Upto.{Upto}
use Rattle.entry_sheet.specs.Apply.{force_at}
use Rattle.entry_sheet.proofs.force_rows.Given as goal

abbrev pub invariant-loop-i : goal.invariant-loop-i
invariant-loop-i l = Upto (force_at l.words) l.initial.after l.after l.i
