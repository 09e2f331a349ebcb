-- `report::add_all` meets its contract. The invariant: those below i are added to.
use Rattle.report.proofs.Turns.{JoinedTo}
use Rattle.report.proofs.add_all.Given as goal

abbrev pub invariant-loop-i : goal.invariant-loop-i
invariant-loop-i g l = let f = g.F.Figures in JoinedTo f.nothing f.sum l.initial.these l.more l.i l.these
