-- `entry_arrivals::arrive` meets its contract: the best so far is the one pass of the definition, at record i.
use Rattle.select.proofs.Pass.{Searching}
use Rattle.entry_arrivals.proofs.arrive.Given as goal

abbrev pub invariant-loop-i : goal.invariant-loop-i
invariant-loop-i l = Searching l.image l.after l.accept l.group l.source l.before l.i l.best
