-- `sheet::join` meets its contract. The invariant: the pairs below i are joined.
use Rattle.sheet.proofs.Turns.{Joining}
use Rattle.sheet.proofs.join.Given as goal

abbrev pub invariant-loop-i : goal.invariant-loop-i
invariant-loop-i l = Joining (record { pairs = l.initial.pair-items }) l.later (record { pairs = l.pair-items }) l.i
