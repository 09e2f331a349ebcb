-- `recording::takes_fit` meets its contract. The invariant: the takes that are left decide.
use Rattle.std.proofs.Common.{◌-◌}
use Rattle.recording.proofs.Takes.{LeftTo}
use Rattle.recording.proofs.takes_fit.Given as goal

abbrev pub invariant-loop-i : goal.invariant-loop-i
invariant-loop-i l = LeftTo l.count l.s (l.count - l._i) l.at
