-- `test_takes::takes_over` meets its contract: each turn shortens what is left of the segment.
use Rattle.std.proofs.Common.{◌≡◌, length}
use Rattle.test_takes.proofs.takes_over.Given as goal

abbrev pub invariant-loop-payload : goal.invariant-loop-payload
invariant-loop-payload l = length l.rx ≡ length l.initial.rx

abbrev pub decreases-loop-payload : goal.decreases-loop-payload
decreases-loop-payload l = length l.rest
