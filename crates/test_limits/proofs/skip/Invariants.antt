-- `test_limits::skip` meets its contract.
use Rattle.std.proofs.Common.{◌≡◌, length}
use Rattle.test_limits.proofs.skip.Given as goal

abbrev pub invariant-loop : goal.invariant-loop
invariant-loop l = length l.rx ≡ length l.initial.rx
