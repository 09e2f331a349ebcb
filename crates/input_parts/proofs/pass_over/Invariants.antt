-- `input_parts::pass_over` meets its contract: each turn reads a byte at least.
use Prim.Native.Nat.{◌≤◌}
use Rattle.input_parts.proofs.pass_over.Given as goal

abbrev pub invariant-loop-rest : goal.invariant-loop-rest
invariant-loop-rest l = l.rest ≤ l.left

abbrev pub decreases-loop-rest : goal.decreases-loop-rest
decreases-loop-rest l = l.rest
