-- `state::fresh_state` meets its contract. The invariant: the records below i are fresh.
use Prim.Native.Nat.{◌≤◌}
use Rattle.state.specs.Fresh.{fresh_at, empty_state}
use Rattle.state.proofs.Upto.{Upto}
use Rattle.state.proofs.fresh_state.Given as goal

abbrev pub invariant-loop-i : goal.invariant-loop-i
invariant-loop-i l = (l.i ≤ 16) × Upto (fresh_at l.image) empty_state l.next l.i
