-- `receive_route::find` meets its contract: no row before the one at `at` counts.
use Prim.Native.Nat.{◌-◌}
use Rattle.receive_route.proofs.Laws.{At}
use Rattle.receive_route.proofs.find.Given as goal

abbrev pub invariant-loop-at : goal.invariant-loop-at
invariant-loop-at l = At l.routes l.connection l.id l.n l.at

abbrev pub decreases-loop-at : goal.decreases-loop-at
decreases-loop-at l = l.end - l.at
