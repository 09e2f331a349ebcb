-- `dispatch_receive::take_all` meets its contract. The invariant: from this turn on the event ends as from its start on.
use Prim.Native.Nat.{◌-◌}
use mathlib.Core.Path.{◌≡◌}
use lib.ListN.{length}
use Rattle.gate.specs.Lent.{loan}
use Rattle.dispatch_receive.proofs.Turned.{AtTurn}
use Rattle.dispatch_receive.proofs.take_all.Given as goal

abbrev pub invariant-loop-turn : goal.invariant-loop-turn
invariant-loop-turn l =
    AtTurn (loan l.image l.state l.initial.rx l.tx) l.connection l.segment l.initial.out l.turn l.rx l.out
    × ((length l.rx ≡ length l.initial.rx) × (length l.out ≡ length l.initial.out))

abbrev pub decreases-loop-turn : goal.decreases-loop-turn
decreases-loop-turn l = length l.segment - l.turn.count
