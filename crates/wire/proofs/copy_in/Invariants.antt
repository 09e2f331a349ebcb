-- `wire::copy_in` meets its contract. The loop's invariant: the first j bytes are copied.
use lib.Seq.{paste}
use lib.ListN.{length}
use mathlib.Core.Path.{◌≡◌}
use Rattle.wire.proofs.copy_in.Given as goal

abbrev pub invariant-loop-j : goal.invariant-loop-j
invariant-loop-j l = (length l.d ≡ length l.initial.d) × (l.d ≡ paste l.initial.d l.at l.s l.j)
