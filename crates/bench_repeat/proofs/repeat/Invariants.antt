-- `bench_repeat::repeat` meets its contract.
use Rattle.std.proofs.Common.{◌≡◌, length}
use Rattle.bench_repeat.proofs.repeat.Given as goal

abbrev pub invariant-loop-i : goal.invariant-loop-i
invariant-loop-i l =
    (length l.image ≡ length l.initial.image) × (length l.rx ≡ length l.initial.rx) × (length l.tx ≡ length l.initial.tx)
    × (length l.out ≡ length l.initial.out)
