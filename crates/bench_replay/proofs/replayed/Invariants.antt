-- `bench_replay::replayed` meets its contract.
use Rattle.std.proofs.Common.{◌≡◌, length}
use Rattle.bench_replay.proofs.replayed.Given as goal

abbrev pub invariant-loop-i : goal.invariant-loop-i
invariant-loop-i g l =
    (length l.rx ≡ length l.initial.rx) × (length l.tx ≡ length l.initial.tx) × (length l.out ≡ length l.initial.out)
