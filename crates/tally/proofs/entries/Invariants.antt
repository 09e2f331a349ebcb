-- `tally::entries` meets its contract.
use Rattle.std.proofs.Common.{◌≡◌, length}
use Rattle.tally.proofs.entries.Given as goal

abbrev pub invariant-loop : goal.invariant-loop
invariant-loop l =
    (length l.rx ≡ length l.initial.rx) × (length l.tx ≡ length l.initial.tx) × (length l.kept ≡ length l.initial.kept)
