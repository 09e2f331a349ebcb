-- `input_script::entries` meets its contract.
use Rattle.std.proofs.Common.{◌≡◌, length}
use Rattle.input_script.proofs.entries.Given as goal

abbrev pub invariant-loop-n : goal.invariant-loop-n
invariant-loop-n l =
    (length l.rx ≡ length l.initial.rx) × (length l.tx ≡ length l.initial.tx)
    × (length l.room ≡ length l.initial.room) × (length l.text ≡ length l.initial.text) × (length l.out ≡ length l.initial.out)
