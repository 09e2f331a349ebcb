-- `words_event::takes` meets its contract.
use Rattle.std.proofs.Common.{◌≡◌, length}
use Rattle.words_event.proofs.takes.Given as goal

abbrev pub invariant-loop-i : goal.invariant-loop-i
invariant-loop-i l = length l.text ≡ length l.initial.text
