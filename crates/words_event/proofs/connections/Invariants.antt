-- `words_event::connections` meets its contract.
use Rattle.std.proofs.Common.{◌≡◌, length}
use Rattle.words_event.proofs.connections.Given as goal

abbrev pub invariant-loop-k : goal.invariant-loop-k
invariant-loop-k l = length l.text ≡ length l.initial.text
