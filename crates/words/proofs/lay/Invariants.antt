-- `words::lay` meets its contract: each sign shortens what is left of the pattern.
use Rattle.std.proofs.Common.{◌≡◌, length}
use Rattle.words.proofs.lay.Given as goal

abbrev pub invariant-loop-rest : goal.invariant-loop-rest
invariant-loop-rest l = length l.text ≡ length l.initial.text

abbrev pub decreases-loop-rest : goal.decreases-loop-rest
decreases-loop-rest l = length l.rest
