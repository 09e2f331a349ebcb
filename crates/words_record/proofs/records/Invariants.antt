-- `words_record::records` meets its contract.
use Rattle.std.proofs.Common.{◌≡◌, length}
use Rattle.words_record.proofs.records.Given as goal

abbrev pub invariant-loop-k : goal.invariant-loop-k
invariant-loop-k l = length l.text ≡ length l.initial.text
