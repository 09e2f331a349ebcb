-- `sheet::words_in` meets its contract. The invariant: what is left of the sheet leads to the whole's words.
use Rattle.sheet.proofs.Turns.{Adding}
use Rattle.sheet.proofs.words_in.Given as goal

abbrev pub invariant-loop-k : goal.invariant-loop-k
invariant-loop-k l = Adding l.sheet l.rows l.k l.words
