-- AN ANSWER THAT STANDS WHOLE in the out buffer (R16.2).
use Rattle.std.specs.Prelude.{ℕ, ◌≤◌, List, ◌++◌, length, drop, Ok, Err}
use Rattle.event_answer.specs.declared.NoAnswer.TheVariants.{Unknown, Unfit, Small}
use Rattle.event_answer.specs.Answers.{room}
use Rattle.event_answer.specs.Answers.{Verdict}

-- of a verdict and the out buffer afterwards: all bytes of the answer at the front, and behind them the buffer as it was; where
-- there is no answer, the buffer as it was
pub data StandsWhole (out : List ℕ) : Verdict → List ℕ → Type 0 where
  answer : (bytes : List ℕ) → length bytes ≤ room → StandsWhole out (Ok (length bytes)) (bytes ++ drop (length bytes) out)
  unknown : StandsWhole out (Err Unknown) out
  unfit : StandsWhole out (Err Unfit) out
  small : StandsWhole out (Err Small) out
