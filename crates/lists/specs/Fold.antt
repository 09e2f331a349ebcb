-- Numbered rows, taken one after the other, for any state that they change.
use Rattle.std.specs.Prelude.{ℕ, zero, suc}

module _ {B : Type 0} (f : B → ℕ → B) where
  -- the n rows from k on, one after the other
  unfoldable pub fold_from : ℕ → ℕ → B → B
  fold_from zero k b = b
  fold_from (suc n) k b = fold_from n (suc k) (f b k)
