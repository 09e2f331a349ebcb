-- Header and payload laid into send memory (R6.3, R10.3).
use Rattle.std.specs.Prelude.{ℕ, cond, List, ltb, length}
use Rattle.frame.specs.Frame.{frame}
use Rattle.wire.specs.Lay.{lay}

-- the frame from at on, and all other bytes as they were; nothing where it does not fit or the payload is longer than 1,464 bytes
unfoldable pub appended_of : List ℕ → ℕ → ℕ → List ℕ → List ℕ
appended_of tx at id payload = cond (ltb 1464 (length payload)) tx (lay tx at (frame id payload))
