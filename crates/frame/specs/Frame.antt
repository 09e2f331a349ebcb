-- A FRAME (R6.1): the wire form of a PDU, and of PDUs one after the other.
use Rattle.std.specs.Prelude.{ℕ, ◌^◌, ◌<◌, List, [], ◌∷◌, ◌++◌, length}
use Rattle.wire.specs.Lay.{spell}

-- R6.1: id 4 bytes, length 4 bytes, payload
unfoldable pub frame : ℕ → List ℕ → List ℕ
frame i p = spell 4 i ++ (spell 4 (length p) ++ p)

-- what a sender frames: an id and a payload
pub record Sent : Type 0 where
  pub id : ℕ
  pub body : List ℕ

unfoldable pub frames : List Sent → List ℕ
frames [] = []
frames (s ∷ ss) = frame s.id s.body ++ frames ss

-- a header can say it
pub record Fits (s : Sent) : Type 0 where
  pub id_fits : s.id < 256 ^ 4
  pub length-fits : length s.body < 256 ^ 4

abbrev pub AllFit : List Sent → Type 0
AllFit [] = Unit {0}
AllFit (s ∷ ss) = Fits s × AllFit ss
