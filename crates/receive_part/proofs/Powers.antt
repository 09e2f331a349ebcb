-- The room for header bytes as a test.
use Prim.Native.Nat.{ℕ, ◌^◌}
use lib.Dec.{leb, ltb}
use mathlib.Core.Path.{◌≡◌, refl}
use mathlib.Core.Bool.{Bool, true, false, cond, ◌&&◌}
use borrow.Author.Tests.{le-ltb}
use native.Mathlib.Omega.{arith}
use Rattle.receive_part.specs.Part.{room_for}

-- below the room: at most 7 bytes, and a number that fits them
pub below_room : (held value : ℕ) → ltb value (room_for held) ≡ (leb held 7 && ltb value (256 ^ held))
unfolding room_for
below_room held value = go (leb held 7)
  where
    go : (b : Bool) → ltb value (cond b (256 ^ held) 0) ≡ (b && ltb value (256 ^ held))
    go true = refl
    go false = le-ltb value 0 (omega arith)
