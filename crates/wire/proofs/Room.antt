-- The test whether n bytes from a position on stand within a length, and what it says of bytes laid there.
use Prim.Native.Nat.{ℕ, ◌+◌, ◌≤◌}
use mathlib.Core.Path.{◌≡◌, sym, ap, ◌∙◌}
use mathlib.Core.Bool.{Bool, true, false}
use mathlib.Core.List.{List}
use lib.Dec.{leb}
use lib.ListN.{length}
use borrow.Author.Tests.{leb-true, leb-false}
use Rattle.wire.specs.Lay.{spell, lay}
use Rattle.wire.proofs.Lay.{lay-out}
use Rattle.wire.proofs.Spell.{length-spell}

pub room-there : (at n long : ℕ) {ok : Bool} → ok ≡ leb (at + n) long → ok ≡ true → at + n ≤ long
room-there at n long e t = leb-true (at + n) long (sym e ∙ t)

-- no room: nothing is laid
pub unlaid : (d : List ℕ) (at : ℕ) (x : List ℕ) {ok : Bool} → ok ≡ leb (at + length x) (length d) → ok ≡ false → d ≡ lay d at x
unlaid d at x e t = sym (lay-out d at x (leb-false (at + length x) (length d) (sym e ∙ t)))

pub unput : (w : ℕ) (d : List ℕ) (at v : ℕ) {ok : Bool} → ok ≡ leb (at + w) (length d) → ok ≡ false → d ≡ lay d at (spell w v)
unput w d at v e t = unlaid d at (spell w v) (e ∙ ap (λ (n : ℕ). leb (at + n) (length d)) (sym (length-spell w v))) t
