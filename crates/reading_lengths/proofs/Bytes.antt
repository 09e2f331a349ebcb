-- Lists of bytes, and lists of marked ones.
use Prim.Native.Nat.{ℕ, zero, suc, ◌+◌, ◌/◌, ◌%◌, ◌^◌, ◌<◌}
use mathlib.Core.Path.{◌≡◌, refl, ap}
use mathlib.Core.List.{List, [], ◌∷◌, ◌++◌, map}
use native.Mathlib.Omega.{arith}
use native.Mathlib.Nat.{pow-suc}
use lib.Arith.{digits_lt}
use lib.ListN.{take, drop}
use lib.Seq.{get_or-drop}
use Rattle.wire.specs.Be.{be}
use Rattle.wire.specs.Lay.{spell}
use Rattle.reading_lengths.specs.Listed.{Marked, mark, Bytes}

pub map-take : {A B : Type 0} (f : A → B) (n : ℕ) (l : List A) → map f (take n l) ≡ take n (map f l)
map-take f zero l = refl
map-take f (suc n) [] = refl
map-take f (suc n) (x ∷ l) = ap (λ (r : List _). f x ∷ r) (map-take f n l)

pub map-drop : {A B : Type 0} (f : A → B) (n : ℕ) (l : List A) → map f (drop n l) ≡ drop n (map f l)
map-drop f zero l = refl
map-drop f (suc n) [] = refl
map-drop f (suc n) (x ∷ l) = map-drop f n l

-- a number of w bytes
pub be-small : (w : ℕ) (l : List ℕ) (at : ℕ) → Bytes l → be w l at < 256 ^ w
unfolding be
be-small zero l at b = omega arith
be-small (suc w) l at b = rw pow-suc (digits_lt (be-small w l at b) (b (at + w)))

-- bytes that are bytes: what is left of them, two lists of them, those of a number, and those under a mark
pub bytes_drop : (n : ℕ) (l : List ℕ) → Bytes l → Bytes (drop n l)
bytes_drop n l b i = rw (get_or-drop n l i 0) (b (n + i))

pub bytes-append : (a b : List ℕ) → Bytes a → Bytes b → Bytes (a ++ b)
bytes-append [] b p q i = q i
bytes-append (x ∷ a) b p q zero = p 0
bytes-append (x ∷ a) b p q (suc i) = bytes-append a b (λ j. p (suc j)) q i

bytes_one : (v : ℕ) → Bytes (v % 256 ∷ [])
bytes_one v zero = omega arith
bytes_one v (suc i) = omega arith

pub bytes-spell : (w v : ℕ) → Bytes (spell w v)
unfolding spell
bytes-spell zero v i = omega arith
bytes-spell (suc w) v i = bytes-append (spell w (v / 256)) (v % 256 ∷ []) (bytes-spell w (v / 256)) (bytes_one v) i

pub bytes-mark : (w : ℕ) (l : List ℕ) → map (λ (m : Marked). m.byte) (map (mark w) l) ≡ l
bytes-mark w [] = refl
bytes-mark w (x ∷ l) = ap (λ (r : List ℕ). x ∷ r) (bytes-mark w l)
