-- Numbers and bytes written one after the other.
use Prim.Native.Nat.{ℕ, ◌+◌, ◌*◌, ◌/◌, ◌%◌, ◌^◌, ◌≤◌, ◌<◌}
use mathlib.Core.Path.{◌≡◌, refl, sym, ap, ◌∙◌}
use mathlib.Core.List.{List, ◌++◌}
use native.Mathlib.Omega.{arith}
use native.Mathlib.Nat.{zero-add, mod-lt, div-add-mod'}
use lib.ListN.{length, length-append}
use Rattle.wire.specs.Lay.{spell, lay}
use Rattle.wire.proofs.Lay.{lay-lay, lay-out}
use Rattle.wire.proofs.Spell.{spell-join, length-spell}
use Rattle.connection.specs.declared.Remote.{Remote}
use Rattle.event_answer.specs.Answers.{address, waiting, found_bytes}

-- what is written after x makes x longer
pub then : {e f : List ℕ} (d : List ℕ) (at m : ℕ) (x y : List ℕ) → e ≡ lay d at x
    → f ≡ lay e m y → m ≡ at + length x → m + length y ≤ length d → f ≡ lay d at (x ++ y)
then d at m x y p q s h = q ∙ ap (λ (l : List ℕ). lay l m y) p ∙ lay-lay d at m x y s h

-- only the low w bytes of a number are spelt
pub spell-low : (w v : ℕ) → 0 < 256 ^ w → spell w (v % 256 ^ w) ≡ spell w v
unfolding spell
spell-low w v pos =
    sym (spell-join 0 w (v / 256 ^ w) (v % 256 ^ w) (mod-lt v pos))
    ∙ ap (λ (k : ℕ). spell k (v / 256 ^ w * 256 ^ w + v % 256 ^ w)) (zero-add w)
    ∙ ap (spell w) (div-add-mod' v (256 ^ w))

-- two numbers, from the front: their length, both written, and neither where they do not fit
pub pair_length : (m n a b : ℕ) → length (spell m a ++ spell n b) ≡ m + n
pair_length m n a b = simp (length-append, length-spell)

pub pair : {e f : List ℕ} (d : List ℕ) (m n a b : ℕ) → e ≡ lay d 0 (spell m a)
    → f ≡ lay e m (spell n b) → m + n ≤ length d → f ≡ lay d 0 (spell m a ++ spell n b)
pair d m n a b p q h =
    then d 0 m (spell m a) (spell n b) p q (omega (arith, length-spell m a)) (omega (arith, length-spell n b))

pub pair_out : (d : List ℕ) (m n a b : ℕ) → length d < m + n → d ≡ lay d 0 (spell m a ++ spell n b)
pair_out d m n a b h = sym (lay-out d 0 (spell m a ++ spell n b) (omega (arith, pair_length m n a b)))

-- twelve bytes 0
pub zeros : {e f g : List ℕ} (d : List ℕ) (at : ℕ) → e ≡ lay d at (spell 4 0) → f ≡ lay e (at + 4) (spell 4 0)
    → g ≡ lay f (at + 8) (spell 4 0) → at + 12 ≤ length d → g ≡ lay d at (spell 12 0)
unfolding spell
zeros d at p q r h =
    then d at (at + 8) (spell 4 0 ++ spell 4 0) (spell 4 0) (then d at (at + 4) (spell 4 0) (spell 4 0) p q refl (omega arith)) r refl (omega arith)

pub length-address : (r : Remote) → length (address r) ≡ 19
length-address r = simp (length-append, length-spell)

pub address-laid : {e f g h : List ℕ} (d : List ℕ) (at : ℕ) (r : Remote) → e ≡ lay d at (spell 1 4) → f ≡ lay e (at + 1) (spell 12 0)
    → g ≡ lay f (at + 13) (spell 4 r.address) → h ≡ lay g (at + 17) (spell 2 r.port) → at + 19 ≤ length d → h ≡ lay d at (address r)
address-laid d at r p q s t fits =
    let p₂ = then d at (at + 1) (spell 1 4) (spell 12 0) p q (simp length-spell) (simp length-spell (omega arith)) in
    let p₃ = then d at (at + 13) (spell 1 4 ++ spell 12 0) (spell 4 r.address) p₂ s (simp (length-append, length-spell)) (simp length-spell (omega arith)) in
    then d at (at + 17) (spell 1 4 ++ spell 12 0 ++ spell 4 r.address)
    (spell 2 r.port) p₃ t (simp (length-append, length-spell)) (simp length-spell (omega arith))

pub length-waiting : (r : Remote) (bytes : List ℕ) → length (waiting r bytes) ≡ 25 + length bytes
length-waiting r bytes = simp (length-append, length-spell)

pub waiting-laid : {e f g h : List ℕ} (d : List ℕ) (r : Remote) (bytes : List ℕ) → e ≡ lay d 0 (spell 2 0) → f ≡ lay e 2 (spell 4 (length bytes))
    → g ≡ lay f 6 (address r) → h ≡ lay g 25 bytes → 25 + length bytes ≤ length d → h ≡ lay d 0 (waiting r bytes)
waiting-laid d r bytes p q s t fits =
    let p₂ = pair d 2 4 0 (length bytes) p q (omega arith) in
    let p₃ = then d 0 6 (spell 2 0 ++ spell 4 (length bytes)) (address r) p₂ s
    (omega (arith, pair_length 2 4 0 (length bytes))) (omega (arith, length-address r)) in
    then d 0 25 (spell 2 0 ++ spell 4 (length bytes) ++ address r) bytes p₃ t (simp (length-append, length-spell)) (omega arith)

pub length_found : (first kind which id n : ℕ) → length (found_bytes first kind which id n) ≡ 14
length_found first kind which id n = simp (length-append, length-spell)

pub found-laid : {e f g h i : List ℕ} (d : List ℕ) (at first kind which id n : ℕ) → e ≡ lay d at (spell 4 first) → f ≡ lay e (at + 4) (spell 1 kind)
    → g ≡ lay f (at + 5) (spell 1 which) → h ≡ lay g (at + 6) (spell 4 id) → i ≡ lay h (at + 10) (spell 4 n)
    → at + 14 ≤ length d → i ≡ lay d at (found_bytes first kind which id n)
found-laid d at first kind which id n p q s t u fits =
    let p₂ = then d at (at + 4) (spell 4 first) (spell 1 kind) p q (simp length-spell) (simp length-spell (omega arith)) in
    let p₃ = then d at (at + 5) (spell 4 first ++ spell 1 kind) (spell 1 which) p₂ s (simp (length-append, length-spell)) (simp length-spell (omega arith)) in
    let p₄ = then d at (at + 6) (spell 4 first ++ spell 1 kind ++ spell 1 which)
    (spell 4 id) p₃ t (simp (length-append, length-spell)) (simp length-spell (omega arith)) in
    then d at (at + 10) (spell 4 first ++ spell 1 kind ++ spell 1 which ++ spell 4 id)
    (spell 4 n) p₄ u (simp (length-append, length-spell)) (simp length-spell (omega arith))

-- bytes that do not fit are not written
pub unlaid : (d : List ℕ) (at n : ℕ) (x : List ℕ) → length x ≡ n → length d < at + n → d ≡ lay d at x
unlaid d at n x e h = sym (lay-out d at x (omega arith))
