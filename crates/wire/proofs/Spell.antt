-- Numbers as bytes and back: one law over both widths for the writers, and the round trip both ways.
use Prim.Native.Nat.{ℕ, zero, suc, ◌+◌, ◌*◌, ◌/◌, ◌%◌, ◌^◌, ◌≤◌, ◌<◌}
use mathlib.Core.Path.{◌≡◌, refl, sym, ap, ap₂, ◌∙◌}
use mathlib.Core.List.{List, [], ◌∷◌, ◌++◌, append_assoc, append-nil}
use native.Mathlib.Omega.{arith}
use native.Mathlib.Nat.{add-zero, add-suc, mul-one, mul_assoc, pow-zero, pow-suc}
use native.Mathlib.Nat.{div-add-mod', div-lt_iff_lt-mul, mul-add-div_right, mul-add-mod_self_right, mod-eq_of_lt, mod-lt}
use lib.Arith.{digits_div, digits_mod}
use lib.ListN.{length, take, drop, set, length-append, length-drop}
use lib.Seq.{get_or-append-add, get_or_at, get_or-drop, take-suc, length-take-le}
use Rattle.wire.specs.Be.{be, byte_at}
use Rattle.wire.specs.Lay.{spell, lay}
use Rattle.wire.proofs.Lay.{lay-lay, lay-one, lay-fits}

pub length-spell : (w v : ℕ) → length (spell w v) ≡ w
unfolding spell
length-spell zero v = refl
length-spell (suc w) v = length-append (spell w (v / 256)) (v % 256 ∷ []) ∙ omega (arith, length-spell w (v / 256))

quotient : (v b m : ℕ) → 0 < b → v < m * b → v / b < m
quotient v b m p h = (div-lt_iff_lt-mul p).1 h

-- two numbers side by side are spelt one after the other
pub spell-join : (m n a b : ℕ) → b < 256 ^ n → spell (m + n) (a * 256 ^ n + b) ≡ spell m a ++ spell n b
unfolding spell
spell-join m zero a b h =
    let z : b ≡ 0 = omega (arith, rw pow-zero at h) in
    rw (add-zero, pow-zero, mul-one, z, add-zero, append-nil)
spell-join m (suc n) a b h =
    let small : b / 256 < 256 ^ n = quotient b 256 (256 ^ n) (omega arith) (rw pow-suc at h) in
    let q : (a * 256 ^ suc n + b) / 256 ≡ a * 256 ^ n + b / 256 =
    rw (pow-suc, ← mul_assoc) (mul-add-div_right (omega arith) (a * 256 ^ n) b) in
    let r : (a * 256 ^ suc n + b) % 256 ≡ b % 256 =
    rw (pow-suc, ← mul_assoc) (mul-add-mod_self_right (a * 256 ^ n) 256 b) in
    ap (λ (w : ℕ). spell w (a * 256 ^ suc n + b)) (add-suc m n)
    ∙ ap₂ (λ (x y : ℕ). spell (m + n) x ++ (y ∷ [])) q r
    ∙ ap (λ (l : List ℕ). l ++ (b % 256 ∷ [])) (spell-join m n a (b / 256) small)
    ∙ append_assoc (spell m a) (spell n (b / 256)) (b % 256 ∷ [])

-- one byte
pub spell_one : (v : ℕ) → v < 256 → spell 1 v ≡ v ∷ []
unfolding spell
spell_one v h = ap (λ (x : ℕ). x ∷ []) (mod-eq_of_lt h)

pub put_one : (d : List ℕ) (at v : ℕ) → v < 256 → at < length d → ◌≡◌ {A = List ℕ} (set d at v) (lay d at (spell 1 v))
put_one d at v s h = lay-one d at v h ∙ ap (lay d at) (sym (spell_one v s))

-- m bytes, and n bytes after them: the one law of the writers
pub put_join : (m n : ℕ) (d e f : List ℕ) (at v : ℕ) → at + (m + n) ≤ length d
    → e ≡ lay d at (spell m (v / 256 ^ n)) → f ≡ lay e (at + m) (spell n (v % 256 ^ n)) → 0 < 256 ^ n → f ≡ lay d at (spell (m + n) v)
put_join m n d e f at v h p q pos =
    q ∙ ap (λ (l : List ℕ). lay l (at + m) (spell n (v % 256 ^ n))) p
    ∙ lay-lay d at (at + m) (spell m (v / 256 ^ n)) (spell n (v % 256 ^ n))
    (omega (arith, length-spell m (v / 256 ^ n))) (omega (arith, length-spell n (v % 256 ^ n)))
    ∙ ap (lay d at) (sym (spell-join m n (v / 256 ^ n) (v % 256 ^ n) (mod-lt v pos)) ∙ ap (spell (m + n)) (div-add-mod' v (256 ^ n)))

-- reading what was spelt, at any width and after any bytes
pub be-spell : (w v : ℕ) (a r : List ℕ) → v < 256 ^ w → be w (a ++ (spell w v ++ r)) (length a) ≡ v
unfolding be spell
be-spell zero v a r h = omega arith
be-spell (suc w) v a r h =
    let small : v / 256 < 256 ^ w = quotient v 256 (256 ^ w) (omega arith) (rw pow-suc at h) in
    let s : a ++ ((spell w (v / 256) ++ (v % 256 ∷ [])) ++ r) ≡ a ++ (spell w (v / 256) ++ (v % 256 ∷ r)) =
    ap (λ (x : List ℕ). a ++ x) (append_assoc (spell w (v / 256)) (v % 256 ∷ []) r) in
    rw s
    (ap₂ (λ (x y : ℕ). x * 256 + y) (be-spell w (v / 256) a (v % 256 ∷ r) small)
    (get_or-append-add a (spell w (v / 256) ++ (v % 256 ∷ r)) w 0 ∙ get_or_at (spell w (v / 256)) (v % 256) r 0 w (length-spell w (v / 256)))
    ∙ div-add-mod' v 256)

-- reading back what was written
pub be-lay : (w : ℕ) (d : List ℕ) (at v : ℕ) → at + w ≤ length d → v < 256 ^ w → be w (lay d at (spell w v)) at ≡ v
be-lay w d at v h s =
    let x : List ℕ = spell w v in
    let n : length (take at d) ≡ at = length-take-le at d (omega arith) in
    ap (λ (l : List ℕ). be w l at)
    (lay-fits d at (spell w v) (omega (arith, length-spell w v)) ∙ append_assoc (take at d) (spell w v) (drop (at + length (spell w v)) d))
    ∙ ap (be w (take at d ++ (spell w v ++ drop (at + length (spell w v)) d))) (sym n)
    ∙ be-spell w v (take at d) (drop (at + length (spell w v)) d) s

-- spelling what was read, where each byte is one
pub spell-be : (w : ℕ) (s : List ℕ) (at : ℕ) → at + w ≤ length s → ((i : ℕ) → byte_at s i < 256) → spell w (be w s at) ≡ take w (drop at s)
unfolding be spell
spell-be zero s at h b = refl
spell-be (suc w) s at h b =
    ap₂ (λ (x y : ℕ). spell w x ++ (y ∷ [])) (digits_div (be w s at) (b (at + w))) (digits_mod (be w s at) (b (at + w)))
    ∙ ap₂ (λ (l : List ℕ) (y : ℕ). l ++ (y ∷ [])) (spell-be w s at (omega arith) b) (sym (get_or-drop at s w 0))
    ∙ sym (take-suc (drop at s) w 0 (omega (arith, length-drop at s)))
