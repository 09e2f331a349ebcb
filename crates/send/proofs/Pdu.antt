-- A row's PDU told by its two bytes, the last one first.
use Prim.Native.Nat.{ℕ, ◌+◌, ◌-◌, ◌*◌, ◌/◌, ◌%◌, ◌<◌}
use mathlib.Core.Path.{◌≡◌, refl, sym, ap, ◌∙◌}
use mathlib.Core.Bool.{Bool, true, false, ◌&&◌}
use mathlib.Core.List.{List}
use native.Mathlib.Omega.{arith}
use borrow.Author.Tests.{eqb-true, eqb-false, eq-eqb, ne_eqb}
use lib.Dec.{eqb}
use lib.ListN.{length, take, drop}
use Rattle.wire.specs.Be.{be, Number}
use Rattle.wire.proofs.Join.{number-join}
use Rattle.table_layout.proofs.Parts.{row_range}
use Rattle.table_rows.specs.Rows.{destination_row, destination_in}

-- two bytes are a number's exactly when they are its last byte and what is above it
bytes_same : (a b n : ℕ) → a < 256 → (eqb a (n % 256) && eqb b (n / 256)) ≡ eqb (b * 256 + a) n
bytes_same a b n h = go (eqb a (n % 256)) refl (eqb b (n / 256)) refl
  where
    go : (p : Bool) → eqb a (n % 256) ≡ p → (q : Bool) → eqb b (n / 256) ≡ q → (p && q) ≡ eqb (b * 256 + a) n
    go true e true f =
        let x : a ≡ n % 256 = eqb-true _ _ e in
        let y : b ≡ n / 256 = eqb-true _ _ f in
        sym (eq-eqb (b * 256 + a) n (omega arith))
    go true e false f = sym (ne_eqb (b * 256 + a) n (λ (w : b * 256 + a ≡ n). eqb-false b (n / 256) f (omega arith)))
    go false e q f = sym (ne_eqb (b * 256 + a) n (λ (w : b * 256 + a ≡ n). eqb-false a (n % 256) e (omega arith)))

-- the part of the body that is read is row i, and the two bytes are its PDU
pub for_row : (body : List ℕ) (i pdu a b : ℕ) → i < length body / 16
    → Number 1 (take (i * 16 + 16 - i * 16) (drop (i * 16) body)) 9 a → Number 1 (take (i * 16 + 16 - i * 16) (drop (i * 16) body)) 8 b
    → (eqb a (pdu % 256) && eqb b (pdu / 256)) ≡ eqb (destination_in body i).pdu pdu
unfolding destination_row
for_row body i pdu a b h x y =
    bytes_same a b pdu x.small
    ∙ ap (λ (n : ℕ). eqb n pdu) ((number-join 1 1 y x).is ∙ ap (λ (r : List ℕ). be 2 r 8) (row_range 16 body i h))

-- of a row that is not for the PDU, and of one that is
pub for_other : {d p : ℕ} {b : Bool} → b ≡ eqb d p → b ≡ false → d ≡ p → ⊥
for_other {d} {p} e f = eqb-false d p (sym e ∙ f)

pub for_own : {d p : ℕ} {b : Bool} → b ≡ eqb d p → b ≡ true → d ≡ p
for_own {d} {p} e f = eqb-true d p (sym e ∙ f)
