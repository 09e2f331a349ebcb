-- Ids compared as one load reads their bytes: two are the same exactly when the numbers are.
use Prim.Native.Nat.{ℕ, ◌+◌, ◌*◌, ◌^◌, ◌<◌, ◌≤◌}
use mathlib.Core.Path.{◌≡◌, refl, sym, ap, ◌∙◌}
use mathlib.Core.Bool.{Bool, true, false}
use mathlib.Core.List.{List}
use native.Mathlib.Nat.{zero-mul, zero-add, add-zero}
use native.Mathlib.Omega.{arith}
use borrow.Author.Tests.{eqb-true, eqb-false, eq-eqb, ne_eqb}
use lib.Dec.{eqb}
use lib.ListN.{length}
use Rattle.wire.specs.Be.{be, byte_at, Number, Little}
use Rattle.wire.specs.Lay.{spell, lay}
use Rattle.wire.proofs.Spell.{be-lay}
use Rattle.table_rows.specs.Rows.{route_row}
use Rattle.receive_route.specs.Route.{Key}

-- a number of four bytes, the last the highest
abbrev load : ℕ → ℕ → ℕ → ℕ → ℕ
load a b d e = a + b * 256 + d * 65536 + e * 16777216

-- the same bytes in the other order: equal where these are
load_turned : (a b d e a' b' d' e' : ℕ) → a < 256 → b < 256 → d < 256 → e < 256 → a' < 256 → b' < 256 → d' < 256 → e' < 256
    → load a b d e ≡ load a' b' d' e' → load e d b a ≡ load e' d' b' a'
load_turned a b d e a' b' d' e' ha hb hd he ha' hb' hd' he' q =
    let last : e ≡ e' = omega (arith, ha, hb, hd, he, ha', hb', hd', he', q) in
    let third : d ≡ d' = omega (arith, ha, hb, hd, ha', hb', hd', last, q) in
    let second : b ≡ b' = omega (arith, ha, hb, ha', hb', last, third, q) in
    omega (arith, last, third, second, q)

-- what four reads of one byte put together
byte-is : (s : List ℕ) (at r : ℕ) → Number 1 s at r → r ≡ byte_at s at
unfolding be
byte-is s at r n = rw (zero-mul, zero-add, add-zero) at n.is

pub load_is : (row : List ℕ) (a b d e : ℕ) → Number 1 row 4 a → Number 1 row 5 b → Number 1 row 6 d → Number 1 row 7 e → Little row 4 (load a b d e)
load_is row a b d e p q r s =
    let first : a ≡ byte_at row 4 = byte-is row 4 a p in
    let second : b ≡ byte_at row 5 = byte-is row 5 b q in
    let third : d ≡ byte_at row 6 = byte-is row 6 d r in
    let fourth : e ≡ byte_at row 7 = byte-is row 7 e s in
    record {
      is = rw (first, second, third, fourth);
      first = rw (← first) p.small;
      second = rw (← second) q.small;
      third = rw (← third) r.small;
      fourth = rw (← fourth) s.small;
    }

-- an id written to a row's place
pub key_is : (d row : List ℕ) (id key : ℕ) → row ≡ lay d 4 (spell 4 id) → 8 ≤ length d → id < 256 ^ 4 → Little row 4 key → Key id key
unfolding route_row
key_is d row id key e h s l = record { row = row; read = l; is = ap (λ (x : List ℕ). be 4 x 4) e ∙ be-lay 4 d 4 id h s }

-- a row's id by its bytes
id-bytes : (row : List ℕ) → be 4 row 4 ≡ load (byte_at row 7) (byte_at row 6) (byte_at row 5) (byte_at row 4)
unfolding be
id-bytes row = omega arith

module _ (s t : List ℕ) (x y : ℕ) (p : Little s 4 x) (q : Little t 4 y) where
  loads_same : x ≡ y → be 4 s 4 ≡ be 4 t 4
  loads_same e =
      id-bytes s
      ∙ load_turned _ _ _ _ _ _ _ _ p.first p.second p.third p.fourth q.first q.second q.third q.fourth (sym p.is ∙ e ∙ q.is)
      ∙ sym (id-bytes t)

  same_loads : be 4 s 4 ≡ be 4 t 4 → x ≡ y
  same_loads e =
      p.is
      ∙ load_turned _ _ _ _ _ _ _ _ p.fourth p.third p.second p.first q.fourth q.third q.second q.first
      (sym (id-bytes s) ∙ e ∙ id-bytes t)
      ∙ sym q.is

-- a row has the id exactly when it is loaded as the key
pub key_tells : (row : List ℕ) (id x key : ℕ) → Little row 4 x → Key id key → eqb x key ≡ eqb (be 4 row 4) id
unfolding route_row
key_tells row id x key p k = go (eqb x key) refl
  where
    go : (b : Bool) → eqb x key ≡ b → b ≡ eqb (be 4 row 4) id
    go true e = sym (eq-eqb (be 4 row 4) id (loads_same row k.row x key p k.read (eqb-true x key e) ∙ k.is))
    go false e = sym (ne_eqb (be 4 row 4) id (λ h. eqb-false x key e (same_loads row k.row x key p k.read (h ∙ sym k.is))))
