-- Four bytes of a row, read as one number, and the numbers in them: what the rules ask of the one is what they ask of the others.
use Prim.Native.Nat.{ℕ, zero, suc, ◌+◌, ◌*◌, ◌/◌, ◌%◌, ◌^◌, ◌<◌, ◌≤◌}
use mathlib.Core.Path.{◌≡◌, refl, ap, ◌∙◌}
use mathlib.Core.Bool.{Bool, true, false, not, ◌&&◌, ◌||◌}
use mathlib.Core.List.{List}
use native.Mathlib.Nat.{pow-suc}
use native.Mathlib.Omega.{arith}
use native.Mathlib.Decide.{dec_le}
use borrow.Author.Tests.{eq-eqb, ne_eqb, le-leb, lt-leb, lt-ltb, le-ltb}
use lib.Arith.{digits_lt}
use lib.Dec.{eqb, leb, ltb}
use Rattle.wire.specs.Be.{be, byte_at, Number}
use Rattle.wire.proofs.Join.{be-add}
use Rattle.table_layout.specs.Layout.{row_in}
use Rattle.table_rows.specs.Rules.{route_good, destination_good, size_in}
use Rattle.table_rows.specs.Rows.{connection_row, route_row, destination_row}

module _ (s : List ℕ) (bytes : (i : ℕ) → byte_at s i < 256) where
  -- w bytes stay below 256 ^ w
  pub be-small : (w at : ℕ) → be w s at < 256 ^ w
  unfolding be
  be-small zero at = omega arith
  be-small (suc w) at = rw pow-suc (digits_lt (be-small w at) (bytes (at + w)))

  module _ (at : ℕ) where
    -- one byte, one byte, two bytes
    split : be 4 s at ≡ be 1 s at * 16777216 + (be 1 s (at + 1) * 65536 + be 2 s (at + 2))
    split = omega (arith, be-add 1 3 s at, be-add 1 2 s (at + 1), ap (be 2 s) (let e : at + 1 + 1 ≡ at + 2 = omega arith in e))

    pub first_byte : be 4 s at / 16777216 ≡ be 1 s at
    first_byte = omega (arith, split, be-small 1 (at + 1), be-small 2 (at + 2))

    pub low-bytes : be 4 s at % 16777216 ≡ be 1 s (at + 1) * 65536 + be 2 s (at + 2)
    low-bytes = omega (arith, split, be-small 1 (at + 1), be-small 2 (at + 2))

    pub last_bytes : be 4 s at % 65536 ≡ be 2 s (at + 2)
    last_bytes = omega (arith, split, be-small 1 (at + 1), be-small 2 (at + 2))

-- "transfer 1 (0 or 1), longest payload 2", where the two are small together: there is no mark
pub unmarked : (b l : ℕ) (a t z : Bool) → b * 65536 + l ≤ 1464 → a && z ≡ a && leb b 1 && (not (eqb b 1) || t) && leb l 1464 && z
unmarked b l a t z h =
    let n : b ≡ 1 → ⊥ = λ e. omega arith in
    rw (le-leb b 1 (omega arith), ne_eqb b 1 n, le-leb l 1464 (omega arith)) (go a)
  where
    go : (x : Bool) → x && z ≡ x && true && true && true && z
    go true = refl
    go false = refl

-- where they are not, there is a mark of 1 or the row is bad
none_second : (a w r z : Bool) → false ≡ a && false && w && r && z
none_second true w r z = refl
none_second false w r z = refl

none_fourth : (a m w z : Bool) → false ≡ a && m && w && false && z
none_fourth true true true z = refl
none_fourth true true false z = refl
none_fourth true false w z = refl
none_fourth false m w z = refl

turned : (a t z : Bool) → a && z && t ≡ a && true && t && true && z
turned true true true = refl
turned true true false = refl
turned true false true = refl
turned true false false = refl
turned false t z = refl

module _ (b l : ℕ) (a t z : Bool) (h : l < 65536) where
  pub too_long : 1464 < b * 65536 + l → b * 65536 + l < 65536 → false ≡ a && leb b 1 && (not (eqb b 1) || t) && leb l 1464 && z
  too_long g k = rw (lt-leb l 1464 (omega arith)) (none_fourth a (leb b 1) (not (eqb b 1) || t) z)

  pub mark_above : 67000 < b * 65536 + l → false ≡ a && leb b 1 && (not (eqb b 1) || t) && leb l 1464 && z
  mark_above g = go (dec_le b 1)
    where
      go : Dec (b ≤ 1) → false ≡ a && leb b 1 && (not (eqb b 1) || t) && leb l 1464 && z
      go (yes e) = rw (lt-leb l 1464 (omega arith)) (none_fourth a (leb b 1) (not (eqb b 1) || t) z)
      go (no n) = rw (lt-leb b 1 (omega arith)) (none_second a (not (eqb b 1) || t) (leb l 1464) z)

  pub marked : 65536 ≤ b * 65536 + l → b * 65536 + l ≤ 67000 → a && z && t ≡ a && leb b 1 && (not (eqb b 1) || t) && leb l 1464 && z
  marked g k =
      let one : b ≡ 1 = omega arith in
      rw (le-leb b 1 (omega arith), eq-eqb b 1 one, le-leb l 1464 (omega arith)) (turned a t z)

-- "trigger 1 (0 or 1), longest payload 2", and 8 more than it within a send size of at most 1,472
pub trigger_and_longest : (b l z : ℕ) → l < 65536 → z ≤ 1472
    → (ltb (b * 65536 + l) 131072 && leb (l + 8) z) ≡ (leb b 1 && leb l 1464 && leb (l + 8) z)
trigger_and_longest b l z h k = go (dec_le b 1) (dec_le l 1464)
  where
    go : Dec (b ≤ 1) → Dec (l ≤ 1464) → (ltb (b * 65536 + l) 131072 && leb (l + 8) z) ≡ (leb b 1 && leb l 1464 && leb (l + 8) z)
    go (yes e) (yes q) = rw (lt-ltb (b * 65536 + l) 131072 (omega arith), le-leb b 1 e, le-leb l 1464 q)
    go (yes e) (no q) = rw (lt-ltb (b * 65536 + l) 131072 (omega arith), le-leb b 1 e, lt-leb l 1464 (omega arith), lt-leb (l + 8) z (omega arith))
    go (no n) p = rw (le-ltb (b * 65536 + l) 131072 (omega arith), lt-leb b 1 (omega arith))

-- the rules by the numbers that the code reads
module _ (s : List ℕ) (bytes : (i : ℕ) → byte_at s i < 256) (h : ℕ) (is : h ≡ be 4 s 0) where
  pub owner_number : Number 1 s 0 (h / 16777216)
  owner_number =
      let e : h / 16777216 ≡ be 1 s 0 = rw is (first_byte s bytes 0) in
      record { is = e; small = rw e (be-small s bytes 1 0) }

  module _ (n : ℕ) (tcp : ℕ → Bool) where
    low-is : h % 16777216 ≡ be 1 s 1 * 65536 + be 2 s 2
    low-is = rw is (low-bytes s bytes 0)

    pub route-unmarked : (z : ℕ) → z ≡ be 4 s 8 → h % 16777216 ≤ 1464 → ltb (h / 16777216) n && eqb (z % 65536) 0 ≡ route_good n tcp s
    unfolding route_good route_row
    route-unmarked z ez l =
        let g : be 1 s 1 * 65536 + be 2 s 2 ≤ 1464 = rw low-is at l in
        rw (is, ez, first_byte s bytes 0, last_bytes s bytes 8)
        (unmarked (be 1 s 1) (be 2 s 2) (ltb (be 1 s 0) n) (tcp (be 1 s 0)) (eqb (be 2 s 10) 0) g)

    pub route_too_long : 1464 < h % 16777216 → h % 16777216 < 65536 → false ≡ route_good n tcp s
    unfolding route_good route_row
    route_too_long l k = too_long (be 1 s 1) (be 2 s 2) (ltb (be 1 s 0) n) (tcp (be 1 s 0))
        (eqb (be 2 s 10) 0) (be-small s bytes 2 2) (rw low-is at l) (rw low-is at k)

    pub route-mark_above : 67000 < h % 16777216 → false ≡ route_good n tcp s
    unfolding route_good route_row
    route-mark_above l = mark_above (be 1 s 1) (be 2 s 2) (ltb (be 1 s 0) n) (tcp (be 1 s 0)) (eqb (be 2 s 10) 0) (be-small s bytes 2 2) (rw low-is at l)

    pub route-marked : (z : ℕ) (t : Bool) → z ≡ be 4 s 8 → t ≡ tcp (h / 16777216) → 65536 ≤ h % 16777216 → h % 16777216 ≤ 67000
        → ltb (h / 16777216) n && eqb (z % 65536) 0 && t ≡ route_good n tcp s
    unfolding route_good route_row
    route-marked z t ez et l k =
        let w : t ≡ tcp (be 1 s 0) = et ∙ ap tcp (ap (λ (x : ℕ). x / 16777216) is ∙ first_byte s bytes 0) in
        let g : 65536 ≤ be 1 s 1 * 65536 + be 2 s 2 = rw low-is at l in
        let m : be 1 s 1 * 65536 + be 2 s 2 ≤ 67000 = rw low-is at k in
        rw (is, ez, first_byte s bytes 0, last_bytes s bytes 8, w)
        (marked (be 1 s 1) (be 2 s 2) (ltb (be 1 s 0) n) (tcp (be 1 s 0)) (eqb (be 2 s 10) 0) (be-small s bytes 2 2) g m)

  module _ (connections : List ℕ) (n : ℕ) where
    pub destination_without : n ≤ h / 16777216 → false ≡ destination_good n (size_in 16 connections) s
    unfolding destination_good destination_row
    destination_without l =
        let g : n ≤ be 1 s 0 = rw (is, first_byte s bytes 0) at l in
        rw (le-ltb (be 1 s 0) n g)

    pub destination_by_head : (owner : List ℕ) (size : ℕ) → ((c : ℕ) → c < n → size_in 16 connections c ≤ 1472)
        → h / 16777216 < n → owner ≡ row_in 16 connections (h / 16777216) → size ≡ be 2 owner 8
        → ltb (h % 16777216) 131072 && leb (h % 65536 + 8) size ≡ destination_good n (size_in 16 connections) s
    unfolding destination_good destination_row size_in connection_row
    destination_by_head owner size sized l o z =
        let g : be 1 s 0 < n = rw (is, first_byte s bytes 0) at l in
        let w : size ≡ be 2 (row_in 16 connections (be 1 s 0)) 8 =
        z ∙ ap (λ (x : List ℕ). be 2 x 8) o ∙ ap (λ (k : ℕ). be 2 (row_in 16 connections k) 8) (ap (λ (x : ℕ). x / 16777216) is ∙ first_byte s bytes 0) in
        rw (is, low-bytes s bytes 0, last_bytes s bytes 0, w, lt-ltb (be 1 s 0) n g)
        (trigger_and_longest (be 1 s 1) (be 2 s 2) (be 2 (row_in 16 connections (be 1 s 0)) 8) (be-small s bytes 2 2) (sized (be 1 s 0) g))
