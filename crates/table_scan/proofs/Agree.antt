-- The marks: each is below the number of marks, and rows that share what they may not have one.
use Prim.Native.Nat.{ℕ, ◌+◌, ◌*◌, ◌/◌, ◌%◌, ◌^◌, ◌<◌}
use mathlib.Core.Path.{◌≡◌, refl}
use mathlib.Core.Bool.{true}
use mathlib.Core.List.{List, [], ◌∷◌}
use native.Mathlib.Omega.{arith}
use native.Mathlib.Nat.{div-lt_iff_lt-mul}
use borrow.Author.Tests.{eqb-true}
use lib.Dec.{eqb}
use lib.Pow.{pow_pos}
use Rattle.wire.specs.Be.{byte_at, be, Number, turn}
use Rattle.wire.proofs.Join.{turned-number}
use Rattle.lists.proofs.Both.{and_left, and_right}
use Rattle.table_layout.specs.declared.Kind.TheVariants.{Route, Destination}
use Rattle.table_rows.specs.Rows.{route_row, destination_row}
use Rattle.table_rows.specs.Rules.{routes_share, destinations_share}
use Rattle.table_scan.specs.Scan.{share}
use Rattle.table_scan.specs.Marks.{turned_pair, mark_of, route_mark, destination_mark, Wide}

-- every mark is below n
module _ (shift n : ℕ) (wide : Wide shift n) where
  mark_in : (x : ℕ) → x % 4294967296 / 2 ^ shift < n
  mark_in x =
      let small : x % 4294967296 < 4294967296 = omega arith in
      (div-lt_iff_lt-mul (pow_pos shift)).1 (rw wide.1 small)

  pub route-in : (row : List ℕ) → route_mark shift row < n
  unfolding route_mark mark_of
  route-in row = mark_in _

  pub destination-in : (row : List ℕ) → destination_mark shift row < n
  unfolding destination_mark mark_of
  destination-in row = mark_in _

-- four bytes read one by one, the last the highest
module _ (row : List ℕ) (a b d e : ℕ) (ha : Number 1 row 4 a) (hb : Number 1 row 5 b) (hd : Number 1 row 6 d) (he : Number 1 row 7 e) where
  -- the turned number is that of the bytes in the other order
  turned_four : Number 4 (e ∷ d ∷ b ∷ a ∷ []) 0 (turn (be 4 row 4))
  unfolding be
  turned_four =
      let first : a ≡ 0 * 256 + byte_at row 4 = ha.is in
      let second : b ≡ 0 * 256 + byte_at row 5 = hb.is in
      let third : d ≡ 0 * 256 + byte_at row 6 = hd.is in
      let fourth : e ≡ 0 * 256 + byte_at row 7 = he.is in
      let four : be 4 row 4 ≡ (((0 * 256 + byte_at row 4) * 256 + byte_at row 5) * 256 + byte_at row 6) * 256 + byte_at row 7 = refl in
      turned-number (record { is = omega arith; first = he.small; second = hd.small; third = hb.small; fourth = ha.small }) refl

  pub four_turned : ((e * 256 + d) * 256 + b) * 256 + a ≡ turn (be 4 row 4)
  unfolding be
  four_turned =
      let is : turn (be 4 row 4) ≡ (((0 * 256 + e) * 256 + d) * 256 + b) * 256 + a = turned_four.is in
      omega arith

  pub four_small : ((e * 256 + d) * 256 + b) * 256 + a < 4294967296
  four_small = rw four_turned turned_four.small

-- two bytes read one by one, the second the higher
pub pair_turned : (row : List ℕ) (hi lo : ℕ) → Number 1 row 8 hi → Number 1 row 9 lo → lo * 256 + hi ≡ turned_pair (be 2 row 8)
unfolding be
pair_turned row hi lo h l =
    let first : hi ≡ 0 * 256 + byte_at row 8 = h.is in
    let second : lo ≡ 0 * 256 + byte_at row 9 = l.is in
    let high : hi < 256 = h.small in
    let low : lo < 256 = l.small in
    let pair : be 2 row 8 ≡ (0 * 256 + byte_at row 8) * 256 + byte_at row 9 = refl in
    omega arith

pub pair_small : (row : List ℕ) (hi lo : ℕ) → Number 1 row 8 hi → Number 1 row 9 lo → lo * 256 + hi < 65536
pair_small row hi lo h l =
    let high : hi < 256 = h.small in
    let low : lo < 256 = l.small in
    omega arith

pub routes-marked : (shift : ℕ) (a b : List ℕ) → share Route a b ≡ true → route_mark shift a ≡ route_mark shift b
unfolding share routes_share route_mark route_row
routes-marked shift a b e =
    let one : be 1 a 0 ≡ be 1 b 0 = eqb-true _ _ (and_left (eqb (be 1 a 0) (be 1 b 0)) (eqb (be 4 a 4) (be 4 b 4)) e) in
    let four : be 4 a 4 ≡ be 4 b 4 = eqb-true _ _ (and_right (eqb (be 1 a 0) (be 1 b 0)) (eqb (be 4 a 4) (be 4 b 4)) e) in
    rw (one, four)

pub destinations-marked : (shift : ℕ) (a b : List ℕ) → share Destination a b ≡ true → destination_mark shift a ≡ destination_mark shift b
unfolding share destinations_share destination_mark destination_row
destinations-marked shift a b e =
    let two : be 2 a 8 ≡ be 2 b 8 = eqb-true _ _ (and_left (eqb (be 2 a 8) (be 2 b 8)) (eqb (be 1 a 0) (be 1 b 0)) e) in
    let one : be 1 a 0 ≡ be 1 b 0 = eqb-true _ _ (and_right (eqb (be 2 a 8) (be 2 b 8)) (eqb (be 1 a 0) (be 1 b 0)) e) in
    rw (two, one)
