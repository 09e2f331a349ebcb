-- The rule of a connection row by the numbers that the code reads: where there is no alive limit the protocol is not asked for.
use Prim.Native.Nat.{ℕ}
use mathlib.Core.Path.{◌≡◌}
use mathlib.Core.Bool.{Bool, true, false, not, ◌&&◌}
use mathlib.Core.List.{List}
use borrow.Author.Tests.{eq-eqb, ne_eqb}
use lib.Dec.{leb, ltb, eqb}
use Rattle.wire.specs.Be.{be}
use Rattle.table_rows.specs.Rules.{connection_good}
use Rattle.table_rows.specs.Rows.{connection_row}

-- what a row is asked beside its alive limit
abbrev sized : (g n a z : ℕ) → Bool
sized g n a z = ltb g n && leb a 1 && leb 8 z && leb z 1472

module _ (row : List ℕ) (n : ℕ) (tcp : ℕ → Bool) (g a z : ℕ) (eg : g ≡ be 1 row 0) (ea : a ≡ be 1 row 1) (ez : z ≡ be 2 row 8) where
  pub limit_bad : sized g n a z ≡ false → false ≡ connection_good n tcp row
  unfolding connection_good connection_row
  limit_bad e =
      let s : sized (be 1 row 0) n (be 1 row 1) (be 2 row 8) ≡ false = rw (eg, ea, ez) at e in
      rw s

  module _ (l : ℕ) (el : l ≡ be 2 row 10) (good : sized g n a z ≡ true) where
    pub limit_none : l ≡ 0 → true ≡ connection_good n tcp row
    unfolding connection_good connection_row
    limit_none e =
        let s : sized (be 1 row 0) n (be 1 row 1) (be 2 row 8) ≡ true = rw (eg, ea, ez) at good in
        let w : eqb (be 2 row 10) 0 ≡ true = eq-eqb (be 2 row 10) 0 (rw el at e) in
        rw (s, w)

    pub limit_some : (l ≡ 0 → ⊥) → (t : Bool) → t ≡ tcp g → not t ≡ connection_good n tcp row
    unfolding connection_good connection_row
    limit_some e t et =
        let s : sized (be 1 row 0) n (be 1 row 1) (be 2 row 8) ≡ true = rw (eg, ea, ez) at good in
        let w : eqb (be 2 row 10) 0 ≡ false = ne_eqb (be 2 row 10) 0 (λ h. e (rw el h)) in
        rw (et, eg, s, w)
