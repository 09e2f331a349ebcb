-- THE SEARCH OVER ANY NUMBER OF ROWS, read as parts of the body: its start, and a row that is passed.
use Prim.Native.Nat.{ℕ, ◌+◌, ◌-◌, ◌*◌, ◌/◌, ◌%◌, ◌<◌}
use mathlib.Core.Path.{◌≡◌, refl, sym, ap, subst, ◌∙◌}
use mathlib.Core.Bool.{Bool, true, false, not}
use mathlib.Core.List.{List}
use native.Mathlib.Omega.{arith}
use lib.ListN.{length, take, drop}
use Rattle.lists.proofs.Search.{Searched, search_start, search_on}
use Rattle.table_layout.proofs.Parts.{row_range}
use Rattle.table_rows.specs.declared.RouteRow.{RouteRow}
use Rattle.table_rows.specs.Rows.{route_row, route_in}
use Rattle.receive_route.specs.Route.{counts, passed}

-- the row that is read as a part of the body, from the byte where it starts
pub row_at : (routes : List ℕ) (at : ℕ) → at % 16 ≡ 0 → at / 16 < length routes / 16
    → route_row (take (at + 16 - at) (drop at routes)) ≡ route_in routes (at / 16)
row_at routes at m h =
    let e : at ≡ at / 16 * 16 = omega arith in
    ap (λ (k : ℕ). route_row (take (k + 16 - k) (drop k routes))) e ∙ ap route_row (row_range 16 routes (at / 16) h)

module _ (routes : List ℕ) (connection id : ℕ) where
  pub row_counted : (i : ℕ) (row : RouteRow) (b : Bool) → row ≡ route_in routes i → b ≡ counts row connection id → passed routes connection id i ≡ not b
  row_counted i row b er eb = ap (λ (r : RouteRow). not (counts r connection id)) (sym er) ∙ ap not (sym eb)

  -- the loop counts bytes: it stands at row at / 16
  abbrev pub At : ℕ → ℕ → Type 0
  At n at = Searched (passed routes connection id) n (at / 16) × (at % 16 ≡ 0)

  pub find_start : (n : ℕ) → At n 0
  find_start n = (search_start (passed routes connection id) n, refl)

  pub find_on : (n at : ℕ) (row : RouteRow) (b : Bool) → At n at → at < n * 16
      → row ≡ route_in routes (at / 16) → b ≡ counts row connection id → b ≡ false → At n (at + 16)
  find_on n at row b inv h er eb e =
      let next : at / 16 + 1 ≡ (at + 16) / 16 = omega arith in
      let l : at / 16 < n = omega arith in
      let good : passed routes connection id (at / 16) ≡ true = row_counted (at / 16) row b er eb ∙ ap not e in (
        subst (Searched (passed routes connection id) n) next (search_on (passed routes connection id) n (at / 16) inv.0 l good),
        omega (arith, inv.1),
      )
