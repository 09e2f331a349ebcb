-- The laws of the lookup: the search for a row, and the decision at it.
use Prim.Native.Nat.{ℕ, ◌+◌, ◌-◌, ◌*◌, ◌/◌, ◌%◌, ◌<◌, ◌≤◌}
use mathlib.Core.Path.{◌≡◌, refl, sym, ap, ap₂, ◌∙◌}
use mathlib.Core.Bool.{Bool, true, false, cond, not, ◌&&◌, and_comm}
use mathlib.Core.List.{List}
use native.Mathlib.Omega.{arith}
use borrow.Author.Tests.{lt-ltb, le-ltb, ne_eqb}
use lib.Dec.{eqb, ltb}
use Rattle.std.proofs.Common.{Some, None}
use Rattle.switches.specs.Switches.{is_on}
use Rattle.receive_route.proofs.Rows as Rows
use lib.ListN.{length, take, drop}
use Rattle.reading.specs.declared.DropReason.TheVariants.{NoRoute, SwitchedOff, TooLong}
use Rattle.reading.specs.declared.Decision.{Decision}
use Rattle.reading.specs.declared.Decision.TheVariants.{Accept, Refuse, Transfer}
use Rattle.lists.specs.Search.{first_bad}
use Rattle.lists.proofs.Search.{Searched, search_found, search_ended}
use Rattle.table_rows.specs.declared.RouteRow.{RouteRow}
use Rattle.table_rows.specs.Rows.{route_row, route_in}
use Rattle.wire.specs.Be.{be, Little}
use Rattle.receive_route.proofs.Keys.{key_tells}
use Rattle.receive_route.specs.Route.{Key, RowsCounted, rows_in, counts, passed, row_for, row_found, reason_in, reason_of, row_decision, decision_at, lookup_of}

-- the two numbers of a row that are compared with the header's
pub read_row : (row : List ℕ) (connection id a x key : ℕ) → Little row 4 x → Key id key → a ≡ be 1 row 0
    → (eqb x key && eqb a connection) ≡ counts (route_row row) connection id
unfolding counts route_row
read_row row connection id a x key p k ea =
    and_comm (eqb x key) (eqb a connection) ∙ ap₂ (λ (i c : Bool). i && c) (ap (λ (n : ℕ). eqb n connection) ea) (key_tells row id x key p k)

-- the search for a row, of n rows: it stands at the byte where row at / 16 starts
module _ (routes : List ℕ) (connection id n at : ℕ) where
  abbrev pub At : Type 0
  At = Searched (passed routes connection id) n (at / 16) × (at % 16 ≡ 0)

  -- that row counts, or does not, by what was read as a part of the body
  row_says : (b : Bool) → at % 16 ≡ 0 → at / 16 < length routes / 16
      → b ≡ counts (route_row (take (at + 16 - at) (drop at routes))) connection id → passed routes connection id (at / 16) ≡ not b
  row_says b m h e = Rows.row_counted routes connection id (at / 16) _ b (Rows.row_at routes at m h) e

  -- at a row that is passed, at one that counts, and at the end
  module _ (inv : At) (rows : RowsCounted routes n) where
    pub find_on : (b : Bool) → at < n * 16 → b ≡ counts (route_row (take (at + 16 - at) (drop at routes))) connection id → b ≡ false
        → Searched (passed routes connection id) n ((at + 16) / 16) × ((at + 16) % 16 ≡ 0)
    find_on b h e is = Rows.find_on routes connection id n at _ b inv h (Rows.row_at routes at inv.1 (omega (arith, rows.within))) e is

    pub find_hit : (b : Bool) → at < n * 16 → b ≡ counts (route_row (take (at + 16 - at) (drop at routes))) connection id → b ≡ true
        → at / 16 ≡ row_for routes connection id
    unfolding row_for
    find_hit b h e is =
        search_found (passed routes connection id) n (at / 16) inv.0 (omega arith) (row_says b inv.1 (omega (arith, rows.within)) e ∙ ap not is)
        ∙ ap (first_bad (passed routes connection id)) rows.is

    pub find_end : n * 16 ≤ at → n ≡ row_for routes connection id
    unfolding row_for
    find_end h =
        let e : n ≡ at / 16 = omega (arith, inv.0.0) in
        e ∙ search_ended (passed routes connection id) n (at / 16) inv.0 (omega arith) ∙ ap (first_bad (passed routes connection id)) rows.is

-- the reason: what the row says, or no row
pub reason_row : (routes : List ℕ) (i n switches length : ℕ) (row : RouteRow) (k : ℕ) → i < n → n ≡ rows_in routes → row ≡ route_in routes i
    → k ≡ reason_in row switches length → k ≡ reason_of routes i switches length
unfolding reason_of
reason_row routes i n switches length row k h en er ek =
    let l : i < rows_in routes = omega arith in
    simp (lt-ltb i (rows_in routes) l) (ek ∙ ap (λ (r : RouteRow). reason_in r switches length) er)

pub reason_none : (routes : List ℕ) (i n switches length : ℕ) → n ≤ i → n ≡ rows_in routes → 20 ≡ reason_of routes i switches length
unfolding reason_of
reason_none routes i n switches length h en =
    let l : rows_in routes ≤ i = omega arith in
    simp (le-ltb i (rows_in routes) l)

-- the decision at a number
abbrev pub decision_by : ℕ → ℕ → Decision
decision_by k i =
    cond (eqb k 0) (Accept i) (cond (eqb k 1) (Transfer i) (cond (eqb k 21) (Refuse SwitchedOff) (cond (eqb k 22) (Refuse TooLong) (Refuse NoRoute))))

-- .. is what the row says
pub decision_said : (row : RouteRow) (i switches length : ℕ) → decision_by (reason_in row switches length) i ≡ row_decision row i switches length
unfolding reason_in row_decision
decision_said row i switches length = go (not (is_on row.groups switches)) row.transfer (ltb row.longest length)
  where
    go : (b m c : Bool)
        → decision_by (cond b 21 (cond m 1 (cond c 22 0))) i ≡ cond b (Refuse SwitchedOff) (cond m (Transfer i) (cond c (Refuse TooLong) (Accept i)))
    go true m c = refl
    go false true c = refl
    go false false true = refl
    go false false false = refl

pub lookup_by : (routes : List ℕ) (connection switches id length i k : ℕ) → i ≡ row_for routes connection id → k ≡ reason_of routes i switches length
    → decision_by k i ≡ lookup_of routes connection switches id length
unfolding lookup_of row_found reason_of
lookup_by routes connection switches id length i k found said =
    ap (λ (j : ℕ). decision_by j i) said ∙ ap (λ (r : ℕ). decision_by (reason_of routes r switches length) r) found
    ∙ go (row_for routes connection id) (ltb (row_for routes connection id) (rows_in routes))
  where
    go : (r : ℕ) (a : Bool)
        → decision_by (cond a (reason_in (route_in routes r) switches length) 20) r ≡ decision_at routes switches length (cond a (Some r) None)
    go r false = refl
    go r true = decision_said (route_in routes r) r switches length

-- at a number that is known, and at another
pub lookup_at : (routes : List ℕ) (connection switches id length i k : ℕ) → i ≡ row_for routes connection id → k ≡ reason_of routes i switches length
    → {j : ℕ} → k ≡ j → decision_by j i ≡ lookup_of routes connection switches id length
lookup_at routes connection switches id length i k found said is =
    ap (λ (n : ℕ). decision_by n i) (sym is) ∙ lookup_by routes connection switches id length i k found said

pub lookup_else : (routes : List ℕ) (connection switches id length i k : ℕ) → i ≡ row_for routes connection id → k ≡ reason_of routes i switches length
    → (k ≡ 0 → ⊥) → (k ≡ 1 → ⊥) → (k ≡ 21 → ⊥) → (k ≡ 22 → ⊥) → Refuse NoRoute ≡ lookup_of routes connection switches id length
lookup_else routes connection switches id length i k found said taken carried off long =
    let none : decision_by k i ≡ Refuse NoRoute = rw (ne_eqb k 0 taken, ne_eqb k 1 carried, ne_eqb k 21 off, ne_eqb k 22 long) refl in
    sym none ∙ lookup_by routes connection switches id length i k found said

-- the decision: what the row that was found says, or that there is none
module _ (routes : List ℕ) (connection switches id length i n : ℕ) (found : i ≡ row_for routes connection id) (rows : RowsCounted routes n) where
  pub lookup_hit : (row : RouteRow) (d : Decision) → i < n → row ≡ route_in routes i → d ≡ row_decision row i switches length
      → d ≡ lookup_of routes connection switches id length
  unfolding lookup_of row_found
  lookup_hit row d h er ed =
      let l : i < rows_in routes = omega (arith, rows.is) in
      rw (← found, lt-ltb i (rows_in routes) l) (ed ∙ ap (λ (r : RouteRow). row_decision r i switches length) er)

  pub lookup_none : n ≤ i → Refuse NoRoute ≡ lookup_of routes connection switches id length
  unfolding lookup_of row_found
  lookup_none h =
      let l : rows_in routes ≤ i = omega (arith, rows.is) in
      rw (← found, le-ltb i (rows_in routes) l)
