-- WHY EACH DECISION ON A HEADER IS GIVEN (`lookup_decided`), and that it is given exactly then (`decided_lookup`, where no two routes
-- share connection and id).
use Prim.Native.Nat.{ℕ, ◌<◌, ◌≤◌}
use mathlib.Core.Path.{◌≡◌, refl, sym, ap, subst, ◌∙◌}
use mathlib.Core.Bool.{Bool, true, false, cond, not}
use mathlib.Core.List.{List}
use native.Mathlib.Omega.{arith}
use native.Mathlib.Decide.{dec_lt}
use borrow.Author.Tests.{ltb-true, ltb-false, eqb-true, eq-eqb, not-false}
use lib.Dec.{ltb, eqb}
use Rattle.reading.specs.declared.Decision.{Decision}
use Rattle.reading.specs.declared.Decision.TheVariants.{Accept, Transfer}
use Rattle.switches.specs.Switches.{is_on}
use Rattle.std.proofs.Common.{Some, None}
use Rattle.lists.proofs.Both.{and_left, and_right, and_both, impossible}
use Rattle.lists.proofs.Search.{none_bad, found-bad}
use Rattle.table_rows.specs.declared.RouteRow.{RouteRow}
use Rattle.table_rows.specs.Rows.{route_in}
use Rattle.receive_route.specs.Route.{rows_in, counts, passed, row_for, row_found, row_decision, decision_at, lookup_of}
use Rattle.receive_route.specs.Decided.{Bears, Allows, Carries, Decided, allowing, carrying, no_route, off, too_long, Alone, MarkedTcp}

-- the row that the search finds, where it finds one, counts
row_counts : (routes : List ℕ) (connection id : ℕ) → row_for routes connection id < rows_in routes
    → counts (route_in routes (row_for routes connection id)) connection id ≡ true
unfolding row_for
row_counts routes connection id h = not-false _ (found-bad (passed routes connection id) (rows_in routes) h)

row_named : (row : RouteRow) (connection id : ℕ) → counts row connection id ≡ true → (row.connection ≡ connection) × (row.id ≡ id)
unfolding counts
row_named row connection id e = (eqb-true _ _ (and_left _ _ e), eqb-true _ _ (and_right (eqb row.connection connection) _ e))

counts-row : (row : RouteRow) (connection id : ℕ) → row.connection ≡ connection → row.id ≡ id → counts row connection id ≡ true
unfolding counts
counts-row row connection id p q = and_both (eq-eqb _ _ p) (eq-eqb _ _ q)

module _ (routes : List ℕ) (connection id : ℕ) where
  -- the row that the search finds, where it finds one, bears the id; where it finds none, no row does
  row-bears : row_for routes connection id < rows_in routes → Bears routes connection id (row_for routes connection id)
  row-bears l =
      let n = row_named _ _ _ (row_counts routes connection id l) in
      record { there = l; owned = n.0; named = n.1 }

  none_bears : rows_in routes ≤ row_for routes connection id → (r : ℕ) → Bears routes connection id r → ⊥
  unfolding row_for
  none_bears h r b =
      let p : not (counts (route_in routes r) connection id) ≡ true = none_bad (passed routes connection id) (rows_in routes) h r b.there in
      impossible (sym (ap not (counts-row (route_in routes r) connection id b.owned b.named)) ∙ p)

-- WHY A DECISION IS GIVEN
pub lookup_decided : (routes : List ℕ) (connection switches id n : ℕ) → Decided routes connection switches id n (lookup_of routes connection switches id n)
unfolding lookup_of row_found row_decision
lookup_decided routes connection switches id n =
    go (row_for routes connection id) (row-bears routes connection id) (none_bears routes connection id)
    (ltb (row_for routes connection id) (rows_in routes)) refl
    (is_on (route_in routes (row_for routes connection id)).groups switches) refl (route_in routes (row_for routes connection id)).transfer refl
    (ltb (route_in routes (row_for routes connection id)).longest n) refl
  where
    go : (r : ℕ) → (r < rows_in routes → Bears routes connection id r) → (rows_in routes ≤ r → (j : ℕ) → Bears routes connection id j → ⊥)
        → (a : Bool) → ltb r (rows_in routes) ≡ a → (b : Bool) → is_on (route_in routes r).groups switches ≡ b
        → (m : Bool) → (route_in routes r).transfer ≡ m → (c : Bool) → ltb (route_in routes r).longest n ≡ c
        → Decided routes connection switches id n (decision_at routes switches n (cond a (Some r) None))
    go r k none false ea b eb m em c ec = no_route (none (ltb-false _ _ ea))
    go r k none true ea false eb m em c ec = rw eb (off r (k (ltb-true _ _ ea)) eb)
    go r k none true ea true eb true em c ec = rw (eb, em) (carrying r (record { bears = k (ltb-true _ _ ea); on = eb; marked = em }))
    go r k none true ea true eb false em true ec =
        rw (eb, em, ec) (too_long r (record { bears = k (ltb-true _ _ ea); on = eb; unmarked = em; long = ltb-true _ _ ec }))
    go r k none true ea true eb false em false ec =
        rw (eb, em, ec) (allowing r (record { bears = k (ltb-true _ _ ea); on = eb; unmarked = em; fits = ltb-false _ _ ec }))

pub route-accepted : (routes : List ℕ) (connection switches id length route : ℕ) → lookup_of routes connection switches id length ≡ Accept route
    → Allows routes connection switches id length route
route-accepted routes connection switches id length route e = go (lookup_decided routes connection switches id length) e
  where
    go : {d : Decision} → Decided routes connection switches id length d → d ≡ Accept route → Allows routes connection switches id length route
    go (allowing r a) q = let p : r ≡ route = cc in subst (Allows routes connection switches id length) p a
    go (carrying r a) q = let z : ◌≡◌ {A = ℕ} 0 1 = cc in absurd (omega arith)
    go (no_route h) q = let z : ◌≡◌ {A = ℕ} 0 1 = cc in absurd (omega arith)
    go (off r b h) q = let z : ◌≡◌ {A = ℕ} 0 1 = cc in absurd (omega arith)
    go (too_long r b) q = let z : ◌≡◌ {A = ℕ} 0 1 = cc in absurd (omega arith)

-- a transfer is given on a marked row only
pub route_transfers : (routes : List ℕ) (connection switches id length route : ℕ) → lookup_of routes connection switches id length ≡ Transfer route
    → Carries routes connection switches id length route
route_transfers routes connection switches id length route e = go (lookup_decided routes connection switches id length) e
  where
    go : {d : Decision} → Decided routes connection switches id length d → d ≡ Transfer route → Carries routes connection switches id length route
    go (allowing r a) q = let z : ◌≡◌ {A = ℕ} 0 1 = cc in absurd (omega arith)
    go (carrying r a) q = let p : r ≡ route = cc in subst (Carries routes connection switches id length) p a
    go (no_route h) q = let z : ◌≡◌ {A = ℕ} 0 1 = cc in absurd (omega arith)
    go (off r b h) q = let z : ◌≡◌ {A = ℕ} 0 1 = cc in absurd (omega arith)
    go (too_long r b) q = let z : ◌≡◌ {A = ℕ} 0 1 = cc in absurd (omega arith)

-- and never on a connection that is not TCP, where every marked route's is
pub never_transfers : (routes : List ℕ) (tcp : ℕ → Bool) (connection switches id length route : ℕ) → MarkedTcp routes tcp → tcp connection ≡ false
    → lookup_of routes connection switches id length ≡ Transfer route → ⊥
never_transfers routes tcp connection switches id length route only udp e =
    let t = route_transfers routes connection switches id length route e in
    impossible (sym udp ∙ ap tcp (sym t.bears.owned) ∙ only route t.bears.there t.marked)

-- AND NO OTHER IS: where no two routes share connection and id, one row at most bears the header's id
module _ (routes : List ℕ) (connection id : ℕ) (alone : Alone routes) where
  pub one-bears : (i j : ℕ) → Bears routes connection id i → Bears routes connection id j → i ≡ j
  one-bears i j a b = go (dec_lt i j) (dec_lt j i)
    where
      go : Dec (i < j) → Dec (j < i) → i ≡ j
      go (yes l) d = absurd (alone i j l b.there (a.owned ∙ sym b.owned) (a.named ∙ sym b.named))
      go (no n) (yes l) = absurd (alone j i l a.there (b.owned ∙ sym a.owned) (b.named ∙ sym a.named))
      go (no n) (no m) = omega (arith, n, m)

  module _ (switches n : ℕ) where
    abbrev Says : Decision → Type 0
    Says d = Decided routes connection switches id n d

    -- the row of one id is not both on and off, and does not both allow and refuse one length
    both_ways : {P : Type 0} (i j : ℕ) → Bears routes connection id i → Bears routes connection id j
        → is_on (route_in routes i).groups switches ≡ true → is_on (route_in routes j).groups switches ≡ false → P
    both_ways i j a b lit dark = impossible (sym dark ∙ ap (λ (r : ℕ). is_on (route_in routes r).groups switches) (sym (one-bears i j a b)) ∙ lit)

    marked_not : {P : Type 0} (i j : ℕ) → Bears routes connection id i → Bears routes connection id j
        → (route_in routes i).transfer ≡ true → (route_in routes j).transfer ≡ false → P
    marked_not i j a b t f = impossible (sym f ∙ ap (λ (r : ℕ). (route_in routes r).transfer) (sym (one-bears i j a b)) ∙ t)

    fits_not : {P : Type 0} (i j : ℕ) → Bears routes connection id i → Bears routes connection id j
        → n ≤ (route_in routes i).longest → (route_in routes j).longest < n → P
    fits_not i j a b fits long = absurd (omega (arith, fits, long, ap (λ (r : ℕ). (route_in routes r).longest) (one-bears i j a b)))

    pub decided-once : {d e : Decision} → Says d → Says e → d ≡ e
    decided-once (allowing i a) (allowing j b) = ap Accept (one-bears i j a.bears b.bears)
    decided-once (allowing i a) (carrying j b) = marked_not j i b.bears a.bears b.marked a.unmarked
    decided-once (allowing i a) (no_route h) = absurd (h i a.bears)
    decided-once (allowing i a) (off j b f) = both_ways i j a.bears b a.on f
    decided-once (allowing i a) (too_long j b) = fits_not i j a.bears b.bears a.fits b.long
    decided-once (carrying i a) (allowing j b) = marked_not i j a.bears b.bears a.marked b.unmarked
    decided-once (carrying i a) (carrying j b) = ap Transfer (one-bears i j a.bears b.bears)
    decided-once (carrying i a) (no_route h) = absurd (h i a.bears)
    decided-once (carrying i a) (off j b f) = both_ways i j a.bears b a.on f
    decided-once (carrying i a) (too_long j b) = marked_not i j a.bears b.bears a.marked b.unmarked
    decided-once (no_route h) (allowing j b) = absurd (h j b.bears)
    decided-once (no_route h) (carrying j b) = absurd (h j b.bears)
    decided-once (no_route h) (no_route k) = refl
    decided-once (no_route h) (off j b f) = absurd (h j b)
    decided-once (no_route h) (too_long j b) = absurd (h j b.bears)
    decided-once (off i a f) (allowing j b) = both_ways j i b.bears a b.on f
    decided-once (off i a f) (carrying j b) = both_ways j i b.bears a b.on f
    decided-once (off i a f) (no_route h) = absurd (h i a)
    decided-once (off i a f) (off j b g) = refl
    decided-once (off i a f) (too_long j b) = both_ways j i b.bears a b.on f
    decided-once (too_long i a) (allowing j b) = fits_not j i b.bears a.bears b.fits a.long
    decided-once (too_long i a) (carrying j b) = marked_not j i b.bears a.bears b.marked a.unmarked
    decided-once (too_long i a) (no_route h) = absurd (h i a.bears)
    decided-once (too_long i a) (off j b f) = both_ways i j a.bears b a.on f
    decided-once (too_long i a) (too_long j b) = refl

    pub decided_lookup : (d : Decision) → Says d → lookup_of routes connection switches id n ≡ d
    decided_lookup d h = decided-once (lookup_decided routes connection switches id n) h
