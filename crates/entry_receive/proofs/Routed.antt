-- An unfinished payload whose route belongs to the connection, is not marked and allows the length, and a transfer whose route belongs to it
-- and is marked: as soundness asks it, and as a take keeps it.
use Prim.Native.Nat.{ℕ, ◌/◌, ◌≤◌, ◌<◌}
use mathlib.Core.Path.{◌≡◌, refl, sym, ap, subst}
use mathlib.Core.Bool.{Bool, true, false, cond, not, ◌&&◌}
use mathlib.Core.List.{List}
use native.Mathlib.Omega.{arith}
use lib.Dec.{eqb, leb, ltb}
use lib.ListN.{length}
use borrow.Author.Tests.{eqb-true, leb-true, ltb-true, eq-eqb, le-leb, lt-ltb, leb-false, not-true}
use Rattle.lists.proofs.Both.{and_left, and_right, and_both}
use Rattle.receive_part.specs.declared.Part.{Part}
use Rattle.receive_part.specs.declared.Part.TheVariants.{Header, Payload, Skip, Transfer}
use Rattle.receive_route.specs.Route.{rows_in}
use Rattle.table_rows.specs.Rows.{route_in}
use Rattle.receive_stream.proofs.Leaves.{PartHolds, Owns, Moves}
use Rattle.gate.specs.Sound.{routed}

-- no more rows than 64
rows_all : (routes : List ℕ) → length routes / 16 ≤ 64 → rows_in routes ≡ length routes / 16
unfolding rows_in
rows_all routes h = rw (le-leb (length routes / 16) 64 h)

pub rows-within : (routes : List ℕ) → rows_in routes ≤ length routes / 16
unfolding rows_in
rows-within routes = go (leb (length routes / 16) 64) refl
  where
    go : (b : Bool) → leb (length routes / 16) 64 ≡ b → cond b (length routes / 16) 64 ≤ length routes / 16
    go true e = omega arith
    go false e = let h : 64 < length routes / 16 = leb-false (length routes / 16) 64 e in omega arith

-- the tests of a payload's route and of a transfer's, and what each says
module _ (routes : List ℕ) (n route : ℕ) where
  abbrev row : Bool
  row = ltb route (length routes / 16)

  abbrev ours : Bool
  ours = eqb (route_in routes route).connection n

  own-there : length routes / 16 ≤ 64 → row ≡ true → route < rows_in routes
  own-there h e = subst (λ (m : ℕ). route < m) (sym (rows_all routes h)) (ltb-true route (length routes / 16) e)

  own_ours : ours ≡ true → (route_in routes route).connection ≡ n
  own_ours e = eqb-true (route_in routes route).connection n e

  owned : route < rows_in routes → (route_in routes route).connection ≡ n → (row && ours) ≡ true
  owned h e = and_both (lt-ltb route (length routes / 16) (omega (arith, h, rows-within routes))) (eq-eqb (route_in routes route).connection n e)

pub routed_owns : (routes : List ℕ) (n : ℕ) (p : Part) → length routes / 16 ≤ 64 → routed routes n p ≡ true → PartHolds (Owns routes n) (Moves routes n) p
routed_owns routes n (Header held value) h e = tt
routed_owns routes n (Payload route len held) h e =
    let within : Bool = leb len (route_in routes route).longest in
    let a : (row routes n route && ours routes n route && within) ≡ true = and_left (row routes n route && ours routes n route && within) _ e in
    let o : (row routes n route && ours routes n route) ≡ true = and_left (row routes n route && ours routes n route) within a in
    record {
      there = own-there routes n route h (and_left (row routes n route) _ o);
      owned = own_ours routes n route (and_right (row routes n route) _ o);
      allows = leb-true len (route_in routes route).longest (and_right (row routes n route && ours routes n route) within a);
      plain = not-true (route_in routes route).transfer (and_right (row routes n route && ours routes n route && within) _ e);
    }
routed_owns routes n (Skip bytes) h e = tt
routed_owns routes n (Transfer route left) h e =
    let o : (row routes n route && ours routes n route) ≡ true = and_left (row routes n route && ours routes n route) _ e in
    record {
      there = own-there routes n route h (and_left (row routes n route) _ o);
      owned = own_ours routes n route (and_right (row routes n route) _ o);
      marked = and_right (row routes n route && ours routes n route) _ e;
    }

pub owns_routed : (routes : List ℕ) (n : ℕ) (p : Part) → PartHolds (Owns routes n) (Moves routes n) p → routed routes n p ≡ true
owns_routed routes n (Header held value) o = refl
owns_routed routes n (Payload route len held) o =
    and_both (and_both (owned routes n route o.there o.owned) (le-leb len (route_in routes route).longest o.allows)) (ap not o.plain)
owns_routed routes n (Skip bytes) o = refl
owns_routed routes n (Transfer route left) o = and_both (owned routes n route o.there o.owned) o.marked
