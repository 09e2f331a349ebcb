-- The loops over routes and connections, at the places where they stand, and what a sum that fits says.
use Prim.Native.Nat.{ℕ, suc, ◌+◌, ◌<◌}
use mathlib.Core.Path.{◌≡◌, refl, sym, ap, ap₂, ◌∙◌}
use mathlib.Core.Bool.{Bool, true, ◌&&◌}
use mathlib.Core.List.{List, [], ◌∷◌}
use Rattle.std.specs.List.{list_all, zip}
use Rattle.std.proofs.lemmas.List.{get_or_default}
use native.Mathlib.Omega.{arith}
use native.Mathlib.Numerals.{add-one}
use lib.ListN.{length, get_or, set, drop}
use lib.Seq.{drop-cons, drop-length}
use borrow.Author.Tests.{ltb-true}
use Rattle.lists.specs.Each.{each, each_to}
use Rattle.lists.proofs.Each.{each_get, each_set, each_all}
use Rattle.lists.proofs.Both.{and_left, and_right, and4}
use Rattle.report.specs.declared.RouteFigures.{RouteFigures}
use Rattle.report.specs.declared.Drops.{Drops}
use Rattle.report.specs.Pairwise.{pairwise, all_pairs}
use Rattle.report.specs.declared.Report.{Report}
use Rattle.report.specs.Laws.{figures_made, drops_made}
use Rattle.report.specs.Figures.{sum_fits, add_figures, figures_fit, plus_figures, add_drops, drops_fit, plus_drops}
use Rattle.std.proofs.Common.{Ok}
use Rattle.report.specs.Report.{add_reports, routes_fit, connections_fit, reports_fit, routes_joined, connections_joined, join_reports}

-- no sum passes 64 bits
pub figures_small : (f g : RouteFigures) → figures_fit f g ≡ true
    → (f.pdus + g.pdus < 18446744073709551616) × (f.bytes + g.bytes < 18446744073709551616)
unfolding figures_fit
figures_small f g e = (ltb-true _ _ (and_left _ _ e), ltb-true _ _ (and_right (sum_fits f.pdus g.pdus) _ e))

pub record SmallDrops (d e : Drops) : Type 0 where
  pub unrouted : d.unrouted + e.unrouted < 18446744073709551616
  pub off : d.off + e.off < 18446744073709551616
  pub long : d.long + e.long < 18446744073709551616
  pub cut : d.cut + e.cut < 18446744073709551616
  pub short : d.short + e.short < 18446744073709551616

pub drops_small : (d e : Drops) → drops_fit d e ≡ true → SmallDrops d e
unfolding drops_fit
drops_small d e h =
    let four : Bool = sum_fits d.unrouted e.unrouted && sum_fits d.off e.off && sum_fits d.long e.long && sum_fits d.cut e.cut in
    let f = and4 (sum_fits d.unrouted e.unrouted) (sum_fits d.off e.off)
    (sum_fits d.long e.long) (sum_fits d.cut e.cut) (and_left four _ h) in
    record {
      unrouted = ltb-true _ _ f.0;
      off = ltb-true _ _ f.1;
      long = ltb-true _ _ f.2;
      cut = ltb-true _ _ f.3;
      short = ltb-true _ _ (and_right four _ h);
    }

module _ {A : Type 0} (d : A) where
  -- an element beside the other list's at its place
  module _ (f : A → A → A) where
    abbrev pub beside : List A → ℕ → A → A
    beside ys i x = f x (get_or ys i d)

    each_pairs : (k : ℕ) (xs ys : List A) → k + length xs ≡ length ys → each (beside ys) k xs ≡ pairwise f xs (drop k ys)
    unfolding pairwise
    each_pairs k [] ys h = let e : k ≡ length ys = omega arith in sym (ap (λ (n : ℕ). drop n ys) e ∙ drop-length ys)
    each_pairs k (x ∷ xs) ys h =
        let l : k < length ys = omega arith in
        ap (λ (l : List A). f x (get_or ys k d) ∷ l) (each_pairs (suc k) xs ys (omega arith)) ∙ sym (ap (pairwise f (x ∷ xs)) (drop-cons ys k d l))

    -- the first i are joined; one more; all
    abbrev pub JoinedTo : List A → List A → ℕ → List A → Type 0
    JoinedTo xs ys i after = after ≡ each_to (beside ys) 0 i xs

    pub joined-on : (xs ys : List A) (i : ℕ) (after : List A) (x y next : A) → length after ≡ length xs → length xs ≡ length ys → i < length xs
        → JoinedTo xs ys i after → y ≡ get_or ys i y → next ≡ f (get_or after i x) y → JoinedTo xs ys (i + 1) (set after i next)
    joined-on xs ys i after x y next long both h e other q =
        let z : i ≡ 0 + i = omega arith in
        let still : get_or after i x ≡ get_or xs i d =
        get_or_default after i x d (omega arith) ∙ ap (λ (l : List A). get_or l i d) e ∙ each_get (beside ys) 0 i xs d in
        let n : next ≡ beside ys (0 + i) (get_or xs i d) =
        q ∙ ap₂ f still (other ∙ get_or_default ys i y d (omega arith)) ∙ ap (λ (k : ℕ). beside ys k (get_or xs i d)) z in
        ap₂ (λ (l : List A) (x : A). set l i x) e n ∙ each_set (beside ys) 0 i xs d h ∙ ap (λ (k : ℕ). each_to (beside ys) 0 k xs) (sym (add-one i))

    pub joined-all : (xs ys : List A) (i : ℕ) (after : List A) → length xs ≡ length ys → length xs ≡ i → JoinedTo xs ys i after
        → after ≡ pairwise f xs ys
    joined-all xs ys i after h e q =
        q ∙ ap (λ (n : ℕ). each_to (beside ys) 0 n xs) (sym e) ∙ each_all (beside ys) 0 xs ∙ each_pairs 0 xs ys (omega arith)

-- a test of each pair, as a loop over both lists finds it
pub all_zipped : {A : Type 0} (t : A → A → Bool) (xs ys : List A) → list_all (λ (p : A × A). t p.0 p.1) (zip xs ys) ≡ all_pairs t xs ys
unfolding all_pairs
all_zipped t [] ys = refl
all_zipped t (x ∷ xs) [] = refl
all_zipped t (x ∷ xs) (y ∷ ys) = ap (λ (b : Bool). t x y && b) (all_zipped t xs ys)

-- where every sum fits, each is made
pairs_fit : {A : Type 0} (t : A → A → Bool) (f g : A → A → A) → ((x y : A) → t x y ≡ true → f x y ≡ g x y) → (xs ys : List A)
    → all_pairs t xs ys ≡ true → pairwise f xs ys ≡ pairwise g xs ys
unfolding all_pairs pairwise
pairs_fit t f g same [] ys e = refl
pairs_fit t f g same (x ∷ xs) [] e = refl
pairs_fit {A} t f g same (x ∷ xs) (y ∷ ys) e =
    ap₂ (λ (z : A) (l : List A). z ∷ l) (same x y (and_left (t x y) _ e)) (pairs_fit t f g same xs ys (and_right (t x y) _ e))

-- whether two reports fit, by what the loops find
pub fits_found : (a b : Report) → reports_fit a b ≡ (list_all (λ (x : RouteFigures × RouteFigures). figures_fit x.0 x.1) (zip a.routes b.routes)
    && list_all (λ (x : Drops × Drops). drops_fit x.0 x.1) (zip a.connections b.connections))
unfolding routes_fit connections_fit
fits_found a b = sym (ap₂ ◌&&◌ (all_zipped figures_fit a.routes b.routes) (all_zipped drops_fit a.connections b.connections))

-- the lists that the loops leave
pub sums_made : (a b : Report) → reports_fit a b ≡ true → add_reports a b
    ≡ record { routes = pairwise plus_figures a.routes b.routes; connections = pairwise plus_drops a.connections b.connections }
unfolding routes_fit connections_fit add_reports
sums_made a b e =
    sym
    (ap₂ (λ (x : List RouteFigures) (y : List Drops). record { routes = x; connections = y })
    (pairs_fit figures_fit plus_figures add_figures figures_made a.routes b.routes (and_left _ _ e))
    (pairs_fit drops_fit plus_drops add_drops drops_made a.connections b.connections (and_right (routes_fit a b) _ e)))

-- .. are the report of the join
pub made_joined : (a b : Report) → reports_fit a b ≡ true → join_reports a b ≡ Ok (connections_joined (routes_joined a b) b)
unfolding join_reports routes_joined connections_joined
made_joined a b e = rw (e, sums_made a b e)
