-- WHAT IS COUNTED HAS NUMBERS OF 64 BITS (R21.4), whatever the answers are: so where no sum passed them while counting, none of the run's report does.
use Prim.Native.Nat.{ℕ, zero, suc}
use mathlib.Core.Path.{◌≡◌, refl, subst, ◌∙◌}
use mathlib.Core.Bool.{Bool, true, false, cond}
use mathlib.Core.List.{List, [], ◌∷◌}
use native.Mathlib.Omega.{arith}
use lib.Dec.{ltb}
use lib.ListN.{length, get_or, set, replicate, drop, length-set}
use Rattle.lists.proofs.Both.{and_left, and_right, and_both}
use Rattle.recording.specs.Entry.{take_needs}
use Rattle.report.specs.declared.RouteFigures.{RouteFigures}
use Rattle.report.specs.declared.Drops.{Drops}
use Rattle.report.specs.declared.Report.{Report}
use Rattle.report.proofs.Turns.{figures_small, drops_small}
use Rattle.report.specs.Pairwise.{all_pairs}
use Rattle.report.specs.Figures.{no_pdus, add_figures, figures_fit, plus_figures, no_drops, add_drops, drops_fit, plus_drops}
use Rattle.report.specs.Report.{empty_report, figures_at, drops_at, FullReport, routes_fit, connections_fit, reports_fit}
use Rattle.report_count.specs.declared.Adds.{Adds}
use Rattle.report_count.specs.declared.Counting.{Counting}
use Rattle.report_count.specs.declared.Run.{Run}
use Rattle.report_count.specs.Count.{adds_of, one_counted, takes_counted, takes_in, takes_at, connection_named, run_begun, counting_at, after_counting}
use Rattle.report_count.specs.Count.{event_counted}
use Rattle.theorem_report.proofs.Figures.{fits_figures, fits-drops}
use Rattle.theorem_report.proofs.Joins.{empty_full}
use Rattle.model_refines.specs.Machine.{Machine}
use Rattle.theorem_record.specs.Record.{Noted}
use Rattle.theorem_record.specs.Again.{Timed, recorded}
use Rattle.theorem_tally.specs.Items.{run_report}
use Rattle.theorem_tally.specs.Tally.{entries_counted, events_timed, TimedBytes}
use Rattle.theorem_tally.proofs.Tally.{counted_run, tally_report}

-- EVERY ELEMENT OF A LIST, tested with the same: at a place, and with one replaced
module _ {A : Type 0} (t : A → A → Bool) (z : A) where
  each_at : (xs : List A) (n i : ℕ) → length xs ≡ n → t z z ≡ true → all_pairs t xs (replicate n z) ≡ true → t (get_or xs i z) z ≡ true
  unfolding all_pairs
  each_at [] n i long none e = none
  each_at (x ∷ xs) zero i long none e = absurd (omega (arith, long))
  each_at (x ∷ xs) (suc n) zero long none e = and_left (t x z) _ e
  each_at (x ∷ xs) (suc n) (suc i) long none e = each_at xs n i (omega (arith, long)) none (and_right (t x z) _ e)

  each_set : (xs : List A) (n i : ℕ) (y : A) → all_pairs t xs (replicate n z) ≡ true → t y z ≡ true → all_pairs t (set xs i y) (replicate n z) ≡ true
  unfolding all_pairs
  each_set [] n i y e h = refl
  each_set (x ∷ xs) zero zero y e h = refl
  each_set (x ∷ xs) zero (suc i) y e h = refl
  each_set (x ∷ xs) (suc n) zero y e h = and_both h (and_right (t x z) _ e)
  each_set (x ∷ xs) (suc n) (suc i) y e h = and_both (and_left (t x z) _ e) (each_set xs n i y (and_right (t x z) _ e) h)

-- a sum that is made fits
plus_small : (f g : RouteFigures) → figures_fit f no_pdus ≡ true → figures_fit (plus_figures f g) no_pdus ≡ true
unfolding plus_figures add_figures
plus_small f g h = go (figures_fit f g) refl
  where
    go : (b : Bool) → figures_fit f g ≡ b → figures_fit (cond b (add_figures f g) f) no_pdus ≡ true
    go true e = let s = figures_small f g e in fits_figures (add_figures f g) no_pdus (omega (arith, s.0)) (omega (arith, s.1))
    go false e = h

drops_plus_small : (d e : Drops) → drops_fit d no_drops ≡ true → drops_fit (plus_drops d e) no_drops ≡ true
unfolding plus_drops add_drops
drops_plus_small d e h = go (drops_fit d e) refl
  where
    go : (b : Bool) → drops_fit d e ≡ b → drops_fit (cond b (add_drops d e) d) no_drops ≡ true
    go true x =
        let s = drops_small d e x in
        fits-drops (add_drops d e) no_drops
        (record {
          unrouted = omega (arith, s.unrouted);
          off = omega (arith, s.off);
          long = omega (arith, s.long);
          cut = omega (arith, s.cut);
          short = omega (arith, s.short);
        })
    go false x = h

-- SMALL: 64 routes and 16 connections, and each number of 64 bits
pub record Small (r : Report) : Type 0 where
  pub full : FullReport r
  pub fits : reports_fit r empty_report ≡ true

one-small : (k : ℕ) (a : Adds) (c : Counting) → Small c.report → Small (one_counted k a c).report
unfolding one_counted routes_fit connections_fit figures_fit drops_fit
one-small k a c s =
    let routes : all_pairs figures_fit c.report.routes (replicate 64 no_pdus) ≡ true = and_left _ _ s.fits in
    let drops : all_pairs drops_fit c.report.connections (replicate 16 no_drops) ≡ true =
    and_right (all_pairs figures_fit c.report.routes (replicate 64 no_pdus)) _ s.fits in
    record {
      full =
          record {
            routes = length-set c.report.routes a.route _ ∙ s.full.routes;
            connections = length-set c.report.connections k _ ∙ s.full.connections;
          };
      fits =
          and_both
          (each_set figures_fit no_pdus c.report.routes 64 a.route _ routes
          (plus_small (figures_at c.report a.route) a.figures
          (each_at figures_fit no_pdus c.report.routes 64 a.route s.full.routes refl routes)))
          (each_set drops_fit no_drops c.report.connections 16 k _ drops
          (drops_plus_small (drops_at c.report k) a.drops
          (each_at drops_fit no_drops c.report.connections 16 k s.full.connections refl drops)));
    }

takes-small : (k n : ℕ) (l : List ℕ) (c : Counting) → Small c.report → Small (takes_counted k n l c).report
unfolding takes_counted
takes-small k zero l c s = s
takes-small k (suc n) l c s = takes-small k n (drop (take_needs l) l) (one_counted k (adds_of l c.kept) c) (one-small k (adds_of l c.kept) c s)

event-small : (number : ℕ) (arguments answer : List ℕ) (r : Run) → Small r.report → Small (event_counted number arguments answer r).report
unfolding event_counted
event-small number arguments answer r s = go (ltb (connection_named arguments) 16)
  where
    go : (b : Bool)
        → Small
        (cond b
        (after_counting (connection_named arguments) r
        (takes_counted (connection_named arguments) (takes_in number answer) (drop (takes_at number) answer) (counting_at (connection_named arguments) r)))
        r
        ).report
    go true =
        takes-small (connection_named arguments) (takes_in number answer) (drop (takes_at number) answer) (counting_at (connection_named arguments) r) s
    go false = s

-- R21.4: whatever the answers are
pub entries-small : (es : List Noted) (r : Run) → Small r.report → Small (entries_counted r es).report
unfolding entries_counted
entries-small [] r s = s
entries-small (e ∷ es) r s = entries-small es (event_counted e.number e.arguments e.answer r) (event-small e.number e.arguments e.answer r s)

begun-small : Small empty_report
unfolding routes_fit connections_fit all_pairs figures_fit drops_fit
begun-small = record { full = empty_full; fits = refl }

-- R21.11: where no sum passed 64 bits while counting, no number of the run's report does
pub tally_small : (image : List ℕ) (before : ℕ) (m : Machine) (cs : List Timed) → TimedBytes cs → (counted_run image before m cs).fits ≡ true
    → Small (run_report image m (events_timed before cs))
tally_small image before m cs bytes fits =
    subst Small (tally_report image before m cs bytes fits) (entries-small (recorded image before m cs) run_begun begun-small)
