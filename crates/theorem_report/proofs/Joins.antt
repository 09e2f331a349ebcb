-- REPORTS JOINED (R21.3 to R21.6): in any order and any grouping; the empty report adds nothing; and sets of runs.
use Prim.Native.Nat.{ℕ, zero, suc, ◌<◌}
use mathlib.Core.Path.{◌≡◌, refl, sym, ap, ap₂, subst, ◌∙◌}
use mathlib.Core.Bool.{Bool, true, false, cond, ◌&&◌}
use Rattle.std.proofs.Common.{Result, Ok, Err}
use Rattle.std.specs.Result.{is_ok}
use mathlib.Core.List.{List, [], ◌∷◌, ◌++◌}
use native.Mathlib.Omega.{arith}
use lib.ListN.{length, get_or, replicate}
use Rattle.lists.proofs.Both.{and_left, and_right, and_both, impossible}
use Rattle.report.specs.declared.RouteFigures.{RouteFigures}
use Rattle.report.specs.declared.Drops.{Drops}
use Rattle.report.specs.declared.Report.{Report}
use Rattle.report.specs.Pairwise.{pairwise, all_pairs}
use Rattle.report.specs.Figures.{no_pdus, add_figures, figures_fit, no_drops, add_drops, drops_fit}
use Rattle.report.proofs.Turns.{SmallDrops}
use Rattle.report.specs.Report.{empty_report, figures_at, drops_at, FullReport, add_reports, routes_fit}
use Rattle.report.specs.Report.{connections_fit, reports_fit, join_reports, report_given, runs_from, runs_report}
use Rattle.theorem_report.proofs.Sums.{Sums, fit_back, fit-second, list_sums, pairs_none}
use Rattle.theorem_report.proofs.Figures.{fits_figures, fits-drops, figures_none, figures_sums, drops_none, drops-sums}

abbrev routes_sums : Sums (List RouteFigures)
routes_sums = list_sums figures_sums

abbrev drops_sums : Sums (List Drops)
drops_sums = list_sums drops-sums

abbrev made : List RouteFigures → List Drops → Report
made rs cs = record { routes = rs; connections = cs }

-- R21.3, R21.6: adding up, in any order and any grouping
pub add_comm : (a b : Report) → add_reports a b ≡ add_reports b a
unfolding add_reports
add_comm a b = ap₂ made (routes_sums.comm a.routes b.routes) (drops_sums.comm a.connections b.connections)

pub add_assoc : (a b c : Report) → add_reports (add_reports a b) c ≡ add_reports a (add_reports b c)
unfolding add_reports
add_assoc a b c =
    ap₂ made (routes_sums.assoc a.routes b.routes c.routes) (drops_sums.assoc a.connections b.connections c.connections)

pub add_empty : (a : Report) → FullReport a → add_reports a empty_report ≡ a
unfolding add_reports
add_empty a full =
    ap₂ made
    (ap (λ (n : ℕ). pairwise add_figures a.routes (replicate n no_pdus)) (sym full.routes) ∙ pairs_none figures_sums no_pdus figures_none a.routes)
    (ap (λ (n : ℕ). pairwise add_drops a.connections (replicate n no_drops)) (sym full.connections)
    ∙ pairs_none drops-sums no_drops drops_none a.connections)

pub empty_add : (a : Report) → FullReport a → add_reports empty_report a ≡ a
empty_add a full = add_comm empty_report a ∙ add_empty a full

-- .. and whether a sum passes 64 bits
pub fit_comm : (a b : Report) → reports_fit a b ≡ reports_fit b a
unfolding routes_fit connections_fit
fit_comm a b = ap₂ ◌&&◌ (routes_sums.fit_comm a.routes b.routes) (drops_sums.fit_comm a.connections b.connections)

pub fit-turn : (a b c : Report) → reports_fit a b ≡ true → reports_fit (add_reports a b) c ≡ true → reports_fit a (add_reports b c) ≡ true
unfolding routes_fit connections_fit add_reports
fit-turn a b c h e =
    and_both
    (routes_sums.fit-turn a.routes b.routes c.routes (and_left _ _ h) (and_left _ _ e))
    (drops_sums.fit-turn a.connections b.connections c.connections (and_right (routes_fit a b) _ h) (and_right (routes_fit (add_reports a b) c) _ e))

pub fit_less : (a b c : Report) → reports_fit a (add_reports b c) ≡ true → reports_fit a b ≡ true
unfolding routes_fit connections_fit add_reports
fit_less a b c e =
    and_both
    (routes_sums.fit_less a.routes b.routes c.routes (and_left _ _ e))
    (drops_sums.fit_less a.connections b.connections c.connections (and_right (routes_fit a (add_reports b c)) _ e))

abbrev pub report_sums : Sums Report
report_sums =
    record {
      add = add_reports;
      fit = reports_fit;
      comm = add_comm;
      assoc = add_assoc;
      fit_comm = fit_comm;
      fit-turn = fit-turn;
      fit_less = fit_less;
    }

-- R21.4, A JOIN: made, or refused with the first report
pub join_made : (a b : Report) → reports_fit a b ≡ true → join_reports a b ≡ Ok (add_reports a b)
unfolding join_reports
join_made a b e = rw e

pub join-refused : (a b : Report) → reports_fit a b ≡ false → join_reports a b ≡ Err a
unfolding join_reports
join-refused a b e = rw e

-- exactly where no sum passes 64 bits
pub join-fits : (a b : Report) → is_ok (join_reports a b) ≡ reports_fit a b
unfolding join_reports
join-fits a b = go (reports_fit a b)
  where
    go : (x : Bool) → is_ok (cond {A = Result Report Report} x (Ok (add_reports a b)) (Err a)) ≡ x
    go true = refl
    go false = refl

-- R21.6: joining is commutative and associative where nothing is refused, and then nothing is refused in the other order or grouping either
pub join_comm : (a b : Report) → is_ok (join_reports a b) ≡ true → join_reports a b ≡ join_reports b a
join_comm a b h =
    let e : reports_fit a b ≡ true = sym (join-fits a b) ∙ h in
    join_made a b e ∙ ap Ok (add_comm a b) ∙ sym (join_made b a (sym (fit_comm a b) ∙ e))

pub join_assoc : (a b c : Report) → is_ok (join_reports a b) ≡ true → is_ok (join_reports (report_given (join_reports a b)) c) ≡ true
    → (is_ok (join_reports b c) ≡ true) × (join_reports a (report_given (join_reports b c)) ≡ join_reports (report_given (join_reports a b)) c)
join_assoc a b c h k =
    let e : reports_fit a b ≡ true = sym (join-fits a b) ∙ h in
    let ab : report_given (join_reports a b) ≡ add_reports a b = ap report_given (join_made a b e) in
    let f : reports_fit (add_reports a b) c ≡ true = ap (λ (r : Report). reports_fit r c) (sym ab) ∙ sym (join-fits (report_given (join_reports a b)) c) ∙ k in
    let g : reports_fit b c ≡ true = fit-second report_sums a b c f in
    let bc : report_given (join_reports b c) ≡ add_reports b c = ap report_given (join_made b c g) in (
      join-fits b c ∙ g,
      ap (join_reports a) bc ∙ join_made a (add_reports b c) (fit-turn a b c e f)
          ∙ ap Ok (sym (add_assoc a b c))
          ∙ sym (ap (λ (r : Report). join_reports r c) ab ∙ join_made (add_reports a b) c f),
    )

-- .. from the other side
pub join_assoc_back : (a b c : Report) → is_ok (join_reports b c) ≡ true → is_ok (join_reports a (report_given (join_reports b c))) ≡ true
    → (is_ok (join_reports a b) ≡ true) × (join_reports a (report_given (join_reports b c)) ≡ join_reports (report_given (join_reports a b)) c)
join_assoc_back a b c h k =
    let g : reports_fit b c ≡ true = sym (join-fits b c) ∙ h in
    let bc : report_given (join_reports b c) ≡ add_reports b c = ap report_given (join_made b c g) in
    let f : reports_fit a (add_reports b c) ≡ true = ap (reports_fit a) (sym bc) ∙ sym (join-fits a (report_given (join_reports b c))) ∙ k in
    let e : reports_fit a b ≡ true = fit_less a b c f in
    let ab : report_given (join_reports a b) ≡ add_reports a b = ap report_given (join_made a b e) in (
      join-fits a b ∙ e,
      ap (join_reports a) bc ∙ join_made a (add_reports b c) f ∙ ap Ok (sym (add_assoc a b c))
          ∙ sym (ap (λ (r : Report). join_reports r c) ab ∙ join_made (add_reports a b) c (fit_back report_sums a b c g f)),
    )

-- R21.6: the empty report is the neutral element of reports whose numbers have 64 bits, as those of every value have
pub join_empty : (a : Report) → FullReport a → reports_fit a empty_report ≡ true → join_reports a empty_report ≡ Ok a
join_empty a full e = join_made a empty_report e ∙ ap Ok (add_empty a full)

pub empty_join : (a : Report) → FullReport a → reports_fit a empty_report ≡ true → join_reports empty_report a ≡ Ok a
empty_join a full e = join_made empty_report a (fit_comm empty_report a ∙ e) ∙ ap Ok (empty_add a full)

all_none : {A : Type 0} (t : A → A → Bool) (z : A) (xs : List A) (n : ℕ) → ((i : ℕ) → t (get_or xs i z) z ≡ true) → all_pairs t xs (replicate n z) ≡ true
unfolding all_pairs
all_none t z [] n h = refl
all_none t z (x ∷ xs) zero h = refl
all_none t z (x ∷ xs) (suc n) h = and_both (h 0) (all_none t z xs n (λ i. h (suc i)))

-- .. which says no more than that each number has 64 bits
pub numbers_fit : (a : Report) → ((i : ℕ) → ((figures_at a i).pdus < 18446744073709551616) × ((figures_at a i).bytes < 18446744073709551616))
    → ((k : ℕ) → SmallDrops (drops_at a k) no_drops) → reports_fit a empty_report ≡ true
unfolding routes_fit connections_fit
numbers_fit a p q =
    and_both
    (all_none figures_fit no_pdus a.routes 64
    (λ i. let h = p i in fits_figures (figures_at a i) no_pdus (omega (arith, h.0)) (omega (arith, h.1))))
    (all_none drops_fit no_drops a.connections 16 (λ k. fits-drops (drops_at a k) no_drops (q k)))

-- R21.5, SETS OF RUNS
joined_by : (a b : Report) (x : Bool) → reports_fit a b ≡ x → report_given (join_reports a b) ≡ cond x (add_reports a b) a
joined_by a b true e = ap report_given (join_made a b e)
joined_by a b false e = ap report_given (join-refused a b e)

-- what fits with a set's report fits with the report of its first runs
runs_fit : (r e : Report) (xs : List Report) → reports_fit r (runs_from e xs) ≡ true → reports_fit r e ≡ true
unfolding runs_from
runs_fit r e [] h = h
runs_fit r e (x ∷ xs) h = go (reports_fit e x) refl (runs_fit r (report_given (join_reports e x)) xs h)
  where
    go : (b : Bool) → reports_fit e x ≡ b → reports_fit r (report_given (join_reports e x)) ≡ true → reports_fit r e ≡ true
    go true f k = fit_less r e x (ap (reports_fit r) (sym (joined_by e x true f)) ∙ k)
    go false f k = ap (reports_fit r) (sym (joined_by e x false f)) ∙ k

-- runs joined behind a report are their own set's report, joined to it
runs_behind : (r e : Report) (xs : List Report) → reports_fit r (runs_from e xs) ≡ true → runs_from (add_reports r e) xs ≡ add_reports r (runs_from e xs)
unfolding runs_from
runs_behind r e [] h = refl
runs_behind r e (x ∷ xs) h =
    go (reports_fit e x) refl (runs_fit r (report_given (join_reports e x)) xs h) (runs_behind r (report_given (join_reports e x)) xs h)
  where
    none : (b : Bool) → reports_fit (add_reports r e) x ≡ b → reports_fit e x ≡ false → reports_fit (add_reports r e) x ≡ false
    none true g f = impossible (sym f ∙ fit-second report_sums r e x g)
    none false g f = g

    go : (b : Bool) → reports_fit e x ≡ b → reports_fit r (report_given (join_reports e x)) ≡ true
        → runs_from (add_reports r (report_given (join_reports e x))) xs ≡ add_reports r (runs_from (report_given (join_reports e x)) xs)
        → runs_from (report_given (join_reports (add_reports r e) x)) xs ≡ add_reports r (runs_from (report_given (join_reports e x)) xs)
    go true f k rest =
        let g : reports_fit r (add_reports e x) ≡ true = ap (reports_fit r) (sym (joined_by e x true f)) ∙ k in
        ap (λ (w : Report). runs_from w xs)
        (joined_by (add_reports r e) x true (fit_back report_sums r e x f g) ∙ add_assoc r e x ∙ ap (add_reports r) (sym (joined_by e x true f)))
        ∙ rest
    go false f k rest =
        ap (λ (w : Report). runs_from w xs)
        (joined_by (add_reports r e) x false (none (reports_fit (add_reports r e) x) refl f) ∙ ap (add_reports r) (sym (joined_by e x false f)))
        ∙ rest

runs_append : (r : Report) (xs ys : List Report) → runs_from r (xs ++ ys) ≡ runs_from (runs_from r xs) ys
unfolding runs_from
runs_append r [] ys = refl
runs_append r (x ∷ xs) ys = runs_append (report_given (join_reports r x)) xs ys

-- every report of a set is one of 64 routes and 16 connections
pairs_long : {A : Type 0} (f : A → A → A) (xs ys : List A) → length xs ≡ length ys → length (pairwise f xs ys) ≡ length xs
unfolding pairwise
pairs_long f [] ys h = sym h
pairs_long f (x ∷ xs) [] h = refl
pairs_long f (x ∷ xs) (y ∷ ys) h = ap suc (pairs_long f xs ys (omega arith))

pub add-full : (a b : Report) → FullReport a → FullReport b → FullReport (add_reports a b)
unfolding add_reports
add-full a b f g =
    record {
      routes = pairs_long add_figures a.routes b.routes (f.routes ∙ sym g.routes) ∙ f.routes;
      connections = pairs_long add_drops a.connections b.connections (f.connections ∙ sym g.connections) ∙ f.connections;
    }

pub empty_full : FullReport empty_report
empty_full = record { routes = refl; connections = refl }

abbrev pub AllFull : List Report → Type 0
AllFull [] = Unit {0}
AllFull (x ∷ xs) = FullReport x × AllFull xs

pub runs_full : (r : Report) (xs : List Report) → FullReport r → AllFull xs → FullReport (runs_from r xs)
unfolding runs_from
runs_full r [] f all = f
runs_full r (x ∷ xs) f (g, all) = runs_full (report_given (join_reports r x)) xs (go (reports_fit r x) refl) all
  where
    go : (b : Bool) → reports_fit r x ≡ b → FullReport (report_given (join_reports r x))
    go true e = subst FullReport (sym (joined_by r x true e)) (add-full r x f g)
    go false e = subst FullReport (sym (joined_by r x false e)) f

-- R21.5: "Joining the reports of two sets equals the report of both together whenever no joint sum passes 64 bits": also where single runs of a set
-- were refused
pub sets_joined : (xs ys : List Report) → AllFull xs → is_ok (join_reports (runs_report xs) (runs_report ys)) ≡ true
    → report_given (join_reports (runs_report xs) (runs_report ys)) ≡ runs_report (xs ++ ys)
sets_joined xs ys full h =
    let e : reports_fit (runs_report xs) (runs_report ys) ≡ true = sym (join-fits (runs_report xs) (runs_report ys)) ∙ h in
    joined_by (runs_report xs) (runs_report ys) true e ∙ sym (runs_append empty_report xs ys
    ∙ ap (λ (r : Report). runs_from r ys) (sym (add_empty (runs_report xs) (runs_full empty_report xs empty_full full)))
    ∙ runs_behind (runs_report xs) empty_report ys e)

-- "a join that would is refused and gives the first report"
pub sets_refused : (xs ys : List Report) → is_ok (join_reports (runs_report xs) (runs_report ys)) ≡ false
    → report_given (join_reports (runs_report xs) (runs_report ys)) ≡ runs_report xs
sets_refused xs ys h = joined_by (runs_report xs) (runs_report ys) false (sym (join-fits (runs_report xs) (runs_report ys)) ∙ h)
