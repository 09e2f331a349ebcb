-- THE REPORT OF A LIST OF PDUS AND DROPS (R21.2): of two lists one behind the other it is the sum; and what its figures have (R21.7, R21.8).
use Prim.Native.Nat.{ℕ, zero, suc, ◌<◌, ◌≤◌}
use mathlib.Core.Path.{◌≡◌, refl, sym, ap, ap₂, subst, ◌∙◌}
use mathlib.Core.Bool.{Bool, true, false, cond}
use Rattle.std.proofs.Common.{Result, Ok, Err}
use mathlib.Core.List.{List, [], ◌∷◌, ◌++◌}
use native.Mathlib.Decide.{dec_lt}
use native.Mathlib.Omega.{arith}
use lib.ListN.{get_or, set, replicate, length-set, get_or-replicate, get_or-eq_default}
use Rattle.lists.proofs.Each.{one_at}
use Rattle.report.specs.declared.RouteFigures.{RouteFigures}
use Rattle.report.specs.declared.Drops.{Drops}
use Rattle.report.specs.declared.Report.{Report}
use Rattle.report.specs.Pairwise.{pairwise}
use Rattle.report.specs.Figures.{no_pdus, one_pdu, add_figures, no_drops, one_drop, add_drops, Between, Bare}
use Rattle.report.specs.Report.{empty_report, figures_at, FullReport, Item, got, lost, count_item, count_from, report_of, add_reports}
use Rattle.report.specs.Report.{reports_fit, join_reports, report_given, runs_from, runs_report}
use Rattle.theorem_report.proofs.Sums.{pairs_none, one_added}
use Rattle.theorem_report.proofs.Figures.{figures_none, figures_sums, drops_none, drops-sums}
use Rattle.theorem_report.proofs.Figures.{between_none, between_one, between_sum, bare_none, bare_one, bare_sum}
use Rattle.theorem_report.proofs.Joins.{add_assoc, add_empty, empty_full}

abbrev made : List RouteFigures → List Drops → Report
made rs cs = record { routes = rs; connections = cs }

pub item_full : (x : Item) (r : Report) → FullReport r → FullReport (count_item x r)
unfolding count_item
item_full (got i n) r f = record { routes = length-set r.routes i _ ∙ f.routes; connections = f.connections }
item_full (lost k q) r f = record { routes = f.routes; connections = length-set r.connections k _ ∙ f.connections }

pub from_full : (r : Report) (xs : List Item) → FullReport r → FullReport (count_from r xs)
unfolding count_from
from_full r [] f = f
from_full r (x ∷ xs) f = from_full (count_item x r) xs (item_full x r f)

pub report_full : (xs : List Item) → FullReport (report_of xs)
report_full xs = from_full empty_report xs empty_full

-- one PDU or drop more is the report of it alone, added
pub item_added : (x : Item) (r : Report) → FullReport r → count_item x r ≡ add_reports r (count_item x empty_report)
unfolding count_item add_reports
item_added (got i n) r f =
    ap₂ made
    (one_added figures_sums no_pdus figures_none r.routes i (one_pdu n)
    ∙ ap (λ (m : ℕ). pairwise add_figures r.routes (set (replicate m no_pdus) i (add_figures (get_or (replicate m no_pdus) i no_pdus) (one_pdu n)))) f.routes)
    (sym (ap (λ (m : ℕ). pairwise add_drops r.connections (replicate m no_drops)) (sym f.connections)
    ∙ pairs_none drops-sums no_drops drops_none r.connections))
item_added (lost k q) r f =
    ap₂ made
    (sym (ap (λ (m : ℕ). pairwise add_figures r.routes (replicate m no_pdus)) (sym f.routes) ∙ pairs_none figures_sums no_pdus figures_none r.routes))
    (one_added drops-sums no_drops drops_none r.connections k (one_drop q)
    ∙ ap (λ (m : ℕ). pairwise add_drops r.connections (set (replicate m no_drops) k (add_drops (get_or (replicate m no_drops) k no_drops) (one_drop q))))
    f.connections)

-- .. and so a list of them
pub from_added : (r : Report) (xs : List Item) → FullReport r → count_from r xs ≡ add_reports r (report_of xs)
unfolding count_from
from_added r [] f = sym (add_empty r f)
from_added r (x ∷ xs) f =
    from_added (count_item x r) xs (item_full x r f) ∙ ap (λ (w : Report). add_reports w (report_of xs)) (item_added x r f)
    ∙ add_assoc r (count_item x empty_report) (report_of xs)
    ∙ ap (add_reports r) (sym (from_added (count_item x empty_report) xs (item_full x empty_report empty_full)))

from_append : (r : Report) (xs ys : List Item) → count_from r (xs ++ ys) ≡ count_from (count_from r xs) ys
unfolding count_from
from_append r [] ys = refl
from_append r (x ∷ xs) ys = from_append (count_item x r) xs ys

-- R21.2, R21.5: the report of two lists together is the sum of their reports
pub report_append : (xs ys : List Item) → report_of (xs ++ ys) ≡ add_reports (report_of xs) (report_of ys)
report_append xs ys = from_append empty_report xs ys ∙ from_added (report_of xs) ys (report_full xs)

-- WHAT EVERY ROUTE OF A REPORT HAS, where one PDU more keeps it
module _ (P : RouteFigures → Type 0) (none : P no_pdus) (more : (f : RouteFigures) (n : ℕ) → P f → P (add_figures f (one_pdu n))) where
  item_each : (x : Item) (r : Report) (i : ℕ) → P (figures_at r i) → P (figures_at (count_item x r) i)
  unfolding count_item
  item_each (got j n) r i p =
      one_at no_pdus r.routes j i (add_figures (figures_at r j) (one_pdu n)) P
      (λ e. more (figures_at r j) n (subst (λ (k : ℕ). P (figures_at r k)) (sym e) p)) p
  item_each (lost k q) r i p = p

  from_each : (r : Report) (xs : List Item) (i : ℕ) → P (figures_at r i) → P (figures_at (count_from r xs) i)
  unfolding count_from
  from_each r [] i p = p
  from_each r (x ∷ xs) i p = from_each (count_item x r) xs i (item_each x r i p)

  empty_at : (i : ℕ) → figures_at empty_report i ≡ no_pdus
  empty_at i = go (dec_lt i 64)
    where
      go : Dec (i < 64) → figures_at empty_report i ≡ no_pdus
      go (yes h) = get_or-replicate 64 i no_pdus no_pdus h
      go (no h) = let l : 64 ≤ i = omega arith in get_or-eq_default empty_report.routes no_pdus l

  pub report_each : (xs : List Item) (i : ℕ) → P (figures_at (report_of xs) i)
  report_each xs i = from_each empty_report xs i (subst P (sym (empty_at i)) none)

-- R21.7: per route PDUs x smallest <= bytes <= PDUs x largest
pub report_between : (xs : List Item) (i : ℕ) → Between (figures_at (report_of xs) i)
report_between xs i = report_each Between between_none (λ f n p. between_sum f (one_pdu n) p (between_one n)) xs i

-- R21.8: with no PDU smallest and largest are 0
pub report_bare : (xs : List Item) (i : ℕ) → Bare (figures_at (report_of xs) i)
report_bare xs i = report_each Bare bare_none (λ f n p. bare_sum f (one_pdu n) p (bare_one n)) xs i

-- OF SETS OF RUNS: what every route of each run's report has, where sums keep it, every route of the set's report has
pairs_each : {A : Type 0} (f : A → A → A) (d : A) (P : A → Type 0) → ((x y : A) → P x → P y → P (f x y)) → (xs ys : List A) (i : ℕ)
    → P (get_or xs i d) → P (get_or ys i d) → P (get_or (pairwise f xs ys) i d)
unfolding pairwise
pairs_each f d P sum [] ys i p q = q
pairs_each f d P sum (x ∷ xs) [] i p q = p
pairs_each f d P sum (x ∷ xs) (y ∷ ys) zero p q = sum x y p q
pairs_each f d P sum (x ∷ xs) (y ∷ ys) (suc i) p q = pairs_each f d P sum xs ys i p q

abbrev pub AllHave : (RouteFigures → Type 0) → List Report → Type 0
AllHave P [] = Unit {0}
AllHave P (x ∷ xs) = ((i : ℕ) → P (figures_at x i)) × AllHave P xs

module _ (P : RouteFigures → Type 0) (sum : (f g : RouteFigures) → P f → P g → P (add_figures f g)) where
  join-each : (a b : Report) → ((i : ℕ) → P (figures_at a i)) → ((i : ℕ) → P (figures_at b i)) → (i : ℕ) → P (figures_at (report_given (join_reports a b)) i)
  unfolding join_reports add_reports
  join-each a b p q i = go (reports_fit a b)
    where
      go : (x : Bool) → P (figures_at (report_given (cond {A = Result Report Report} x (Ok (add_reports a b)) (Err a))) i)
      go true = pairs_each add_figures no_pdus P sum a.routes b.routes i (p i) (q i)
      go false = p i

  runs_each : (r : Report) (xs : List Report) → ((i : ℕ) → P (figures_at r i)) → AllHave P xs → (i : ℕ) → P (figures_at (runs_from r xs) i)
  unfolding runs_from
  runs_each r [] p all i = p i
  runs_each r (x ∷ xs) p (q, all) i = runs_each (report_given (join_reports r x)) xs (join-each r x p q) all i

-- R21.7, R21.8, of the report of a set of runs
pub runs_between : (xs : List Report) → AllHave Between xs → (i : ℕ) → Between (figures_at (runs_report xs) i)
unfolding count_from
runs_between xs all i = runs_each Between between_sum empty_report xs (report_between []) all i

pub runs_bare : (xs : List Report) → AllHave Bare xs → (i : ℕ) → Bare (figures_at (runs_report xs) i)
unfolding count_from
runs_bare xs all i = runs_each Bare bare_sum empty_report xs (report_bare []) all i
