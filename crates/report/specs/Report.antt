-- THE FOREMAN'S REPORT (section 21 of the rules): what counts, what it adds, and reports joined.
use Rattle.std.specs.Prelude.{ℕ, ◌≡◌, Bool, cond, ◌&&◌, List, [], ◌∷◌, length, get_or, set, replicate, Result, Ok, Err}
use Rattle.report.specs.declared.RouteFigures.{RouteFigures}
use Rattle.report.specs.declared.Drops.{Drops}
use Rattle.report.specs.declared.Report.{Report}
use Rattle.report.specs.Pairwise.{pairwise, all_pairs}
use Rattle.report.specs.Figures.{no_pdus, one_pdu, add_figures, figures_fit, plus_figures, no_drops, one_drop, add_drops, drops_fit, plus_drops}

-- R21.1: 64 routes and 16 connections, by number
abbrev pub empty_report : Report
empty_report = record { routes = replicate 64 no_pdus; connections = replicate 16 no_drops }

abbrev pub figures_at : Report → ℕ → RouteFigures
figures_at r i = get_or r.routes i no_pdus

abbrev pub drops_at : Report → ℕ → Drops
drops_at r k = get_or r.connections k no_drops

abbrev pub with_routes : List RouteFigures → Report → Report
with_routes l r = record { routes = l; connections = r.connections }

abbrev pub with_connections : List Drops → Report → Report
with_connections l r = record { routes = r.routes; connections = l }

-- as every report has them
pub record FullReport (r : Report) : Type 0 where
  pub routes : length r.routes ≡ 64
  pub connections : length r.connections ≡ 16

-- WHAT COUNTS: a PDU of so many bytes on a route, a drop of a connection for a reason
pub data Item : Type 0 where
  got : ℕ → ℕ → Item
  lost : ℕ → ℕ → Item

-- R21.2: what it adds
unfoldable pub count_item : Item → Report → Report
count_item (got route n) r = with_routes (set r.routes route (add_figures (figures_at r route) (one_pdu n))) r
count_item (lost k reason) r = with_connections (set r.connections k (add_drops (drops_at r k) (one_drop reason))) r

unfoldable pub count_from : Report → List Item → Report
count_from r [] = r
count_from r (x ∷ xs) = count_from (count_item x r) xs

-- R21.2, the report of a list, however large its sums
abbrev pub report_of : List Item → Report
report_of xs = count_from empty_report xs

-- R21.3: two reports added up, however large the sums
unfoldable pub add_reports : Report → Report → Report
add_reports a b =
    record { routes = pairwise add_figures a.routes b.routes; connections = pairwise add_drops a.connections b.connections }

-- R21.4: no joint sum passes 64 bits
unfoldable pub routes_fit : Report → Report → Bool
routes_fit a b = all_pairs figures_fit a.routes b.routes

unfoldable pub connections_fit : Report → Report → Bool
connections_fit a b = all_pairs drops_fit a.connections b.connections

abbrev pub reports_fit : Report → Report → Bool
reports_fit a b = routes_fit a b && connections_fit a b

-- the routes joined, and the connections, each sum that fits
unfoldable pub routes_joined : Report → Report → Report
routes_joined a b = with_routes (pairwise plus_figures a.routes b.routes) a

unfoldable pub connections_joined : Report → Report → Report
connections_joined a b = with_connections (pairwise plus_drops a.connections b.connections) a

-- R21.4, A JOIN: "a join that would is refused and gives the first report"
unfoldable pub join_reports : Report → Report → Result Report Report
join_reports a b = cond (reports_fit a b) (Ok (add_reports a b)) (Err a)

-- the report that a join gives, made or refused
abbrev pub report_given : Result Report Report → Report
report_given (Ok r) = r
report_given (Err r) = r

-- R21.5, THE REPORT OF A SET OF RUNS: each run's report joined in turn, "a sum that would pass 64 bits refuses the run that caused it and
-- leaves the report unchanged"
unfoldable pub runs_from : Report → List Report → Report
runs_from r [] = r
runs_from r (x ∷ xs) = runs_from (report_given (join_reports r x)) xs

abbrev pub runs_report : List Report → Report
runs_report xs = runs_from empty_report xs
