-- WHAT AN ANSWER ADDS TO THE REPORT OF A RUN (R21.9, R21.10; docs/EVENTS.md, "The answer").
use Rattle.std.specs.Prelude.{ℕ, zero, suc, true, cond, ◌&&◌, List, eqb, ltb, get_or, set, replicate, drop}
use Rattle.wire.specs.Be.{be}
use Rattle.recording.specs.Entry.{take_needs}
use Rattle.report.specs.declared.RouteFigures.{RouteFigures}
use Rattle.report.specs.declared.Drops.{Drops}
use Rattle.report.specs.Figures.{no_pdus, one_pdu, figures_fit, plus_figures, no_drops, one_drop, drops_fit, plus_drops}
use Rattle.report.specs.Report.{empty_report, figures_at, drops_at}
use Rattle.report_count.specs.declared.Adds.{Adds}
use Rattle.report_count.specs.declared.Counting.{Counting}
use Rattle.report_count.specs.declared.Run.{Run}

-- a take that adds nothing; a drop of a reason; a PDU of so many bytes, on one of the 64 routes
abbrev pub adding : ℕ → RouteFigures → Drops → ℕ → Adds
adding route figures drops kept = record { route = route; figures = figures; drops = drops; kept = kept }

abbrev pub adds_nothing : ℕ → Adds
adds_nothing kept = adding 0 no_pdus no_drops kept

abbrev pub adds_drop : ℕ → ℕ → Adds
adds_drop reason kept = adding 0 no_pdus (one_drop reason) kept

unfoldable pub adds_pdu : ℕ → ℕ → ℕ → Adds
adds_pdu route n kept = cond (ltb route 64) (adding route (one_pdu n) no_drops kept) (adds_nothing kept)

-- R21.9, "a TP transfer at its end": a start keeps the transfer's whole length; of length 0 it is the end
unfoldable pub adds_start : ℕ → ℕ → Adds
adds_start route n = cond (eqb n 0) (adds_pdu route n n) (adds_nothing n)

-- by the take's kind: 1 PDU, 2 drop, 3 start of a transfer, 5 last piece, which counts with the length that was kept; more wanted (0) and a piece (4)
-- add nothing
unfoldable pub adds_of_kind : ℕ → ℕ → ℕ → ℕ → Adds
adds_of_kind kind which n kept =
    cond (eqb kind 1) (adds_pdu which n kept)
    (cond (eqb kind 2) (adds_drop which kept)
    (cond (eqb kind 3) (adds_start which n)
    (cond (eqb kind 5) (adds_pdu which kept kept)
    (adds_nothing kept))))

-- "bytes read (4), kind (1), route or reason (1), id (4), length (4)"
abbrev pub adds_of : List ℕ → ℕ → Adds
adds_of l kept = adds_of_kind (be 1 l 4) (be 1 l 5) (be 4 l 10) kept

-- one take more on connection k: each sum that fits is made, and whether all did is remembered
unfoldable pub one_counted : ℕ → Adds → Counting → Counting
one_counted k a c =
    record {
      fits = c.fits && figures_fit (figures_at c.report a.route) a.figures && drops_fit (drops_at c.report k) a.drops;
      report =
          record {
            routes = set c.report.routes a.route (plus_figures (figures_at c.report a.route) a.figures);
            connections = set c.report.connections k (plus_drops (drops_at c.report k) a.drops);
          };
      kept = a.kept;
    }

-- so many takes, one after the other
unfoldable pub takes_counted : ℕ → ℕ → List ℕ → Counting → Counting
takes_counted k zero l c = c
takes_counted k (suc n) l c = takes_counted k n (drop (take_needs l) l) (one_counted k (adds_of l c.kept) c)

-- R21.10: the takes of an event's answer: of a segment as many as it says, of a walk one; of another event, or another answer number than 0, none
unfoldable pub takes_in : ℕ → List ℕ → ℕ
takes_in number answer = cond (eqb (be 2 answer 0) 0) (cond (eqb number 7) (be 2 answer 2) (cond (eqb number 8) 1 0)) 0

unfoldable pub takes_at : ℕ → ℕ
takes_at number = cond (eqb number 7) 4 2

-- the connection that the arguments name: "party, connection (1)"
abbrev pub connection_named : List ℕ → ℕ
connection_named arguments = be 1 arguments 1

-- before the first entry
abbrev pub run_begun : Run
run_begun = record { fits = true; report = empty_report; lengths = replicate 16 0 }

abbrev pub counting_at : ℕ → Run → Counting
counting_at k r = record { fits = r.fits; report = r.report; kept = get_or r.lengths k 0 }

abbrev pub after_counting : ℕ → Run → Counting → Run
after_counting k r c = record { fits = c.fits; report = c.report; lengths = set r.lengths k c.kept }

-- ONE EVENT MORE, by its number, its arguments and its answer
unfoldable pub event_counted : ℕ → List ℕ → List ℕ → Run → Run
event_counted number arguments answer r =
    cond (ltb (connection_named arguments) 16)
    (after_counting (connection_named arguments) r
    (takes_counted (connection_named arguments) (takes_in number answer) (drop (takes_at number) answer) (counting_at (connection_named arguments) r)))
    r
