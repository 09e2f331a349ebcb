-- The loop over the takes of an answer, at the places where it stands.
use Prim.Native.Nat.{ℕ, suc, ◌+◌, ◌<◌, ◌≤◌, min}
use mathlib.Core.Path.{◌≡◌, refl, sym, ap, ap₂, ◌∙◌}
use mathlib.Core.Bool.{Bool, true, false, cond, ◌&&◌}
use mathlib.Core.List.{List}
use native.Mathlib.Omega.{arith}
use native.Mathlib.Nat.{min-eq_left, min-eq_right}
use native.Mathlib.Decide.{dec_le}
use lib.Dec.{eqb, ltb}
use lib.ListN.{length, set, drop, drop_of_length-le}
use lib.Seq.{drop-drop, drop-length, set-get_or}
use borrow.Author.Tests.{ltb-true, lt-ltb, le-ltb}
use Rattle.recording.specs.Entry.{take_needs}
use Rattle.report.specs.declared.RouteFigures.{RouteFigures}
use Rattle.report.specs.declared.Drops.{Drops}
use Rattle.report.specs.Figures.{one_pdu, no_drops, figures_fit, plus_figures, drops_fit, plus_drops}
use Rattle.report.specs.Report.{figures_at, drops_at}
use Rattle.report_count.specs.declared.Adds.{Adds}
use Rattle.report_count.specs.declared.Counting.{Counting}
use Rattle.report_count.specs.declared.Run.{Run}
use Rattle.report_count.specs.Count.{adding, adds_nothing, adds_drop, adds_pdu, adds_start, adds_of_kind, adds_of, one_counted, takes_counted}
use Rattle.report_count.specs.Count.{takes_in, takes_at, connection_named, counting_at, after_counting, event_counted}

-- what is added is added to one of the 64 routes
pdu-small : (route n kept : ℕ) → (adds_pdu route n kept).route < 64
unfolding adds_pdu
pdu-small route n kept = go (ltb route 64) refl
  where
    go : (b : Bool) → ltb route 64 ≡ b → (cond b (adding route (one_pdu n) no_drops kept) (adds_nothing kept)).route < 64
    go true e = ltb-true route 64 e
    go false e = omega arith

start_small : (route n : ℕ) → (adds_start route n).route < 64
unfolding adds_start
start_small route n = go (eqb n 0)
  where
    go : (b : Bool) → (cond b (adds_pdu route n n) (adds_nothing n)).route < 64
    go true = pdu-small route n n
    go false = omega arith

pub route_small : (kind which n kept : ℕ) → (adds_of_kind kind which n kept).route < 64
unfolding adds_of_kind
route_small kind which n kept = one (eqb kind 1)
  where
    four : (b : Bool) → (cond b (adds_pdu which kept kept) (adds_nothing kept)).route < 64
    four true = pdu-small which kept kept
    four false = omega arith

    three : (b : Bool) → (cond b (adds_start which n) (cond (eqb kind 5) (adds_pdu which kept kept) (adds_nothing kept))).route < 64
    three true = start_small which n
    three false = four (eqb kind 5)

    two : (b : Bool) → (cond b (adds_drop which kept)
        (cond (eqb kind 3) (adds_start which n) (cond (eqb kind 5) (adds_pdu which kept kept) (adds_nothing kept)))).route < 64
    two true = omega arith
    two false = three (eqb kind 3)

    one : (b : Bool)
        → (cond b (adds_pdu which n kept)
        (cond (eqb kind 2) (adds_drop which kept)
        (cond (eqb kind 3) (adds_start which n) (cond (eqb kind 5) (adds_pdu which kept kept) (adds_nothing kept))))).route < 64
    one true = pdu-small which n kept
    one false = two (eqb kind 2)

-- so many bytes on, no further than the end
pub drop-passed : (s : List ℕ) (at n : ℕ) → drop (min (at + n) (length s)) s ≡ drop n (drop at s)
drop-passed s at n = go (dec_le (at + n) (length s))
  where
    go : Dec (at + n ≤ length s) → drop (min (at + n) (length s)) s ≡ drop n (drop at s)
    go (yes h) = ap (λ (m : ℕ). drop m s) (min-eq_left h) ∙ sym (drop-drop n at s)
    go (no h) =
        let l : length s ≤ at + n = omega arith in
        ap (λ (m : ℕ). drop m s) (min-eq_right l) ∙ drop-length s ∙ sym (drop-drop n at s ∙ drop_of_length-le s l)

-- one take more: the rest of the takes leads to the whole's end
module _ (k : ℕ) (s : List ℕ) (c : Counting) (left fewer at : ℕ) (end : Counting) (a : Adds) where
  pub count-on : (rest : List ℕ) (f g : Bool) (next : RouteFigures) (later : Drops) (needs on : ℕ)
      → left ≡ suc fewer → takes_counted k left (drop at s) c ≡ end → rest ≡ drop at s → a ≡ adds_of rest c.kept
      → f ≡ figures_fit (figures_at c.report a.route) a.figures → g ≡ drops_fit (drops_at c.report k) a.drops
      → next ≡ plus_figures (figures_at c.report a.route) a.figures → later ≡ plus_drops (drops_at c.report k) a.drops
      → needs ≡ take_needs rest → on ≡ min (at + needs) (length s)
      → takes_counted k fewer (drop on s)
      (record {
        fits = c.fits && f && g;
        report =
            record { routes = set c.report.routes a.route next; connections = set c.report.connections k later };
        kept = a.kept;
      })
      ≡ end
  unfolding takes_counted one_counted
  count-on rest f g next later needs on l inv r e f-is g-is n-is l-is needs-is on-is =
      let adds : a ≡ adds_of (drop at s) c.kept = e ∙ ap (λ (x : List ℕ). adds_of x c.kept) r in
      let places : drop on s ≡ drop (take_needs (drop at s)) (drop at s) =
      ap (λ (m : ℕ). drop m s) on-is ∙ drop-passed s at needs ∙ ap (λ (m : ℕ). drop m (drop at s)) (needs-is ∙ ap take_needs r) in
      let counted : record {
        fits = c.fits && f && g;
        report = record { routes = set c.report.routes a.route next; connections = set c.report.connections k later };
        kept = a.kept;
      } ≡ one_counted k (adds_of (drop at s) c.kept) c =
      rw (f-is, g-is, n-is, l-is) (ap (λ (x : Adds). one_counted k x c) adds) in
      ap₂ (takes_counted k fewer) places counted ∙ ap (λ (m : ℕ). takes_counted k m (drop at s) c) (sym l) ∙ inv

-- an event without takes
pub event_none : (number : ℕ) (arguments answer : List ℕ) (r : Run) (n : ℕ) → n ≡ takes_in number answer → n ≡ 0 → event_counted number arguments answer r ≡ r
unfolding event_counted takes_counted
event_none number arguments answer r n is z = go (ltb k 16)
  where
    k : ℕ
    k = connection_named arguments

    same : after_counting k r (takes_counted k (takes_in number answer) (drop (takes_at number) answer) (counting_at k r)) ≡ r
    same =
        ap (λ (m : ℕ). after_counting k r (takes_counted k m (drop (takes_at number) answer) (counting_at k r))) (sym is ∙ z)
        ∙ ap (λ (l : List ℕ). record { fits = r.fits; report = r.report; lengths = l }) (set-get_or r.lengths k 0)

    go : (b : Bool) → cond b (after_counting k r (takes_counted k (takes_in number answer) (drop (takes_at number) answer) (counting_at k r))) r ≡ r
    go true = same
    go false = refl

-- an event of a connection that there is not, and of one that there is
module _ (number : ℕ) (arguments answer : List ℕ) (r : Run) (k : ℕ) (is : k ≡ connection_named arguments) where
  pub event-past : 16 ≤ k → event_counted number arguments answer r ≡ r
  unfolding event_counted
  event-past h = rw (ap (λ (n : ℕ). ltb n 16) (sym is) ∙ le-ltb k 16 h)

  pub event-on : (at n : ℕ) (takes : List ℕ) (c : Counting) → k < 16 → at ≡ takes_at number → takes ≡ drop at answer → n ≡ takes_in number answer
      → c ≡ takes_counted k n takes (counting_at k r) → after_counting k r c ≡ event_counted number arguments answer r
  unfolding event_counted
  event-on at n takes c h at-is takes-is n-is c-is =
      let all : c ≡ takes_counted k (takes_in number answer) (drop (takes_at number) answer) (counting_at k r) =
      c-is ∙ ap₂ (λ (m : ℕ) (l : List ℕ). takes_counted k m l (counting_at k r)) n-is (takes-is ∙ ap (λ (m : ℕ). drop m answer) at-is) in
      ap (after_counting k r) all
      ∙ ap (λ (i : ℕ). after_counting i r (takes_counted i (takes_in number answer) (drop (takes_at number) answer) (counting_at i r))) is
      ∙ sym (rw (ap (λ (m : ℕ). ltb m 16) (sym is) ∙ lt-ltb k 16 h))
