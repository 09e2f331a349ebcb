-- WHAT IS COUNTED OF A STRETCH OF A RUN (R21.9, R21.11): of each connection what it told there, with the length of the transfer that started last.
use Prim.Native.Nat.{ℕ, ◌≤◌, ◌<◌}
use mathlib.Core.Path.{◌≡◌, refl, sym, ap, subst, ◌∙◌}
use mathlib.Core.Bool.{Bool, true, false, cond}
use mathlib.Core.List.{List, [], ◌++◌}
use native.Mathlib.Omega.{arith}
use lib.Dec.{eqb}
use lib.ListN.{length, get_or, set, length-set}
use lib.Seq.{get_or-set_same, get_or-set_other}
use borrow.Author.Tests.{eqb-true, eqb-false, eq-eqb, ne_eqb}
use Rattle.reading.specs.Feed.{Out}
use Rattle.report.specs.declared.Report.{Report}
use Rattle.report.specs.Report.{empty_report, FullReport, count_from, report_of, add_reports}
use Rattle.report_count.specs.declared.Counting.{Counting}
use Rattle.report_count.specs.declared.Run.{Run}
use Rattle.report_count.specs.Count.{counting_at, after_counting}
use Rattle.theorem_report.proofs.Counts.{from_added, report_full, report_append}
use Rattle.theorem_report.proofs.Joins.{add_assoc, add_empty, add-full}
use Rattle.theorem_tally.specs.Items.{items_from, length_kept, sum_to}
use Rattle.theorem_tally.proofs.Counted.{Counts, items_append, kept_append}
use Rattle.theorem_tally.proofs.Sums.{sum_full, sum_below, sum_none, sum_adds, sum_one}

-- the length that is kept for connection k
abbrev pub kept_at : Run → ℕ → ℕ
kept_at r k = get_or r.lengths k 0

-- the report of what connection k told, and that of all sixteen
abbrev pub told_report : Run → (ℕ → List Out) → ℕ → Report
told_report r f k = report_of (items_from k (kept_at r k) (f k))

abbrev pub told_sum : Run → (ℕ → List Out) → Report
told_sum r f = sum_to (told_report r f) 16

-- TALLIED: what fits at the end fitted before, and then the report has what each connection told, added; the lengths kept are those that this leaves
pub record Tallied (r : Run) (f : ℕ → List Out) (d : Run) : Type 0 where
  pub before : d.fits ≡ true → r.fits ≡ true
  pub sums : FullReport r.report → length r.lengths ≡ 16 → d.fits ≡ true → d.report ≡ add_reports r.report (told_sum r f)
  pub sixteen : length d.lengths ≡ length r.lengths
  pub kept : length r.lengths ≡ 16 → (k : ℕ) → k < 16 → kept_at d k ≡ length_kept (kept_at r k) (f k)

told_full : (r : Run) (f : ℕ → List Out) → FullReport (told_sum r f)
told_full r f = sum_full (told_report r f) 16 (λ k. report_full (items_from k (kept_at r k) (f k)))

-- by what is told alone
pub tallied_same : (r d : Run) (f g : ℕ → List Out) → ((k : ℕ) → k < 16 → f k ≡ g k) → Tallied r f d → Tallied r g d
tallied_same r d f g h t =
    record {
      before = t.before;
      sums = λ full long e.
          t.sums full long e
          ∙ ap (add_reports r.report)
          (sum_below (told_report r f) (told_report r g) 16 (λ k l. ap (λ (os : List Out). report_of (items_from k (kept_at r k) os)) (h k l)));
      sixteen = t.sixteen;
      kept = λ long k l. t.kept long k l ∙ ap (length_kept (kept_at r k)) (h k l);
    }

-- nothing told, nothing counted
pub none_tallied : (r : Run) → Tallied r (λ k. []) r
unfolding items_from length_kept count_from
none_tallied r =
    record {
      before = λ e. e;
      sums = λ full long e. sym (ap (add_reports r.report) (sum_none (told_report r (λ k. [])) 16 (λ k l. refl)) ∙ add_empty r.report full);
      sixteen = refl;
      kept = λ long k l. refl;
    }

-- ONE STRETCH BEHIND THE OTHER
module _ (r d e : Run) (f g : ℕ → List Out) (a : Tallied r f d) (b : Tallied d g e) where
  both : ℕ → List Out
  both k = f k ++ g k

  apart : length r.lengths ≡ 16 → (k : ℕ) → k < 16 → add_reports (told_report r f k) (told_report d g k) ≡ told_report r both k
  unfolding both
  apart long k l =
      ap (λ (n : ℕ). add_reports (told_report r f k) (report_of (items_from k n (g k)))) (a.kept long k l)
      ∙ sym (report_append (items_from k (kept_at r k) (f k)) (items_from k (length_kept (kept_at r k) (f k)) (g k)))
      ∙ ap report_of (sym (items_append k (kept_at r k) (f k) (g k)))

  sums_both : FullReport r.report → length r.lengths ≡ 16 → e.fits ≡ true → e.report ≡ add_reports r.report (told_sum r both)
  sums_both full long fit =
      let first : d.report ≡ add_reports r.report (told_sum r f) = a.sums full long (b.before fit) in
      let there : FullReport d.report = subst FullReport (sym first) (add-full r.report (told_sum r f) full (told_full r f)) in
      b.sums there (a.sixteen ∙ long) fit ∙ ap (λ (w : Report). add_reports w (told_sum d g)) first
      ∙ add_assoc r.report (told_sum r f) (told_sum d g)
      ∙ ap (add_reports r.report)
      (sym (sum_adds (told_report r f) (told_report d g) 16)
      ∙ sum_below (λ k. add_reports (told_report r f k) (told_report d g k)) (told_report r both) 16 (apart long))

  pub both_tallied : Tallied r (λ k. f k ++ g k) e
  unfolding both
  both_tallied =
      record {
        before = λ fit. a.before (b.before fit);
        sums = sums_both;
        sixteen = b.sixteen ∙ a.sixteen;
        kept = λ long k l.
            b.kept (a.sixteen ∙ long) k l ∙ ap (λ (n : ℕ). length_kept n (g k)) (a.kept long k l) ∙ sym (kept_append (kept_at r k) (f k) (g k));
      }

-- ONE CONNECTION ALONE
module _ (r : Run) (c : ℕ) (os : List Out) where
  abbrev pub alone : ℕ → List Out
  alone k = cond (eqb c k) os []

  here : (k : ℕ) → c ≡ k → alone k ≡ os
  here k e = ap (λ (b : Bool). cond b os []) (eq-eqb c k e)

  there : (k : ℕ) → (c ≡ k → ⊥) → alone k ≡ []
  there k e = ap (λ (b : Bool). cond b os []) (ne_eqb c k e)

  empty_there : (k : ℕ) → (c ≡ k → ⊥) → told_report r alone k ≡ empty_report
  unfolding items_from count_from
  empty_there k e = ap (λ (xs : List Out). report_of (items_from k (kept_at r k) xs)) (there k e)

  -- past the sixteen, none counts
  pub past_tallied : 16 ≤ c → Tallied r alone r
  past_tallied h = tallied_same r r (λ k. []) alone (λ k l. sym (there k (λ e. omega (arith, h, l, e)))) (none_tallied r)

  module _ (low : c < 16) (d : Counting) (counts : Counts (items_from c (kept_at r c) os) (counting_at c r) d)
      (keeps : d.kept ≡ length_kept (kept_at r c) os) where
    sum_here : told_sum r alone ≡ report_of (items_from c (kept_at r c) os)
    sum_here =
        sum_one (told_report r alone) c 16 low (report_full (items_from c (kept_at r c) (alone c))) empty_there
        ∙ ap (λ (xs : List Out). report_of (items_from c (kept_at r c) xs)) (here c refl)

    kept_here : length r.lengths ≡ 16 → (k : ℕ) → k < 16 → get_or (set r.lengths c d.kept) k 0 ≡ length_kept (kept_at r k) (alone k)
    unfolding length_kept
    kept_here long k l = go (eqb c k) refl
      where
        go : (b : Bool) → eqb c k ≡ b → get_or (set r.lengths c d.kept) k 0 ≡ length_kept (kept_at r k) (cond b os [])
        go true e =
            let is : c ≡ k = eqb-true c k e in
            subst (λ (j : ℕ). get_or (set r.lengths c d.kept) j 0 ≡ length_kept (kept_at r j) os) is
            (get_or-set_same r.lengths c d.kept 0 (omega (arith, low, long)) ∙ keeps)
        go false e = get_or-set_other r.lengths c k d.kept 0 (λ same. eqb-false c k e (sym same))

    pub alone_tallied : Tallied r alone (after_counting c r d)
    alone_tallied =
        record {
          before = counts.before;
          sums = λ full long e.
              counts.sums full e ∙ from_added r.report (items_from c (kept_at r c) os) full ∙ ap (add_reports r.report) (sym sum_here);
          sixteen = length-set r.lengths c d.kept;
          kept = kept_here;
        }
