-- THE REPORTS OF THE CONNECTIONS BELOW n, ADDED UP (R21.11): full, by what stands below, of none, of sums, and of one alone.
use Prim.Native.Nat.{ℕ, zero, suc, ◌<◌}
use mathlib.Core.Path.{◌≡◌, refl, sym, ap, ap₂, ◌∙◌}
use mathlib.Core.Bool.{Bool, true, false}
use native.Mathlib.Omega.{arith}
use lib.Dec.{eqb}
use borrow.Author.Tests.{eqb-true, eqb-false}
use Rattle.report.specs.declared.Report.{Report}
use Rattle.report.specs.Report.{empty_report, FullReport, add_reports}
use Rattle.theorem_report.proofs.Joins.{add_comm, add_assoc, add_empty, empty_add, add-full, empty_full}
use Rattle.theorem_tally.specs.Items.{sum_to}

pub sum_full : (f : ℕ → Report) (n : ℕ) → ((k : ℕ) → FullReport (f k)) → FullReport (sum_to f n)
unfolding sum_to
sum_full f zero h = empty_full
sum_full f (suc n) h = add-full (sum_to f n) (f n) (sum_full f n h) (h n)

pub sum_below : (f g : ℕ → Report) (n : ℕ) → ((k : ℕ) → k < n → f k ≡ g k) → sum_to f n ≡ sum_to g n
unfolding sum_to
sum_below f g zero h = refl
sum_below f g (suc n) h = ap₂ add_reports (sum_below f g n (λ k l. h k (omega (arith, l)))) (h n (omega arith))

pub sum_none : (f : ℕ → Report) (n : ℕ) → ((k : ℕ) → k < n → f k ≡ empty_report) → sum_to f n ≡ empty_report
unfolding sum_to
sum_none f zero h = refl
sum_none f (suc n) h = ap₂ add_reports (sum_none f n (λ k l. h k (omega (arith, l)))) (h n (omega arith)) ∙ add_empty empty_report empty_full

crossed : (a b c d : Report) → add_reports (add_reports a b) (add_reports c d) ≡ add_reports (add_reports a c) (add_reports b d)
crossed a b c d =
    add_assoc a b (add_reports c d)
    ∙ ap (add_reports a) (sym (add_assoc b c d) ∙ ap (λ (w : Report). add_reports w d) (add_comm b c) ∙ add_assoc c b d)
    ∙ sym (add_assoc a c (add_reports b d))

pub sum_adds : (f g : ℕ → Report) (n : ℕ) → sum_to (λ k. add_reports (f k) (g k)) n ≡ add_reports (sum_to f n) (sum_to g n)
unfolding sum_to
sum_adds f g zero = sym (add_empty empty_report empty_full)
sum_adds f g (suc n) =
    ap (λ (w : Report). add_reports w (add_reports (f n) (g n))) (sum_adds f g n) ∙ crossed (sum_to f n) (sum_to g n) (f n) (g n)

pub sum_one : (f : ℕ → Report) (c n : ℕ) → c < n → FullReport (f c) → ((k : ℕ) → (c ≡ k → ⊥) → f k ≡ empty_report) → sum_to f n ≡ f c
unfolding sum_to
sum_one f c zero h full others = absurd (omega (arith, h))
sum_one f c (suc n) h full others = go (eqb c n) refl (λ l. sum_one f c n l full others)
  where
    go : (b : Bool) → eqb c n ≡ b → (c < n → sum_to f n ≡ f c) → add_reports (sum_to f n) (f n) ≡ f c
    go true e below =
        let is : c ≡ n = eqb-true c n e in
        ap₂ add_reports (sum_none f n (λ k l. others k (λ same. omega (arith, l, same, is)))) (ap f (sym is)) ∙ empty_add (f c) full
    go false e below =
        let l : c < n = omega (arith, h, eqb-false c n e) in
        ap₂ add_reports (below l) (others n (eqb-false c n e)) ∙ add_empty (f c) full
