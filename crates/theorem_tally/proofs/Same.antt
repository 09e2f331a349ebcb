-- SAME RUNS HAVE THE SAME REPORT (R21.11): the report of a run is a function of the list that demand 3 speaks of, and of the drops in it.
use Prim.Native.Nat.{ℕ, zero, suc}
use mathlib.Core.Path.{◌≡◌, refl, sym, ap, ap₂, ◌∙◌}
use mathlib.Core.Bool.{Bool, true, false, cond}
use mathlib.Core.List.{List, [], ◌∷◌}
use lib.Dec.{eqb}
use lib.ListN.{length}
use Rattle.reading.specs.Reasons.{reason_number}
use Rattle.reading.specs.Feed.{Out, nothing, pdu, dropped, start, piece, singles, fine}
use Rattle.reading.specs.Feed.{Handed, complete, began, middle, finished, push, push_all, marked, compared}
use Rattle.report.specs.declared.Report.{Report}
use Rattle.report.specs.Report.{Item, got, lost, report_of, add_reports}
use Rattle.model.specs.Events.{Event}
use Rattle.model_runs.specs.Same.{Same}
use Rattle.model_runs.specs.Streams.{RunBytes}
use Rattle.model_refines.specs.Machine.{Machine}
use Rattle.model_refines.specs.Run.{given_in, Good}
use Rattle.theorems.proofs.Runs.{same-given}
use Rattle.theorem_tally.specs.Items.{items_from, got_among, got_handed, sum_to, run_report}

-- pieces follow the segments, and what counts does not: byte by byte it is the same
module _ (k : ℕ) where
  -- the bytes of a piece before its last one add nothing
  singles-count : (kept r b : ℕ) (cs : List ℕ) (m : Bool) (os : List Out)
      → items_from k kept (singles r b cs m os) ≡ items_from k kept (piece r (b ∷ cs) m ∷ os)
  unfolding items_from
  singles-count kept r b [] true os = refl
  singles-count kept r b [] false os = refl
  singles-count kept r b (c ∷ cs) true os = singles-count kept r c cs true os
  singles-count kept r b (c ∷ cs) false os = singles-count kept r c cs false os

  pub items_fine : (kept : ℕ) (os : List Out) → items_from k kept (fine os) ≡ items_from k kept os
  unfolding items_from fine
  items_fine kept [] = refl
  items_fine kept (nothing ∷ os) = items_fine kept os
  items_fine kept (pdu r p ∷ os) = ap (λ (l : List Item). got r (length p) ∷ l) (items_fine kept os)
  items_fine kept (dropped j i n ∷ os) = ap (λ (l : List Item). lost k (reason_number j) ∷ l) (items_fine kept os)
  items_fine kept (start r i n true ∷ os) = ap (λ (l : List Item). got r n ∷ l) (items_fine n os)
  items_fine kept (start r i n false ∷ os) = items_fine n os
  items_fine kept (piece r [] true ∷ os) = ap (λ (l : List Item). got r kept ∷ l) (items_fine kept os)
  items_fine kept (piece r [] false ∷ os) = items_fine kept os
  items_fine kept (piece r (b ∷ bs) true ∷ os) =
      singles-count kept r b bs true (fine os) ∙ ap (λ (l : List Item). got r kept ∷ l) (items_fine kept os)
  items_fine kept (piece r (b ∷ bs) false ∷ os) = singles-count kept r b bs false (fine os) ∙ items_fine kept os

-- bytes of a transfer in front add no PDU
push-counts : (kept r b : ℕ) (hs : List Handed) → got_handed kept (push r b hs) ≡ got_handed kept hs
unfolding got_handed
push-counts kept r b [] = refl
push-counts kept r b (complete s p ∷ hs) = refl
push-counts kept r b (began s i n ∷ hs) = refl
push-counts kept r b (middle s p ∷ hs) = go (eqb r s)
  where
    go : (x : Bool) → got_handed kept (cond x (middle r (b ∷ p) ∷ hs) (middle r (b ∷ []) ∷ middle s p ∷ hs)) ≡ got_handed kept hs
    go true = refl
    go false = refl
push-counts kept r b (finished s ∷ hs) = refl

pushed_counts : (kept r : ℕ) (bs : List ℕ) (hs : List Handed) → got_handed kept (push_all r bs hs) ≡ got_handed kept hs
pushed_counts kept r [] hs = refl
pushed_counts kept r (b ∷ bs) hs = push-counts kept r b (push_all r bs hs) ∙ pushed_counts kept r bs hs

-- R21.11: the PDUs that count are those of the list that demand 3 speaks of
pub pdus-listed : (k kept : ℕ) (os : List Out) → got_among (items_from k kept os) ≡ got_handed kept (compared os)
unfolding items_from got_among got_handed compared
pdus-listed k kept [] = refl
pdus-listed k kept (nothing ∷ os) = pdus-listed k kept os
pdus-listed k kept (pdu r p ∷ os) = ap (λ (l : List Item). got r (length p) ∷ l) (pdus-listed k kept os)
pdus-listed k kept (dropped j i n ∷ os) = pdus-listed k kept os
pdus-listed k kept (start r i n true ∷ os) = ap (λ (l : List Item). got r n ∷ l) (pdus-listed k n os)
pdus-listed k kept (start r i n false ∷ os) = pdus-listed k n os
pdus-listed k kept (piece r p true ∷ os) =
    ap (λ (l : List Item). got r kept ∷ l) (pdus-listed k kept os) ∙ sym (pushed_counts kept r p (marked r true (compared os)))
pdus-listed k kept (piece r p false ∷ os) = pdus-listed k kept os ∙ sym (pushed_counts kept r p (compared os))

-- sums of the same reports
pub sum_same : (f g : ℕ → Report) (n : ℕ) → ((k : ℕ) → f k ≡ g k) → sum_to f n ≡ sum_to g n
unfolding sum_to
sum_same f g zero h = refl
sum_same f g (suc n) h = ap₂ add_reports (sum_same f g n h) (h n)

-- R21.11: from one accepted table, one sound state and memory of the right lengths, same runs (swapped, cut, joined) count the same PDUs and drops, by
-- reason, of each connection, and so have the same report
module _ (image : List ℕ) (m : Machine) (good : Good image m) {es fs : List Event} (alike : Same es fs) (bytes : RunBytes es) where
  pub same_items : (k kept : ℕ) → items_from k kept (given_in image k m es) ≡ items_from k kept (given_in image k m fs)
  same_items k kept =
      sym (items_fine k kept (given_in image k m es)) ∙ ap (items_from k kept) (same-given image m good alike bytes k)
      ∙ items_fine k kept (given_in image k m fs)

  pub same_report : run_report image m es ≡ run_report image m fs
  same_report = sum_same _ _ 16 (λ k. ap report_of (same_items k 0))
