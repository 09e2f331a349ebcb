-- WHAT COUNTS OF A RUN (R21.9, R21.11): of all outcomes that a connection has told, in order, the PDUs, the transfers that ended, and the drops.
use Rattle.std.specs.Prelude.{ℕ, zero, suc, true, false, List, [], ◌∷◌, length}
use Rattle.reading.specs.Reasons.{reason_number}
use Rattle.reading.specs.Feed.{Out, nothing, pdu, dropped, start, piece, Handed, complete, began, middle, finished}
use Rattle.report.specs.declared.Report.{Report}
use Rattle.report.specs.Report.{empty_report, Item, got, lost, report_of, add_reports}
use Rattle.model.specs.Events.{Event}
use Rattle.model_refines.specs.Machine.{Machine}
use Rattle.model_refines.specs.Run.{given_in}

-- of connection k, where a transfer of `kept` bytes runs: a PDU counts when it is handed out, a transfer at its end mark with its whole length, a drop by
-- its reason
unfoldable pub items_from : ℕ → ℕ → List Out → List Item
items_from k kept [] = []
items_from k kept (nothing ∷ os) = items_from k kept os
items_from k kept (pdu r p ∷ os) = got r (length p) ∷ items_from k kept os
items_from k kept (dropped j i n ∷ os) = lost k (reason_number j) ∷ items_from k kept os
items_from k kept (start r i n true ∷ os) = got r n ∷ items_from k n os
items_from k kept (start r i n false ∷ os) = items_from k n os
items_from k kept (piece r p true ∷ os) = got r kept ∷ items_from k kept os
items_from k kept (piece r p false ∷ os) = items_from k kept os

-- the length of the transfer that started last
unfoldable pub length_kept : ℕ → List Out → ℕ
length_kept kept [] = kept
length_kept kept (nothing ∷ os) = length_kept kept os
length_kept kept (pdu r p ∷ os) = length_kept kept os
length_kept kept (dropped j i n ∷ os) = length_kept kept os
length_kept kept (start r i n m ∷ os) = length_kept n os
length_kept kept (piece r p m ∷ os) = length_kept kept os

-- the PDUs among what counts, and the drops
unfoldable pub got_among : List Item → List Item
got_among [] = []
got_among (got r n ∷ xs) = got r n ∷ got_among xs
got_among (lost k j ∷ xs) = got_among xs

unfoldable pub lost_among : List Item → List Item
lost_among [] = []
lost_among (got r n ∷ xs) = lost_among xs
lost_among (lost k j ∷ xs) = lost k j ∷ lost_among xs

-- R21.11: the PDUs that count, by the list that demand 3 speaks of
unfoldable pub got_handed : ℕ → List Handed → List Item
got_handed kept [] = []
got_handed kept (complete r p ∷ hs) = got r (length p) ∷ got_handed kept hs
got_handed kept (began r i n ∷ hs) = got_handed n hs
got_handed kept (middle r p ∷ hs) = got_handed kept hs
got_handed kept (finished r ∷ hs) = got r kept ∷ got_handed kept hs

-- the reports of the connections below n, added up
unfoldable pub sum_to : (ℕ → Report) → ℕ → Report
sum_to f zero = empty_report
sum_to f (suc n) = add_reports (sum_to f n) (f n)

module _ (image : List ℕ) where
  -- the report of what connection k has told in a run
  abbrev pub connection_report : Machine → List Event → ℕ → Report
  connection_report m es k = report_of (items_from k 0 (given_in image k m es))

  -- R21.11, THE REPORT OF A RUN, however large its sums: that of each of the sixteen connections
  abbrev pub run_report : Machine → List Event → Report
  run_report m es = sum_to (connection_report m es) 16
