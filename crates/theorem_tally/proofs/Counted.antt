-- COUNTING FROM THE BYTES OF AN ANSWER IS COUNTING WHAT ITS TAKES TOLD (R21.9): where no sum passed 64 bits, the report after the takes of a segment event is
-- the report before with the PDUs, ended transfers and drops that these takes tell.
use Prim.Native.Nat.{ℕ, ◌+◌, ◌^◌, ◌<◌, ◌≤◌}
use mathlib.Core.Path.{◌≡◌, refl, sym, ap, ap₂, subst, ◌∙◌}
use mathlib.Core.Bool.{Bool, true, false, cond, ◌&&◌}
use mathlib.Core.List.{List, [], ◌∷◌, ◌++◌, append_assoc}
use native.Mathlib.Omega.{arith}
use lib.Dec.{eqb, ltb}
use lib.ListN.{length, set, drop, length-append}
use lib.Seq.{set_out, set-get_or, drop_at}
use borrow.Author.Tests.{ltb-false}
use Rattle.reading.specs.Reasons.{reason_number}
use Rattle.lists.proofs.Both.{and_left, and_right}
use Rattle.wire.specs.Be.{be}
use Rattle.wire.specs.Lay.{spell}
use Rattle.wire.proofs.Spell.{length-spell}
use Rattle.table_layout.specs.Layout.{part_of}
use Rattle.reading.specs.Feed.{Out, nothing, pdu, dropped, start, piece}
use Rattle.receive_stream.specs.declared.Outcome.{Outcome}
use Rattle.receive_stream.specs.declared.Outcome.TheVariants as Found
use Rattle.event_answer.specs.Answers.{found_bytes}
use Rattle.dispatch_receive.specs.Segment.{here_bytes, held_bytes, piece_kind, piece_spelt, take_bytes}
use Rattle.recording.specs.Entry.{take_needs}
use Rattle.report.specs.declared.RouteFigures.{RouteFigures}
use Rattle.report.specs.declared.Drops.{Drops}
use Rattle.report.specs.declared.Report.{Report}
use Rattle.report.specs.Figures.{no_pdus, one_pdu, add_figures, figures_fit, plus_figures, no_drops, one_drop, add_drops, drops_fit, plus_drops}
use Rattle.report.specs.Report.{figures_at, drops_at, FullReport, Item, got, lost, count_item, count_from}
use Rattle.report_count.specs.declared.Adds.{Adds}
use Rattle.report_count.specs.declared.Counting.{Counting}
use Rattle.report_count.specs.Count.{adding, adds_nothing, adds_drop, adds_pdu, adds_start, adds_of_kind, adds_of, one_counted, takes_counted}
use Rattle.theorem_report.proofs.Figures.{figures_none, drops_none}
use Rattle.theorem_report.proofs.Counts.{from_full}
use Rattle.dispatch_refines.specs.Told.{Take, bytes_in, out_in, outs_in}
use Rattle.dispatch_refines.proofs.Read.{number_at, kind_at, length_at, TakeFits, kind-small}
use Rattle.theorem_tally.specs.Items.{items_from, length_kept}

-- nothing more, whether it fits or not
plus_none : (f : RouteFigures) → plus_figures f no_pdus ≡ f
unfolding plus_figures
plus_none f = go (figures_fit f no_pdus)
  where
    go : (b : Bool) → cond b (add_figures f no_pdus) f ≡ f
    go true = figures_none f
    go false = refl

no_more : (d : Drops) → plus_drops d no_drops ≡ d
unfolding plus_drops
no_more d = go (drops_fit d no_drops)
  where
    go : (b : Bool) → cond b (add_drops d no_drops) d ≡ d
    go true = drops_none d
    go false = refl

abbrev made : List RouteFigures → List Drops → Report
made rs cs = record { routes = rs; connections = cs }

-- COUNTED: what fits at the end fitted before, and then the report has what counts, added
pub record Counts (xs : List Item) (c d : Counting) : Type 0 where
  pub before : d.fits ≡ true → c.fits ≡ true
  pub sums : FullReport c.report → d.fits ≡ true → d.report ≡ count_from c.report xs

module _ (k : ℕ) (c : Counting) where
  abbrev pub after : Adds → Counting
  after a = one_counted k a c

  fits-before : (a : Adds) → (after a).fits ≡ true → c.fits ≡ true
  unfolding one_counted
  fits-before a e = and_left c.fits _ (and_left (c.fits && figures_fit (figures_at c.report a.route) a.figures) _ e)

  pub nothing-counts : (kept : ℕ) → Counts [] c (after (adds_nothing kept))
  unfolding one_counted count_from
  nothing-counts kept =
      record {
        before = fits-before (adds_nothing kept);
        sums = λ full e.
            ap₂ made (ap (set c.report.routes 0) (plus_none (figures_at c.report 0)) ∙ set-get_or c.report.routes 0 no_pdus)
            (ap (set c.report.connections k) (no_more (drops_at c.report k)) ∙ set-get_or c.report.connections k no_drops);
      }

  pub drop-counts : (reason kept : ℕ) → Counts (lost k reason ∷ []) c (after (adds_drop reason kept))
  unfolding one_counted count_from count_item plus_drops
  drop-counts reason kept =
      record {
        before = fits-before (adds_drop reason kept);
        sums = λ full e.
            let f : drops_fit (drops_at c.report k) (one_drop reason) ≡ true =
            and_right (c.fits && figures_fit (figures_at c.report 0) no_pdus) _ e in
            ap₂ made (ap (set c.report.routes 0) (plus_none (figures_at c.report 0)) ∙ set-get_or c.report.routes 0 no_pdus)
            (ap (λ (b : Bool). set c.report.connections k (cond b (add_drops (drops_at c.report k) (one_drop reason)) (drops_at c.report k))) f);
      }

  there-counts : (route n kept : ℕ) → Counts (got route n ∷ []) c (after (adding route (one_pdu n) no_drops kept))
  unfolding one_counted count_from count_item plus_figures
  there-counts route n kept =
      record {
        before = fits-before (adding route (one_pdu n) no_drops kept);
        sums = λ full e.
            let f : figures_fit (figures_at c.report route) (one_pdu n) ≡ true =
            and_right c.fits _ (and_left (c.fits && figures_fit (figures_at c.report route) (one_pdu n)) _ e) in
            ap₂ made
            (ap (λ (b : Bool). set c.report.routes route (cond b (add_figures (figures_at c.report route) (one_pdu n)) (figures_at c.report route))) f)
            (ap (set c.report.connections k) (no_more (drops_at c.report k)) ∙ set-get_or c.report.connections k no_drops);
      }

  -- a route that there is not has no figures to add to
  past-counts : (route n kept : ℕ) → 64 ≤ route → Counts (got route n ∷ []) c (after (adds_nothing kept))
  unfolding count_from count_item
  past-counts route n kept h =
      record {
        before = fits-before (adds_nothing kept);
        sums = λ full e.
            let l : length c.report.routes ≤ route = omega (arith, full.routes, h) in
            (nothing-counts kept).sums full e ∙ sym (ap (λ (rs : List RouteFigures). made rs c.report.connections) (set_out c.report.routes route _ l));
      }

  pub pdu-counts : (route n kept : ℕ) → Counts (got route n ∷ []) c (after (adds_pdu route n kept))
  unfolding adds_pdu
  pdu-counts route n kept = go (ltb route 64) refl
    where
      go : (b : Bool) → ltb route 64 ≡ b → Counts (got route n ∷ []) c (after (cond b (adding route (one_pdu n) no_drops kept) (adds_nothing kept)))
      go true e = there-counts route n kept
      go false e = past-counts route n kept (ltb-false route 64 e)

pub pdu_kept : (route n kept : ℕ) → (adds_pdu route n kept).kept ≡ kept
unfolding adds_pdu
pdu_kept route n kept = go (ltb route 64)
  where
    go : (b : Bool) → (cond b (adding route (one_pdu n) no_drops kept) (adds_nothing kept)).kept ≡ kept
    go true = refl
    go false = refl

-- WHAT A TAKE ADDS, by what it found
abbrev adds_found : Outcome → ℕ → Adds
adds_found Found.More kept = adds_nothing kept
adds_found (Found.Pdu route id inside at n) kept = adds_pdu route n kept
adds_found (Found.Drop reason id n) kept = adds_drop (reason_number reason) kept
adds_found (Found.Start route id n last) kept = adds_start route n
adds_found (Found.Piece route id at n true) kept = adds_pdu route kept kept
adds_found (Found.Piece route id at n false) kept = adds_nothing kept

-- the payload that a PDU names is as long as it says
abbrev pub Exact : List ℕ → ℕ → Outcome → List ℕ → Type 0
Exact seg begins Found.More payload = Unit {0}
Exact seg begins (Found.Pdu route id true at n) payload = length (part_of seg (begins + at) n) ≡ n
Exact seg begins (Found.Pdu route id false at n) payload = length payload ≡ n
Exact seg begins (Found.Drop reason id n) payload = Unit {0}
Exact seg begins (Found.Start route id n last) payload = last ≡ eqb n 0
Exact seg begins (Found.Piece route id at n last) payload = Unit {0}

module _ (k : ℕ) (c : Counting) (seg : List ℕ) (begins : ℕ) where
  abbrev Told : Outcome → List ℕ → Type 0
  Told o payload =
      Counts (items_from k c.kept (out_in seg begins o payload)) c (one_counted k (adds_found o c.kept) c)
      × ((one_counted k (adds_found o c.kept) c).kept ≡ length_kept c.kept (out_in seg begins o payload))

  start_told : (route id n : ℕ) (last : Bool) (payload : List ℕ) → last ≡ eqb n 0 → Told (Found.Start route id n last) payload
  unfolding items_from length_kept adds_start one_counted
  start_told route id n true payload e =
      let z : eqb n 0 ≡ true = sym e in (
        subst (λ (b : Bool). Counts (got route n ∷ []) c (one_counted k (cond b (adds_pdu route n n) (adds_nothing n)) c)) e (pdu-counts k c route n n),
        ap (λ (b : Bool). (cond b (adds_pdu route n n) (adds_nothing n)).kept) z ∙ pdu_kept route n n,
      )
  start_told route id n false payload e =
      let z : eqb n 0 ≡ false = sym e in (
        subst (λ (b : Bool). Counts [] c (one_counted k (cond b (adds_pdu route n n) (adds_nothing n)) c)) e (nothing-counts k c n),
        ap (λ (b : Bool). (cond b (adds_pdu route n n) (adds_nothing n)).kept) z,
      )

  take_told : (o : Outcome) (payload : List ℕ) → Exact seg begins o payload → Told o payload
  unfolding items_from length_kept one_counted
  take_told Found.More payload e = (nothing-counts k c c.kept, refl)
  take_told (Found.Pdu route id true at n) payload e = (
    subst (λ (m : ℕ). Counts (got route m ∷ []) c (one_counted k (adds_pdu route n c.kept) c)) (sym e) (pdu-counts k c route n c.kept),
    pdu_kept route n c.kept,
  )
  take_told (Found.Pdu route id false at n) payload e = (
    subst (λ (m : ℕ). Counts (got route m ∷ []) c (one_counted k (adds_pdu route n c.kept) c)) (sym e) (pdu-counts k c route n c.kept),
    pdu_kept route n c.kept,
  )
  take_told (Found.Drop reason id n) payload e = (drop-counts k c (reason_number reason) c.kept, refl)
  take_told (Found.Start route id n last) payload e = start_told route id n last payload e
  take_told (Found.Piece route id at n true) payload e = (pdu-counts k c route c.kept c.kept, pdu_kept route c.kept c.kept)
  take_told (Found.Piece route id at n false) payload e = (nothing-counts k c c.kept, refl)

-- THE BYTES OF A TAKE say what it found: kind, route or reason, and length
which_at : (first kind which id n : ℕ) (r : List ℕ) {l : List ℕ} → l ≡ found_bytes first kind which id n ++ r → which < 256 → be 1 l 5 ≡ which
which_at first kind which id n r is h =
    number_at 1 which (spell 4 first ++ spell 1 kind) (spell 4 id ++ spell 4 n ++ r) 5 h (simp (length-append, length-spell)) (is ∙ simp append_assoc)

pub found-adds : (first kind which id n : ℕ) (r : List ℕ) {l : List ℕ} → l ≡ found_bytes first kind which id n ++ r → kind < 256 → which < 256 → n < 256 ^ 4
    → (kept : ℕ) → adds_of l kept ≡ adds_of_kind kind which n kept
found-adds first kind which id n r is a b c kept =
    rw (kind_at first kind which id n r is a, which_at first kind which id n r is b, length_at first kind which id n r is c)

piece-adds : (last : Bool) (route id at n kept : ℕ) → adds_of_kind (piece_kind last) route n kept ≡ adds_found (Found.Piece route id at n last) kept
unfolding adds_of_kind
piece-adds true route id at n kept = refl
piece-adds false route id at n kept = refl

bytes-add : (begins read : ℕ) (o : Outcome) (payload rest : List ℕ) → TakeFits begins o payload → (kept : ℕ)
    → adds_of (take_bytes begins read o payload ++ rest) kept ≡ adds_found o kept
unfolding adds_of_kind
bytes-add begins read Found.More payload rest h kept = found-adds read 0 0 0 0 rest refl (omega arith) (omega arith) (omega arith) kept
bytes-add begins read (Found.Drop reason id n) payload rest h kept = found-adds read 2 (reason_number reason) id n rest refl (omega arith) h.0 h.1.1 kept
bytes-add begins read (Found.Start route id n last) payload rest h kept = found-adds read 3 route id n rest refl (omega arith) h.0.0 h.0.1.1 kept
bytes-add begins read (Found.Piece route id at n last) payload rest h kept =
    let is : piece_spelt read route id n last begins at ++ rest ≡ found_bytes read (piece_kind last) route id n ++ (spell 4 (begins + at) ++ rest) =
    simp append_assoc in
    found-adds read (piece_kind last) route id n (spell 4 (begins + at) ++ rest) is (kind-small last) h.0 h.1.0 kept ∙ piece-adds last route id at n kept
bytes-add begins read (Found.Pdu route id true at n) payload rest h kept =
    let is : here_bytes read route id n begins at ++ rest ≡ found_bytes read 1 route id n ++ (spell 1 0 ++ (spell 4 (begins + at) ++ rest)) =
    simp append_assoc in
    found-adds read 1 route id n (spell 1 0 ++ (spell 4 (begins + at) ++ rest)) is (omega arith) h.0 h.1.0 kept
bytes-add begins read (Found.Pdu route id false at n) payload rest h kept =
    let is : held_bytes read route id n payload ++ rest ≡ found_bytes read 1 route id n ++ (spell 1 1 ++ (payload ++ rest)) = simp append_assoc in
    found-adds read 1 route id n (spell 1 1 ++ (payload ++ rest)) is (omega arith) h.0 h.1.0 kept

-- LISTS OF ITEMS, one behind the other
count-append : (r : Report) (xs ys : List Item) → count_from r (xs ++ ys) ≡ count_from (count_from r xs) ys
unfolding count_from
count-append r [] ys = refl
count-append r (x ∷ xs) ys = count-append (count_item x r) xs ys

pub counts_then : (xs ys : List Item) (c d e : Counting) → Counts xs c d → Counts ys d e → Counts (xs ++ ys) c e
counts_then xs ys c d e p q =
    record {
      before = λ h. p.before (q.before h);
      sums = λ full h.
          let s : d.report ≡ count_from c.report xs = p.sums full (q.before h) in
          let f : FullReport d.report = subst FullReport (sym s) (from_full c.report xs full) in
          q.sums f h ∙ ap (λ (r : Report). count_from r ys) s ∙ sym (count-append c.report xs ys);
    }

pub items_append : (k kept : ℕ) (os ps : List Out) → items_from k kept (os ++ ps) ≡ items_from k kept os ++ items_from k (length_kept kept os) ps
unfolding items_from length_kept
items_append k kept [] ps = refl
items_append k kept (nothing ∷ os) ps = items_append k kept os ps
items_append k kept (pdu r p ∷ os) ps = ap (λ (l : List Item). got r (length p) ∷ l) (items_append k kept os ps)
items_append k kept (dropped j i n ∷ os) ps = ap (λ (l : List Item). lost k (reason_number j) ∷ l) (items_append k kept os ps)
items_append k kept (start r i n true ∷ os) ps = ap (λ (l : List Item). got r n ∷ l) (items_append k n os ps)
items_append k kept (start r i n false ∷ os) ps = items_append k n os ps
items_append k kept (piece r p true ∷ os) ps = ap (λ (l : List Item). got r kept ∷ l) (items_append k kept os ps)
items_append k kept (piece r p false ∷ os) ps = items_append k kept os ps

pub kept_append : (kept : ℕ) (os ps : List Out) → length_kept kept (os ++ ps) ≡ length_kept (length_kept kept os) ps
unfolding length_kept
kept_append kept [] ps = refl
kept_append kept (nothing ∷ os) ps = kept_append kept os ps
kept_append kept (pdu r p ∷ os) ps = kept_append kept os ps
kept_append kept (dropped j i n ∷ os) ps = kept_append kept os ps
kept_append kept (start r i n m ∷ os) ps = kept_append n os ps
kept_append kept (piece r p m ∷ os) ps = kept_append kept os ps

-- TAKES, one after the other: each fits its bytes, and each PDU is as long as it says
abbrev pub AllStand : List ℕ → List Take → Type 0
AllStand seg [] = Unit {0}
AllStand seg (t ∷ ts) =
    (TakeFits t.begins t.outcome t.payload × (Exact seg t.begins t.outcome t.payload
    × (take_needs (take_bytes t.begins t.read t.outcome t.payload ++ bytes_in ts)
    ≡ length (take_bytes t.begins t.read t.outcome t.payload))))
    × AllStand seg ts

-- R21.9: the count over the bytes of the takes is the count over what they told
pub takes_told : (k : ℕ) (seg : List ℕ) (ts : List Take) (c : Counting) → AllStand seg ts
    → Counts (items_from k c.kept (outs_in seg ts)) c (takes_counted k (length ts) (bytes_in ts) c)
    × ((takes_counted k (length ts) (bytes_in ts) c).kept ≡ length_kept c.kept (outs_in seg ts))
unfolding takes_counted bytes_in outs_in items_from length_kept count_from
takes_told k seg [] c all = (record { before = λ h. h; sums = λ full h. refl }, refl)
takes_told k seg (t ∷ ts) c ((h, (x, needs)), all) =
    let o : Outcome = t.outcome in
    let b : List ℕ = take_bytes t.begins t.read o t.payload in
    let os : List Out = out_in seg t.begins o t.payload in
    let d : Counting = one_counted k (adds_found o c.kept) c in
    let one = take_told k c seg t.begins o t.payload x in
    let is : takes_counted k (length ts) (drop (take_needs (b ++ bytes_in ts)) (b ++ bytes_in ts)) (one_counted k (adds_of (b ++ bytes_in ts) c.kept) c)
    ≡ takes_counted k (length ts) (bytes_in ts) d =
    ap₂ (λ (l : List ℕ) (a : Adds). takes_counted k (length ts) l (one_counted k a c))
    (drop_at b (bytes_in ts) (take_needs (b ++ bytes_in ts)) (sym needs)) (bytes-add t.begins t.read o t.payload (bytes_in ts) h c.kept) in
    let later = takes_told k seg ts d all in
    let kept : d.kept ≡ length_kept c.kept os = one.1 in (
      subst (λ (e : Counting). Counts (items_from k c.kept (os ++ outs_in seg ts)) c e) (sym is)
          (subst (λ (l : List Item). Counts l c (takes_counted k (length ts) (bytes_in ts) d))
          (ap (λ (n : ℕ). items_from k c.kept os ++ items_from k n (outs_in seg ts)) kept ∙ sym (items_append k c.kept os (outs_in seg ts)))
          (counts_then (items_from k c.kept os) (items_from k d.kept (outs_in seg ts)) c d (takes_counted k (length ts) (bytes_in ts) d) one.0 later.0)),
      ap (λ (e : Counting). e.kept) is ∙ later.1 ∙ ap (λ (n : ℕ). length_kept n (outs_in seg ts)) kept ∙ sym (kept_append c.kept os (outs_in seg ts)),
    )
