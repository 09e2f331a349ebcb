-- THE ROUND TRIP over a stream: what is framed, and read by a ready reader whose routes accept it or hand it out in pieces, comes back:
-- the same PDUs and transfers in the same order, however the stream is cut; no drop; and the reader is ready again.
use Prim.Native.Nat.{ℕ, zero, suc, ◌+◌, ◌*◌, ◌/◌, ◌%◌, ◌^◌, ◌<◌}
use mathlib.Core.Path.{◌≡◌, refl, sym, ap, ap₂, ◌∙◌}
use mathlib.Core.Bool.{true, false}
use mathlib.Core.List.{List, [], ◌∷◌, ◌++◌, append_assoc, map, flatten}
use native.Mathlib.Omega.{arith}
use native.Mathlib.Nat.{div-add-mod', add-mul, mul_assoc, add_assoc, pow-suc, div-lt_iff_lt-mul}
use lib.ListN.{length, length-append}
use lib.Seq.{take_at, drop_at, take-append_seam, drop-append_seam}
use Rattle.wire.specs.Lay.{spell}
use Rattle.wire.proofs.Spell.{length-spell}
use Rattle.reading.specs.declared.Decision.{Decision}
use Rattle.reading.specs.declared.Decision.TheVariants.{Accept, Transfer}
use Rattle.reading.specs.Feed.{Routes, header, transfer, Out, nothing, pdu, dropped, start, piece, Fed, ready}
use Rattle.reading.specs.Feed.{decided, piece_done, spelt, after, outs, Took, took, take_b, resume, ran}
use Rattle.reading.specs.Feed.{emit, segments, singles, single, fine, finely, Handed, began, finished, compared, middle_of, Pdu, as_out, pdus}
use Rattle.frame.specs.Frame.{frame, Sent, frames}
use Rattle.reading.specs.Routed.{Routed, routed_none, routed_one, as_transfer, Carried, carried_none, carried_pdu, carried_transfer}
use Rattle.reading.proofs.Laws.{header-whole, done_header, body-whole, spelt-append, move_cell, empty, started, piece-whole}
use Rattle.reading.proofs.Cut.{take_after, take-outs, last_after, last_outs, segments-feed}
use Rattle.reading.proofs.Compared.{push-body}

-- spelt and read back, at any width and after any number
pub spelt-spell : (w v n : ℕ) → n < 256 ^ w → spelt v (spell w n) ≡ v * 256 ^ w + n
unfolding spell
spelt-spell zero v n h = omega arith
spelt-spell (suc w) v n h =
    let small : n / 256 < 256 ^ w = (div-lt_iff_lt-mul {k = 256} {x = n} {y = 256 ^ w} (omega arith)).1 (rw pow-suc at h) in
    spelt-append v (spell w (n / 256)) (n % 256 ∷ [])
    ∙ ap (λ (x : ℕ). x * 256 + n % 256) (spelt-spell w v (n / 256) small)
    ∙ rw (add-mul, mul_assoc, add_assoc, pow-suc, div-add-mod')

-- a frame is its eight header bytes and its payload
abbrev head : ℕ → ℕ → List ℕ
head i n = spell 4 i ++ spell 4 n

frame_is : (i : ℕ) (p more : List ℕ) → frame i p ++ more ≡ head i (length p) ++ (p ++ more)
unfolding frame
frame_is i p more =
    append_assoc (spell 4 i) (spell 4 (length p) ++ p) more
    ∙ ap (λ (l : List ℕ). spell 4 i ++ l) (append_assoc (spell 4 (length p)) p more)
    ∙ sym (append_assoc (spell 4 i) (spell 4 (length p)) (p ++ more))

length-head : (i n : ℕ) → length (head i n) ≡ 8
length-head i n = length-append (spell 4 i) (spell 4 n) ∙ ap₂ ◌+◌ (length-spell 4 i) (length-spell 4 n)

spelt-head : (i n : ℕ) → i < 256 ^ 4 → n < 256 ^ 4 → spelt 0 (head i n) ≡ i * 2 ^ 32 + n
spelt-head i n hi hn =
    spelt-append 0 (spell 4 i) (spell 4 n) ∙ ap (λ (v : ℕ). spelt v (spell 4 n)) (spelt-spell 4 0 i hi ∙ omega arith) ∙ spelt-spell 4 i n hn

-- ONE FRAME on a ready cell: its header is read ..
frame-head : (R : Routes) (i : ℕ) (p more : List ℕ) (d : Decision) → i < 256 ^ 4 → length p < 256 ^ 4 → R i (length p) ≡ d
    → take_b R ready (frame i p ++ more) ≡ resume R (decided d i (length p)) (p ++ more)
frame-head R i p more d hi hp ac =
    let h : List ℕ = head i (length p) in
    let l : List ℕ = p ++ more in
    let e : length h ≡ 8 = length-head i (length p) in
    ap (take_b R ready) (frame_is i p more)
    ∙ header-whole R 0 8 (h ++ l) (omega arith) (omega (arith, length-append h l, e))
    ∙ ap₂ (λ (x y : List ℕ). resume R (piece_done R (header (spelt 0 x))) y) (take_at h l 8 e) (drop_at h l 8 e)
    ∙ ap (λ (f : Fed). resume R f l)
    (ap (λ (w : ℕ). piece_done R (header w)) (spelt-head i (length p) hi hp) ∙ done_header R i (length p) hp ∙ ap (λ (q : Decision). decided q i (length p)) ac)

-- .. and the take goes on to the end of its payload, or ends after a transfer's start
pub take-frame : (R : Routes) (i r : ℕ) (p more : List ℕ) → i < 256 ^ 4 → length p < 256 ^ 4 → R i (length p) ≡ Accept r
    → take_b R ready (frame i p ++ more) ≡ took ready (pdu r p) more
take-frame R i r p more hi hp ac =
    frame-head R i p more (Accept r) hi hp ac
    ∙ body-whole R i r (length p) (p ++ more) (omega (arith, length-append p more))
    ∙ ap₂ (λ (x y : List ℕ). took ready (pdu r x) y) (take-append_seam p more) (drop-append_seam p more)

pub take_start : (R : Routes) (i r : ℕ) (p more : List ℕ) → i < 256 ^ 4 → length p < 256 ^ 4 → R i (length p) ≡ Transfer r
    → take_b R ready (frame i p ++ more) ≡ took (move_cell (length p) r) (start r i (length p) (empty (length p))) (p ++ more)
take_start R i r p more hi hp ac = frame-head R i p more (Transfer r) hi hp ac ∙ started R i r (length p) (p ++ more)

-- .. whose payload, if it has a byte, is the next take's piece
pub take_moved : (R : Routes) (r : ℕ) (p more : List ℕ) → 0 < length p → take_b R (transfer (length p) r) (p ++ more) ≡ took ready (piece r p true) more
take_moved R r p more h =
    piece-whole R (length p) r (p ++ more) h (omega (arith, length-append p more))
    ∙ ap₂ (λ (x y : List ℕ). took ready (piece r x true) y) (take-append_seam p more) (drop-append_seam p more)

moved_after : (R : Routes) (r : ℕ) (p more : List ℕ) → after R (move_cell (length p) r) (p ++ more) ≡ after R ready more
moved_after R r [] more = refl
moved_after R r (b ∷ p) more =
    last_after R (length p) r ((b ∷ p) ++ more) (omega (arith, length-append (b ∷ p) more)) ∙ ap (after R ready) (drop-append_seam (b ∷ p) more)

moved_outs : (R : Routes) (r i : ℕ) (p more : List ℕ) (os : List Out) → outs R ready more ≡ fine os
    → start r i (length p) (empty (length p)) ∷ outs R (move_cell (length p) r) (p ++ more) ≡ fine (as_transfer r i p os)
unfolding fine
moved_outs R r i [] more os e = ap (λ (l : List Out). start r i 0 true ∷ l) e
moved_outs R r i (b ∷ p) more os e =
    ap (λ (l : List Out). start r i (length (b ∷ p)) false ∷ l)
    (last_outs R (length p) r b (p ++ more) (omega (arith, length-append p more))
    ∙ ap₂ (λ (x y : List ℕ). singles r b x true (outs R ready y)) (take-append_seam p more) (drop-append_seam p more)
    ∙ ap (singles r b p true) e)

-- the stream behind a frame
behind-outs : (R : Routes) (bs : List ℕ) (t : Took) → take_b R ready bs ≡ t → outs R ready bs ≡ single t.out (outs R t.to t.rest)
behind-outs R bs t e = take-outs R ready bs ∙ ap (λ (u : Took). single u.out (outs R u.to u.rest)) e

behind-after : (R : Routes) (bs : List ℕ) (t : Took) → take_b R ready bs ≡ t → after R ready bs ≡ after R t.to t.rest
behind-after R bs t e = take_after R ready bs ∙ ap (λ (u : Took). after R u.to u.rest) e

trip_outs : (R : Routes) {ss : List Sent} {os : List Out} → Carried R ss os → outs R ready (frames ss) ≡ fine os
unfolding frames outs fine
trip_outs R carried_none = refl
trip_outs R (carried_pdu {s} {r} {ss} {os} fits ac h) =
    behind-outs R (frame s.id s.body ++ frames ss) _ (take-frame R s.id r s.body (frames ss) fits.id_fits fits.length-fits ac)
    ∙ ap (λ (l : List Out). pdu r s.body ∷ l) (trip_outs R h)
trip_outs R (carried_transfer {s} {r} {ss} {os} fits ac h) =
    behind-outs R (frame s.id s.body ++ frames ss) _ (take_start R s.id r s.body (frames ss) fits.id_fits fits.length-fits ac)
    ∙ moved_outs R r s.id s.body (frames ss) os (trip_outs R h)

trip_after : (R : Routes) {ss : List Sent} {os : List Out} → Carried R ss os → after R ready (frames ss) ≡ ready
unfolding frames after
trip_after R carried_none = refl
trip_after R (carried_pdu {s} {r} {ss} {os} fits ac h) =
    behind-after R (frame s.id s.body ++ frames ss) _ (take-frame R s.id r s.body (frames ss) fits.id_fits fits.length-fits ac)
    ∙ trip_after R h
trip_after R (carried_transfer {s} {r} {ss} {os} fits ac h) =
    behind-after R (frame s.id s.body ++ frames ss) _ (take_start R s.id r s.body (frames ss) fits.id_fits fits.length-fits ac)
    ∙ moved_after R r s.body (frames ss)
    ∙ trip_after R h

-- ANY NUMBER OF FRAMES, in segments cut in any way: the reader is ready again, and byte by byte has given just these outcomes
pub round_trip : (R : Routes) {ss : List Sent} {os : List Out} (pieces : List (List ℕ)) → Carried R ss os → flatten pieces ≡ frames ss
    → finely (segments R ready pieces) ≡ finely (ran ready os)
round_trip R pieces h e =
    segments-feed R ready pieces
    ∙ ap (λ (bs : List ℕ). ran (after R ready bs) (outs R ready bs)) e
    ∙ ap₂ ran (trip_after R h) (trip_outs R h)

-- A WHOLE TRANSFER, as it is compared: its start, all its bytes, its end
pub whole-compared : (r i : ℕ) (p : List ℕ) (os : List Out)
    → compared (as_transfer r i p os) ≡ began r i (length p) ∷ middle_of r p (finished r ∷ compared os)
unfolding compared
whole-compared r i [] os = refl
whole-compared r i (b ∷ p) os = ap (λ (l : List Handed). began r i (length (b ∷ p)) ∷ l) (push-body r (b ∷ p) (finished r ∷ compared os) refl)

-- NO MARKED ROUTE: PDUs alone, and they are fine as they are
pub carried_pdus : (R : Routes) {ss : List Sent} {ps : List Pdu} → Routed R ss ps → Carried R ss (map as_out ps)
carried_pdus R routed_none = carried_none
carried_pdus R (routed_one fits ac h) = carried_pdu fits ac (carried_pdus R h)

pub fine-pdus : (ps : List Pdu) → fine (map as_out ps) ≡ map as_out ps
unfolding fine
fine-pdus [] = refl
fine-pdus (p ∷ ps) = ap (λ (l : List Out). as_out p ∷ l) (fine-pdus ps)

-- .. and a list of outcomes, none of them `nothing`, that is these PDUs byte by byte is these PDUs
abbrev pub Solid : List Out → Type 0
Solid [] = Unit {0}
Solid (nothing ∷ os) = ⊥
Solid (pdu r p ∷ os) = Solid os
Solid (dropped k i n ∷ os) = Solid os
Solid (start r i n m ∷ os) = Solid os
Solid (piece r p m ∷ os) = Solid os

pub solid_emit : (o : Out) (os : List Out) → Solid os → Solid (emit o os)
solid_emit nothing os h = h
solid_emit (pdu r p) os h = h
solid_emit (dropped k i n) os h = h
solid_emit (start r i n m) os h = h
solid_emit (piece r p m) os h = h

pub solid_append : (xs ys : List Out) → Solid xs → Solid ys → Solid (xs ++ ys)
solid_append [] ys h g = g
solid_append (nothing ∷ xs) ys h g = absurd h
solid_append (pdu r p ∷ xs) ys h g = solid_append xs ys h g
solid_append (dropped k i n ∷ xs) ys h g = solid_append xs ys h g
solid_append (start r i n m ∷ xs) ys h g = solid_append xs ys h g
solid_append (piece r p m ∷ xs) ys h g = solid_append xs ys h g

-- 1 for a PDU, and the outcome in front
abbrev one-pdu : Out → ℕ
one-pdu nothing = 0
one-pdu (pdu r p) = 1
one-pdu (dropped k i n) = 0
one-pdu (start r i n m) = 0
one-pdu (piece r p m) = 0

abbrev front : List Out → Out
front [] = nothing
front (o ∷ os) = o

abbrev later : List Out → List Out
later [] = []
later (o ∷ os) = os

-- an outcome that is no PDU is not in front of them
other : (o : Out) (os : List Out) (ps : List Pdu) → one-pdu o ≡ 0 → o ∷ os ≡ map as_out ps → ⊥
other o os [] n e = let z : ◌≡◌ {A = ℕ} (suc (length os)) 0 = ap length e in absurd (omega (arith, z))
other o os (p ∷ ps) n e = let z : one-pdu o ≡ 1 = ap (λ (l : List Out). one-pdu (front l)) e in absurd (omega (arith, z, n))

pub pdus_alone : (os : List Out) (ps : List Pdu) → Solid os → fine os ≡ map as_out ps → os ≡ map as_out ps
unfolding fine
pdus_alone [] ps h e = e
pdus_alone (nothing ∷ os) ps h e = absurd h
pdus_alone (pdu r p ∷ os) [] h e = let z : ◌≡◌ {A = ℕ} (suc (length (fine os))) 0 = ap length e in absurd (omega (arith, z))
pdus_alone (pdu r p ∷ os) (q ∷ ps) h e = ap₂ (λ (o : Out) (l : List Out). o ∷ l) (ap front e) (pdus_alone os ps h (ap later e))
pdus_alone (dropped k i n ∷ os) ps h e = absurd (other (dropped k i n) (fine os) ps refl e)
pdus_alone (start r i n m ∷ os) ps h e = absurd (other (start r i n m) (fine os) ps refl e)
pdus_alone (piece r [] m ∷ os) ps h e = absurd (other (piece r [] m) (fine os) ps refl e)
pdus_alone (piece r (b ∷ []) m ∷ os) ps h e = absurd (other (piece r (b ∷ []) m) (fine os) ps refl e)
pdus_alone (piece r (b ∷ c ∷ cs) m ∷ os) ps h e = absurd (other (piece r (b ∷ []) false) (singles r c cs m (fine os)) ps refl e)

-- the PDUs of outcomes that are PDUs
pub pdus_back : (ps : List Pdu) → pdus (map as_out ps) ≡ ps
unfolding pdus
pdus_back [] = refl
pdus_back (p ∷ ps) = ap (λ (l : List Pdu). p ∷ l) (pdus_back ps)
