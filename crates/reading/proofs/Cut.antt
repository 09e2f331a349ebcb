-- CUT AND JOIN: segments cut at any byte, or joined, empty ones included, end alike and hand out the same, byte by byte.
-- A take reads up to the end of the first complete PDU, dropped header, start or piece, no further and no less.
use Prim.Native.Nat.{ℕ, zero, suc, ◌+◌, ◌-◌, ◌/◌, ◌%◌, ◌^◌, ◌≤◌, ◌<◌}
use mathlib.Core.Path.{◌≡◌, refl, sym, ap, ap₂, ◌∙◌, subst}
use mathlib.Core.Bool.{Bool, true, false, cond, true≢false}
use mathlib.Core.List.{List, [], ◌∷◌, ◌++◌, append-nil, cons-ne-nil, flatten}
use native.Mathlib.Omega.{arith}
use borrow.Author.Tests.{ltb-true, ltb-false}
use lib.Dec.{ltb}
use lib.ListN.{length, take, drop, length-append, length-drop, take-append-drop}
use lib.Seq.{drop-append_seam, append_snoc, length-take-le, take_at, drop_at}
use Rattle.reading.specs.declared.Decision.{Decision}
use Rattle.reading.specs.declared.Decision.TheVariants.{Accept, Refuse, Transfer}
use Rattle.reading.specs.Feed.{Routes, PieceKind, header, payload, skip, Cell, cell, transfer, Out, nothing, pdu, dropped, start, piece, ready, Fed, fed}
use Rattle.reading.specs.Feed.{decided, with_byte, piece_done, feed, after, emit, outs, stops, Took, took, bytes_read, piece_by, take_b, Ends, at_end, at_byte}
use Rattle.reading.specs.Feed.{at_seam, at_mark, Ran, ran, joined, takes, segment_ran, segments, singles, single, fine, finely, Pdu, handed, pdus, drops}
use Rattle.reading.proofs.Laws.{piece-short, piece-whole}

-- the stream's bytes one by one, in two pieces
pub emit-append : (o : Out) (xs ys : List Out) → emit o xs ++ ys ≡ emit o (xs ++ ys)
emit-append nothing xs ys = refl
emit-append (pdu r p) xs ys = refl
emit-append (dropped k i n) xs ys = refl
emit-append (start r i n m) xs ys = refl
emit-append (piece r p m) xs ys = refl

pub after-append : (R : Routes) (c : Cell) (a b : List ℕ) → after R c (a ++ b) ≡ after R (after R c a) b
unfolding after
after-append R c [] b = refl
after-append R c (x ∷ a) b = after-append R (feed R c x).to a b

pub outs-append : (R : Routes) (c : Cell) (a b : List ℕ) → outs R c (a ++ b) ≡ outs R c a ++ outs R (after R c a) b
unfolding after outs
outs-append R c [] b = refl
outs-append R c (x ∷ a) b =
    ap (emit (feed R c x).out) (outs-append R (feed R c x).to a b) ∙ sym (emit-append (feed R c x).out _ _)

-- lists byte by byte
singles-append : (r b : ℕ) (bs : List ℕ) (m : Bool) (xs ys : List Out) → singles r b bs m xs ++ ys ≡ singles r b bs m (xs ++ ys)
singles-append r b [] m xs ys = refl
singles-append r b (c ∷ cs) m xs ys = ap (λ (os : List Out). piece r (b ∷ []) false ∷ os) (singles-append r c cs m xs ys)

single-append : (o : Out) (xs ys : List Out) → single o xs ++ ys ≡ single o (xs ++ ys)
single-append nothing xs ys = refl
single-append (pdu r p) xs ys = refl
single-append (dropped k i n) xs ys = refl
single-append (start r i n m) xs ys = refl
single-append (piece r [] m) xs ys = refl
single-append (piece r (b ∷ bs) m) xs ys = singles-append r b bs m xs ys

pub fine-append : (a b : List Out) → fine (a ++ b) ≡ fine a ++ fine b
unfolding fine
fine-append [] b = refl
fine-append (o ∷ a) b = ap (single o) (fine-append a b) ∙ sym (single-append o (fine a) (fine b))

fine-emit : (o : Out) (os : List Out) → fine (emit o os) ≡ single o (fine os)
unfolding fine
fine-emit nothing os = refl
fine-emit (pdu r p) os = refl
fine-emit (dropped k i n) os = refl
fine-emit (start r i n m) os = refl
fine-emit (piece r p m) os = refl

-- a transfer's bytes one by one, of which suc n are to come: fewer stand here, or all of them
pub part-after : (R : Routes) (n r : ℕ) (bs : List ℕ) → length bs ≤ n → after R (transfer (suc n) r) bs ≡ transfer (suc n - length bs) r
unfolding after feed
part-after R n r [] h = ap (λ (m : ℕ). transfer m r) (omega arith)
part-after R zero r (b ∷ bs) h = absurd (omega arith)
part-after R (suc n) r (b ∷ bs) h = part-after R n r bs (omega arith) ∙ ap (λ (m : ℕ). transfer m r) (omega arith)

pub part-outs : (R : Routes) (n r b : ℕ) (bs : List ℕ) → length (b ∷ bs) ≤ n → outs R (transfer (suc n) r) (b ∷ bs) ≡ singles r b bs false []
unfolding outs feed
part-outs R zero r b bs h = absurd (omega arith)
part-outs R (suc n) r b [] h = refl
part-outs R (suc n) r b (c ∷ bs) h = ap (λ (os : List Out). piece r (b ∷ []) false ∷ os) (part-outs R n r c bs (omega arith))

pub last_after : (R : Routes) (n r : ℕ) (bs : List ℕ) → n < length bs → after R (transfer (suc n) r) bs ≡ after R ready (drop (suc n) bs)
unfolding after feed
last_after R n r [] h = absurd (omega arith)
last_after R zero r (b ∷ bs) h = refl
last_after R (suc n) r (b ∷ bs) h = last_after R n r bs (omega arith)

pub last_outs : (R : Routes) (n r b : ℕ) (bs : List ℕ) → n ≤ length bs
    → outs R (transfer (suc n) r) (b ∷ bs) ≡ singles r b (take n bs) true (outs R ready (drop n bs))
unfolding outs feed
last_outs R zero r b bs h = refl
last_outs R (suc n) r b [] h = absurd (omega arith)
last_outs R (suc n) r b (c ∷ bs) h = ap (λ (os : List Out). piece r (b ∷ []) false ∷ os) (last_outs R n r c bs (omega arith))

-- a take is the stream up to its first outcome, or a piece of a transfer, and what is left comes after it
piece-after : (R : Routes) (n r : ℕ) (bs : List ℕ) (t : Bool) → ltb (length bs) (suc n) ≡ t
    → after R (transfer (suc n) r) bs ≡ after R (piece_by t (suc n) r bs).to (piece_by t (suc n) r bs).rest
unfolding after
piece-after R n r bs true e = part-after R n r bs (omega (arith, ltb-true (length bs) (suc n) e))
piece-after R n r bs false e = last_after R n r bs (omega (arith, ltb-false (length bs) (suc n) e))

piece-outs : (R : Routes) (n r b : ℕ) (bs : List ℕ) (t : Bool) → ltb (length (b ∷ bs)) (suc n) ≡ t
    → outs R (transfer (suc n) r) (b ∷ bs)
    ≡ single (piece_by t (suc n) r (b ∷ bs)).out (outs R (piece_by t (suc n) r (b ∷ bs)).to (piece_by t (suc n) r (b ∷ bs)).rest)
unfolding outs
piece-outs R n r b bs true e = part-outs R n r b bs (omega (arith, ltb-true (length (b ∷ bs)) (suc n) e))
piece-outs R n r b bs false e = last_outs R n r b bs (omega (arith, ltb-false (length (b ∷ bs)) (suc n) e))

-- what a byte outside a transfer does: it hands out a PDU or a start; or it is dropped or has no outcome, and begins no transfer
abbrev pub moves : Cell → Bool
moves (cell n k) = false
moves (transfer n r) = true

abbrev pub Outside : Cell → Out → Type 0
Outside c nothing = moves c ≡ false
Outside c (pdu r p) = Unit {0}
Outside c (dropped k i n) = moves c ≡ false
Outside c (start r i n m) = Unit {0}
Outside c (piece r p m) = ⊥

outside_decided : (d : Decision) (i n : ℕ) → Outside (decided d i n).to (decided d i n).out
outside_decided (Accept r) i zero = tt
outside_decided (Accept r) i (suc n) = refl
outside_decided (Refuse k) i zero = refl
outside_decided (Refuse k) i (suc n) = refl
outside_decided (Transfer r) i zero = tt
outside_decided (Transfer r) i (suc n) = tt

outside_done : (R : Routes) (k : PieceKind) → Outside (piece_done R k).to (piece_done R k).out
unfolding piece_done
outside_done R (header v) = outside_decided (R (v / 2 ^ 32) (v % 2 ^ 32)) (v / 2 ^ 32) (v % 2 ^ 32)
outside_done R (payload r h) = tt
outside_done R skip = refl

pub outside : (R : Routes) (n : ℕ) (k : PieceKind) (b : ℕ) → Outside (feed R (cell n k) b).to (feed R (cell n k) b).out
unfolding feed
outside R zero k b = refl
outside R (suc zero) k b = outside_done R (with_byte k b)
outside R (suc (suc n)) k b = refl

-- so if the take does not stop there, it goes on outside a transfer
calm : (c : Cell) (o : Out) → Outside c o → stops o ≡ false → (o ≡ nothing) × (moves c ≡ false)
calm c nothing h e = (refl, h)
calm c (pdu r p) h e = absurd (true≢false e)
calm c (dropped k i n) h e = absurd (true≢false e)
calm c (start r i n m) h e = absurd (true≢false e)
calm c (piece r p m) h e = absurd h

after-quiet : (R : Routes) (c c' : Cell) (b : ℕ) (bs : List ℕ) → feed R c b ≡ fed c' nothing → after R c (b ∷ bs) ≡ after R c' bs
unfolding after
after-quiet R c c' b bs e = ap (λ (f : Fed). after R f.to bs) e

outs-quiet : (R : Routes) (c c' : Cell) (b : ℕ) (bs : List ℕ) → feed R c b ≡ fed c' nothing → outs R c (b ∷ bs) ≡ outs R c' bs
unfolding outs
outs-quiet R c c' b bs e = ap (λ (f : Fed). emit f.out (outs R f.to bs)) e

-- an outcome that stops a take is no piece
stopped : (o : Out) (os : List Out) → stops o ≡ true → emit o os ≡ single o os
stopped nothing os e = refl
stopped (pdu r p) os e = refl
stopped (dropped k i n) os e = refl
stopped (start r i n m) os e = refl
stopped (piece r p m) os e = absurd (true≢false (sym e))

pub take_after : (R : Routes) (c : Cell) (bs : List ℕ) → after R c bs ≡ after R (take_b R c bs).to (take_b R c bs).rest
unfolding take_b after feed
take_after R c [] = refl
take_after R (transfer zero r) (b ∷ bs) = take_after R ready bs
take_after R (transfer (suc n) r) (b ∷ bs) = piece-after R n r (b ∷ bs) (ltb (length (b ∷ bs)) (suc n)) refl
take_after R (cell n k) (b ∷ bs) = go (stops (feed R (cell n k) b).out) (take_after R (feed R (cell n k) b).to bs)
  where
    f : Fed
    f = feed R (cell n k) b

    go : (s : Bool) → after R f.to bs ≡ after R (take_b R f.to bs).to (take_b R f.to bs).rest
        → after R f.to bs ≡ after R (cond s (took f.to f.out bs) (take_b R f.to bs)).to
        (cond s (took f.to f.out bs) (take_b R f.to bs)).rest
    go true e = refl
    go false e = e

pub take-outs : (R : Routes) (c : Cell) (bs : List ℕ) → outs R c bs ≡ single (take_b R c bs).out (outs R (take_b R c bs).to (take_b R c bs).rest)
unfolding take_b outs feed
take-outs R c [] = refl
take-outs R (transfer zero r) (b ∷ bs) = take-outs R ready bs
take-outs R (transfer (suc n) r) (b ∷ bs) = piece-outs R n r b bs (ltb (length (b ∷ bs)) (suc n)) refl
take-outs R (cell n k) (b ∷ bs) = go (stops (feed R (cell n k) b).out) refl (take-outs R (feed R (cell n k) b).to bs)
  where
    f : Fed
    f = feed R (cell n k) b

    go : (s : Bool) → stops f.out ≡ s → outs R f.to bs ≡ single (take_b R f.to bs).out (outs R (take_b R f.to bs).to (take_b R f.to bs).rest)
        → emit f.out (outs R f.to bs)
        ≡ single (cond s (took f.to f.out bs) (take_b R f.to bs)).out
        (outs R (cond s (took f.to f.out bs) (take_b R f.to bs)).to (cond s (took f.to f.out bs) (take_b R f.to bs)).rest)
    go true s e = stopped f.out (outs R f.to bs) s
    go false s e = ap (λ (o : Out). emit o (outs R f.to bs)) (calm f.to f.out (outside R n k b) s).0 ∙ e

-- a take leaves fewer bytes than it was given, if any
less_piece : (n r b : ℕ) (bs : List ℕ) (t : Bool) → length (piece_by t (suc n) r (b ∷ bs)).rest ≤ length bs
less_piece n r b bs true = omega arith
less_piece n r b bs false = omega (arith, length-drop (suc n) (b ∷ bs))

pub take_less : (R : Routes) (c : Cell) (bs : List ℕ) → length (take_b R c bs).rest ≤ length bs - 1
unfolding take_b
take_less R c [] = omega arith
take_less R (transfer zero r) (b ∷ bs) = omega (arith, take_less R ready bs)
take_less R (transfer (suc n) r) (b ∷ bs) = omega (arith, less_piece n r b bs (ltb (length (b ∷ bs)) (suc n)))
take_less R (cell n k) (b ∷ bs) = omega (arith, go (stops (feed R (cell n k) b).out) (take_less R (feed R (cell n k) b).to bs))
  where
    f : Fed
    f = feed R (cell n k) b

    go : (s : Bool) → length (take_b R f.to bs).rest ≤ length bs - 1 → length (cond s (took f.to f.out bs) (take_b R f.to bs)).rest ≤ length bs
    go true h = omega arith
    go false h = omega arith

joined_is : (R : Routes) (c : Cell) (o : Out) (bs : List ℕ) (r : Ran) → (0 < length bs → finely r ≡ ran (after R c bs) (outs R c bs))
    → finely (joined c o bs r) ≡ ran (after R c bs) (single o (outs R c bs))
unfolding after outs fine
joined_is R c o [] r h = ap (ran c) (fine-emit o [])
joined_is R c o (b ∷ bs) r h = ap (ran r.to) (fine-emit o r.list) ∙ ap (λ (q : Ran). ran q.to (single o q.list)) (h (omega arith))

-- THE TAKES OVER A SEGMENT ARE THE STREAM'S BYTES ONE BY ONE
takes_feeds : (R : Routes) (f : ℕ) (c : Cell) (bs : List ℕ) → length bs < f → finely (takes R f c bs) ≡ ran (after R c bs) (outs R c bs)
unfolding takes
takes_feeds R zero c bs h = absurd (omega arith)
takes_feeds R (suc f) c bs h =
    joined_is R (take_b R c bs).to (take_b R c bs).out (take_b R c bs).rest (takes R f (take_b R c bs).to (take_b R c bs).rest)
    (λ p. takes_feeds R f (take_b R c bs).to (take_b R c bs).rest (omega (arith, take_less R c bs)))
    ∙ ap₂ ran (sym (take_after R c bs)) (sym (take-outs R c bs))

pub segment_feeds : (R : Routes) (c : Cell) (bs : List ℕ) → finely (segment_ran R c bs) ≡ ran (after R c bs) (outs R c bs)
unfolding segment_ran
segment_feeds R c bs = takes_feeds R (suc (length bs)) c bs (omega arith)

pub segment-to : (R : Routes) (c : Cell) (bs : List ℕ) → (segment_ran R c bs).to ≡ after R c bs
segment-to R c bs = ap (λ (q : Ran). q.to) (segment_feeds R c bs)

pub segment-list : (R : Routes) (c : Cell) (bs : List ℕ) → fine (segment_ran R c bs).list ≡ outs R c bs
segment-list R c bs = ap (λ (q : Ran). q.list) (segment_feeds R c bs)

-- CUT: a segment is its two pieces, one after the other (read from right to left: joined)
pub cut : (R : Routes) (c : Cell) (a b : List ℕ)
    → finely (segment_ran R c (a ++ b))
    ≡ ran (segment_ran R (segment_ran R c a).to b).to (fine (segment_ran R c a).list ++ fine (segment_ran R (segment_ran R c a).to b).list)
cut R c a b =
    segment_feeds R c (a ++ b)
    ∙ ap₂ ran (after-append R c a b) (outs-append R c a b)
    ∙ sym (ap (λ (q : Ran). ran q.to (outs R c a ++ q.list)) (segment_feeds R (after R c a) b))
    ∙ sym (ap (λ (q : Ran). ran (segment_ran R q.to b).to (q.list ++ fine (segment_ran R q.to b).list)) (segment_feeds R c a))

-- an empty segment changes nothing, whatever the connection holds
pub empty_segment : (R : Routes) (c : Cell) → segment_ran R c [] ≡ ran c []
unfolding segment_ran takes take_b
empty_segment R c = refl

-- ANY NUMBER OF PIECES
pub segments-feed : (R : Routes) (c : Cell) (ss : List (List ℕ)) → finely (segments R c ss) ≡ ran (after R c (flatten ss)) (outs R c (flatten ss))
unfolding segments flatten after outs fine
segments-feed R c [] = refl
segments-feed R c (s ∷ ss) =
    ap (ran (segments R (segment_ran R c s).to ss).to) (fine-append (segment_ran R c s).list (segments R (segment_ran R c s).to ss).list)
    ∙ ap (λ (q : Ran). ran (segments R q.to ss).to (q.list ++ fine (segments R q.to ss).list)) (segment_feeds R c s)
    ∙ ap (λ (q : Ran). ran q.to (outs R c s ++ q.list)) (segments-feed R (after R c s) ss)
    ∙ sym (ap₂ ran (after-append R c s (flatten ss)) (outs-append R c s (flatten ss)))

-- two ways to cut the same bytes end alike and hand out the same
pub same_bytes : (R : Routes) (c : Cell) (ss ts : List (List ℕ)) → flatten ss ≡ flatten ts → finely (segments R c ss) ≡ finely (segments R c ts)
same_bytes R c ss ts e =
    segments-feed R c ss ∙ ap (λ (bs : List ℕ). ran (after R c bs) (outs R c bs)) e ∙ sym (segments-feed R c ts)

-- the PDUs and the drops of two lists one after the other
pub pdus-append : (a b : List Out) → pdus (a ++ b) ≡ pdus a ++ pdus b
unfolding pdus
pdus-append [] b = refl
pdus-append (nothing ∷ a) b = pdus-append a b
pdus-append (pdu r p ∷ a) b = ap (λ (ps : List Pdu). handed r p ∷ ps) (pdus-append a b)
pdus-append (dropped k i n ∷ a) b = pdus-append a b
pdus-append (start r i n m ∷ a) b = pdus-append a b
pdus-append (piece r p m ∷ a) b = pdus-append a b

pub drops-append : (a b : List Out) → drops (a ++ b) ≡ drops a + drops b
unfolding drops
drops-append [] b = omega arith
drops-append (nothing ∷ a) b = drops-append a b
drops-append (pdu r p ∷ a) b = drops-append a b
drops-append (dropped k i n ∷ a) b = omega (arith, drops-append a b)
drops-append (start r i n m ∷ a) b = drops-append a b
drops-append (piece r p m ∷ a) b = drops-append a b

-- WHERE A TAKE ENDS: a byte without an outcome comes before what ends the take
later : (R : Routes) (c c' : Cell) (b : ℕ) {bs : List ℕ} {t : Took} → feed R c b ≡ fed c' nothing → moves c' ≡ false → Ends R c' bs t → Ends R c (b ∷ bs) t
later R c c' b f q (at_end _ bs e) =
    subst (λ (d : Cell). Ends R c (b ∷ bs) (took d nothing [])) (after-quiet R c c' b bs f) (at_end c (b ∷ bs) (outs-quiet R c c' b bs f ∙ e))
later R c c' b f q (at_byte _ a x rest g e is s) =
    at_byte c (b ∷ a) x rest g (outs-quiet R c c' b a f ∙ e) (ap (λ (d : Cell). feed R d x) (after-quiet R c c' b a f) ∙ is) s
later R c c' b f q (at_seam n r a p lt) = absurd (true≢false q)
later R c c' b f q (at_mark n r a rest p e) = absurd (true≢false q)

ends-piece : (R : Routes) (n r b : ℕ) (bs : List ℕ) (t : Bool) → ltb (length (b ∷ bs)) (suc n) ≡ t
    → Ends R (transfer (suc n) r) (b ∷ bs) (piece_by t (suc n) r (b ∷ bs))
ends-piece R n r b bs true e = at_seam (suc n) r (b ∷ bs) (omega arith) (ltb-true (length (b ∷ bs)) (suc n) e)
ends-piece R n r b bs false e =
    let le : n ≤ length bs = omega (arith, ltb-false (length (b ∷ bs)) (suc n) e) in
    subst (λ (l : List ℕ). Ends R (transfer (suc n) r) l (took ready (piece r (b ∷ take n bs) true) (drop n bs)))
    (ap (λ (l : List ℕ). b ∷ l) (take-append-drop n bs))
    (at_mark (suc n) r (b ∷ take n bs) (drop n bs) (omega arith) (omega (arith, length-take-le n bs le)))

-- no further and no less: the take ends so ..
pub take_ends : (R : Routes) (c : Cell) (bs : List ℕ) → Ends R c bs (take_b R c bs)
unfolding take_b after outs feed
take_ends R c [] = at_end c [] refl
take_ends R (transfer zero r) (b ∷ bs) = later R (transfer zero r) ready b refl refl (take_ends R ready bs)
take_ends R (transfer (suc n) r) (b ∷ bs) = ends-piece R n r b bs (ltb (length (b ∷ bs)) (suc n)) refl
take_ends R (cell n k) (b ∷ bs) = go (stops (feed R (cell n k) b).out) refl (take_ends R (feed R (cell n k) b).to bs)
  where
    f : Fed
    f = feed R (cell n k) b

    go : (s : Bool) → stops f.out ≡ s → Ends R f.to bs (take_b R f.to bs)
        → Ends R (cell n k) (b ∷ bs) (cond s (took f.to f.out bs) (take_b R f.to bs))
    go true e h = at_byte (cell n k) [] b bs f refl refl e
    go false e h = let q = calm f.to f.out (outside R n k b) e in later R (cell n k) f.to b (ap (fed f.to) q.0) q.1 h

-- .. and whatever ends so is the take
nothing_came : (o : Out) (os : List Out) → emit o os ≡ [] → (o ≡ nothing) × (os ≡ [])
nothing_came nothing os e = (refl, e)
nothing_came (pdu r p) os e = absurd (cons-ne-nil (pdu r p) os e)
nothing_came (dropped k i n) os e = absurd (cons-ne-nil (dropped k i n) os e)
nothing_came (start r i n m) os e = absurd (cons-ne-nil (start r i n m) os e)
nothing_came (piece r p m) os e = absurd (cons-ne-nil (piece r p m) os e)

-- a transfer's byte has an outcome
came : (R : Routes) (n r b : ℕ) (os : List Out) → emit (feed R (transfer (suc n) r) b).out os ≡ [] → ⊥
unfolding feed
came R zero r b os e = cons-ne-nil (piece r (b ∷ []) true) os e
came R (suc n) r b os e = cons-ne-nil (piece r (b ∷ []) false) os e

-- .. at which no take stops by itself
unstopped : (R : Routes) (n r b : ℕ) → stops (feed R (transfer (suc n) r) b).out ≡ true → ⊥
unfolding feed
unstopped R zero r b e = true≢false (sym e)
unstopped R (suc n) r b e = true≢false (sym e)

quiet-take : (R : Routes) (c : Cell) (bs : List ℕ) → outs R c bs ≡ [] → took (after R c bs) nothing [] ≡ take_b R c bs
unfolding take_b after outs feed
quiet-take R c [] e = refl
quiet-take R (transfer zero r) (b ∷ bs) e = quiet-take R ready bs e
quiet-take R (transfer (suc n) r) (b ∷ bs) e = absurd (came R n r b _ e)
quiet-take R (cell n k) (b ∷ bs) e =
    let q = nothing_came (feed R (cell n k) b).out (outs R (feed R (cell n k) b).to bs) e in
    rw q.0 (quiet-take R (feed R (cell n k) b).to bs q.1)

first-take : (R : Routes) (c : Cell) (a : List ℕ) (b : ℕ) (rest : List ℕ) → outs R c a ≡ [] → stops (feed R (after R c a) b).out ≡ true
    → took (feed R (after R c a) b).to (feed R (after R c a) b).out rest ≡ take_b R c (a ++ b ∷ rest)
unfolding take_b after outs feed
first-take R (cell n k) [] b rest e s = rw s
first-take R (transfer zero r) [] b rest e s = absurd (true≢false (sym s))
first-take R (transfer (suc n) r) [] b rest e s = absurd (unstopped R n r b s)
first-take R (cell n k) (x ∷ a) b rest e s =
    let q = nothing_came (feed R (cell n k) x).out (outs R (feed R (cell n k) x).to a) e in
    rw q.0 (first-take R (feed R (cell n k) x).to a b rest q.1 s)
first-take R (transfer zero r) (x ∷ a) b rest e s = first-take R ready a b rest e s
first-take R (transfer (suc n) r) (x ∷ a) b rest e s = absurd (came R n r x _ e)

mark-take : (R : Routes) (n r : ℕ) (a rest : List ℕ) → 0 < length a → length a ≡ n → took ready (piece r a true) rest ≡ take_b R (transfer n r) (a ++ rest)
mark-take R n r a rest p e =
    ap₂ (λ (x y : List ℕ). took ready (piece r x true) y) (sym (take_at a rest n e)) (sym (drop_at a rest n e))
    ∙ sym (piece-whole R n r (a ++ rest) (omega arith) (omega (arith, length-append a rest)))

pub ends-take : (R : Routes) (c : Cell) (bs : List ℕ) (t : Took) → Ends R c bs t → t ≡ take_b R c bs
ends-take R c bs t (at_end _ _ e) = quiet-take R c bs e
ends-take R c bs t (at_byte _ a b rest f e is s) = rw (sym is) (first-take R c a b rest e (rw (sym is) at s))
ends-take R c bs t (at_seam n r a p lt) = sym (piece-short R n r a p lt)
ends-take R c bs t (at_mark n r a rest p e) = mark-take R n r a rest p e

-- the bytes read are those before the rest
behind : (a r : List ℕ) → drop (length (a ++ r) - length r) (a ++ r) ≡ r
behind a r =
    let n : length (a ++ r) - length r ≡ length a = omega (arith, length-append a r) in
    ap (λ (m : ℕ). drop m (a ++ r)) n ∙ drop-append_seam a r

pub rest-is : (R : Routes) (c : Cell) (bs : List ℕ) (t : Took) → Ends R c bs t → drop (bytes_read bs t) bs ≡ t.rest
rest-is R c bs t (at_end _ _ e) = rw (sym (append-nil bs)) (behind bs [])
rest-is R c bs t (at_byte _ a b rest f e is s) = rw (sym (append_snoc a b rest)) (behind (a ++ b ∷ []) rest)
rest-is R c bs t (at_seam n r a p lt) = rw (sym (append-nil a)) (behind a [])
rest-is R c bs t (at_mark n r a rest p e) = behind a rest

pub take_rest : (R : Routes) (c : Cell) (bs : List ℕ) → drop (bytes_read bs (take_b R c bs)) bs ≡ (take_b R c bs).rest
take_rest R c bs = rest-is R c bs (take_b R c bs) (take_ends R c bs)
