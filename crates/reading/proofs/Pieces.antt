-- A TRANSFER OVER MANY SEGMENTS, however they are cut: each piece has a byte at least, the pieces joined are the transfer's bytes, and
-- the end mark comes with the last of them and not before.
use Prim.Native.Nat.{ℕ, zero, suc, ◌-◌, ◌≤◌, ◌<◌}
use mathlib.Core.Path.{◌≡◌, refl, sym, ap, ap₂, ◌∙◌}
use mathlib.Core.Bool.{Bool, true, false, cond, true≢false}
use mathlib.Core.List.{List, [], ◌∷◌, ◌++◌, append-nil, flatten}
use native.Mathlib.Omega.{arith}
use lib.Dec.{eqb, ltb}
use lib.ListN.{length, take, drop, drop_of_length-le}
use lib.Seq.{take_all}
use Rattle.reading.specs.Feed.{Routes, Cell, cell, transfer, Out, nothing, pdu, dropped, start, piece, Fed, ready, feed}
use Rattle.reading.specs.Feed.{after, emit, outs, stops, took, piece_by, take_b, Ran, joined, takes, segment_ran, segments, FullPiece}
use Rattle.reading.specs.Feed.{FullPieces, finished, compared, middle_of, Handed, complete, began, middle, push, push_all, marked, piece_bytes, moved_bytes}
use Rattle.reading.proofs.Cut.{part-after, part-outs, last_after, last_outs, segments-feed}
use Rattle.reading.proofs.Compared.{compared-singles, compared-fine, push-body}

-- EACH PIECE HAS A BYTE AT LEAST: a take's ..
full-piece : (n r b : ℕ) (bs : List ℕ) (t : Bool) → FullPiece (piece_by t (suc n) r (b ∷ bs)).out
full-piece n r b bs true = omega arith
full-piece n r b bs false = omega arith

full_stop : (o : Out) → stops o ≡ true → FullPiece o
full_stop nothing e = tt
full_stop (pdu r p) e = tt
full_stop (dropped k i n) e = tt
full_stop (start r i n m) e = tt
full_stop (piece r p m) e = absurd (true≢false (sym e))

pub full-take : (R : Routes) (c : Cell) (bs : List ℕ) → FullPiece (take_b R c bs).out
unfolding take_b
full-take R c [] = tt
full-take R (transfer zero r) (b ∷ bs) = full-take R ready bs
full-take R (transfer (suc n) r) (b ∷ bs) = full-piece n r b bs (ltb (length (b ∷ bs)) (suc n))
full-take R (cell n k) (b ∷ bs) = go (stops (feed R (cell n k) b).out) refl (full-take R (feed R (cell n k) b).to bs)
  where
    f : Fed
    f = feed R (cell n k) b

    go : (s : Bool) → stops f.out ≡ s → FullPiece (take_b R f.to bs).out → FullPiece (cond s (took f.to f.out bs) (take_b R f.to bs)).out
    go true e h = full_stop f.out e
    go false e h = h

-- .. and all of a segment's and of many segments'
full-emit : (o : Out) (os : List Out) → FullPiece o → FullPieces os → FullPieces (emit o os)
full-emit nothing os h hs = hs
full-emit (pdu r p) os h hs = (tt, hs)
full-emit (dropped k i n) os h hs = (tt, hs)
full-emit (start r i n m) os h hs = (tt, hs)
full-emit (piece r p m) os h hs = (h, hs)

full-joined : (c : Cell) (o : Out) (bs : List ℕ) (r : Ran) → FullPiece o → FullPieces r.list → FullPieces (joined c o bs r).list
full-joined c o [] r h hs = full-emit o [] h tt
full-joined c o (b ∷ bs) r h hs = full-emit o r.list h hs

full-takes : (R : Routes) (f : ℕ) (c : Cell) (bs : List ℕ) → FullPieces (takes R f c bs).list
unfolding takes
full-takes R zero c bs = tt
full-takes R (suc f) c bs =
    full-joined (take_b R c bs).to (take_b R c bs).out (take_b R c bs).rest (takes R f (take_b R c bs).to (take_b R c bs).rest) (full-take R c bs)
    (full-takes R f (take_b R c bs).to (take_b R c bs).rest)

pub full-segment : (R : Routes) (c : Cell) (bs : List ℕ) → FullPieces (segment_ran R c bs).list
unfolding segment_ran
full-segment R c bs = full-takes R (suc (length bs)) c bs

pub full-append : (a b : List Out) → FullPieces a → FullPieces b → FullPieces (a ++ b)
full-append [] b h g = g
full-append (o ∷ a) b (h, hs) g = (h, full-append a b hs g)

pub full-segments : (R : Routes) (c : Cell) (ss : List (List ℕ)) → FullPieces (segments R c ss).list
unfolding segments
full-segments R c [] = tt
full-segments R c (s ∷ ss) =
    full-append (segment_ran R c s).list (segments R (segment_ran R c s).to ss).list (full-segment R c s) (full-segments R (segment_ran R c s).to ss)

-- THE PIECES JOINED ARE THE TRANSFER'S BYTES, of which n are to come: fewer have come, and no mark ..
some-outs : (R : Routes) (n r : ℕ) (bs : List ℕ) → length bs ≤ n → compared (outs R (transfer (suc n) r) bs) ≡ middle_of r bs []
unfolding outs compared
some-outs R n r [] h = refl
some-outs R n r (b ∷ bs) h = ap compared (part-outs R n r b bs h) ∙ compared-singles r b bs false [] ∙ push-body r (b ∷ bs) [] refl

-- .. or all of them, the mark, and what comes then
all-outs : (R : Routes) (n r : ℕ) (bs : List ℕ) → n < length bs
    → compared (outs R (transfer (suc n) r) bs) ≡ middle_of r (take (suc n) bs) (finished r ∷ compared (outs R ready (drop (suc n) bs)))
all-outs R n r [] h = absurd (omega arith)
all-outs R n r (b ∷ bs) h =
    ap compared (last_outs R n r b bs (omega arith))
    ∙ compared-singles r b (take n bs) true (outs R ready (drop n bs))
    ∙ push-body r (b ∷ take n bs) (finished r ∷ compared (outs R ready (drop n bs))) refl

by_bytes : (R : Routes) (c : Cell) (ss : List (List ℕ)) → compared (segments R c ss).list ≡ compared (outs R c (flatten ss))
by_bytes R c ss = sym (compared-fine (segments R c ss).list) ∙ ap (λ (q : Ran). compared q.list) (segments-feed R c ss)

by_end : (R : Routes) (c : Cell) (ss : List (List ℕ)) → (segments R c ss).to ≡ after R c (flatten ss)
by_end R c ss = ap (λ (q : Ran). q.to) (segments-feed R c ss)

pub move_some : (R : Routes) (n r : ℕ) (ss : List (List ℕ)) → length (flatten ss) < n
    → ((segments R (transfer n r) ss).to ≡ transfer (n - length (flatten ss)) r) × (compared (segments R (transfer n r) ss).list ≡ middle_of r (flatten ss) [])
move_some R zero r ss h = absurd (omega arith)
move_some R (suc n) r ss h = (
  by_end R (transfer (suc n) r) ss ∙ part-after R n r (flatten ss) (omega arith),
  by_bytes R (transfer (suc n) r) ss
      ∙ some-outs R n r (flatten ss) (omega arith),
)

pub move_all : (R : Routes) (n r : ℕ) (ss : List (List ℕ)) → 0 < n → n ≤ length (flatten ss)
    → ((segments R (transfer n r) ss).to ≡ after R ready (drop n (flatten ss)))
    × (compared (segments R (transfer n r) ss).list ≡ middle_of r (take n (flatten ss)) (finished r ∷ compared (outs R ready (drop n (flatten ss)))))
move_all R zero r ss p h = absurd (omega arith)
move_all R (suc n) r ss p h =
    (by_end R (transfer (suc n) r) ss ∙ last_after R n r (flatten ss) h, by_bytes R (transfer (suc n) r) ss ∙ all-outs R n r (flatten ss) h)

-- THE COMPARISON LOSES NO BYTE of a transfer, whatever the pieces
push-bytes : (r b : ℕ) (hs : List Handed) → moved_bytes (push r b hs) ≡ b ∷ moved_bytes hs
push-bytes r b [] = refl
push-bytes r b (complete s p ∷ hs) = refl
push-bytes r b (began s i n ∷ hs) = refl
push-bytes r b (middle s p ∷ hs) = go (eqb r s)
  where
    go : (t : Bool) → moved_bytes (cond t (middle r (b ∷ p) ∷ hs) (middle r (b ∷ []) ∷ middle s p ∷ hs)) ≡ b ∷ (p ++ moved_bytes hs)
    go true = refl
    go false = refl
push-bytes r b (finished s ∷ hs) = refl

push_all-bytes : (r : ℕ) (p : List ℕ) (hs : List Handed) → moved_bytes (push_all r p hs) ≡ p ++ moved_bytes hs
push_all-bytes r [] hs = refl
push_all-bytes r (b ∷ p) hs = push-bytes r b (push_all r p hs) ∙ ap (λ (l : List ℕ). b ∷ l) (push_all-bytes r p hs)

marked-bytes : (r : ℕ) (m : Bool) (hs : List Handed) → moved_bytes (marked r m hs) ≡ moved_bytes hs
marked-bytes r true hs = refl
marked-bytes r false hs = refl

pub compared-bytes : (os : List Out) → moved_bytes (compared os) ≡ piece_bytes os
unfolding compared
compared-bytes [] = refl
compared-bytes (nothing ∷ os) = compared-bytes os
compared-bytes (pdu r p ∷ os) = compared-bytes os
compared-bytes (dropped k i n ∷ os) = compared-bytes os
compared-bytes (start r i n m ∷ os) = marked-bytes r m (compared os) ∙ compared-bytes os
compared-bytes (piece r p m ∷ os) =
    push_all-bytes r p (marked r m (compared os)) ∙ ap (λ (l : List ℕ). p ++ l) (marked-bytes r m (compared os) ∙ compared-bytes os)

-- .. so the pieces of a whole transfer, joined, are its payload
middle-bytes : (r : ℕ) (p : List ℕ) (hs : List Handed) → moved_bytes (middle_of r p hs) ≡ p ++ moved_bytes hs
middle-bytes r [] hs = refl
middle-bytes r (b ∷ p) hs = refl

none_left : (R : Routes) → moved_bytes (compared (outs R ready [])) ≡ []
unfolding outs compared
none_left R = refl

pub pieces_joined : (R : Routes) (n r : ℕ) (ss : List (List ℕ)) → 0 < n → length (flatten ss) ≡ n → piece_bytes (segments R (transfer n r) ss).list ≡ flatten ss
pieces_joined R n r ss pos e =
    let bs : List ℕ = flatten ss in
    let over : drop n bs ≡ [] = drop_of_length-le bs {i = n} (omega arith) in
    sym (compared-bytes (segments R (transfer n r) ss).list)
    ∙ ap moved_bytes (move_all R n r ss pos (omega arith)).1
    ∙ middle-bytes r (take n bs) (finished r ∷ compared (outs R ready (drop n bs)))
    ∙ ap₂ (λ (x y : List ℕ). x ++ moved_bytes (compared (outs R ready y))) (take_all n bs (omega arith)) over
    ∙ ap (λ (l : List ℕ). bs ++ l) (none_left R)
    ∙ append-nil bs
