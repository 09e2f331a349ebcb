-- A STRETCH OVER MANY SEGMENTS, whatever its length (to 4,294,967,295 and beyond) and however it is cut: bytes skipped, and
-- payload bytes gathered.
use Prim.Native.Nat.{ℕ, ◌-◌, ◌≤◌, ◌<◌}
use mathlib.Core.Path.{◌≡◌, refl, sym, ap, ap₂, ◌∙◌}
use mathlib.Core.List.{List, [], ◌∷◌, ◌++◌, flatten}
use lib.ListN.{length, take, drop}
use Rattle.reading.specs.Feed.{Routes, payload, skip, Cell, cell, pdu, ready, after, outs, Took, take_b, ran, segments, single, finely}
use Rattle.reading.proofs.Laws.{rest-whole, rest-short, skip-whole, skip-short}
use Rattle.reading.proofs.Cut.{take_after, take-outs, segments-feed}

-- the stream behind a take
by_take : (R : Routes) (c : Cell) (bs : List ℕ) (t : Took) → take_b R c bs ≡ t
    → ran (after R c bs) (outs R c bs) ≡ ran (after R t.to t.rest) (single t.out (outs R t.to t.rest))
by_take R c bs t e =
    ap₂ ran (take_after R c bs) (take-outs R c bs)
    ∙ ap (λ (u : Took). ran (after R u.to u.rest) (single u.out (outs R u.to u.rest))) e

-- n bytes to skip: fewer come, or all of them and then bs
pub skip-some : (R : Routes) (n : ℕ) (ss : List (List ℕ)) → length (flatten ss) < n
    → finely (segments R (cell n skip) ss) ≡ ran (cell (n - length (flatten ss)) skip) []
unfolding after outs
skip-some R n ss h = segments-feed R (cell n skip) ss ∙ by_take R (cell n skip) (flatten ss) _ (skip-short R n (flatten ss) h)

pub skip_all : (R : Routes) (n : ℕ) (ss : List (List ℕ)) → 0 < n → n ≤ length (flatten ss)
    → finely (segments R (cell n skip) ss) ≡ ran (after R ready (drop n (flatten ss))) (outs R ready (drop n (flatten ss)))
skip_all R n ss p h =
    let bs : List ℕ = flatten ss in
    segments-feed R (cell n skip) ss
    ∙ by_take R (cell n skip) bs (take_b R ready (drop n bs)) (skip-whole R n bs p h)
    ∙ sym (by_take R ready (drop n bs) (take_b R ready (drop n bs)) refl)

-- n bytes of a payload to come, of which h is held
pub gather_some : (R : Routes) (r n : ℕ) (h : List ℕ) (ss : List (List ℕ)) → length (flatten ss) < n
    → finely (segments R (cell n (payload r h)) ss) ≡ ran (cell (n - length (flatten ss)) (payload r (h ++ flatten ss))) []
unfolding after outs
gather_some R r n h ss lt = segments-feed R (cell n (payload r h)) ss ∙ by_take R (cell n (payload r h)) (flatten ss) _ (rest-short R r n h (flatten ss) lt)

pub gather_all : (R : Routes) (r n : ℕ) (h : List ℕ) (ss : List (List ℕ)) → 0 < n → n ≤ length (flatten ss)
    → finely (segments R (cell n (payload r h)) ss)
    ≡ ran (after R ready (drop n (flatten ss))) (pdu r (h ++ take n (flatten ss)) ∷ outs R ready (drop n (flatten ss)))
gather_all R r n h ss p le =
    segments-feed R (cell n (payload r h)) ss ∙ by_take R (cell n (payload r h)) (flatten ss) _ (rest-whole R r n h (flatten ss) p le)
