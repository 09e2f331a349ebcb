-- A take in closed form: a stretch that ends within the segment, and one that does not, whatever its length (to
-- 4,294,967,295 and beyond). These are the laws that code which works by stretches is proved with.
use Prim.Native.Nat.{ℕ, zero, suc, ◌+◌, ◌-◌, ◌*◌, ◌/◌, ◌%◌, ◌^◌, ◌≤◌, ◌<◌}
use mathlib.Core.Path.{◌≡◌, refl, sym, ap, ap₂, ◌∙◌}
use mathlib.Core.Bool.{Bool, true, false}
use mathlib.Core.List.{List, [], ◌∷◌, ◌++◌, append_assoc, append-nil}
use native.Mathlib.Omega.{arith}
use native.Mathlib.Nat.{le_of_eq, lt_of_lt_of_le, pow-le-pow_right, pow-suc, add-mul, mul_assoc, add_assoc, zero-add}
use borrow.Author.Tests.{lt-ltb, le-ltb}
use lib.Arith.{digits_div, digits_mod, digits_lt}
use lib.Pow.{pow-add}
use lib.ListN.{length, take, drop, get_or}
use lib.Seq.{take-suc}
use Rattle.wire.specs.Be.{be}
use Rattle.reading.specs.declared.Decision.{Decision}
use Rattle.reading.specs.declared.DropReason.{DropReason}
use Rattle.reading.specs.declared.Decision.TheVariants.{Accept, Refuse, Transfer}
use Rattle.reading.specs.Feed.{Routes, PieceKind, header, payload, skip, Cell, cell, transfer, nothing, pdu, dropped, start}
use Rattle.reading.specs.Feed.{piece, ready, decided, with_byte, piece_done, spelt, feed, took, piece_by, take_b, resume}

-- A STRETCH WITH MANY BYTES MORE
abbrev pub add_all : PieceKind → List ℕ → PieceKind
add_all k [] = k
add_all k (b ∷ bs) = add_all (with_byte k b) bs

-- fewer bytes than it wants: all are read, and more is wanted
pub take_short : (R : Routes) (n : ℕ) (k : PieceKind) (bs : List ℕ) → length bs < n
    → take_b R (cell n k) bs ≡ took (cell (n - length bs) (add_all k bs)) nothing []
unfolding take_b feed
take_short R zero k bs h = absurd (omega arith)
take_short R (suc n) k [] h = ap (λ (m : ℕ). took (cell m k) nothing []) (omega arith)
take_short R (suc zero) k (b ∷ bs) h = absurd (omega arith)
take_short R (suc (suc n)) k (b ∷ bs) h =
    take_short R (suc n) (with_byte k b) bs (omega arith) ∙ ap (λ (m : ℕ). took (cell m (add_all (with_byte k b) bs)) nothing []) (omega arith)

-- all that it wants: the stretch is done, and the take goes on from there
pub take_whole : (R : Routes) (n : ℕ) (k : PieceKind) (bs : List ℕ) → 0 < n → n ≤ length bs
    → take_b R (cell n k) bs ≡ resume R (piece_done R (add_all k (take n bs))) (drop n bs)
unfolding take_b feed
take_whole R zero k bs p h = absurd (omega arith)
take_whole R (suc n) k [] p h = absurd (omega arith)
take_whole R (suc zero) k (b ∷ bs) p h = refl
take_whole R (suc (suc n)) k (b ∷ bs) p h = take_whole R (suc n) (with_byte k b) bs (omega arith) (omega arith)

-- what a stretch has gathered: a payload's bytes, nothing of a skip, and a header's number
pub add_all_payload : (r : ℕ) (h bs : List ℕ) → add_all (payload r h) bs ≡ payload r (h ++ bs)
add_all_payload r h [] = ap (payload r) (sym (append-nil h))
add_all_payload r h (b ∷ bs) = add_all_payload r (h ++ b ∷ []) bs ∙ ap (payload r) (append_assoc h (b ∷ []) bs)

pub add_all_skip : (bs : List ℕ) → add_all skip bs ≡ skip
add_all_skip [] = refl
add_all_skip (b ∷ bs) = add_all_skip bs

pub add_all_header : (v : ℕ) (bs : List ℕ) → add_all (header v) bs ≡ header (spelt v bs)
add_all_header v [] = refl
add_all_header v (b ∷ bs) = add_all_header (v * 256 + b) bs

-- A PAYLOAD of which h has come: it ends in this segment, or does not
pub rest-whole : (R : Routes) (r n : ℕ) (h bs : List ℕ) → 0 < n → n ≤ length bs
    → take_b R (cell n (payload r h)) bs ≡ took ready (pdu r (h ++ take n bs)) (drop n bs)
unfolding piece_done
rest-whole R r n h bs p le =
    take_whole R n (payload r h) bs p le ∙ ap (λ (k : PieceKind). resume R (piece_done R k) (drop n bs)) (add_all_payload r h (take n bs))

pub rest-short : (R : Routes) (r n : ℕ) (h bs : List ℕ) → length bs < n
    → take_b R (cell n (payload r h)) bs ≡ took (cell (n - length bs) (payload r (h ++ bs))) nothing []
rest-short R r n h bs lt = take_short R n (payload r h) bs lt ∙ ap (λ (k : PieceKind). took (cell (n - length bs) k) nothing []) (add_all_payload r h bs)

-- the payload that follows an accepted header, of no byte too
pub body-whole : (R : Routes) (i r n : ℕ) (bs : List ℕ) → n ≤ length bs → resume R (decided (Accept r) i n) bs ≡ took ready (pdu r (take n bs)) (drop n bs)
body-whole R i r zero bs le = refl
body-whole R i r (suc n) bs le = rest-whole R r (suc n) [] bs (omega arith) le

pub body-short : (R : Routes) (i r n : ℕ) (bs : List ℕ) → length bs < n
    → resume R (decided (Accept r) i n) bs ≡ took (cell (n - length bs) (payload r bs)) nothing []
body-short R i r zero bs lt = absurd (omega arith)
body-short R i r (suc n) bs lt = rest-short R r (suc n) [] bs lt

-- BYTES TO SKIP: the take runs through them into the next header, or they are fewer by the segment
pub skip-whole : (R : Routes) (n : ℕ) (bs : List ℕ) → 0 < n → n ≤ length bs → take_b R (cell n skip) bs ≡ take_b R ready (drop n bs)
unfolding piece_done
skip-whole R n bs p le = take_whole R n skip bs p le ∙ ap (λ (k : PieceKind). resume R (piece_done R k) (drop n bs)) (add_all_skip (take n bs))

pub skip-short : (R : Routes) (n : ℕ) (bs : List ℕ) → length bs < n → take_b R (cell n skip) bs ≡ took (cell (n - length bs) skip) nothing []
skip-short R n bs lt = take_short R n skip bs lt ∙ ap (λ (k : PieceKind). took (cell (n - length bs) k) nothing []) (add_all_skip bs)

-- A HEADER: it is whole in this segment, or not
pub header-whole : (R : Routes) (v n : ℕ) (bs : List ℕ) → 0 < n → n ≤ length bs
    → take_b R (cell n (header v)) bs ≡ resume R (piece_done R (header (spelt v (take n bs)))) (drop n bs)
header-whole R v n bs p le = take_whole R n (header v) bs p le ∙ ap (λ (k : PieceKind). resume R (piece_done R k) (drop n bs)) (add_all_header v (take n bs))

pub header-short : (R : Routes) (v n : ℕ) (bs : List ℕ) → length bs < n
    → take_b R (cell n (header v)) bs ≡ took (cell (n - length bs) (header (spelt v bs))) nothing []
header-short R v n bs lt = take_short R n (header v) bs lt ∙ ap (λ (k : PieceKind). took (cell (n - length bs) k) nothing []) (add_all_header v bs)

-- the number w of a whole header, and what the routes say to it
pub header-on : (R : Routes) (v n w : ℕ) (d : Decision) (bs : List ℕ) → 0 < n → n ≤ length bs → w ≡ spelt v (take n bs) → R (w / 2 ^ 32) (w % 2 ^ 32) ≡ d
    → take_b R (cell n (header v)) bs ≡ resume R (decided d (w / 2 ^ 32) (w % 2 ^ 32)) (drop n bs)
unfolding piece_done
header-on R v n w d bs p le e is =
    header-whole R v n bs p le
    ∙ ap (λ (u : ℕ). resume R (piece_done R (header u)) (drop n bs)) (sym e)
    ∙ ap (λ (q : Decision). resume R (decided q (w / 2 ^ 32) (w % 2 ^ 32)) (drop n bs)) is

-- an id and a length side by side: what the routes say to them
pub done_header : (R : Routes) (i n : ℕ) → n < 2 ^ 32 → piece_done R (header (i * 2 ^ 32 + n)) ≡ decided (R i n) i n
unfolding piece_done
done_header R i n h = ap₂ (λ (x y : ℕ). decided (R x y) x y) (digits_div i h) (digits_mod i h)

-- after a dropped header: what is to be skipped, which may be nothing
abbrev pub skip_cell : ℕ → Cell
skip_cell zero = ready
skip_cell (suc n) = cell (suc n) skip

pub refused_skips : (R : Routes) (k : DropReason) (i n : ℕ) (bs : List ℕ) → resume R (decided (Refuse k) i n) bs ≡ took (skip_cell n) (dropped k i n) bs
refused_skips R k i zero bs = refl
refused_skips R k i (suc n) bs = refl

-- A TRANSFER: its start, which may be all of it; a piece that the segment cuts off, and the last one
abbrev pub move_cell : ℕ → ℕ → Cell
move_cell zero r = ready
move_cell (suc n) r = transfer (suc n) r

abbrev pub empty : ℕ → Bool
empty zero = true
empty (suc n) = false

pub started : (R : Routes) (i r n : ℕ) (bs : List ℕ) → resume R (decided (Transfer r) i n) bs ≡ took (move_cell n r) (start r i n (empty n)) bs
started R i r zero bs = refl
started R i r (suc n) bs = refl

pub piece-short : (R : Routes) (n r : ℕ) (bs : List ℕ) → 0 < length bs → length bs < n
    → take_b R (transfer n r) bs ≡ took (transfer (n - length bs) r) (piece r bs false) []
unfolding take_b
piece-short R n r [] p lt = absurd (omega arith)
piece-short R zero r (b ∷ bs) p lt = absurd (omega arith)
piece-short R (suc n) r (b ∷ bs) p lt = ap (λ (t : Bool). piece_by t (suc n) r (b ∷ bs)) (lt-ltb (length (b ∷ bs)) (suc n) lt)

pub piece-whole : (R : Routes) (n r : ℕ) (bs : List ℕ) → 0 < n → n ≤ length bs → take_b R (transfer n r) bs ≡ took ready (piece r (take n bs) true) (drop n bs)
unfolding take_b
piece-whole R zero r bs p le = absurd (omega arith)
piece-whole R (suc n) r [] p le = absurd (omega arith)
piece-whole R (suc n) r (b ∷ bs) p le = ap (λ (t : Bool). piece_by t (suc n) r (b ∷ bs)) (le-ltb (length (b ∷ bs)) (suc n) le)

-- THE NUMBER THAT BYTES STAND FOR: of two lists, and with one byte more
pub spelt-append : (v : ℕ) (a b : List ℕ) → spelt v (a ++ b) ≡ spelt (spelt v a) b
spelt-append v [] b = refl
spelt-append v (x ∷ a) b = spelt-append (v * 256 + x) a b

pub spelt-take : (v : ℕ) (bs : List ℕ) (i : ℕ) → i < length bs → spelt v (take (suc i) bs) ≡ spelt v (take i bs) * 256 + get_or bs i 0
spelt-take v bs i h = ap (spelt v) (take-suc bs i 0 h) ∙ spelt-append v (take i bs) (get_or bs i 0 ∷ [])

-- the first w bytes, by the readers' number
pub spelt-be : (v w : ℕ) (bs : List ℕ) → w ≤ length bs → spelt v (take w bs) ≡ v * 256 ^ w + be w bs 0
unfolding be
spelt-be v zero bs h = omega arith
spelt-be v (suc w) bs h =
    spelt-take v bs w (omega arith)
    ∙ ap₂ (λ (x y : ℕ). x * 256 + y) (spelt-be v w bs (omega arith)) (ap (λ (j : ℕ). get_or bs j 0) (sym (zero-add w)))
    ∙ rw (add-mul, mul_assoc, add_assoc, pow-suc)

-- k bytes stand for a number below 256 ^ k, and seven leave room for an eighth
pub grow : (k w b : ℕ) → w < 256 ^ k → b < 256 → w * 256 + b < 256 ^ (k + 1)
grow k w b h hb = lt_of_lt_of_le (digits_lt h hb) (le_of_eq (sym (pow-add 256 k 1)))

pub value_room : (k w : ℕ) → k ≤ 7 → w < 256 ^ k → w < 256 ^ 7
value_room k w hk h = lt_of_lt_of_le h (pow-le-pow_right (omega arith) {j = 7} hk)
