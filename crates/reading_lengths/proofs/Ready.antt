-- From a header's first byte: the PDUs of a stream read a byte at a time are those that the split finds and the routes accept.
use Prim.Native.Nat.{ℕ, zero, suc, ◌+◌, ◌≤◌, ◌<◌}
use mathlib.Core.Path.{◌≡◌, refl, sym, ap, ap₂, ◌∙◌}
use mathlib.Core.Bool.{true, false, true≢false}
use mathlib.Core.List.{List, [], ◌∷◌}
use native.Mathlib.Omega.{arith}
use lib.ListN.{length, take, drop, get_or, length-map, length-drop}
use lib.Seq.{length-take-le, drop-drop}
use Rattle.wire.specs.Be.{be}
use Rattle.wire.proofs.Join.{be-add}
use Rattle.reading.specs.declared.Decision.{Decision}
use Rattle.reading.specs.declared.Decision.TheVariants.{Accept, Refuse, Transfer}
use Rattle.reading.specs.Feed.{Routes, header, payload, skip, Cell, cell, transfer, Out, nothing, pdu, dropped, start}
use Rattle.reading.specs.Feed.{piece, Fed, ready, decided, piece_done, feed, emit, Handed, began, finished, compared}
use Rattle.reading.proofs.Laws.{add_all, add_all_payload, add_all_skip, add_all_header, done_header, spelt-be}
use Rattle.reading.proofs.Cut.{moves, Outside, outside}
use Rattle.reading.proofs.Compared.{free, push-body}
use Rattle.reading_lengths.specs.Head.{Head, ended, short, beyond, whole, head_of}
use Rattle.reading_lengths.specs.Split.{split_by, splits, split}
use Rattle.reading_lengths.specs.Listed.{Marked, bytes_of, words_of, read_out, keep, so_far, unended, accepted, accepted_of, listed, Bytes}
use Rattle.reading_lengths.proofs.Bytes.{map-take, map-drop, be-small, bytes_drop}
use Rattle.reading_lengths.proofs.Heads.{View, none_left, at-short, at-beyond, at-whole, view, head-end}
use Rattle.reading_lengths.proofs.Marks.{out-short, out-whole, move-short, move-whole}

-- the header at the front of the stream
header_done : (R : Routes) (l : List ℕ) → Bytes l → 8 ≤ length l
    → piece_done R (add_all (header 0) (take 8 l)) ≡ decided (R (be 4 l 0) (be 4 l 4)) (be 4 l 0) (be 4 l 4)
header_done R l b h =
    ap (piece_done R) (add_all_header 0 (take 8 l) ∙ ap header (spelt-be 0 8 l h ∙ omega arith ∙ be-add 4 4 l 0))
    ∙ done_header R (be 4 l 0) (be 4 l 4) (be-small 4 l 4 b)

-- the payload behind it: beyond the end, and whole
out-beyond : (Q : ℕ → Routes) (d : Decision) (i n : ℕ) (ms : List Marked) → length ms < n
    → compared (emit (decided d i n).out (read_out Q (decided d i n).to ms)) ≡ so_far d i n (bytes_of ms)
unfolding compared
out-beyond Q d i zero ms h = absurd (omega arith)
out-beyond Q (Accept r) i (suc n) ms h = ap compared (out-short Q (suc n) (payload r []) ms h)
out-beyond Q (Refuse k) i (suc n) ms h = ap compared (out-short Q (suc n) skip ms h)
out-beyond Q (Transfer r) i (suc n) ms h =
    ap (λ (hs : List Handed). began r i (suc n) ∷ hs) (move-short Q n r ms (omega arith) ∙ push-body r (bytes_of ms) [] refl)

out-fits : (Q : ℕ → Routes) (d : Decision) (i n : ℕ) (ms : List Marked) → n ≤ length ms
    → compared (emit (decided d i n).out (read_out Q (decided d i n).to ms)) ≡ keep d i n (bytes_of (take n ms)) (compared (read_out Q ready (drop n ms)))
unfolding compared piece_done
out-fits Q (Accept r) i zero ms h = refl
out-fits Q (Refuse k) i zero ms h = refl
out-fits Q (Transfer r) i zero ms h = refl
out-fits Q (Accept r) i (suc n) ms h =
    ap compared (out-whole Q n (payload r []) ms (omega arith) _
    (ap (piece_done (Q (get_or (words_of ms) n 0))) (add_all_payload r [] (bytes_of (take (suc n) ms)))))
out-fits Q (Refuse k) i (suc n) ms h =
    ap compared (out-whole Q n skip ms (omega arith) _ (ap (piece_done (Q (get_or (words_of ms) n 0))) (add_all_skip (bytes_of (take (suc n) ms)))))
out-fits Q (Transfer r) i (suc n) ms h =
    ap (λ (hs : List Handed). began r i (suc n) ∷ hs)
    (move-whole Q n r ms (omega arith) ∙ push-body r (bytes_of (take (suc n) ms)) (finished r ∷ compared (read_out Q ready (drop (suc n) ms))) refl)

-- the eighth header byte of a stream that has it
out-head : (Q : ℕ → Routes) (ms : List Marked) → Bytes (bytes_of ms) → 8 ≤ length ms → (i n : ℕ) → i ≡ be 4 (bytes_of ms) 0 → n ≡ be 4 (bytes_of ms) 4
    → read_out Q ready ms ≡ emit (decided (Q (get_or (words_of ms) 7 0) i n) i n).out
    (read_out Q (decided (Q (get_or (words_of ms) 7 0) i n) i n).to (drop 8 ms))
out-head Q ms b h i n ei en =
    let R : Routes = Q (get_or (words_of ms) 7 0) in
    let l : List ℕ = bytes_of ms in
    out-whole Q 7 (header 0) ms (omega arith) (decided (R i n) i n)
    (ap (λ (x : List ℕ). piece_done R (add_all (header 0) x)) (map-take (λ (m : Marked). m.byte) 8 ms)
    ∙ header_done R l b (omega (arith, length-map ms (λ (m : Marked). m.byte)))
    ∙ sym (ap₂ (λ (x y : ℕ). decided (R x y) x y) ei en))

-- FROM A HEADER'S FIRST BYTE
from_ready : (Q : ℕ → Routes) (f : ℕ) (ms : List Marked) → length ms ≤ f → Bytes (bytes_of ms)
    → compared (read_out Q ready ms) ≡ accepted_of Q (words_of ms) (splits f (bytes_of ms))
unfolding splits accepted compared
from_ready Q zero ms h b =
    ap compared (out-short Q 8 (header 0) ms (omega arith))
    ∙ ap (unended Q (words_of ms) (bytes_of ms)) (head-end (bytes_of ms) (omega (arith, length-map ms (λ (m : Marked). m.byte))))
from_ready Q (suc f) ms h b = go (λ n. from_ready Q f (drop (8 + n) ms)) (head_of (bytes_of ms)) (view (bytes_of ms)) refl
  where
    l : List ℕ
    l = bytes_of ms

    long : length l ≡ length ms
    long = length-map ms (λ (m : Marked). m.byte)

    go : ((n : ℕ) → length (drop (8 + n) ms) ≤ f → Bytes (bytes_of (drop (8 + n) ms))
        → compared (read_out Q ready (drop (8 + n) ms)) ≡ accepted_of Q (words_of (drop (8 + n) ms)) (splits f (bytes_of (drop (8 + n) ms))))
        → (e : Head) → View l e → e ≡ head_of l → compared (read_out Q ready ms) ≡ accepted_of Q (words_of ms) (split_by (splits f) l e)
    go more ended (none_left e) is = ap compared (out-short Q 8 (header 0) ms (omega (arith, long))) ∙ ap (unended Q (words_of ms) l) is
    go more short (at-short p lt) is = ap compared (out-short Q 8 (header 0) ms (omega (arith, long))) ∙ ap (unended Q (words_of ms) l) is
    go more (beyond i n) (at-beyond p lt) is =
        ap compared (out-head Q ms b (omega (arith, long)) i n refl refl)
        ∙ out-beyond Q (Q (get_or (words_of ms) 7 0) i n) i n (drop 8 ms) (omega (arith, long, length-drop 8 ms))
        ∙ ap (so_far (Q (get_or (words_of ms) 7 0) i n) i n) (map-drop (λ (m : Marked). m.byte) 8 ms)
        ∙ ap (unended Q (words_of ms) l) is
    go more (whole i n) (at-whole p) is =
        let d : Decision = Q (get_or (words_of ms) 7 0) i n in
        let body : bytes_of (take n (drop 8 ms)) ≡ take n (drop 8 l) =
        map-take (λ (m : Marked). m.byte) n (drop 8 ms) ∙ ap (take n) (map-drop (λ (m : Marked). m.byte) 8 ms) in
        let size : length (take n (drop 8 l)) ≡ n = length-take-le n (drop 8 l) (omega (arith, length-drop 8 l)) in
        let later : compared (read_out Q ready (drop n (drop 8 ms))) ≡ accepted_of Q (drop (8 + n) (words_of ms)) (splits f (drop (8 + n) l)) =
        ap (λ (x : List Marked). compared (read_out Q ready x)) (drop-drop n 8 ms)
        ∙ more n (omega (arith, length-drop (8 + n) ms)) (rw (map-drop (λ (m : Marked). m.byte) (8 + n) ms) (bytes_drop (8 + n) l b))
        ∙ ap₂ (λ (x y : List ℕ). accepted_of Q x (splits f y))
        (map-drop (λ (m : Marked). m.switches) (8 + n) ms) (map-drop (λ (m : Marked). m.byte) (8 + n) ms) in
        ap compared (out-head Q ms b (omega (arith, long)) i n refl refl)
        ∙ out-fits Q d i n (drop 8 ms) (omega (arith, long, length-drop 8 ms))
        ∙ ap₂ (keep d i n) body later
        ∙ sym (ap (λ (k : ℕ). keep (Q (get_or (words_of ms) 7 0) i k) i k (take n (drop 8 l))
        (accepted_of Q (drop (8 + k) (words_of ms)) (splits f (drop (8 + n) l)))) size)

pub ready-list : (Q : ℕ → Routes) (ms : List Marked) → Bytes (bytes_of ms) → compared (read_out Q ready ms) ≡ listed Q ms
unfolding listed split
ready-list Q ms b = from_ready Q (length (bytes_of ms)) ms (omega (arith, length-map ms (λ (m : Marked). m.byte))) b

-- a stream read from outside a transfer hands out no byte of one before its start
free_next : (c : Cell) (o : Out) (os : List Out) → Outside c o → (moves c ≡ false → free (compared os) ≡ true) → free (compared (emit o os)) ≡ true
unfolding compared
free_next c nothing os h more = more h
free_next c (pdu r p) os h more = refl
free_next c (dropped k i n) os h more = more h
free_next c (start r i n m) os h more = refl
free_next c (piece r p m) os h more = absurd h

pub free_read : (Q : ℕ → Routes) (c : Cell) (ms : List Marked) → moves c ≡ false → free (compared (read_out Q c ms)) ≡ true
unfolding read_out compared
free_read Q c [] e = refl
free_read Q (transfer n r) (m ∷ ms) e = absurd (true≢false e)
free_read Q (cell n k) (m ∷ ms) e =
    let f : Fed = feed (Q m.switches) (cell n k) m.byte in
    free_next f.to f.out (read_out Q f.to ms) (outside (Q m.switches) n k m.byte) (λ s. free_read Q f.to ms s)
