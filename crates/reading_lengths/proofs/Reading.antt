-- THE LIST THAT A STREAM HANDS OUT, read a byte at a time, is exactly its PDUs that are complete, routed, switched on at their
-- eighth header byte and short enough, in order: `reading`, and over segment events `segments-list`.
use Prim.Native.Nat.{ℕ, zero, suc, ◌+◌, ◌-◌, ◌*◌, ◌/◌, ◌%◌, ◌^◌, ◌<◌}
use mathlib.Core.Path.{◌≡◌, refl, sym, ap, ap₂, ◌∙◌}
use mathlib.Core.Bool.{Bool, true, false, cond}
use mathlib.Core.List.{List, [], ◌∷◌, ◌++◌, map, map-append}
use native.Mathlib.Omega.{arith}
use borrow.Author.Tests.{leb-true, leb-false}
use lib.Dec.{leb}
use lib.ListN.{length, take, drop, get_or, length-map, drop_of_length-le}
use lib.Seq.{take_all}
use Rattle.wire.specs.Lay.{spell}
use Rattle.wire.proofs.Spell.{length-spell}
use Rattle.reading.specs.declared.Decision.{Decision}
use Rattle.reading.specs.declared.Decision.TheVariants.{Accept, Refuse, Transfer}
use Rattle.reading.specs.Feed.{Routes, header, payload, skip, Cell, cell, transfer, Out, ready}
use Rattle.reading.specs.Feed.{decided, piece_done, feed, Ran, Handed, complete, finished, compared, middle_of}
use Rattle.reading.proofs.Laws.{add_all, add_all_payload, add_all_skip, add_all_header, grow}
use Rattle.reading.proofs.Compared.{compared-fine, push-body}
use Rattle.reading.proofs.Trip.{spelt-spell}
use Rattle.reading_lengths.specs.Listed.{Marked, mark, bytes_of, read_to, read_out, listed, listed_from, words_of}
use Rattle.reading_lengths.specs.Listed.{Shaped, Bytes, GivenSegment, segments_given, stream, AllBytes, words_of}
use Rattle.reading_lengths.proofs.Bytes.{map-drop, bytes_drop, bytes-append, bytes-spell, bytes-mark}
use Rattle.reading_lengths.proofs.Marks.{out-short, to-short, out-whole, move-short, move-whole, out-append, given-reads, stream-bytes}
use Rattle.reading_lengths.proofs.Ready.{ready-list}

-- header bytes that are held are the first of the stream
held_first : (Q : ℕ → Routes) (n v : ℕ) (ms : List Marked) → Shaped (cell n (header v))
    → read_out Q (cell n (header v)) ms ≡ read_out Q ready (map (mark 0) (spell (8 - n) v) ++ ms)
held_first Q n v ms (p, le, s) =
    let hs : List Marked = map (mark 0) (spell (8 - n) v) in
    let long : length hs ≡ 8 - n = length-map (spell (8 - n) v) (mark 0) ∙ length-spell (8 - n) v in
    let left : 8 - length hs ≡ n = omega (arith, long) in
    let to : read_to Q ready hs ≡ cell n (header v) =
    to-short Q 8 (header 0) hs (omega (arith, long))
    ∙ ap₂ cell left
    (ap (add_all (header 0)) (bytes-mark 0 (spell (8 - n) v)) ∙ add_all_header 0 (spell (8 - n) v) ∙ ap header (spelt-spell (8 - n) 0 v s ∙ omega arith)) in
    sym (out-append Q ready hs ms ∙ ap₂ (λ (os : List Out) (c : Cell). os ++ read_out Q c ms) (out-short Q 8 (header 0) hs (omega (arith, long))) to)

-- THE THEOREM: for any routes as the switches have them, any part that a record holds and any bytes
pub reading : (Q : ℕ → Routes) (c : Cell) (ms : List Marked) → Shaped c → Bytes (bytes_of ms) → compared (read_out Q c ms) ≡ listed_from Q c ms
unfolding listed_from piece_done compared
reading Q (cell n (header v)) ms h b =
    let hs : List Marked = map (mark 0) (spell (8 - n) v) in
    ap compared (held_first Q n v ms h)
    ∙ ready-list Q (hs ++ ms)
    (rw (map-append (λ (m : Marked). m.byte) hs ms, bytes-mark 0 (spell (8 - n) v)) (bytes-append (spell (8 - n) v) (bytes_of ms) (bytes-spell (8 - n) v) b))
reading Q (cell zero (payload r h)) ms p b = absurd (omega arith)
reading Q (cell (suc n) (payload r h)) ms p b = go (leb (suc n) (length ms)) refl
  where
    go : (t : Bool) → leb (suc n) (length ms) ≡ t
        → compared (read_out Q (cell (suc n) (payload r h)) ms) ≡ cond t (complete r (h ++ bytes_of (take (suc n) ms)) ∷ listed Q (drop (suc n) ms)) []
    go true e =
        ap compared (out-whole Q n (payload r h) ms (leb-true (suc n) (length ms) e) _
        (ap (piece_done (Q (get_or (words_of ms) n 0))) (add_all_payload r h (bytes_of (take (suc n) ms)))))
        ∙ ap (λ (ps : List Handed). complete r (h ++ bytes_of (take (suc n) ms)) ∷ ps)
        (ready-list Q (drop (suc n) ms) (rw (map-drop (λ (m : Marked). m.byte) (suc n) ms) (bytes_drop (suc n) (bytes_of ms) b)))
    go false e = ap compared (out-short Q (suc n) (payload r h) ms (leb-false (suc n) (length ms) e))
reading Q (cell zero skip) ms p b = absurd (omega arith)
reading Q (cell (suc n) skip) ms p b =
    go (leb (suc n) (length ms)) refl
    ∙ ready-list Q (drop (suc n) ms) (rw (map-drop (λ (m : Marked). m.byte) (suc n) ms) (bytes_drop (suc n) (bytes_of ms) b))
  where
    go : (t : Bool) → leb (suc n) (length ms) ≡ t → compared (read_out Q (cell (suc n) skip) ms) ≡ compared (read_out Q ready (drop (suc n) ms))
    go true e = ap compared
        (out-whole Q n skip ms (leb-true (suc n) (length ms) e) _ (ap (piece_done (Q (get_or (words_of ms) n 0))) (add_all_skip (bytes_of (take (suc n) ms)))))
    go false e =
        ap compared (out-short Q (suc n) skip ms (leb-false (suc n) (length ms) e))
        ∙ sym (ap (λ (x : List Marked). compared (read_out Q ready x)) (drop_of_length-le ms {i = suc n} (omega (arith, leb-false (suc n) (length ms) e)))
        ∙ ap compared (out-short Q 8 (header 0) [] (omega arith)))
reading Q (transfer zero r) ms p b = absurd (omega arith)
reading Q (transfer (suc n) r) ms p b = go (leb (suc n) (length ms)) refl
  where
    go : (t : Bool) → leb (suc n) (length ms) ≡ t
        → compared (read_out Q (transfer (suc n) r) ms) ≡ middle_of r (bytes_of (take (suc n) ms)) (cond t (finished r ∷ listed Q (drop (suc n) ms)) [])
    go true e =
        move-whole Q n r ms (leb-true (suc n) (length ms) e)
        ∙ push-body r (bytes_of (take (suc n) ms)) (finished r ∷ compared (read_out Q ready (drop (suc n) ms))) refl
        ∙ ap (λ (hs : List Handed). middle_of r (bytes_of (take (suc n) ms)) (finished r ∷ hs))
        (ready-list Q (drop (suc n) ms) (rw (map-drop (λ (m : Marked). m.byte) (suc n) ms) (bytes_drop (suc n) (bytes_of ms) b)))
    go false e =
        move-short Q n r ms (omega (arith, leb-false (suc n) (length ms) e))
        ∙ push-body r (bytes_of ms) [] refl
        ∙ ap (λ (l : List Marked). middle_of r (bytes_of l) []) (sym (take_all (suc n) ms (omega (arith, leb-false (suc n) (length ms) e))))

-- THE LIST OF SEGMENT EVENTS
pub segments-list : (Q : ℕ → Routes) (c : Cell) (gs : List GivenSegment) → Shaped c
    → AllBytes gs → compared (segments_given Q c gs).list ≡ listed_from Q c (stream gs)
segments-list Q c gs h b =
    sym (compared-fine (segments_given Q c gs).list) ∙ ap (λ (q : Ran). compared q.list) (given-reads Q c gs) ∙ reading Q c (stream gs) h (stream-bytes gs b)

-- what a record holds stays so
shaped-ready : Shaped ready
shaped-ready = (omega arith, omega arith, omega arith)

shaped-begin : (d : Decision) (i n : ℕ) → Shaped (decided d i n).to
shaped-begin (Accept r) i zero = shaped-ready
shaped-begin (Accept r) i (suc n) = omega arith
shaped-begin (Refuse k) i zero = shaped-ready
shaped-begin (Refuse k) i (suc n) = omega arith
shaped-begin (Transfer r) i zero = shaped-ready
shaped-begin (Transfer r) i (suc n) = omega arith

pub feed-shaped : (R : Routes) (c : Cell) (b : ℕ) → Shaped c → b < 256 → Shaped (feed R c b).to
unfolding feed piece_done
feed-shaped R (cell zero k) b h lt = shaped-ready
feed-shaped R (cell (suc zero) (header v)) b h lt =
    shaped-begin (R ((v * 256 + b) / 2 ^ 32) ((v * 256 + b) % 2 ^ 32)) ((v * 256 + b) / 2 ^ 32) ((v * 256 + b) % 2 ^ 32)
feed-shaped R (cell (suc zero) (payload r p)) b h lt = shaped-ready
feed-shaped R (cell (suc zero) skip) b h lt = shaped-ready
feed-shaped R (cell (suc (suc n)) (header v)) b (p, le, s) lt =
    let k : 8 - suc n ≡ (8 - suc (suc n)) + 1 = omega arith in
    (omega arith, omega arith, rw k (grow (8 - suc (suc n)) v b s lt))
feed-shaped R (cell (suc (suc n)) (payload r p)) b h lt = omega arith
feed-shaped R (cell (suc (suc n)) skip) b h lt = omega arith
feed-shaped R (transfer zero r) b h lt = shaped-ready
feed-shaped R (transfer (suc zero) r) b h lt = shaped-ready
feed-shaped R (transfer (suc (suc n)) r) b h lt = omega arith

pub shaped-stays : (Q : ℕ → Routes) (c : Cell) (ms : List Marked) → Shaped c → Bytes (bytes_of ms) → Shaped (read_to Q c ms)
unfolding read_to
shaped-stays Q c [] h b = h
shaped-stays Q c (m ∷ ms) h b =
    shaped-stays Q (feed (Q m.switches) c m.byte).to ms (feed-shaped (Q m.switches) c m.byte h (b 0)) (λ i. b (suc i))
