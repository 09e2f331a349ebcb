-- The stream read a byte at a time, each byte under its own switches: a stretch in closed form, the stream in two pieces, and
-- segments as the stream that they make.
use Prim.Native.Nat.{ℕ, zero, suc, ◌-◌, ◌≤◌, ◌<◌}
use mathlib.Core.Path.{◌≡◌, refl, sym, ap, ap₂, ◌∙◌}
use mathlib.Core.List.{List, [], ◌∷◌, ◌++◌, map, map-append}
use native.Mathlib.Omega.{arith}
use lib.ListN.{length, take, drop, get_or}
use Rattle.reading.specs.Feed.{Routes, PieceKind, Cell, cell, transfer, Fed, ready, with_byte, piece_done, feed, after}
use Rattle.reading.specs.Feed.{emit, outs, Ran, ran, segment_ran, fine, finely, finished, push, push_all, compared}
use Rattle.reading.proofs.Laws.{add_all}
use Rattle.reading.proofs.Cut.{emit-append, segment_feeds, fine-append}
use Rattle.reading_lengths.specs.Listed.{Marked, mark, bytes_of, words_of, read_to, read_out, Bytes, GivenSegment, segments_given, stream, AllBytes}
use Rattle.reading_lengths.proofs.Bytes.{bytes-append, bytes-mark}

-- a stretch: fewer bytes than it wants, and all that it wants
pub out-short : (Q : ℕ → Routes) (n : ℕ) (k : PieceKind) (ms : List Marked) → length ms < n → read_out Q (cell n k) ms ≡ []
unfolding read_out feed
out-short Q zero k ms h = absurd (omega arith)
out-short Q (suc n) k [] h = refl
out-short Q (suc zero) k (m ∷ ms) h = absurd (omega arith)
out-short Q (suc (suc n)) k (m ∷ ms) h = out-short Q (suc n) (with_byte k m.byte) ms (omega arith)

pub to-short : (Q : ℕ → Routes) (n : ℕ) (k : PieceKind) (ms : List Marked)
    → length ms < n → read_to Q (cell n k) ms ≡ cell (n - length ms) (add_all k (bytes_of ms))
unfolding read_to feed
to-short Q zero k ms h = absurd (omega arith)
to-short Q (suc n) k [] h = ap (λ (m : ℕ). cell m k) (omega arith)
to-short Q (suc zero) k (m ∷ ms) h = absurd (omega arith)
to-short Q (suc (suc n)) k (m ∷ ms) h =
    to-short Q (suc n) (with_byte k m.byte) ms (omega arith) ∙ ap (λ (j : ℕ). cell j (add_all (with_byte k m.byte) (bytes_of ms))) (omega arith)

pub out-whole : (Q : ℕ → Routes) (j : ℕ) (k : PieceKind) (ms : List Marked) → j < length ms → (f : Fed)
    → piece_done (Q (get_or (words_of ms) j 0)) (add_all k (bytes_of (take (suc j) ms))) ≡ f
    → read_out Q (cell (suc j) k) ms ≡ emit f.out (read_out Q f.to (drop (suc j) ms))
unfolding read_out feed
out-whole Q j k [] h f e = absurd (omega arith)
out-whole Q zero k (m ∷ ms) h f e = ap (λ (g : Fed). emit g.out (read_out Q g.to ms)) e
out-whole Q (suc j) k (m ∷ ms) h f e = out-whole Q j (with_byte k m.byte) ms (omega arith) f e

-- a transfer, of which suc n bytes are to come: fewer of them, and all
pub move-short : (Q : ℕ → Routes) (n r : ℕ) (ms : List Marked) → length ms ≤ n → compared (read_out Q (transfer (suc n) r) ms) ≡ push_all r (bytes_of ms) []
unfolding read_out feed compared
move-short Q n r [] h = refl
move-short Q zero r (m ∷ ms) h = absurd (omega arith)
move-short Q (suc n) r (m ∷ ms) h = ap (push r m.byte) (move-short Q n r ms (omega arith))

pub move-whole : (Q : ℕ → Routes) (n r : ℕ) (ms : List Marked) → n < length ms
    → compared (read_out Q (transfer (suc n) r) ms) ≡ push_all r (bytes_of (take (suc n) ms)) (finished r ∷ compared (read_out Q ready (drop (suc n) ms)))
unfolding read_out feed compared
move-whole Q n r [] h = absurd (omega arith)
move-whole Q zero r (m ∷ ms) h = refl
move-whole Q (suc n) r (m ∷ ms) h = ap (push r m.byte) (move-whole Q n r ms (omega arith))

-- in two pieces
pub out-append : (Q : ℕ → Routes) (c : Cell) (a b : List Marked) → read_out Q c (a ++ b) ≡ read_out Q c a ++ read_out Q (read_to Q c a) b
unfolding read_out read_to
out-append Q c [] b = refl
out-append Q c (m ∷ a) b =
    ap (emit (feed (Q m.switches) c m.byte).out) (out-append Q (feed (Q m.switches) c m.byte).to a b)
    ∙ sym (emit-append (feed (Q m.switches) c m.byte).out _ _)

pub to-append : (Q : ℕ → Routes) (c : Cell) (a b : List Marked) → read_to Q c (a ++ b) ≡ read_to Q (read_to Q c a) b
unfolding read_to
to-append Q c [] b = refl
to-append Q c (m ∷ a) b = to-append Q (feed (Q m.switches) c m.byte).to a b

-- SEGMENTS, each under the switches of its moment, are the stream that they make
segment-to : (Q : ℕ → Routes) (w : ℕ) (c : Cell) (bs : List ℕ) → after (Q w) c bs ≡ read_to Q c (map (mark w) bs)
unfolding after read_to
segment-to Q w c [] = refl
segment-to Q w c (b ∷ bs) = segment-to Q w (feed (Q w) c b).to bs

segment-out : (Q : ℕ → Routes) (w : ℕ) (c : Cell) (bs : List ℕ) → outs (Q w) c bs ≡ read_out Q c (map (mark w) bs)
unfolding outs read_out
segment-out Q w c [] = refl
segment-out Q w c (b ∷ bs) = ap (emit (feed (Q w) c b).out) (segment-out Q w (feed (Q w) c b).to bs)

pub segment_reads : (Q : ℕ → Routes) (w : ℕ) (c : Cell) (bs : List ℕ)
    → finely (segment_ran (Q w) c bs) ≡ ran (read_to Q c (map (mark w) bs)) (read_out Q c (map (mark w) bs))
segment_reads Q w c bs = segment_feeds (Q w) c bs ∙ ap₂ ran (segment-to Q w c bs) (segment-out Q w c bs)

pub given-reads : (Q : ℕ → Routes) (c : Cell) (gs : List GivenSegment) → finely (segments_given Q c gs)
    ≡ ran (read_to Q c (stream gs)) (read_out Q c (stream gs))
unfolding segments_given stream read_to read_out fine
given-reads Q c [] = refl
given-reads Q c (g ∷ gs) =
    let ms : List Marked = map (mark g.switches) g.bytes in
    let s : Ran = segment_ran (Q g.switches) c g.bytes in
    ap (ran (segments_given Q s.to gs).to) (fine-append s.list (segments_given Q s.to gs).list)
    ∙ ap (λ (q : Ran). ran (segments_given Q q.to gs).to (q.list ++ fine (segments_given Q q.to gs).list)) (segment_reads Q g.switches c g.bytes)
    ∙ ap (λ (q : Ran). ran q.to (read_out Q c ms ++ q.list)) (given-reads Q (read_to Q c ms) gs)
    ∙ sym (ap₂ ran (to-append Q c ms (stream gs)) (out-append Q c ms (stream gs)))

pub stream-bytes : (gs : List GivenSegment) → AllBytes gs → Bytes (bytes_of (stream gs))
unfolding stream
stream-bytes [] b = λ i. omega arith
stream-bytes (g ∷ gs) b =
    rw (map-append (λ (m : Marked). m.byte) (map (mark g.switches) g.bytes) (stream gs), bytes-mark g.switches g.bytes)
    (bytes-append g.bytes (bytes_of (stream gs)) b.0 (stream-bytes gs b.1))
