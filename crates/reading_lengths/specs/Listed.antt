-- THE LIST OF A STREAM, by lengths: the PDUs that are complete, routed, switched on at their eighth header byte and short enough; and
-- the transfers that are routed and switched on there, each with its start, all its bytes in the stream, and its end if they are all there.
-- A stream is the bytes that a connection is given, each with the connection's switches at that moment.
use Rattle.std.specs.Prelude.{ℕ, ◌+◌, ◌-◌, ◌^◌, ◌≤◌, ◌<◌, cond, List, [], ◌∷◌, ◌++◌, map, leb, length, get_or, take, drop}
use Rattle.wire.specs.Be.{byte_at}
use Rattle.wire.specs.Lay.{spell}
use Rattle.reading.specs.declared.Decision.{Decision}
use Rattle.reading.specs.declared.Decision.TheVariants.{Accept, Refuse, Transfer}
use Rattle.reading.specs.Feed.{Routes, header, payload, skip, Cell, cell, transfer, Out, feed}
use Rattle.reading.specs.Feed.{emit, Ran, ran, segment_ran, Handed, complete, began, finished, middle_of}
use Rattle.frame.specs.Frame.{Sent}
use Rattle.reading_lengths.specs.Head.{Head, ended, short, beyond, whole, head_of}
use Rattle.reading_lengths.specs.Split.{Split, split}

pub record Marked : Type 0 where
  pub byte : ℕ
  pub switches : ℕ

abbrev pub mark : ℕ → ℕ → Marked
mark w b = record { byte = b; switches = w }

abbrev pub bytes_of : List Marked → List ℕ
bytes_of ms = map (λ (m : Marked). m.byte) ms

abbrev pub words_of : List Marked → List ℕ
words_of ms = map (λ (m : Marked). m.switches) ms

-- THE STREAM READ A BYTE AT A TIME, each byte under its own switches: Q gives the routes for a switch word
unfoldable pub read_to : (ℕ → Routes) → Cell → List Marked → Cell
read_to Q c [] = c
read_to Q c (m ∷ ms) = read_to Q (feed (Q m.switches) c m.byte).to ms

unfoldable pub read_out : (ℕ → Routes) → Cell → List Marked → List Out
read_out Q c [] = []
read_out Q c (m ∷ ms) = emit (feed (Q m.switches) c m.byte).out (read_out Q (feed (Q m.switches) c m.byte).to ms)

-- R5.16, BY LENGTHS: a PDU that the routes accept is routed, switched on and short enough; R19.9: or it is a whole transfer. Of id i and
-- length n
abbrev pub keep : Decision → ℕ → ℕ → List ℕ → List Handed → List Handed
keep (Accept r) i n p hs = complete r p ∷ hs
keep (Refuse k) i n p hs = hs
keep (Transfer r) i n p hs = began r i n ∷ middle_of r p (finished r ∷ hs)

-- R19.9: a transfer without its end counts with its bytes so far, p of the n that its header tells
abbrev pub so_far : Decision → ℕ → ℕ → List ℕ → List Handed
so_far (Accept r) i n p = []
so_far (Refuse k) i n p = []
so_far (Transfer r) i n p = began r i n ∷ middle_of r p []

-- the bytes l behind the last whole PDU, by what stands at their front
abbrev pub unended : (ℕ → Routes) → List ℕ → List ℕ → Head → List Handed
unended Q ws l ended = []
unended Q ws l short = []
unended Q ws l (beyond i n) = so_far (Q (get_or ws 7 0) i n) i n (drop 8 l)
unended Q ws l (whole i n) = []

-- the whole PDUs of a stream and the bytes behind them, and ws its switch words, one for each byte from the first PDU on: the word
-- at place 7 stands beside the eighth header byte
unfoldable pub accepted : (ℕ → Routes) → List ℕ → List Sent → List ℕ → List Handed
accepted Q ws [] l = unended Q ws l (head_of l)
accepted Q ws (s ∷ ss) l =
    keep (Q (get_or ws 7 0) s.id (length s.body)) s.id (length s.body) s.body (accepted Q (drop (8 + length s.body) ws) ss l)

abbrev pub accepted_of : (ℕ → Routes) → List ℕ → Split → List Handed
accepted_of Q ws s = accepted Q ws s.pdus s.rest

-- from a header's first byte
unfoldable pub listed : (ℕ → Routes) → List Marked → List Handed
listed Q ms = accepted_of Q (words_of ms) (split (bytes_of ms))

-- FROM WHATEVER PART THE RECORD HOLDS: header bytes held stand in front of the stream (their switches do not count, since the
-- eighth byte is to come); a payload is handed out if its n bytes come; bytes to skip are left out; a running transfer's bytes are
-- the next n, and it ends if they come
unfoldable pub listed_from : (ℕ → Routes) → Cell → List Marked → List Handed
listed_from Q (cell n (header v)) ms = listed Q (map (mark 0) (spell (8 - n) v) ++ ms)
listed_from Q (cell n (payload r h)) ms =
    cond (leb n (length ms)) (complete r (h ++ bytes_of (take n ms)) ∷ listed Q (drop n ms)) []
listed_from Q (cell n skip) ms = listed Q (drop n ms)
listed_from Q (transfer n r) ms = middle_of r (bytes_of (take n ms)) (cond (leb n (length ms)) (finished r ∷ listed Q (drop n ms)) [])

-- a part as a record can hold it: 1..8 header bytes still wanted, those held standing for a number that fits them; else one
-- byte wanted at least
abbrev pub Shaped : Cell → Type 0
Shaped (cell n (header v)) = (0 < n) × (n ≤ 8) × (v < 256 ^ (8 - n))
Shaped (cell n (payload r h)) = 0 < n
Shaped (cell n skip) = 0 < n
Shaped (transfer n r) = 0 < n

-- bytes that are bytes
abbrev pub Bytes : List ℕ → Type 0
Bytes l = (i : ℕ) → byte_at l i < 256

-- SEGMENTS, each under the switches of its moment
pub record GivenSegment : Type 0 where
  pub switches : ℕ
  pub bytes : List ℕ

unfoldable pub segments_given : (ℕ → Routes) → Cell → List GivenSegment → Ran
segments_given Q c [] = ran c []
segments_given Q c (g ∷ gs) =
    ran (segments_given Q (segment_ran (Q g.switches) c g.bytes).to gs).to
    ((segment_ran (Q g.switches) c g.bytes).list ++ (segments_given Q (segment_ran (Q g.switches) c g.bytes).to gs).list)

-- the stream that they make
unfoldable pub stream : List GivenSegment → List Marked
stream [] = []
stream (g ∷ gs) = map (mark g.switches) g.bytes ++ stream gs

-- each segment's bytes are bytes
abbrev pub AllBytes : List GivenSegment → Type 0
AllBytes [] = Unit {0}
AllBytes (g ∷ gs) = Bytes g.bytes × AllBytes gs
