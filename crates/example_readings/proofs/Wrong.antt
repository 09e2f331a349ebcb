-- NO WRONG READING MEETS THE DEFINITION: for each, the input at which it fails.
use Prim.Native.Nat.{ℕ, ◌-◌, ◌≤◌}
use mathlib.Core.Path.{◌≡◌, refl, sym, ap, ◌∙◌}
use mathlib.Core.Bool.{true, false, true≢false}
use mathlib.Core.List.{List, [], ◌∷◌, ◌++◌, map}
use native.Mathlib.Omega.{arith}
use lib.ListN.{length, take, drop, length-drop}
use Rattle.reading.specs.Feed.{Routes, Cell, cell, transfer, header, Out, nothing, pdu, dropped, start, piece, piece_done, feed, ready, Took, take_b}
use Rattle.reading.specs.Feed.{bytes_read}
use Rattle.reading.specs.Feed.{Ran, takes, segment_ran, compared}
use Rattle.switches.specs.Switches.{is_on}
use Rattle.reading_lengths.specs.Listed.{mark, read_out}
use Rattle.example_readings.specs.Edges.{rows, reading_table, frame_bar, frame_empty, frame_unknown, all_firmware}
use Rattle.example_readings.specs.Wrong.{TakeReading, SegmentReading, StreamReading, IsTake, IsSegment, IsStream, AlwaysMore, FirstRoute, FreshHeader}
use Rattle.example_readings.specs.Wrong.{ReadsAll, EmptyPiece, MarkEarly, WaitingPiece, LongestApplied, FirstOnly, Closing, TestedLate}

-- 1 where a PDU or a piece came out
abbrev came : Out → ℕ
came nothing = 0
came (pdu r p) = 1
came (dropped k i n) = 0
came (start r i n m) = 0
came (piece r p m) = 1

-- at the ten bytes of PDU 0x101, switched on
pub no_always_more : (t : TakeReading) → IsTake t → AlwaysMore t → ⊥
unfolding take_b feed piece_done is_on rows
no_always_more t is wrong =
    let e : came (take_b (reading_table 1) ready frame_bar).out ≡ came nothing =
    ap came (ap (λ (x : Took). x.out) (sym (is (reading_table 1) ready frame_bar)) ∙ wrong (reading_table 1) ready frame_bar) in
    let z : ◌≡◌ {A = ℕ} 1 0 = e in absurd (omega arith)

-- `00 00 01 02 00 00 00 02 46 50`
abbrev frame_two : List ℕ
frame_two = 0 ∷ 0 ∷ 1 ∷ 2 ∷ 0 ∷ 0 ∷ 0 ∷ 2 ∷ 0x46 ∷ 0x50 ∷ []

-- at PDU 0x102, whose route is the second row
pub no_first_route : (t : TakeReading) → IsTake t → FirstRoute t → ⊥
unfolding take_b feed piece_done is_on rows
no_first_route t is wrong =
    let z : ◌≡◌ {A = ℕ} 1 0 =
    wrong (reading_table 1) ready frame_two 1 (0x46 ∷ 0x50 ∷ [])
    (ap (λ (x : Took). x.out) (is (reading_table 1) ready frame_two)) in
    absurd (omega arith)

-- at the ten bytes cut after byte 3: the seven that follow are no header
pub no_fresh_header : (t : TakeReading) → IsTake t → FreshHeader t → ⊥
unfolding take_b feed piece_done is_on rows
no_fresh_header t is wrong =
    let c : Cell = cell 5 (header 1) in
    let e : take_b (reading_table 1) c (drop 3 frame_bar) ≡ take_b (reading_table 1) ready (drop 3 frame_bar) =
    sym (is (reading_table 1) c (drop 3 frame_bar)) ∙ wrong (reading_table 1) c (drop 3 frame_bar) ∙ is (reading_table 1) ready (drop 3 frame_bar) in
    let z : ◌≡◌ {A = ℕ} 1 0 = ap (λ (x : Took). came x.out) e in
    absurd (omega arith)

-- at a PDU with more behind it: ten bytes of eighteen are read
pub no_reading_all : (t : TakeReading) → IsTake t → ReadsAll t → ⊥
unfolding take_b feed piece_done is_on rows
no_reading_all t is wrong =
    let z : ◌≡◌ {A = ℕ} 10 18 = ap (bytes_read (frame_bar ++ frame_empty)) (sym (is (reading_table 1) ready (frame_bar ++ frame_empty)))
    ∙ wrong (reading_table 1) ready (frame_bar ++ frame_empty) in
    absurd (omega arith)

-- and at every input: a take that leaves what stands behind n bytes is not the take, unless n is the take's count
pub no_other_count : (R : Routes) (c : Cell) (bs : List ℕ) (t : Took) (n : ℕ)
    → n ≤ length bs → t.rest ≡ drop n bs → t ≡ take_b R c bs → n ≡ bytes_read bs (take_b R c bs)
no_other_count R c bs t n le e is =
    let long : length (take_b R c bs).rest ≡ length bs - n = ap (λ (x : Took). length x.rest) (sym is) ∙ ap length e ∙ length-drop n bs in
    omega (arith, long)

-- at an empty segment, with a transfer running: more is wanted
pub no_empty_piece : (t : TakeReading) → IsTake t → EmptyPiece t → ⊥
unfolding take_b
no_empty_piece t is wrong =
    let z : ◌≡◌ {A = ℕ} 0 1 = ap (λ (x : Took). came x.out) (sym (is (reading_table 1) (transfer 1 2) [])) ∙ ap came (wrong (reading_table 1) 0 2) in
    absurd (omega arith)

-- at the first of two bytes
pub no_mark_early : (t : TakeReading) → IsTake t → MarkEarly t → ⊥
unfolding take_b
no_mark_early t is wrong =
    let e : false ≡ true = wrong (reading_table 1) 2 (7 ∷ []) (7 ∷ []) false (ap (λ (x : Took). x.out) (is (reading_table 1) (transfer 2 2) (7 ∷ []))) in
    true≢false (sym e)

-- at the first of two bytes: it comes at once
pub no_waiting_piece : (t : TakeReading) → IsTake t → WaitingPiece t → ⊥
unfolding take_b
no_waiting_piece t is wrong =
    let z : ◌≡◌ {A = ℕ} 1 0 =
    ap (λ (x : Took). came x.out) (sym (is (reading_table 1) (transfer 2 2) (7 ∷ []))) ∙ ap came (wrong (reading_table 1) 2 2 (7 ∷ []) (omega arith)) in
    absurd (omega arith)

-- at the header of the longest transfer
pub no_longest_applied : (t : TakeReading) → IsTake t → LongestApplied t → ⊥
unfolding take_b feed piece_done is_on rows
no_longest_applied t is wrong =
    let le : 4294967295 ≤ 1464 =
    wrong (reading_table 1) all_firmware 2 0x104 4294967295 false (ap (λ (x : Took). x.out) (is (reading_table 1) ready all_firmware)) in
    absurd (omega (arith, le))

-- at two PDUs in one segment
pub no_first_only : (s : SegmentReading) → IsSegment s → FirstOnly s → ⊥
unfolding segment_ran takes take_b feed piece_done is_on rows compared
no_first_only s is wrong =
    let e : length (compared (s (reading_table 1) ready (frame_bar ++ frame_bar)).list) ≡ 2 =
    ap (λ (x : Ran). length (compared x.list)) (is (reading_table 1) ready (frame_bar ++ frame_bar)) in
    absurd (omega (arith, e, wrong (reading_table 1) ready (frame_bar ++ frame_bar)))

-- at an unknown id with a PDU behind it
pub no_closing : (s : SegmentReading) → IsSegment s → Closing s → ⊥
unfolding segment_ran takes take_b feed piece_done is_on rows
no_closing s is wrong =
    let e : pdu 0 (0 ∷ 180 ∷ []) ∷ [] ≡ [] =
    wrong (reading_table 1) ready (frame_unknown ++ frame_bar) 0x103 2 (pdu 0 (0 ∷ 180 ∷ []) ∷ [])
    (ap (λ (x : Ran). x.list) (is (reading_table 1) ready (frame_unknown ++ frame_bar))) in
    let z : ◌≡◌ {A = ℕ} 1 0 = ap length e in
    absurd (omega arith)

-- at a PDU that is switched off between its header and its payload: it is handed out
pub no_tested_late : (f : StreamReading) → IsStream f → TestedLate f → ⊥
unfolding read_out feed piece_done is_on rows compared
no_tested_late f is wrong =
    let h : List ℕ = take 8 frame_bar in
    let p : List ℕ = drop 8 frame_bar in
    let z : ◌≡◌ {A = ℕ} 1 0 =
    ap length (sym (is reading_table (map (mark 1) h ++ map (mark 0) p))
    ∙ wrong reading_table 1 0 h p refl (omega arith) ∙ is reading_table (map (mark 0) (h ++ p))) in
    absurd (omega arith)
