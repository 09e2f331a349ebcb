-- EDGES OF READING beside the starred ones (example_entries), and those of transfers: each as an equation over the definitions, with a table of a few
-- rows for the routes.
use Rattle.std.specs.Prelude.{ℕ, suc, ◌≡◌, Bool, true, false, cond, eqb, leb, take, drop}
use mathlib.Core.List.{List, [], ◌∷◌, ◌++◌, flatten}
use Rattle.reading.specs.declared.DropReason.TheVariants.{NoRoute, SwitchedOff, TooLong, CutShort}
use Rattle.reading.specs.declared.Decision.TheVariants.{Accept, Refuse, Transfer}
use Rattle.reading.specs.Feed.{Routes, payload, skip, cell, transfer, pdu, dropped, nothing, start, piece, ready, took, take_b, Ran, ran, segment_ran, segments}
use Rattle.reading.specs.Feed.{began, middle, finished, compared, middle_of}
use Rattle.switches.specs.Switches.{is_on}
use Rattle.reading_walk.specs.Walk.{the_end, a_pdu, a_drop, walked, walk_at, list_of}

-- a receive route of one connection
pub record ReadingRow : Type 0 where
  pub id : ℕ
  pub longest : ℕ
  pub groups : ℕ
  pub tp : Bool

abbrev pub reading_row : ℕ → ℕ → ℕ → ReadingRow
reading_row i l g = record { id = i; longest = l; groups = g; tp = false }

-- R19.1, a marked route: its longest payload is not applied, so 22 is never given for it
abbrev pub tp_row : ℕ → ℕ → ReadingRow
tp_row i g = record { id = i; longest = 0; groups = g; tp = true }

-- R5.5, R19.1: 20 no route, 21 switched off, 22 longer than allowed on an unmarked route: rows numbered from k, switch word w
unfoldable pub rows : ℕ → List ReadingRow → ℕ → Routes
rows k [] w i n = Refuse NoRoute
rows k (r ∷ rs) w i n =
    cond (eqb r.id i)
    (cond (is_on r.groups w) (cond r.tp (Transfer k) (cond (leb n r.longest) (Accept k) (Refuse TooLong))) (Refuse SwitchedOff))
    (rows (suc k) rs w i n)

-- three routes: 0x101 to 2 bytes under switch 0, 0x102 to 3 bytes that no switch turns off, and 0x104, marked, under switch 0
abbrev pub reading_table : ℕ → Routes
reading_table = rows 0 (reading_row 0x101 2 1 ∷ reading_row 0x102 3 0 ∷ tp_row 0x104 1 ∷ [])

-- `00 00 01 01 00 00 00 02 00 B4`
abbrev pub frame_bar : List ℕ
frame_bar = 0 ∷ 0 ∷ 1 ∷ 1 ∷ 0 ∷ 0 ∷ 0 ∷ 2 ∷ 0 ∷ 180 ∷ []

abbrev pub frame_three : List ℕ
frame_three = 0 ∷ 0 ∷ 1 ∷ 1 ∷ 0 ∷ 0 ∷ 0 ∷ 3 ∷ 7 ∷ 8 ∷ 9 ∷ []

abbrev pub frame_empty : List ℕ
frame_empty = 0 ∷ 0 ∷ 1 ∷ 1 ∷ 0 ∷ 0 ∷ 0 ∷ 0 ∷ []

abbrev pub frame_unknown : List ℕ
frame_unknown = 0 ∷ 0 ∷ 1 ∷ 3 ∷ 0 ∷ 0 ∷ 0 ∷ 2 ∷ 0 ∷ 180 ∷ []

abbrev pub header_longest : List ℕ
header_longest = 0 ∷ 0 ∷ 1 ∷ 3 ∷ 255 ∷ 255 ∷ 255 ∷ 255 ∷ []

-- a transfer of three bytes, one of one, one of none, and the head of the longest
abbrev pub firmware : List ℕ
firmware = 0 ∷ 0 ∷ 1 ∷ 4 ∷ 0 ∷ 0 ∷ 0 ∷ 3 ∷ 7 ∷ 8 ∷ 9 ∷ []

abbrev pub one_firmware : List ℕ
one_firmware = 0 ∷ 0 ∷ 1 ∷ 4 ∷ 0 ∷ 0 ∷ 0 ∷ 1 ∷ 7 ∷ []

abbrev pub no_firmware : List ℕ
no_firmware = 0 ∷ 0 ∷ 1 ∷ 4 ∷ 0 ∷ 0 ∷ 0 ∷ 0 ∷ []

abbrev pub all_firmware : List ℕ
all_firmware = 0 ∷ 0 ∷ 1 ∷ 4 ∷ 255 ∷ 255 ∷ 255 ∷ 255 ∷ []

abbrev pub cut_at : ℕ → Ran
cut_at n = segments (reading_table 1) ready (take n firmware ∷ drop n firmware ∷ [])

-- THE EDGES OF TRANSFERS (section 19 of the rules)
pub record TransferEdges : Type 0 where
  -- R19.2, R19.3, R19.4: a take ends after the start and after each piece, and the last piece carries the end mark
  pub take_start : take_b (reading_table 1) ready (firmware ++ frame_bar) ≡ took (transfer 3 2) (start 2 0x104 3 false) (7 ∷ 8 ∷ 9 ∷ frame_bar)
  pub take_piece : take_b (reading_table 1) (transfer 3 2) (7 ∷ 8 ∷ []) ≡ took (transfer 1 2) (piece 2 (7 ∷ 8 ∷ []) false) []
  pub take_last : take_b (reading_table 1) (transfer 1 2) (9 ∷ frame_bar) ≡ took ready (piece 2 (9 ∷ []) true) frame_bar
  pub take_none : take_b (reading_table 1) (transfer 1 2) [] ≡ took (transfer 1 2) nothing []
  pub uncut : segment_ran (reading_table 1) ready (firmware ++ frame_bar)
      ≡ ran ready (start 2 0x104 3 false ∷ piece 2 (7 ∷ 8 ∷ 9 ∷ []) true ∷ pdu 0 (0 ∷ 180 ∷ []) ∷ [])
  -- cut inside the header, between the start and its first byte, in the middle, and before the last byte
  pub cut_3 : cut_at 3 ≡ ran ready (start 2 0x104 3 false ∷ piece 2 (7 ∷ 8 ∷ 9 ∷ []) true ∷ [])
  pub cut_8 : cut_at 8 ≡ ran ready (start 2 0x104 3 false ∷ piece 2 (7 ∷ 8 ∷ 9 ∷ []) true ∷ [])
  pub cut_9 : cut_at 9 ≡ ran ready (start 2 0x104 3 false ∷ piece 2 (7 ∷ []) false ∷ piece 2 (8 ∷ 9 ∷ []) true ∷ [])
  pub cut_10 : cut_at 10 ≡ ran ready (start 2 0x104 3 false ∷ piece 2 (7 ∷ 8 ∷ []) false ∷ piece 2 (9 ∷ []) true ∷ [])
  -- R19.9: of a transfer the start, the joined bytes and the end mark are compared, not the pieces
  pub same_9 : compared (cut_at 9).list ≡ began 2 0x104 3 ∷ middle 2 (7 ∷ 8 ∷ 9 ∷ []) ∷ finished 2 ∷ []
  pub same_10 : compared (cut_at 10).list ≡ began 2 0x104 3 ∷ middle 2 (7 ∷ 8 ∷ 9 ∷ []) ∷ finished 2 ∷ []
  -- R19.9: a transfer without its end counts with its bytes so far
  pub so_far : compared (segment_ran (reading_table 1) ready (take 10 firmware)).list ≡ began 2 0x104 3 ∷ middle 2 (7 ∷ 8 ∷ []) ∷ []
  pub none_yet : compared (segment_ran (reading_table 1) ready (take 8 firmware)).list ≡ began 2 0x104 3 ∷ []
  -- R19.5: at length 0 the start carries the mark; two transfers one after the other stay two
  pub length_0 : segment_ran (reading_table 1) ready no_firmware ≡ ran ready (start 2 0x104 0 true ∷ [])
  pub twice : compared (segment_ran (reading_table 1) ready (no_firmware ++ firmware)).list
      ≡ began 2 0x104 0 ∷ finished 2 ∷ began 2 0x104 3 ∷ middle 2 (7 ∷ 8 ∷ 9 ∷ []) ∷ finished 2 ∷ []
  -- R19.2: a transfer of one byte, and the start of the longest; R5.5: switched off at the header it is dropped
  pub one_byte : segment_ran (reading_table 1) ready one_firmware ≡ ran ready (start 2 0x104 1 false ∷ piece 2 (7 ∷ []) true ∷ [])
  pub longest_one : segment_ran (reading_table 1) ready all_firmware ≡ ran (transfer 4294967295 2) (start 2 0x104 4294967295 false ∷ [])
  pub off : segment_ran (reading_table 2) ready firmware ≡ ran ready (dropped SwitchedOff 0x104 3 ∷ [])

-- R19.2 to R19.4, THE LONGEST TRANSFER, its header in one segment and its bytes in any segments after it: they are handed out, each once and
-- in order, then its end, and the connection is at a header's first byte
pub record LongestTransfer (ss : List (List ℕ)) : Type 0 where
  pub ends_ready : (segments (reading_table 1) ready (all_firmware ∷ ss)).to ≡ ready
  pub all_handed : compared (segments (reading_table 1) ready (all_firmware ∷ ss)).list ≡ began 2 0x104 4294967295 ∷ middle_of 2 (flatten ss) (finished 2 ∷ [])

-- what the starred edges (example_entries) leave out
pub record ReadingEdges : Type 0 where
  -- no route: dropped and skipped, and the next PDU is read
  pub no_route : segment_ran (reading_table 1) ready (frame_unknown ++ frame_bar) ≡ ran ready (dropped NoRoute 0x103 2 ∷ pdu 0 (0 ∷ 180 ∷ []) ∷ [])
  -- too long: dropped and skipped, likewise
  pub longest_2 : segment_ran (reading_table 1) ready (frame_three ++ frame_bar) ≡ ran ready (dropped TooLong 0x101 3 ∷ pdu 0 (0 ∷ 180 ∷ []) ∷ [])
  -- R12.8: a length of 4,294,967,295 is to be skipped
  pub skip-longest : segment_ran (reading_table 1) ready header_longest ≡ ran (cell 4294967295 skip) (dropped NoRoute 0x103 4294967295 ∷ [])
  -- a take ends at the first PDU, and at a dropped header
  pub take_pdu : take_b (reading_table 1) ready (frame_bar ++ frame_empty) ≡ took ready (pdu 0 (0 ∷ 180 ∷ [])) frame_empty
  pub take_drop : take_b (reading_table 1) ready frame_unknown ≡ took (cell 2 skip) (dropped NoRoute 0x103 2) (0 ∷ 180 ∷ [])
  pub take_more : take_b (reading_table 1) ready (take 9 frame_bar) ≡ took (cell 1 (payload 0 (0 ∷ []))) nothing []
  -- R12.7: a datagram of 7 bytes is 23; and its neighbours
  pub seven : walk_at (reading_table 1) (take 7 frame_bar) 0 ≡ walked (a_drop CutShort 0 0) 7
  pub eight : walk_at (reading_table 1) frame_empty 0 ≡ walked (a_pdu 0 8 0 0x101) 8
  pub nine : walk_at (reading_table 1) (take 9 frame_bar) 0 ≡ walked (a_drop CutShort 0x101 2) 9
  pub ten : walk_at (reading_table 1) frame_bar 0 ≡ walked (a_pdu 0 8 2 0x101) 10
  pub eleven : list_of (reading_table 1) (frame_bar ++ 0 ∷ []) ≡ pdu 0 (0 ∷ 180 ∷ []) ∷ dropped CutShort 0 0 ∷ []
  pub end : walk_at (reading_table 1) frame_bar 10 ≡ walked the_end 10
  -- 23 is tested before 20, 21, 22: each in a datagram that is too short, and then in a whole one
  pub beyond_unknown : walk_at (reading_table 1) header_longest 0 ≡ walked (a_drop CutShort 0x103 4294967295) 8
  pub beyond_off : walk_at (reading_table 2) (take 9 frame_bar) 0 ≡ walked (a_drop CutShort 0x101 2) 9
  pub beyond_too_long : walk_at (reading_table 1) (take 10 frame_three) 0 ≡ walked (a_drop CutShort 0x101 3) 10
  pub unknown_walked : walk_at (reading_table 1) (frame_unknown ++ frame_bar) 0 ≡ walked (a_drop NoRoute 0x103 2) 10
  pub off_walked : walk_at (reading_table 2) frame_bar 0 ≡ walked (a_drop SwitchedOff 0x101 2) 10
  pub too_long_walked : walk_at (reading_table 1) frame_three 0 ≡ walked (a_drop TooLong 0x101 3) 11
