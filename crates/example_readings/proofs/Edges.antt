-- The edges of reading hold, by computation.
use Prim.Native.Nat.{ℕ, ◌<◌}
use mathlib.Core.Path.{◌≡◌, refl, ap, ap₂, ◌∙◌}
use mathlib.Core.List.{List, [], ◌∷◌, ◌++◌, flatten}
use native.Mathlib.Omega.{arith}
use lib.ListN.{length, drop, drop_of_length-le}
use lib.Seq.{take_all}
use Rattle.wire.specs.Be.{be}
use Rattle.reading.specs.Feed.{Routes, transfer, ready, piece_done, feed, after, outs, take_b, Ran, takes, segment_ran, segments, Handed, began, finished}
use Rattle.reading.specs.Feed.{compared, middle_of}
use Rattle.reading.proofs.Pieces.{move_all}
use Rattle.switches.specs.Switches.{is_on}
use Rattle.reading_lengths.specs.Head.{head_of}
use Rattle.reading_lengths.specs.Split.{splits, split}
use Rattle.reading_walk.specs.Walk.{walk_at, list_of}
use Rattle.example_readings.specs.Edges.{rows, reading_table, all_firmware, TransferEdges, LongestTransfer, ReadingEdges}

pub reading_edges : ReadingEdges
unfolding be piece_done feed take_b takes segment_ran segments head_of splits split is_on walk_at list_of rows
reading_edges =
    record {
      no_route = refl;
      longest_2 = refl;
      skip-longest = refl;
      take_pdu = refl;
      take_drop = refl;
      take_more = refl;
      seven = refl;
      eight = refl;
      nine = refl;
      ten = refl;
      eleven = refl;
      end = refl;
      beyond_unknown = refl;
      beyond_off = refl;
      beyond_too_long = refl;
      unknown_walked = refl;
      off_walked = refl;
      too_long_walked = refl;
    }

pub transfer-edges : TransferEdges
unfolding be piece_done feed take_b takes segment_ran segments compared is_on rows
transfer-edges =
    record {
      take_start = refl;
      take_piece = refl;
      take_last = refl;
      take_none = refl;
      uncut = refl;
      cut_3 = refl;
      cut_8 = refl;
      cut_9 = refl;
      cut_10 = refl;
      same_9 = refl;
      same_10 = refl;
      so_far = refl;
      none_yet = refl;
      length_0 = refl;
      twice = refl;
      one_byte = refl;
      longest_one = refl;
      off = refl;
    }

-- a transfer whose bytes are just those of the segments
moved_whole : (R : Routes) (n r : ℕ) (ss : List (List ℕ)) → 0 < n → length (flatten ss) ≡ n
    → ((segments R (transfer n r) ss).to ≡ ready) × (compared (segments R (transfer n r) ss).list ≡ middle_of r (flatten ss) (finished r ∷ []))
unfolding after outs compared
moved_whole R n r ss pos e =
    let m = move_all R n r ss pos (omega (arith, e)) in
    let over : drop n (flatten ss) ≡ [] = drop_of_length-le (flatten ss) {i = n} (omega (arith, e)) in (
      m.0 ∙ ap (after R ready) over,
      m.1 ∙ ap₂ (λ (x y : List ℕ). middle_of r x (finished r ∷ compared (outs R ready y))) (take_all n (flatten ss) (omega (arith, e))) over,
    )

-- its header, and then its bytes
begun-whole : (R : Routes) (n : ℕ) (head : List ℕ) (ss : List (List ℕ)) (q : Ran) → segment_ran R ready head ≡ q → q.to ≡ transfer n 2
    → compared (q.list ++ (segments R (transfer n 2) ss).list) ≡ began 2 0x104 n ∷ compared (segments R (transfer n 2) ss).list
    → 0 < n → length (flatten ss) ≡ n
    → ((segments R ready (head ∷ ss)).to ≡ ready)
    × (compared (segments R ready (head ∷ ss)).list ≡ began 2 0x104 n ∷ middle_of 2 (flatten ss) (finished 2 ∷ []))
unfolding segments
begun-whole R n head ss q e to list pos l =
    let m = moved_whole R n 2 ss pos l in (
      ap (λ (x : Ran). (segments R x.to ss).to) e ∙ ap (λ c. (segments R c ss).to) to ∙ m.0,
      ap (λ (x : Ran). compared (x.list ++ (segments R x.to ss).list)) e
          ∙ ap (λ c. compared (q.list ++ (segments R c ss).list)) to
          ∙ list
          ∙ ap (λ (hs : List Handed). began 2 0x104 n ∷ hs) m.1,
    )

pub longest-transfer : (ss : List (List ℕ)) → length (flatten ss) ≡ 4294967295 → LongestTransfer ss
unfolding compared
longest-transfer ss l =
    let w = begun-whole (reading_table 1) 4294967295 all_firmware ss _ transfer-edges.longest_one refl refl (omega arith) l in
    record { ends_ready = w.0; all_handed = w.1 }
