-- The payload that a reader hands out.
use Prim.Native.Nat.{ℕ, ◌+◌, ◌≤◌}
use mathlib.Core.Path.{◌≡◌, refl, ap, ◌∙◌}
use mathlib.Core.Bool.{Bool, cond}
use mathlib.Core.List.{List, [], ◌∷◌}
use lib.Dec.{leb}
use lib.ListN.{length, take, drop}
use borrow.Author.Tests.{le-leb}
use Rattle.reading.specs.declared.Decision.{Decision}
use Rattle.reading.specs.declared.Decision.TheVariants.{Accept, Refuse, Transfer}
use Rattle.reading.specs.Feed.{Routes, Out, pdu}
use Rattle.table_layout.specs.Layout.{part_of}
use Rattle.reading_lengths.specs.Head.{Head, ended, short, beyond, whole, head_of}
use Rattle.reading_walk.specs.Walk.{whole_at, walk_step, walk_at, outs_told}
use Rattle.wire.proofs.Part.{part_to_end}
use Rattle.reading_walk.proofs.Steps.{whole-place}
use Rattle.receive_datagram.specs.Datagram.{walk_outcome}
use Rattle.entry_reader.specs.Reader.{payload_in, tell_of}

-- THE PAYLOAD HANDED OUT is all of the payload that the walk found there
pub told_is : (R : Routes) (d : List ℕ) (p : ℕ) (later : List Out) → p ≤ length d
    → tell_of d (walk_outcome (walk_at R d p).found) later ≡ outs_told d (walk_at R d p).found later
unfolding walk_at payload_in part_of
told_is R d p later le = go (head_of (drop p d)) refl
  where
    handed_out : (r n : ℕ) → p + 8 + n ≤ length d
        → pdu r (cond (leb (p + 8 + n) (length d)) (take n (drop (p + 8) d)) []) ∷ later ≡ pdu r (take n (drop (p + 8) d)) ∷ later
    handed_out r n w = ap (λ (b : Bool). pdu r (cond b (take n (drop (p + 8) d)) []) ∷ later) (le-leb (p + 8 + n) (length d) w)

    by : (q : Decision) (i n : ℕ) → p + 8 + n ≤ length d → tell_of d (walk_outcome (whole_at q p i n).found) later ≡ outs_told d (whole_at q p i n).found later
    by (Accept r) i n w = handed_out r n w
    by (Refuse k) i n w = refl
    by (Transfer r) i n w = handed_out r n w

    go : (h : Head) → head_of (drop p d) ≡ h
        → tell_of d (walk_outcome (walk_step R (length d) p h).found) later ≡ outs_told d (walk_step R (length d) p h).found later
    go ended e = refl
    go short e = refl
    go (beyond i n) e = refl
    go (whole i n) e = by (R i n) i n (whole-place d p i n le (ap head_of (part_to_end d p) ∙ e))
