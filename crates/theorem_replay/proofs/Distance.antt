-- THE DISTANCE BETWEEN TWO STAMPS (R17.5), over any width: numbers below `most`, counted modulo `most`; and of a recording's own stamps.
use Rattle.std.proofs.Common.{Result, Err}
use Prim.Native.Nat.{ℕ, zero, suc, ◌+◌, ◌-◌, ◌%◌, ◌<◌, ◌≤◌}
use mathlib.Core.Path.{◌≡◌, refl, sym, ap, ◌∙◌}
use mathlib.Core.Bool.{Bool, true, false, cond}
use mathlib.Core.List.{List, [], ◌∷◌}
use native.Mathlib.Nat.{mod-lt, mod-eq_of_lt, mod-add-mod, add-mod-mod, add-mod_right}
use native.Mathlib.Omega.{arith}
use borrow.Author.Tests.{lt-ltb}
use lib.Dec.{ltb, leb}
use lib.ListN.{length, take, drop}
use Rattle.reading_lengths.specs.Listed.{Bytes}
use Rattle.reading_lengths.proofs.Bytes.{be-small, bytes_drop}
use Rattle.table_layout.specs.Layout.{part_of}
use Rattle.recording.specs.declared.Fault.{Fault}
use Rattle.recording.specs.declared.Fault.TheVariants.{FarStamp}
use Rattle.recording.specs.Recording.{contents_to, entry_row, stamp_in, distance_in, stamps}
use Rattle.recording.specs.Entry.{fault_of}
use Rattle.recording.proofs.Wraps.{distance_only}
use Rattle.theorem_replay.specs.Entries.{stamp_before, ticks_before}

module _ (most before stamp : ℕ) (low : before < most) (high : stamp < most) where
  -- the distance is below the width ..
  pub distance_below : distance_in most before stamp < most
  unfolding distance_in
  distance_below = mod-lt (stamp + (most - before)) (omega arith)

  -- .. and so often 1 is added to the stamp before, modulo the width, until it is the stamp
  pub distance_wraps : (distance_in most before stamp + before) % most ≡ stamp
  unfolding distance_in
  distance_wraps =
      let round : stamp + (most - before) + before ≡ stamp + most = omega arith in
      mod-add-mod (stamp + (most - before)) most before ∙ ap (λ (k : ℕ). k % most) round ∙ add-mod_right stamp most ∙ mod-eq_of_lt high

  -- of a later stamp it is the difference; of an earlier one the stamps have wrapped
  pub distance_forward : before ≤ stamp → distance_in most before stamp ≡ stamp - before
  distance_forward h =
      let there : stamp - before + before ≡ stamp = omega arith in
      sym (distance_only most before stamp (stamp - before) low (omega arith) (ap (λ (k : ℕ). k % most) there ∙ mod-eq_of_lt high))

  pub distance_wrapped : stamp < before → distance_in most before stamp ≡ stamp + (most - before)
  unfolding distance_in
  distance_wrapped h = mod-eq_of_lt (omega arith)

  -- a stamp one back is the width less 1 away
  pub distance_back : (stamp + 1) % most ≡ before → distance_in most before stamp ≡ most - 1
  distance_back e =
      let round : most - 1 + (stamp + 1) ≡ stamp + most = omega arith in
      sym (distance_only most before stamp (most - 1) low (omega arith)
      (ap (λ (k : ℕ). (most - 1 + k) % most) (sym e)
      ∙ add-mod-mod (most - 1) (stamp + 1) most
      ∙ ap (λ (k : ℕ). k % most) round
      ∙ add-mod_right stamp most
      ∙ mod-eq_of_lt high))

-- n after a stamp, n below the width, the distance is n
pub distance_after : (most stamp n : ℕ) → stamp < most → n < most → distance_in most stamp ((n + stamp) % most) ≡ n
distance_after most stamp n low h = sym (distance_only most stamp ((n + stamp) % most) n low h refl)

far_first : (b : Bool) (f : Result Unit Fault) → b ≡ true → cond b (Err FarStamp) f ≡ Err FarStamp
far_first b f e = rw e

-- SO A STAMP THAT GOES BACK IS REFUSED, unless it goes back so far that it is fewer than 65,536 ticks ahead
pub back_refused : (before : ℕ) (row body : List ℕ) → before < stamps → stamp_in row < before → before ≤ stamp_in row + (stamps - 65536)
    → fault_of (distance_in stamps before (stamp_in row)) row body ≡ Err FarStamp
unfolding fault_of
back_refused before row body low back near =
    far_first (ltb 65535 (distance_in stamps before (stamp_in row))) _ (lt-ltb 65535 (distance_in stamps before (stamp_in row)) far)
  where
    far : 65535 < distance_in stamps before (stamp_in row)
    far = omega (arith, low, back, near, distance_wrapped stamps before (stamp_in row) low (omega (arith, low, back)) back)

-- THE STAMPS OF A RECORDING, whose bytes are bytes, have four bytes
bytes_take : (n : ℕ) (l : List ℕ) → Bytes l → Bytes (take n l)
bytes_take zero l b i = omega arith
bytes_take (suc n) [] b i = omega arith
bytes_take (suc n) (x ∷ l) b zero = b 0
bytes_take (suc n) (x ∷ l) b (suc i) = bytes_take n l (λ j. b (suc j)) i

bytes-part : (s : List ℕ) (at n : ℕ) → Bytes s → Bytes (part_of s at n)
unfolding part_of
bytes-part s at n b = go (leb (at + n) (length s))
  where
    go : (t : Bool) → Bytes (cond t (take n (drop at s)) [])
    go true = bytes_take n (drop at s) (bytes_drop at s b)
    go false = λ i. omega arith

module _ (r : List ℕ) (bytes : Bytes r) where
  stamp_below : (i : ℕ) → stamp_in (entry_row r i) < stamps
  stamp_below i = be-small 4 (entry_row r i) 0 (bytes-part r (contents_to i) 12 bytes)

  before_below : (i : ℕ) → stamp_before r i < stamps
  unfolding stamp_before
  before_below zero = stamp_below 0
  before_below (suc i) = stamp_below i

  -- the ticks before an entry lead, across the wrap, from the stamp before to its own; "the first stamp counts as distance 0"
  pub entry_ticks : (i : ℕ) → (ticks_before r i + stamp_before r i) % stamps ≡ stamp_in (entry_row r i)
  entry_ticks i = distance_wraps stamps (stamp_before r i) (stamp_in (entry_row r i)) (before_below i) (stamp_below i)

  pub first-ticks : ticks_before r 0 ≡ 0
  unfolding stamp_before
  first-ticks =
      distance_forward stamps (stamp_in (entry_row r 0)) (stamp_in (entry_row r 0)) (stamp_below 0) (stamp_below 0) (omega arith) ∙ omega arith
