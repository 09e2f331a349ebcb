-- A RUNNING TRANSFER, over a take: a start begins it, its end mark ends it, and nothing else does; and a piece stands at its
-- segment's front, with one byte at least.
use Prim.Native.Nat.{ℕ, zero, suc, ◌+◌, ◌-◌, ◌/◌, ◌%◌, ◌^◌, ◌<◌}
use mathlib.Core.Path.{◌≡◌, refl, sym, ap, ◌∙◌}
use mathlib.Core.Bool.{Bool, true, false, not, true≢false}
use mathlib.Core.List.{List, [], ◌∷◌, ◌++◌}
use native.Mathlib.Omega.{arith}
use lib.Dec.{ltb}
use lib.ListN.{length, length-append}
use Rattle.reading.specs.declared.Decision.{Decision}
use Rattle.reading.specs.declared.Decision.TheVariants.{Accept, Refuse, Transfer as Move}
use Rattle.reading.specs.Feed.{Routes, PieceKind, header, payload, skip, Cell, cell, transfer, Out, nothing, pdu, dropped}
use Rattle.reading.specs.Feed.{start, piece, Fed, fed, Took, goes, piece_by, take_b, with_byte, decided, piece_done, feed}
use Rattle.reading.proofs.Cut.{moves, Outside, outside, take_ends}
use Rattle.receive_part.specs.declared.Part.{Part}
use Rattle.receive_part.specs.declared.Part.TheVariants.{Header, Payload, Skip, Transfer}
use Rattle.receive_part.specs.Part.{transferring}
use Rattle.receive_route.specs.Route.{lookup_of}
use Rattle.receive_stream.specs.declared.Outcome.TheVariants.{Piece}
use Rattle.receive_stream.specs.Stream.{cell_of, part_from, is_in_segment, id_of, take_outcome, took_of, taken_of, Fit, runs_after, PieceStands}
use Rattle.receive_stream.proofs.Takes.{transfer_fit}
use Rattle.receive_stream.proofs.Leaves.{piece-front}

-- whether a transfer runs after an outcome of the stream
abbrev runs : Bool → Out → Bool
runs ran nothing = ran
runs ran (pdu r p) = ran
runs ran (dropped k i n) = ran
runs ran (start r i n m) = not m
runs ran (piece r p m) = not m

-- a byte outside a transfer
decided_runs : (d : Decision) (i n : ℕ) → moves (decided d i n).to ≡ runs false (decided d i n).out
decided_runs (Accept r) i zero = refl
decided_runs (Accept r) i (suc n) = refl
decided_runs (Refuse k) i zero = refl
decided_runs (Refuse k) i (suc n) = refl
decided_runs (Move r) i zero = refl
decided_runs (Move r) i (suc n) = refl

done_runs : (R : Routes) (k : PieceKind) → moves (piece_done R k).to ≡ runs false (piece_done R k).out
unfolding piece_done
done_runs R (header v) = decided_runs (R (v / 2 ^ 32) (v % 2 ^ 32)) (v / 2 ^ 32) (v % 2 ^ 32)
done_runs R (payload r h) = refl
done_runs R skip = refl

feed_runs : (R : Routes) (n : ℕ) (k : PieceKind) (b : ℕ) → moves (feed R (cell n k) b).to ≡ runs false (feed R (cell n k) b).out
unfolding feed
feed_runs R zero k b = refl
feed_runs R (suc zero) k b = done_runs R (with_byte k b)
feed_runs R (suc (suc n)) k b = refl

-- a take outside a transfer, and one of a transfer with a byte to come
outside_runs : (R : Routes) (c : Cell) (bs : List ℕ) → moves c ≡ false → moves (take_b R c bs).to ≡ runs false (take_b R c bs).out
unfolding take_b
outside_runs R c [] e = e
outside_runs R (transfer n r) (b ∷ bs) e = absurd (true≢false e)
outside_runs R (cell n k) (b ∷ bs) e =
    let f : Fed = feed R (cell n k) b in
    go f.to f.out (take_b R f.to bs) (outside R n k b) (feed_runs R n k b) (outside_runs R f.to bs)
  where
    go : (d : Cell) (o : Out) (t : Took) → Outside d o → moves d ≡ runs false o → (moves d ≡ false → moves t.to ≡ runs false t.out)
        → moves (goes (fed d o) bs t).to ≡ runs false (goes (fed d o) bs t).out
    go d nothing t x h later = later h
    go d (pdu r p) t x h later = h
    go d (dropped k i n) t x h later = h
    go d (start r i n m) t x h later = h
    go d (piece r p m) t x h later = absurd x

piece_runs : (n r : ℕ) (bs : List ℕ) (t : Bool) → moves (piece_by t n r bs).to ≡ runs true (piece_by t n r bs).out
piece_runs n r bs true = refl
piece_runs n r bs false = refl

inside_runs : (R : Routes) (n r : ℕ) (bs : List ℕ) → 0 < n → moves (take_b R (transfer n r) bs).to ≡ runs true (take_b R (transfer n r) bs).out
unfolding take_b
inside_runs R n r [] h = refl
inside_runs R zero r (b ∷ bs) h = absurd (omega arith)
inside_runs R (suc n) r (b ∷ bs) h = piece_runs (suc n) r (b ∷ bs) (ltb (length (b ∷ bs)) (suc n))

-- the same of parts and answers
part-moves : (c : Cell) → transferring (part_from c) ≡ moves c
part-moves (cell n (header v)) = refl
part-moves (cell n (payload r h)) = refl
part-moves (cell n skip) = refl
part-moves (transfer n r) = refl

outcome_runs : (ids : ℕ → ℕ) (s : Bool) (read : ℕ) (ran : Bool) (o : Out) → runs_after ran (take_outcome ids s read o) ≡ runs ran o
outcome_runs ids s read ran nothing = refl
outcome_runs ids s read ran (pdu r p) = refl
outcome_runs ids s read ran (dropped k i n) = refl
outcome_runs ids s read ran (start r i n m) = refl
outcome_runs ids s read ran (piece r p m) = refl

take_runs : (R : Routes) (routes : List ℕ) (part : Part) (rx segment : List ℕ) → Fit routes part rx
    → moves (take_b R (cell_of part rx) segment).to ≡ runs (transferring part) (take_b R (cell_of part rx) segment).out
take_runs R routes (Header held value) rx segment fit = outside_runs R (cell_of (Header held value) rx) segment refl
take_runs R routes (Payload route n held) rx segment fit = outside_runs R (cell_of (Payload route n held) rx) segment refl
take_runs R routes (Skip n) rx segment fit = outside_runs R (cell_of (Skip n) rx) segment refl
take_runs R routes (Transfer route left) rx segment fit = inside_runs R left route segment (transfer_fit routes (Transfer route left) rx fit route left refl)

-- A TRANSFER RUNS AFTER A TAKE as its outcome says
module _ (routes : List ℕ) (connection switches : ℕ) (part : Part) (rx segment : List ℕ) where
  abbrev t : Took
  t = take_b (lookup_of routes connection switches) (cell_of part rx) segment

  abbrev read : ℕ
  read = length segment - length t.rest

  pub leaves-running : Fit routes part rx
      → transferring (taken_of routes connection switches part rx segment).part
      ≡ runs_after (transferring part) (taken_of routes connection switches part rx segment).outcome
  unfolding taken_of took_of
  leaves-running fit =
      part-moves t.to
      ∙ take_runs (lookup_of routes connection switches) routes part rx segment fit
      ∙ sym (outcome_runs (id_of routes) (is_in_segment (cell_of part rx)) read (transferring part) t.out)

  -- A PIECE STANDS AT THE FRONT OF ITS SEGMENT: it is what was read, one byte at least
  pub leaves-piece : (r i at n : ℕ) (m : Bool) → (taken_of routes connection switches part rx segment).outcome ≡ Piece r i at n m
      → PieceStands segment (taken_of routes connection switches part rx segment).read at n
  unfolding taken_of took_of
  leaves-piece r i at n m e = go t.out refl e
    where
      R : Routes
      R = lookup_of routes connection switches

      go : (o : Out) → t.out ≡ o → take_outcome (id_of routes) (is_in_segment (cell_of part rx)) read o ≡ Piece r i at n m → PieceStands segment read at n
      go nothing f q = let z : ◌≡◌ {A = ℕ} 0 1 = cc in absurd (omega arith)
      go (pdu s p) f q = let z : ◌≡◌ {A = ℕ} 0 1 = cc in absurd (omega arith)
      go (dropped k j l) f q = let z : ◌≡◌ {A = ℕ} 0 1 = cc in absurd (omega arith)
      go (start s j l b) f q = let z : ◌≡◌ {A = ℕ} 0 1 = cc in absurd (omega arith)
      go (piece s p b) f q =
          let h : (0 < length p) × (segment ≡ p ++ t.rest) = piece-front R (cell_of part rx) segment t (take_ends R (cell_of part rx) segment) s p b f in
          let l : length segment ≡ length p + length t.rest = ap length h.1 ∙ length-append p t.rest in
          let en : length p ≡ n = cc in
          let ea : read - length p ≡ at = cc in
          record { some = omega (arith, h.0); front = omega arith; all = omega arith; within = omega arith }
