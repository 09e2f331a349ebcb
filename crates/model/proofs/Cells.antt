-- A cell of the stream and the record's part with its received bytes say the same, after any bytes.
use Prim.Native.Nat.{ℕ, zero, suc, ◌/◌, ◌%◌, ◌^◌, ◌≤◌}
use mathlib.Core.Path.{◌≡◌, refl, sym, ap, ap₂, subst}
use mathlib.Core.Bool.{Bool, true, false, cond}
use mathlib.Core.List.{List, [], ◌∷◌}
use native.Mathlib.Omega.{arith}
use lib.Dec.{ltb}
use lib.ListN.{length}
use lib.Seq.{take-length}
use Rattle.receive_part.specs.declared.Part.{Part}
use Rattle.receive_part.specs.declared.Part.TheVariants.{Header, Payload, Skip, Transfer}
use Rattle.reading.specs.declared.Decision.{Decision}
use Rattle.reading.specs.declared.Decision.TheVariants.{Accept, Refuse, Transfer as Move}
use Rattle.reading.specs.Feed.{Routes, PieceKind, header, payload, skip, Cell, cell, transfer, Fed, decided}
use Rattle.reading.specs.Feed.{with_byte, piece_done, feed, after, ready, stops, took, piece_by, take_b, segment_ran}
use Rattle.reading.proofs.Cut.{segment-to}
use Rattle.receive_stream.specs.Stream.{cell_of, part_from, held_in}

-- a header wants eight bytes at most
abbrev pub Snug : Cell → Type 0
Snug (cell n (header v)) = n ≤ 8
Snug (cell n (payload r h)) = Unit
Snug (cell n skip) = Unit
Snug (transfer n r) = Unit

-- what a record holds is so ..
pub snug_in : (p : Part) (received : List ℕ) → Snug (cell_of p received)
snug_in (Header held value) received = omega arith
snug_in (Payload route length held) received = tt
snug_in (Skip bytes) received = tt
snug_in (Transfer route left) received = tt

-- .. and stays so
snug_decided : (d : Decision) (i n : ℕ) → Snug (decided d i n).to
snug_decided (Accept r) i zero = omega arith
snug_decided (Accept r) i (suc n) = tt
snug_decided (Refuse k) i zero = omega arith
snug_decided (Refuse k) i (suc n) = tt
snug_decided (Move r) i zero = omega arith
snug_decided (Move r) i (suc n) = tt

snug_done : (R : Routes) (k : PieceKind) → Snug (piece_done R k).to
unfolding piece_done
snug_done R (header v) = snug_decided (R (v / 2 ^ 32) (v % 2 ^ 32)) (v / 2 ^ 32) (v % 2 ^ 32)
snug_done R (payload r h) = omega arith
snug_done R skip = omega arith

snug_feed : (R : Routes) (c : Cell) (b : ℕ) → Snug c → Snug (feed R c b).to
unfolding feed
snug_feed R (cell zero k) b s = omega arith
snug_feed R (cell (suc zero) k) b s = snug_done R (with_byte k b)
snug_feed R (cell (suc (suc n)) (header v)) b s = omega arith
snug_feed R (cell (suc (suc n)) (payload r h)) b s = tt
snug_feed R (cell (suc (suc n)) skip) b s = tt
snug_feed R (transfer zero r) b s = omega arith
snug_feed R (transfer (suc zero) r) b s = omega arith
snug_feed R (transfer (suc (suc n)) r) b s = tt

pub snug_after : (R : Routes) (c : Cell) (bs : List ℕ) → Snug c → Snug (after R c bs)
unfolding after
snug_after R c [] s = s
snug_after R c (b ∷ bs) s = snug_after R (feed R c b).to bs (snug_feed R c b s)

pub snug_segment : (R : Routes) (c : Cell) (bs : List ℕ) → Snug c → Snug (segment_ran R c bs).to
snug_segment R c bs s = subst Snug (sym (segment-to R c bs)) (snug_after R c bs s)

snug_piece : (n r : ℕ) (bs : List ℕ) (t : Bool) → Snug (piece_by t n r bs).to
snug_piece n r bs true = tt
snug_piece n r bs false = omega arith

pub snug_take : (R : Routes) (c : Cell) (bs : List ℕ) → Snug c → Snug (take_b R c bs).to
unfolding take_b
snug_take R c [] s = s
snug_take R (transfer zero r) (b ∷ bs) s = snug_take R ready bs (omega arith)
snug_take R (transfer (suc n) r) (b ∷ bs) s = snug_piece (suc n) r (b ∷ bs) (ltb (length (b ∷ bs)) (suc n))
snug_take R (cell n k) (b ∷ bs) s =
    go (stops (feed R (cell n k) b).out) (snug_feed R (cell n k) b s) (snug_take R (feed R (cell n k) b).to bs (snug_feed R (cell n k) b s))
  where
    f : Fed
    f = feed R (cell n k) b

    go : (x : Bool) → Snug f.to → Snug (take_b R f.to bs).to → Snug (cond x (took f.to f.out bs) (take_b R f.to bs)).to
    go true p q = p
    go false p q = q

-- the part and the bytes of a cell are that cell
pub cell_back : (c : Cell) → Snug c → cell_of (part_from c) (held_in c) ≡ c
cell_back (cell n (header v)) s = ap (λ (m : ℕ). cell m (header v)) (omega arith)
cell_back (cell n (payload r h)) s = ap₂ (λ (m : ℕ) (q : List ℕ). cell m (payload r q)) (omega arith) (take-length h)
cell_back (cell n skip) s = refl
cell_back (transfer n r) s = refl
