-- A DROP FITS the widths in which an answer spells its reason, id and length: of a take, and of a walk over bytes. So does a transfer's
-- start with its route, id and length, and a piece with its route and length.
use Prim.Native.Nat.{ℕ, zero, suc, ◌+◌, ◌-◌, ◌*◌, ◌/◌, ◌%◌, ◌^◌, ◌≤◌, ◌<◌}
use mathlib.Core.Path.{◌≡◌, refl, sym, subst}
use mathlib.Core.Bool.{Bool, true, false}
use mathlib.Core.List.{List, [], ◌∷◌}
use native.Mathlib.Numerals.{add-one}
use native.Mathlib.Omega.{arith}
use borrow.Author.Tests.{ne_eqb}
use lib.Dec.{eqb, ltb}
use lib.ListN.{length, length-take}
use Rattle.wire.specs.Be.{byte_at, be}
use Rattle.reading.specs.Reasons.{reason_number}
use Rattle.reading.proofs.Reasons.{reason_small}
use Rattle.reading.specs.declared.Decision.{Decision}
use Rattle.reading.specs.declared.Decision.TheVariants.{Accept, Refuse, Transfer}
use Rattle.reading.specs.Feed.{Routes, header, payload, skip, Cell, cell, transfer, ready, Out, nothing, pdu, dropped, start, piece}
use Rattle.reading.specs.Feed.{fed, decided, piece_done, feed, Took, goes, piece_by, take_b}
use Rattle.reading.proofs.Laws.{grow}
use Rattle.reading_lengths.specs.Listed.{Bytes}
use Rattle.reading_lengths.specs.Head.{Head, ended, short, beyond, whole, head_of}
use Rattle.reading_lengths.proofs.Heads.{View, none_left, at-short, at-beyond, at-whole, view}
use Rattle.receive_stream.proofs.Leaves.{Sane}

-- the reason in one byte, id and length in four each
abbrev pub Spelt : ℕ → ℕ → ℕ → Type 0
Spelt reason id n = (reason < 256) × ((id < 256 ^ 4) × (n < 256 ^ 4))

-- .. of a PDU nothing is said here; a start has the end mark exactly at length 0
abbrev pub OutFits : Out → Type 0
OutFits nothing = Unit {0}
OutFits (pdu r p) = Unit {0}
OutFits (dropped q i n) = Spelt (reason_number q) i n
OutFits (start r i n m) = Spelt r i n × (m ≡ eqb n 0)
OutFits (piece r p m) = (r < 256) × (length p < 256 ^ 4)

-- eight bytes are two numbers of four
half : (w : ℕ) → w < 256 ^ 8 → (w / 2 ^ 32 < 256 ^ 4) × (w % 2 ^ 32 < 256 ^ 4)
half w h = (omega arith, omega arith)

-- A TAKE: a cell whose header bytes stand for a number that they can spell, or a transfer whose route fits
abbrev Heads : Cell → Type 0
Heads (cell n (header v)) = (n ≤ 8) × (v < 256 ^ (8 - n))
Heads (cell n (payload r h)) = Unit {0}
Heads (cell n skip) = Unit {0}
Heads (transfer n r) = r < 256

pub sane_heads : (P : ℕ → ℕ → Type 0) (M : ℕ → Type 0) → ((r : ℕ) → M r → r < 256) → (c : Cell) → Sane P M c → Heads c
sane_heads P M low (cell n (header v)) s = (s.1, s.2)
sane_heads P M low (cell n (payload r h)) s = tt
sane_heads P M low (cell n skip) s = tt
sane_heads P M low (transfer n r) s = low r s.1

module _ (R : Routes) (moved : (i n r : ℕ) → R i n ≡ Transfer r → r < 256) where
  decided-fits : (d : Decision) (i n : ℕ) → i < 256 ^ 4 → n < 256 ^ 4 → ((r : ℕ) → d ≡ Transfer r → r < 256)
      → Heads (decided d i n).to × OutFits (decided d i n).out
  decided-fits (Accept r) i zero a b m = ((omega arith, omega arith), tt)
  decided-fits (Accept r) i (suc n) a b m = (tt, tt)
  decided-fits (Refuse q) i zero a b m = ((omega arith, omega arith), (reason_small q, (a, b)))
  decided-fits (Refuse q) i (suc n) a b m = (tt, (reason_small q, (a, b)))
  decided-fits (Transfer r) i zero a b m = ((omega arith, omega arith), ((m r refl, (a, b)), refl))
  decided-fits (Transfer r) i (suc n) a b m = (m r refl, ((m r refl, (a, b)), sym (ne_eqb (suc n) 0 (λ z. omega (arith, z)))))

  feed-fits : (c : Cell) (b : ℕ) → b < 256 → Heads c → Heads (feed R c b).to × OutFits (feed R c b).out
  unfolding feed piece_done
  feed-fits (cell zero k) b hb s = ((omega arith, omega arith), tt)
  feed-fits (cell (suc zero) (header v)) b hb s =
      let w : ℕ = v * 256 + b in
      let h : (w / 2 ^ 32 < 256 ^ 4) × (w % 2 ^ 32 < 256 ^ 4) = half w (grow 7 v b s.1 hb) in
      decided-fits (R (w / 2 ^ 32) (w % 2 ^ 32)) (w / 2 ^ 32) (w % 2 ^ 32) h.0 h.1 (moved (w / 2 ^ 32) (w % 2 ^ 32))
  feed-fits (cell (suc zero) (payload r h)) b hb s = ((omega arith, omega arith), tt)
  feed-fits (cell (suc zero) skip) b hb s = ((omega arith, omega arith), tt)
  feed-fits (cell (suc (suc n)) (header v)) b hb s =
      let e : 8 - suc (suc n) + 1 ≡ 8 - suc n = omega arith in
      ((omega arith, subst (λ (m : ℕ). v * 256 + b < 256 ^ m) e (grow (8 - suc (suc n)) v b s.1 hb)), tt)
  feed-fits (cell (suc (suc n)) (payload r h)) b hb s = (tt, tt)
  feed-fits (cell (suc (suc n)) skip) b hb s = (tt, tt)
  feed-fits (transfer zero r) b hb s = ((omega arith, omega arith), tt)
  feed-fits (transfer (suc zero) r) b hb s = ((omega arith, omega arith), (s, omega arith))
  feed-fits (transfer (suc (suc n)) r) b hb s = (s, (s, omega arith))

  piece-fits : (t : Bool) (n r : ℕ) (bs : List ℕ) → length bs < 256 ^ 4 → r < 256 → OutFits (piece_by t n r bs).out
  piece-fits true n r bs few s = (s, few)
  piece-fits false n r bs few s = (s, omega (arith, length-take n bs))

  pub take-fits : (c : Cell) (bs : List ℕ) → Bytes bs → length bs < 256 ^ 4 → Heads c → OutFits (take_b R c bs).out
  unfolding take_b
  take-fits c [] hs few s = tt
  take-fits (transfer zero r) (b ∷ bs) hs few s = take-fits ready bs (λ i. hs (suc i)) (omega arith) (omega arith, omega arith)
  take-fits (transfer (suc n) r) (b ∷ bs) hs few s = piece-fits (ltb (length (b ∷ bs)) (suc n)) (suc n) r (b ∷ bs) few s
  take-fits (cell n k) (b ∷ bs) hs few s =
      let f = feed-fits (cell n k) b (hs 0) s in
      go (feed R (cell n k) b).to (feed R (cell n k) b).out (take_b R (feed R (cell n k) b).to bs) f.1
      (take-fits (feed R (cell n k) b).to bs (λ i. hs (suc i)) (omega arith) f.0)
    where
      go : (d : Cell) (o : Out) (t : Took) → OutFits o → OutFits t.out → OutFits (goes (fed d o) bs t).out
      go d nothing t h later = later
      go d (pdu r p) t h later = tt
      go d (dropped q i n) t h later = h
      go d (start r i n m) t h later = h
      go d (piece r p m) t h later = later

-- A WALK: what stands at the front of bytes
be-small : (w : ℕ) (s : List ℕ) (at : ℕ) → Bytes s → be w s at < 256 ^ w
unfolding be
be-small zero s at b = omega arith
be-small (suc w) s at b =
    subst (λ (m : ℕ). be w s at * 256 + byte_at s (at + w) < 256 ^ m) (add-one w) (grow w (be w s at) (byte_at s (at + w)) (be-small w s at b) (b (at + w)))

abbrev HeadFits : Head → Type 0
HeadFits ended = Unit {0}
HeadFits short = Unit {0}
HeadFits (beyond i n) = (i < 256 ^ 4) × (n < 256 ^ 4)
HeadFits (whole i n) = (i < 256 ^ 4) × (n < 256 ^ 4)

pub head_small : (l : List ℕ) → Bytes l → (h : Head) → head_of l ≡ h → HeadFits h
head_small l b h e = subst HeadFits e (go (head_of l) (view l))
  where
    go : (x : Head) → View l x → HeadFits x
    go ended (none_left p) = tt
    go short (at-short p q) = tt
    go (beyond _ _) (at-beyond p q) = (be-small 4 l 0 b, be-small 4 l 4 b)
    go (whole _ _) (at-whole p) = (be-small 4 l 0 b, be-small 4 l 4 b)
