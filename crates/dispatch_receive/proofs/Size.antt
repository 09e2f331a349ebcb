-- HOW MANY BYTES A TAKE'S ANSWER HAS, against the bytes it reads. A take that leaves bytes leaves no header byte and no payload byte held,
-- so the next one has read a whole header, and its PDU stands in the segment; or it has left a transfer running. A transfer of one byte
-- has the most answer for its bytes: 14 for its start and 18 for its piece, of nine bytes. So all is counted in ninths of a byte. Where
-- no route is marked there is no start and no piece, and a PDU of eight bytes has the most: 19.
use Prim.Native.Nat.{ℕ, zero, suc, ◌+◌, ◌-◌, ◌*◌, ◌/◌, ◌%◌, ◌^◌, ◌≤◌, ◌<◌}
use mathlib.Core.Path.{◌≡◌, refl, ap, ◌∙◌, subst}
use mathlib.Core.Bool.{Bool, true, false, cond, false≢true, true≢false}
use mathlib.Core.List.{List, [], ◌∷◌}
use native.Mathlib.Nat.{mul-le-mul_left}
use native.Mathlib.Omega.{arith}
use lib.Dec.{leb, ltb}
use lib.ListN.{length, take, drop, length-take, length-drop}
use Rattle.reading.specs.Reasons.{reason_number}
use Rattle.reading.specs.declared.Decision.{Decision}
use Rattle.reading.specs.declared.Decision.TheVariants.{Accept, Refuse, Transfer as Move}
use Rattle.reading.specs.Feed.{Routes, PieceKind, header, payload, skip, Cell, cell, transfer, Out, nothing, pdu, dropped, start, piece, Fed}
use Rattle.reading.specs.Feed.{ready, decided, piece_done, feed, after, stops, Took, took, piece_by, take_b, Ends, at_end, at_byte, at_seam, at_mark}
use Rattle.reading.proofs.Cut.{moves, take_ends, take_less}
use Rattle.table_layout.specs.Layout.{part_of}
use Rattle.receive_part.specs.declared.Part.{Part}
use Rattle.receive_part.specs.declared.Part.TheVariants.{Header, Payload, Skip, Transfer}
use Rattle.receive_part.specs.Part.{transferring}
use Rattle.receive_stream.specs.declared.Outcome.{Outcome}
use Rattle.receive_stream.specs.Stream.{cell_of, part_from, is_in_segment, take_outcome}
use Rattle.state.specs.Memory.{stretch}
use Rattle.entry_receive.specs.Segment.{payload_of}
use Rattle.event_answer.proofs.Chain.{length_found}
use Rattle.dispatch_receive.specs.Segment.{take_bytes}
use Rattle.dispatch_receive.proofs.Written.{length-here, length-held, length-piece}

-- THE BYTES OF A TAKE on a connection with this part, and 19 for the next, in ninths of a byte: 1,464 payload bytes and 15 more out of
-- receive memory, but 19 in all where nothing is held; while a transfer runs, 18 for its piece, less what the piece's own byte of the
-- segment gives
unfoldable pub most : Part → ℕ
most (Header zero value) = 171
most (Header (suc held) value) = 13482
most (Payload route n held) = 13482
most (Skip n) = 171
most (Transfer route left) = 301

pub most-all : (p : Part) → most p ≤ 13482
unfolding most
most-all (Header zero value) = omega arith
most-all (Header (suc held) value) = omega arith
most-all (Payload route n held) = omega arith
most-all (Skip n) = omega arith
most-all (Transfer route left) = omega arith

pub most_least : (p : Part) → 171 ≤ most p
unfolding most
most_least (Header zero value) = omega arith
most_least (Header (suc held) value) = omega arith
most_least (Payload route n held) = omega arith
most_least (Skip n) = omega arith
most_least (Transfer route left) = omega arith

-- R19.1: routes of which none is marked
abbrev pub NoneMarked : Routes → Type 0
NoneMarked R = (i n r : ℕ) → R i n ≡ Move r → ⊥

-- WHAT A BYTE OF THE SEGMENT PAYS, in ninths, on a connection with these routes and this part: 32; and 27 where no route is marked and no
-- transfer runs
pub data Pays (R : Routes) (p : Part) : ℕ → Type 0 where
  any : Pays R p 32
  whole : NoneMarked R → transferring p ≡ false → Pays R p 27

-- WHAT A TAKE READS AT LEAST BEFORE IT STOPS: the bytes that a header still wants; behind a skip a whole one
abbrev wants : Cell → ℕ
wants (cell n (header v)) = n
wants (cell n (payload r h)) = 0
wants (cell n skip) = 8
wants (transfer n r) = 0

stop_wants : (R : Routes) (n : ℕ) (k : PieceKind) (b : ℕ) → stops (feed R (cell n k) b).out ≡ true → wants (cell n k) ≤ 1
unfolding feed piece_done
stop_wants R zero (header v) b s = omega arith
stop_wants R (suc zero) (header v) b s = omega arith
stop_wants R (suc (suc n)) (header v) b s = absurd (false≢true s)
stop_wants R n (payload r h) b s = omega arith
stop_wants R zero skip b s = absurd (false≢true s)
stop_wants R (suc zero) skip b s = absurd (false≢true s)
stop_wants R (suc (suc n)) skip b s = absurd (false≢true s)

go_wants : (R : Routes) (n : ℕ) (k : PieceKind) (b : ℕ) → wants (cell n k) ≤ 1 + wants (feed R (cell n k) b).to
unfolding feed piece_done
go_wants R zero (header v) b = omega arith
go_wants R (suc zero) (header v) b = omega arith
go_wants R (suc (suc n)) (header v) b = omega arith
go_wants R n (payload r h) b = omega arith
go_wants R zero skip b = omega arith
go_wants R (suc zero) skip b = omega arith
go_wants R (suc (suc n)) skip b = omega arith

take_wants : (R : Routes) (c : Cell) (bs : List ℕ) → stops (take_b R c bs).out ≡ true → wants c + length (take_b R c bs).rest ≤ length bs
unfolding take_b
take_wants R c [] s = absurd (false≢true s)
take_wants R (transfer zero r) (b ∷ bs) s = omega (arith, take_wants R ready bs s)
take_wants R (transfer (suc n) r) (b ∷ bs) s = omega (arith, take_less R (transfer (suc n) r) (b ∷ bs))
take_wants R (cell n k) (b ∷ bs) s = go (stops (feed R (cell n k) b).out) refl s (take_wants R (feed R (cell n k) b).to bs)
  where
    f : Fed
    f = feed R (cell n k) b

    go : (x : Bool) → stops f.out ≡ x → stops (cond x (took f.to f.out bs) (take_b R f.to bs)).out ≡ true
        → (stops (take_b R f.to bs).out ≡ true → wants f.to + length (take_b R f.to bs).rest ≤ length bs)
        → wants (cell n k) + length (cond x (took f.to f.out bs) (take_b R f.to bs)).rest ≤ length (b ∷ bs)
    go true e q h = omega (arith, stop_wants R n k b e)
    go false e q h = omega (arith, go_wants R n k b, h q)

-- WHAT A TAKE THAT LEFT BYTES LEAVES FOR THE NEXT, by its outcome: nothing is held, and a transfer runs behind a start alone
abbrev leaves : Out → ℕ
leaves nothing = 171
leaves (pdu r p) = 171
leaves (dropped k i n) = 171
leaves (start r i n m) = 301
leaves (piece r p m) = 171

decided-most : (d : Decision) (i n : ℕ) → stops (decided d i n).out ≡ true → most (part_from (decided d i n).to) ≤ leaves (decided d i n).out
unfolding most
decided-most (Accept r) i zero s = omega arith
decided-most (Accept r) i (suc n) s = absurd (false≢true s)
decided-most (Refuse k) i zero s = omega arith
decided-most (Refuse k) i (suc n) s = omega arith
decided-most (Move r) i zero s = omega arith
decided-most (Move r) i (suc n) s = omega arith

stop_most : (R : Routes) (c : Cell) (b : ℕ) → stops (feed R c b).out ≡ true → most (part_from (feed R c b).to) ≤ leaves (feed R c b).out
unfolding feed piece_done most
stop_most R (cell zero k) b s = absurd (false≢true s)
stop_most R (cell (suc zero) (header v)) b s =
    decided-most (R ((v * 256 + b) / 2 ^ 32) ((v * 256 + b) % 2 ^ 32)) ((v * 256 + b) / 2 ^ 32) ((v * 256 + b) % 2 ^ 32) s
stop_most R (cell (suc zero) (payload r h)) b s = omega arith
stop_most R (cell (suc zero) skip) b s = absurd (false≢true s)
stop_most R (cell (suc (suc n)) k) b s = absurd (false≢true s)
stop_most R (transfer zero r) b s = absurd (false≢true s)
stop_most R (transfer (suc zero) r) b s = absurd (false≢true s)
stop_most R (transfer (suc (suc n)) r) b s = absurd (false≢true s)

ends-most : (R : Routes) (c : Cell) (bs : List ℕ) (t : Took) → Ends R c bs t → 0 < length t.rest → most (part_from t.to) ≤ leaves t.out
unfolding most
ends-most R c bs t (at_end _ _ e) h = absurd (omega arith)
ends-most R c bs t (at_byte _ a b rest f e is q) h =
    subst (λ (g : Fed). most (part_from g.to) ≤ leaves g.out) is (stop_most R (after R c a) b (ap (λ (g : Fed). stops g.out) is ∙ q))
ends-most R c bs t (at_seam n r a _ _) h = absurd (omega arith)
ends-most R c bs t (at_mark n r a rest _ _) h = omega arith

-- where no route is marked there is no start, and so nothing left for a piece
decided-plain : (d : Decision) (i n : ℕ) → ((r : ℕ) → d ≡ Move r → ⊥) → leaves (decided d i n).out ≤ 171
decided-plain (Accept r) i zero u = omega arith
decided-plain (Accept r) i (suc n) u = omega arith
decided-plain (Refuse k) i zero u = omega arith
decided-plain (Refuse k) i (suc n) u = omega arith
decided-plain (Move r) i n u = absurd (u r refl)

feed-plain : (R : Routes) (c : Cell) (b : ℕ) → NoneMarked R → leaves (feed R c b).out ≤ 171
unfolding feed piece_done
feed-plain R (cell zero k) b u = omega arith
feed-plain R (cell (suc zero) (header v)) b u =
    decided-plain (R ((v * 256 + b) / 2 ^ 32) ((v * 256 + b) % 2 ^ 32)) ((v * 256 + b) / 2 ^ 32) ((v * 256 + b) % 2 ^ 32) (u _ _)
feed-plain R (cell (suc zero) (payload r h)) b u = omega arith
feed-plain R (cell (suc zero) skip) b u = omega arith
feed-plain R (cell (suc (suc n)) k) b u = omega arith
feed-plain R (transfer zero r) b u = omega arith
feed-plain R (transfer (suc zero) r) b u = omega arith
feed-plain R (transfer (suc (suc n)) r) b u = omega arith

ends-plain : (R : Routes) (c : Cell) (bs : List ℕ) (t : Took) → Ends R c bs t → NoneMarked R → leaves t.out ≤ 171
ends-plain R c bs t (at_end _ _ e) u = omega arith
ends-plain R c bs t (at_byte _ a b rest f e is q) u = subst (λ (g : Fed). leaves g.out ≤ 171) is (feed-plain R (after R c a) b u)
ends-plain R c bs t (at_seam n r a _ _) u = omega arith
ends-plain R c bs t (at_mark n r a rest _ _) u = omega arith

-- outside a transfer, a take that leaves bytes stopped
ends-stops : (R : Routes) (c : Cell) (bs : List ℕ) (t : Took) → Ends R c bs t → moves c ≡ false → 0 < length t.rest → stops t.out ≡ true
ends-stops R c bs t (at_end _ _ e) o h = absurd (omega arith)
ends-stops R c bs t (at_byte _ a b rest f e is q) o h = q
ends-stops R c bs t (at_seam n r a _ _) o h = absurd (true≢false o)
ends-stops R c bs t (at_mark n r a rest _ _) o h = absurd (true≢false o)

-- A TAKE'S BYTES: a payload out of receive memory is no longer than its stretch
part-within : (s : List ℕ) (at n : ℕ) → length (part_of s at n) ≤ length s
unfolding part_of
part-within s at n = go (leb (at + n) (length s))
  where
    go : (b : Bool) → length (cond b (take n (drop at s)) []) ≤ length s
    go true = omega (arith, length-take n (drop at s), length-drop at s)
    go false = omega arith

stretch-within : (k : ℕ) (m : List ℕ) → length (stretch 1464 k m) ≤ 1464
stretch-within k m = omega (arith, length-take 1464 (drop (k * 1464) m))

module _ (from read : ℕ) (seg m : List ℕ) (k : ℕ) where
  abbrev bytes : Outcome → List ℕ
  bytes o = take_bytes from read o (payload_of seg m k o)

  any_size : (ids : ℕ → ℕ) (s : Bool) (o : Out) → 9 * length (bytes (take_outcome ids s read o)) + leaves o ≤ 13482
  unfolding payload_of
  any_size ids s nothing = omega (arith, length_found read 0 0 0 0)
  any_size ids true (pdu r p) = omega (arith, length-here read r (ids r) (length p) from (read - length p))
  any_size ids false (pdu r p) =
      omega (
        arith,
        length-held read r (ids r) (length p) (part_of (stretch 1464 k m) 0 (length p)),
        part-within (stretch 1464 k m) 0 (length p),
        stretch-within k m,
      )
  any_size ids s (dropped reason id n) = omega (arith, length_found read 2 (reason_number reason) id n)
  any_size ids s (start r i n b) = omega (arith, length_found read 3 r i n)
  any_size ids s (piece r p b) = omega (arith, length-piece read r (ids r) (length p) b from (read - length p))

  here_size : (ids : ℕ → ℕ) (o : Out) → 9 * length (bytes (take_outcome ids true read o)) ≤ 171
  here_size ids nothing = omega (arith, length_found read 0 0 0 0)
  here_size ids (pdu r p) = omega (arith, length-here read r (ids r) (length p) from (read - length p))
  here_size ids (dropped reason id n) = omega (arith, length_found read 2 (reason_number reason) id n)
  here_size ids (start r i n b) = omega (arith, length_found read 3 r i n)
  here_size ids (piece r p b) = omega (arith, length-piece read r (ids r) (length p) b from (read - length p))

  -- .. and what it leaves for the next: eight bytes of the segment pay for a start and the piece that follows it
  here-leaves : (ids : ℕ → ℕ) (o : Out) → 9 * length (bytes (take_outcome ids true read o)) + leaves o ≤ 427
  here-leaves ids nothing = omega (arith, length_found read 0 0 0 0)
  here-leaves ids (pdu r p) = omega (arith, length-here read r (ids r) (length p) from (read - length p))
  here-leaves ids (dropped reason id n) = omega (arith, length_found read 2 (reason_number reason) id n)
  here-leaves ids (start r i n b) = omega (arith, length_found read 3 r i n)
  here-leaves ids (piece r p b) = omega (arith, length-piece read r (ids r) (length p) b from (read - length p))

  -- what the part asks for is enough, and where the take left bytes there is still enough for the next
  module _ (R : Routes) (ids : ℕ → ℕ) where
    abbrev spent_at : Cell → List ℕ → ℕ
    spent_at c bs = 9 * length (bytes (take_outcome ids true read (take_b R c bs).out))

    -- a take that begins with a header or with bytes to skip
    fresh-goes : {p : Part} {pay : ℕ} (c : Cell) (bs : List ℕ) → Pays R p pay → moves c ≡ false → wants c ≡ 8 → 0 < length (take_b R c bs).rest
        → spent_at c bs + most (part_from (take_b R c bs).to) + pay * length (take_b R c bs).rest ≤ 171 + pay * length bs
    fresh-goes c bs any o w h =
        omega (
          arith,
          here-leaves ids (take_b R c bs).out,
          ends-most R c bs (take_b R c bs) (take_ends R c bs) h,
          take_wants R c bs (ends-stops R c bs (take_b R c bs) (take_ends R c bs) o h),
        )
    fresh-goes c bs (whole u _) o w h =
        omega (
          arith,
          here_size ids (take_b R c bs).out,
          ends-plain R c bs (take_b R c bs) (take_ends R c bs) u,
          ends-most R c bs (take_b R c bs) (take_ends R c bs) h,
          take_wants R c bs (ends-stops R c bs (take_b R c bs) (take_ends R c bs) o h),
        )

    -- one that begins in the middle of a header or of a payload
    held-goes : (pay : ℕ) (s : Bool) (c : Cell) (bs : List ℕ) → 0 < length (take_b R c bs).rest
        → 9 * length (bytes (take_outcome ids s read (take_b R c bs).out)) + most
        (part_from (take_b R c bs).to) + pay * length (take_b R c bs).rest ≤ 13482 + pay * length bs
    held-goes pay s c bs h =
        let few : length (take_b R c bs).rest ≤ length bs = omega (arith, take_less R c bs) in
        omega (arith, any_size ids s (take_b R c bs).out, ends-most R c bs (take_b R c bs) (take_ends R c bs) h, mul-le-mul_left pay few)

    -- a running transfer's last piece, before which its start has paid
    piece-goes : (n r : ℕ) (bs : List ℕ) → 0 < length (take_b R (transfer n r) bs).rest
        → spent_at (transfer n r) bs + most (part_from (take_b R (transfer n r) bs).to) + 32 * length (take_b R (transfer n r) bs).rest ≤ 301 + 32 * length bs
    unfolding take_b most
    piece-goes n r [] h = absurd (omega arith)
    piece-goes zero r (b ∷ bs) h = omega (arith, fresh-goes {p = Header 0 0} ready bs any refl refl h)
    piece-goes (suc n) r (b ∷ bs) h = go (ltb (length (b ∷ bs)) (suc n)) h
      where
        t : Bool → Took
        t x = piece_by x (suc n) r (b ∷ bs)

        go : (x : Bool) → 0 < length (t x).rest
            → 9 * length (bytes (take_outcome ids true read (t x).out)) + most (part_from (t x).to) + 32 * length (t x).rest ≤ 301 + 32 * length (b ∷ bs)
        go true q = absurd (omega arith)
        go false q =
            let p : List ℕ = take (suc n) (b ∷ bs) in
            omega (arith, length-piece read r (ids r) (length p) true from (read - length p), length-drop (suc n) (b ∷ bs))

    module _ (rx : List ℕ) where
      abbrev took_of : Part → Took
      took_of p = take_b R (cell_of p rx) seg

      abbrev spent : Part → ℕ
      spent p = 9 * length (bytes (take_outcome ids (is_in_segment (cell_of p rx)) read (took_of p).out))

      pub spent_within : (p : Part) → spent p ≤ most p
      unfolding most
      spent_within (Header zero value) = here_size ids (took_of (Header zero value)).out
      spent_within (Header (suc held) value) = omega (arith, here_size ids (took_of (Header (suc held) value)).out)
      spent_within (Payload route n held) = omega (arith, any_size ids (is_in_segment (cell_of (Payload route n held) rx)) (took_of (Payload route n held)).out)
      spent_within (Skip n) = here_size ids (took_of (Skip n)).out
      spent_within (Transfer route left) = omega (arith, here_size ids (took_of (Transfer route left)).out)

      pub spent_goes : {pay : ℕ} (p : Part) → Pays R p pay → 0 < length (took_of p).rest
          → spent p + most (part_from (took_of p).to) + pay * length (took_of p).rest ≤ most p + pay * length seg
      unfolding most
      spent_goes (Header zero value) pays h = fresh-goes (cell_of (Header zero value) rx) seg pays refl refl h
      spent_goes {pay} (Header (suc held) value) pays h = held-goes pay true (cell_of (Header (suc held) value) rx) seg h
      spent_goes {pay} (Payload route n held) pays h =
          held-goes pay (is_in_segment (cell_of (Payload route n held) rx)) (cell_of (Payload route n held) rx) seg h
      spent_goes (Skip n) pays h = fresh-goes (cell_of (Skip n) rx) seg pays refl refl h
      spent_goes (Transfer route left) any h = piece-goes left route seg h
      spent_goes (Transfer route left) (whole u e) h = absurd (true≢false e)
