-- ONE TAKE IS A SEGMENT EVENT, of just the bytes that it reads, from any table, state and memory: so a caller who takes once, does
-- something else and takes the rest later makes a run of events too.
use Rattle.std.proofs.Common.{Ok}
use Prim.Native.Nat.{ℕ, zero, suc, ◌+◌, ◌-◌, ◌≤◌, ◌*◌, ◌/◌, ◌%◌, ◌^◌}
use mathlib.Core.Path.{◌≡◌, refl, sym, ap, ap₂, ◌∙◌}
use mathlib.Core.Bool.{Bool, true, false, cond}
use mathlib.Core.List.{List, [], ◌∷◌, ◌++◌, append-nil}
use native.Mathlib.Omega.{arith}
use lib.Dec.{eqb, ltb}
use lib.ListN.{length, take, drop, length-append, length-drop, take-append-drop}
use lib.Seq.{length-take-le, take_all, take-append_seam, take-append-le, drop-append-le, append_snoc}
use native.Mathlib.Nat.{sub-zero}
use borrow.Author.Tests.{le-leb}
use Rattle.lists.proofs.Both.{impossible}
use Rattle.table_layout.specs.Layout.{body_of, part_of}
use Rattle.table_layout.specs.declared.Kind.TheVariants.{Route as RouteBody}
use Rattle.reading.specs.declared.Decision.{Decision}
use Rattle.reading.specs.declared.Decision.TheVariants.{Accept, Refuse, Transfer}
use Rattle.reading.specs.Feed.{Routes, header, payload, skip, Cell, cell, transfer, Out, nothing, pdu, dropped}
use Rattle.reading.specs.Feed.{start, piece, Fed, ready, decided, piece_done, feed, after, stops, Took, took}
use Rattle.reading.specs.Feed.{piece_by, take_b, bytes_read, Ends, at_end, at_byte, at_seam, at_mark}
use Rattle.reading.proofs.Cut.{take_ends, ends-take}
use Rattle.wire.specs.Lay.{lay}
use Rattle.receive_part.specs.declared.Part.{Part}
use Rattle.receive_route.specs.Route.{lookup_of}
use Rattle.receive_stream.specs.declared.Taken.{Taken}
use Rattle.receive_stream.specs.Stream.{cell_of, part_from, held_in, none_held, is_in_segment, id_of, take_outcome, answered, wrote, took_of, taken_of}
use Rattle.receive_stream.specs.Stream.{rx_after}
use Rattle.receive_stream.proofs.Leaves.{handed-piece}
use Rattle.connection.specs.declared.Connection.{Connection}
use Rattle.connection.specs.Connection.{with_part}
use Rattle.state.specs.declared.State.{State}
use Rattle.state.specs.State.{record_at, with_record}
use Rattle.state.specs.Memory.{stretch}
use Rattle.entry_receive.specs.declared.SegmentTaken.{SegmentTaken}
use Rattle.entry_receive.specs.Answer.{is_done}
use Rattle.entry_receive.specs.Segment.{count_take, take_on, memory_on, none_taken, segment_answer, segment_of, memory_of, payload_of}
use Rattle.model_refines.specs.Machine.{Machine, lent_to, machine, taken, after_one, rest_of, pdu_told, told_by, after_takes, told_takes, after_segment}
use Rattle.model_refines.specs.Machine.{told_segment}
use Rattle.model_refines.specs.Run.{after_own, after_event, given, after_run, given_in}
use Rattle.theorems.specs.Order.{AnyCall, event, once, bytes_taken, after_call, given_by, as_event, after_calls, given_calls, as_events}

-- the bytes that a take reads of a segment
front-is : (a r : List ℕ) → take (length (a ++ r) - length r) (a ++ r) ≡ a
front-is a r =
    let n : length (a ++ r) - length r ≡ length a = omega (arith, length-append a r) in
    ap (λ (i : ℕ). take i (a ++ r)) n ∙ take-append_seam a r

-- the stream's take of just these is the same take, with nothing left
front_ends : (R : Routes) (c : Cell) (bs : List ℕ) (t : Took) → Ends R c bs t → take_b R c (take (bytes_read bs t) bs) ≡ took t.to t.out []
front_ends R c bs t (at_end _ _ e) =
    ap (take_b R c) (take_all (length bs - 0) bs (omega arith)) ∙ sym (ends-take R c bs (took (after R c bs) nothing []) (at_end c bs e))
front_ends R c bs t (at_byte _ a b rest f e is s) =
    ap (take_b R c) (rw (sym (append_snoc a b rest)) (front-is (a ++ b ∷ []) rest))
    ∙ sym (ends-take R c (a ++ b ∷ []) (took f.to f.out []) (at_byte c a b [] f e is s))
front_ends R c bs t (at_seam n r a pos lt) =
    ap (take_b R (transfer n r)) (take_all (length a - 0) a (omega arith))
    ∙ sym (ends-take R (transfer n r) a (took (transfer (n - length a) r) (piece r a false) []) (at_seam n r a pos lt))
front_ends R c bs t (at_mark n r a rest pos e) =
    ap (take_b R (transfer n r)) (front-is a rest ∙ sym (append-nil a))
    ∙ sym (ends-take R (transfer n r) (a ++ []) (took ready (piece r a true) []) (at_mark n r a [] pos e))

front-take : (R : Routes) (c : Cell) (bs : List ℕ) → take_b R c (take (bytes_read bs (take_b R c bs)) bs) ≡ took (take_b R c bs).to (take_b R c bs).out []
front-take R c bs = front_ends R c bs (take_b R c bs) (take_ends R c bs)

none_behind : (n : ℕ) (l : List ℕ) → drop n (take n l) ≡ []
none_behind zero l = refl
none_behind (suc n) [] = refl
none_behind (suc n) (x ∷ l) = none_behind n l

-- the payload of a PDU: bytes held before, and bytes read
size : Out → ℕ
size nothing = 0
size (pdu r p) = length p
size (dropped k i n) = 0
size (start r i n m) = 0
size (piece r p m) = 0

abbrev Fits : ℕ → Fed → Type 0
Fits n f = (size f.out ≤ n) × (length (held_in f.to) ≤ n)

decided-fits : (d : Decision) (i n m : ℕ) → Fits m (decided d i n)
unfolding size
decided-fits (Accept r) i zero m = (omega arith, omega arith)
decided-fits (Accept r) i (suc n) m = (omega arith, omega arith)
decided-fits (Refuse k) i zero m = (omega arith, omega arith)
decided-fits (Refuse k) i (suc n) m = (omega arith, omega arith)
decided-fits (Transfer r) i zero m = (omega arith, omega arith)
decided-fits (Transfer r) i (suc n) m = (omega arith, omega arith)

feed-fits : (R : Routes) (c : Cell) (b : ℕ) → Fits (length (held_in c) + 1) (feed R c b)
unfolding feed piece_done size
feed-fits R (cell zero k) b = (omega arith, omega arith)
feed-fits R (cell (suc zero) (header v)) b =
    decided-fits (R ((v * 256 + b) / 2 ^ 32) ((v * 256 + b) % 2 ^ 32)) ((v * 256 + b) / 2 ^ 32) ((v * 256 + b) % 2 ^ 32) 1
feed-fits R (cell (suc zero) (payload r h)) b = (omega (arith, length-append h (b ∷ [])), omega arith)
feed-fits R (cell (suc zero) skip) b = (omega arith, omega arith)
feed-fits R (cell (suc (suc n)) (header v)) b = (omega arith, omega arith)
feed-fits R (cell (suc (suc n)) (payload r h)) b = (omega arith, omega (arith, length-append h (b ∷ [])))
feed-fits R (cell (suc (suc n)) skip) b = (omega arith, omega arith)
feed-fits R (transfer zero r) b = (omega arith, omega arith)
feed-fits R (transfer (suc zero) r) b = (omega arith, omega arith)
feed-fits R (transfer (suc (suc n)) r) b = (omega arith, omega arith)

piece-fits : (t : Bool) (n r : ℕ) (bs : List ℕ) → size (piece_by t n r bs).out + length (piece_by t n r bs).rest ≤ length bs
unfolding size
piece-fits true n r bs = omega arith
piece-fits false n r bs = omega (arith, length-drop n bs)

take-fits : (R : Routes) (c : Cell) (bs : List ℕ) → size (take_b R c bs).out + length (take_b R c bs).rest ≤ length (held_in c) + length bs
unfolding take_b size
take-fits R c [] = omega arith
take-fits R (transfer zero r) (b ∷ bs) = omega (arith, take-fits R ready bs)
take-fits R (transfer (suc n) r) (b ∷ bs) = omega (arith, piece-fits (ltb (length (b ∷ bs)) (suc n)) (suc n) r (b ∷ bs))
take-fits R (cell n k) (b ∷ bs) = go (stops (feed R (cell n k) b).out) (feed-fits R (cell n k) b) (take-fits R (feed R (cell n k) b).to bs)
  where
    c : Cell
    c = cell n k

    u : Took
    u = take_b R (feed R c b).to bs

    go : (s : Bool) → Fits (length (held_in c) + 1) (feed R c b) → size u.out + length u.rest ≤ length (held_in (feed R c b).to) + length bs
        → size (cond s (took (feed R c b).to (feed R c b).out bs) u).out + length
        (cond s (took (feed R c b).to (feed R c b).out bs) u).rest ≤ length (held_in c) + length (b ∷ bs)
    go true f h = omega (arith, f.0)
    go false f h = omega (arith, f.1, h)

-- so a payload that stands in the segment stands in the bytes read
no_held : (l : List ℕ) → none_held l ≡ true → length l ≡ 0
no_held [] e = refl
no_held (x ∷ l) e = impossible e

part-front : (xs ys : List ℕ) (n : ℕ) → n ≤ length xs → part_of xs (length xs - n) n ≡ part_of (xs ++ ys) (length xs - n) n
unfolding part_of
part-front xs ys n le =
    rw (le-leb (length xs - n + n) (length xs) (omega arith))
    (rw (le-leb (length xs - n + n) (length (xs ++ ys)) (omega (arith, length-append xs ys)))
    (sym (ap (take n) (drop-append-le (length xs - n) xs ys (omega arith))
    ∙ take-append-le n (drop (length xs - n) xs) ys (omega (arith, length-drop (length xs - n) xs)))))

-- THE TAKE OVER A STRETCH
module _ (routes : List ℕ) (k switches : ℕ) (part : Part) (st bs : List ℕ) where
  abbrev t : Took
  t = took_of routes k switches part st bs

  abbrev n : ℕ
  n = length bs - length t.rest

  -- so many bytes are read
  abbrev n' : ℕ
  n' = (taken_of routes k switches part st bs).read

  took-front : took_of routes k switches part st (take n bs) ≡ took t.to t.out []
  unfolding took_of
  took-front = front-take (lookup_of routes k switches) (cell_of part st) bs

  front_long : length (take n bs) ≡ n
  front_long = length-take-le n bs (omega arith)

  taken-front : taken_of routes k switches part st (take n' bs) ≡ taken_of routes k switches part st bs
  unfolding taken_of
  taken-front =
      ap₂ (answered (id_of routes) (is_in_segment (cell_of part st))) front_long took-front
      ∙ ap (λ (r : ℕ). record { read = r; outcome = take_outcome (id_of routes) (is_in_segment (cell_of part st)) r t.out; part = part_from t.to }) (sub-zero n)

  rx-front : rx_after routes k switches part st (take n' bs) ≡ rx_after routes k switches part st bs
  unfolding taken_of rx_after
  rx-front = ap (λ (u : Took). wrote (is_in_segment (cell_of part st)) u.out u.to st) took-front

  within : size t.out + length t.rest ≤ length (held_in (cell_of part st)) + length bs
  unfolding took_of
  within = take-fits (lookup_of routes k switches) (cell_of part st) bs

  in_front : (l : ℕ) → l + length t.rest ≤ length bs → part_of (take n bs) (n - l) l ≡ part_of bs (n - l) l
  in_front l le =
      ap (λ (j : ℕ). part_of (take n bs) (j - l) l) (sym front_long)
      ∙ part-front (take n bs) (drop n bs) l (omega (arith, front_long))
      ∙ ap₂ (λ (j : ℕ) (x : List ℕ). part_of x (j - l) l) front_long (take-append-drop n bs)

  -- a piece is the same bytes of both
  piece-front : (r : ℕ) (p : List ℕ) (x : Bool) → t.out ≡ piece r p x → part_of (take n bs) (n - length p) (length p) ≡ part_of bs (n - length p) (length p)
  piece-front r p x e =
      let u : Took = took_of routes k switches part st (take n bs) in
      let all : length (take n bs) - length u.rest ≡ n = ap₂ (λ (i : ℕ) (v : Took). i - length v.rest) front_long took-front ∙ sub-zero n in
      ap (λ (j : ℕ). part_of (take n bs) (j - length p) (length p)) (sym all)
      ∙ handed-piece routes k switches part st (take n bs) r p x (ap (λ (v : Took). v.out) took-front ∙ e)
      ∙ sym (handed-piece routes k switches part st bs r p x e)

  -- the payload, of the bytes read as of the segment
  payload-front : (rx : List ℕ)
      → payload_of (take n' bs) rx k (taken_of routes k switches part st bs).outcome ≡ payload_of bs rx k (taken_of routes k switches part st bs).outcome
  unfolding taken_of payload_of size
  payload-front rx = go (is_in_segment (cell_of part st)) refl t.out refl within
    where
      go : (s : Bool) → is_in_segment (cell_of part st) ≡ s → (o : Out) → t.out ≡ o → size o + length t.rest ≤ length (held_in (cell_of part st)) + length bs
          → payload_of (take n bs) rx k (take_outcome (id_of routes) s n o) ≡ payload_of bs rx k (take_outcome (id_of routes) s n o)
      go s e nothing q h = refl
      go false e (pdu r p) q h = refl
      go true e (pdu r p) q h = in_front (length p) (omega (arith, h, no_held (held_in (cell_of part st)) e))
      go s e (dropped k i l) q h = refl
      go s e (start r i l x) q h = refl
      go s e (piece r p x) q h = piece-front r p x q

-- ON THE MACHINE
module _ (image : List ℕ) (k : ℕ) (m : Machine) (bs : List ℕ) where
  abbrev s : State
  s = m.state

  abbrev c : Connection
  c = record_at s k

  abbrev routes' : List ℕ
  routes' = body_of image RouteBody

  abbrev stretch' : List ℕ
  stretch' = stretch 1464 k m.rx

  abbrev done? : Bool
  done? = is_done (segment_answer (lent_to image m) k)

  abbrev made : Bool → List ℕ → SegmentTaken
  made d l = cond d (take_on image s m.rx k l) (none_taken s (segment_answer (lent_to image m) k))

  made_same : (d : Bool) → made d (take (made d bs).read bs) ≡ made d bs
  unfolding take_on
  made_same true =
      ap
      (λ (u : Taken).
      record {
        answer = Ok tt;
        read = u.read;
        outcome = u.outcome;
        state = count_take u.outcome (with_record k (with_part u.part c) s);
      })
      (taken-front routes' k c.switches c.part stretch' bs)
  made_same false = refl

  memory-same : (d : Bool) → cond d (memory_on image s m.rx k (take (made d bs).read bs)) m.rx ≡ cond d (memory_on image s m.rx k bs) m.rx
  unfolding take_on memory_on
  memory-same true = ap (lay m.rx (k * 1464)) (rx-front routes' k c.switches c.part stretch' bs)
  memory-same false = refl

  payload_same : (d : Bool) (rx : List ℕ) → payload_of (take (made d bs).read bs) rx k (made d bs).outcome ≡ payload_of bs rx k (made d bs).outcome
  unfolding take_on payload_of
  payload_same true rx = payload-front routes' k c.switches c.part stretch' bs rx
  payload_same false rx = refl

  -- the bytes that it reads
  abbrev front : List ℕ
  front = bytes_taken image k m bs

  -- a take of just these is answered as it was, and leaves the same; nothing is left of them
  pub same_answer : taken image k m front ≡ taken image k m bs
  unfolding segment_of
  same_answer = made_same done?

  same_memory : (after_one image k m front).rx ≡ (after_one image k m bs).rx
  unfolding segment_of memory_of
  same_memory = memory-same done?

  same-payload : (rx : List ℕ) → payload_of front rx k (taken image k m bs).outcome ≡ payload_of bs rx k (taken image k m bs).outcome
  unfolding segment_of
  same-payload rx = payload_same done? rx

  all_read : rest_of image k m front ≡ []
  all_read = ap (λ (u : SegmentTaken). drop u.read front) same_answer ∙ none_behind (taken image k m bs).read bs

  -- ONE TAKE IS THE SEGMENT EVENT OF THE BYTES THAT IT READS ..
  pub single-take : after_one image k m bs ≡ after_segment image k m (bytes_taken image k m bs)
  unfolding after_takes
  single-take = rw all_read (sym (ap₂ (λ (u : SegmentTaken) (r : List ℕ). machine u.state r m.tx) same_answer same_memory))

  told_same : told_by image k m front ≡ told_by image k m bs
  told_same =
      ap₂ (λ (u : SegmentTaken) (r : List ℕ). pdu_told image k (payload_of front r k u.outcome) u.outcome) same_answer same_memory
      ∙ ap (λ (p : List ℕ). pdu_told image k p (taken image k m bs).outcome) (same-payload (after_one image k m bs).rx)

  -- .. and what it tells is the list that this event tells
  pub single_told : told_by image k m bs ≡ told_segment image k m (bytes_taken image k m bs)
  unfolding told_takes
  single_told = rw all_read (sym (append-nil (told_by image k m front) ∙ told_same))

-- SO CALLS IN ANY ORDER, single takes among them, are a run of events
module _ (image : List ℕ) where
  call_event : (c : AnyCall) (m : Machine) → after_call image c m ≡ after_event image (as_event image c m) m
  unfolding after_call as_event after_event after_own
  call_event (event e) m = refl
  call_event (once k bs) m = single-take image k m bs

  call_given : (i : ℕ) (c : AnyCall) (m : Machine) → given_by image i c m ≡ given image i (as_event image c m) m
  unfolding given_by as_event given
  call_given i (event e) m = refl
  call_given i (once k bs) m = ap (λ (l : List Out). cond (eqb k i) l []) (single_told image k m bs)

  pub any_order : (m : Machine) (cs : List AnyCall) → after_calls image m cs ≡ after_run image m (as_events image m cs)
  unfolding after_calls as_events after_run
  any_order m [] = refl
  any_order m (c ∷ cs) =
      any_order (after_call image c m) cs ∙ ap (λ (x : Machine). after_run image x (as_events image (after_call image c m) cs)) (call_event c m)

  pub any_order_given : (i : ℕ) (m : Machine) (cs : List AnyCall) → given_calls image i m cs ≡ given_in image i m (as_events image m cs)
  unfolding given_calls as_events given_in
  any_order_given i m [] = refl
  any_order_given i m (c ∷ cs) =
      ap₂ ◌++◌ (call_given i c m)
      (any_order_given i (after_call image c m) cs ∙ ap (λ (x : Machine). given_in image i x (as_events image (after_call image c m) cs)) (call_event c m))
