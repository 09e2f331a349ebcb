-- THE WHOLE ANSWER OF A SEGMENT EVENT FITS: whatever the takes find, it has no more bytes than `answer_room` says, and an out buffer that is
-- not refused has so many; and no more than `plain_room` where no route is marked. A take after another is never refused. And what is
-- refused for its length.
use Rattle.std.proofs.Common.{Result, Ok, Err}
use Prim.Native.Nat.{ℕ, zero, suc, ◌+◌, ◌-◌, ◌*◌, ◌/◌, ◌≤◌, ◌<◌}
use mathlib.Core.Path.{◌≡◌, refl, sym, ap, ap₂, ◌∙◌, subst}
use mathlib.Core.Bool.{Bool, true, false, cond, not, false≢true}
use mathlib.Core.List.{List}
use native.Mathlib.Omega.{arith}
use lib.Dec.{eqb, leb, ltb}
use lib.ListN.{length, get_or, drop, length-drop, length-append}
use lib.Seq.{get_or-set_same}
use borrow.Author.Tests.{leb-false, ltb-true, lt-ltb, le-ltb}
use Rattle.lists.proofs.Both.{and_left, and_right, and3}
use Rattle.lists.proofs.Search.{every-at}
use Rattle.wire.specs.Lay.{spell}
use Rattle.wire.proofs.Spell.{length-spell}
use Rattle.table_layout.specs.Layout.{body_of}
use Rattle.table_layout.specs.declared.Kind.TheVariants.{Route as RouteRows}
use Rattle.table_rows.specs.Rows.{route_in}
use Rattle.reading.specs.Feed.{Routes, Cell, take_b}
use Rattle.reading.proofs.Cut.{take_less}
use Rattle.reading_lengths.specs.Listed.{Bytes}
use Rattle.reading_lengths.proofs.Bytes.{bytes_drop}
use Rattle.connection.specs.declared.Connection.{Connection}
use Rattle.connection.specs.Connection.{zero_record, with_part}
use Rattle.connection.specs.Event.{refusal_number}
use Rattle.state.specs.declared.State.{State}
use Rattle.state.specs.State.{record_at, with_record}
use Rattle.state.specs.Fresh.{config_of}
use Rattle.receive_part.specs.declared.Part.{Part}
use Rattle.receive_part.specs.declared.Part.TheVariants.{Header, Payload, Skip, Transfer}
use Rattle.receive_part.specs.Part.{transferring}
use Rattle.receive_route.specs.Route.{rows_in, lookup_of}
use Rattle.receive_route.proofs.Decided.{route_transfers}
use Rattle.gate.specs.Lent.{Lent, Loan, sizes, received}
use Rattle.gate.specs.Sound.{routed}
use Rattle.gate.proofs.Pass.{passed_gate_at}
use Rattle.gate.proofs.Records.{row-routed, record-at}
use Rattle.receive_stream.specs.Stream.{cell_of, id_of, took_of, taken_of}
use Rattle.state.specs.Memory.{stretch}
use Rattle.entry_receive.specs.declared.NotReceived.TheVariants.{Refused, NotReceiving}
use Rattle.entry_receive.specs.declared.SegmentTaken.{SegmentTaken}
use Rattle.entry_receive.specs.Answer.{is_done, judged_of, judged_answer}
use Rattle.entry_receive.specs.Segment.{taken_at, take_on, memory_on, none_taken, segment_answer, segment_of, memory_of, payload_of}
use Rattle.entry_receive.proofs.Answers.{Clear, done_clear}
use Rattle.entry_receive.proofs.Keeps.{in_range, count-records, take_clear}
use Rattle.event_answer.specs.declared.NoAnswer.TheVariants.{Unfit, Small}
use Rattle.event_answer.specs.Answers.{Effect, untouched, room, done_with}
use Rattle.event_answer.proofs.Chain.{length_found}
use Rattle.event_answer.proofs.Short.{no_room, room_keeps}
use Rattle.dispatch_receive.specs.Long.{longest_body, too_long, if_fits}
use Rattle.dispatch_receive.specs.Walk.{walked_effect, walk_effect}
use Rattle.dispatch_receive.specs.Segment.{lent_next, take_bytes, bytes_if_done, Progress, begun, take_at, memory_at, bytes_at, one_take}
use Rattle.dispatch_receive.specs.Segment.{take_follows, takes_up_to, all_takes, event_bytes, takes_effect, answer_room, none_marked, plain_room}
use Rattle.dispatch_receive.specs.Segment.{segment_effect}
use Rattle.dispatch_receive.proofs.Size.{NoneMarked, Pays, whole, most, most-all, most_least, spent_within, spent_goes}
use Rattle.entry_receive.specs.declared.NotReceived.{NotReceived}
use Rattle.event_answer.specs.Answers.{Verdict}

-- what nothing refuses is done
clear_done : (l : Lent) (k : ℕ) (allowed : Bool) → Clear l k allowed → is_done (judged_answer l k allowed) ≡ true
unfolding judged_answer judged_of
clear_done l k allowed c = rw (passed_gate_at l k c.passed c.there, c.allows, c.receives) refl

bytes_of-within : (a : Result Unit NotReceived) (x : List ℕ) → length (bytes_if_done a x) ≤ length x
bytes_of-within (Ok tt) x = omega arith
bytes_of-within (Err (Refused r)) x = omega arith
bytes_of-within (Err NotReceiving) x = omega arith

rows-within : (routes : List ℕ) → rows_in routes ≤ length routes / 16
unfolding rows_in
rows-within routes = go (leb (length routes / 16) 64) refl
  where
    go : (b : Bool) → leb (length routes / 16) 64 ≡ b → cond b (length routes / 16) 64 ≤ length routes / 16
    go true e = omega arith
    go false e = omega (arith, leb-false (length routes / 16) 64 e)

-- WHAT A BYTE OF THE SEGMENT PAYS under an image, in ninths: 32; and 27 where no route of it is marked
pub data Rate (image : List ℕ) : ℕ → Type 0 where
  any : Rate image 32
  plain : none_marked image ≡ true → Rate image 27

module _ (image : List ℕ) (none : none_marked image ≡ true) where
  abbrev routes : List ℕ
  routes = body_of image RouteRows

  unmarked-at : (r : ℕ) → r < length routes / 16 → (route_in routes r).transfer ≡ true → ⊥
  unfolding none_marked
  unmarked-at r h e =
      false≢true (ap not (sym e) ∙ every-at (λ (i : ℕ). not (route_in routes i).transfer) (length routes / 16) r none h)

  none_given : (k switches : ℕ) → NoneMarked (lookup_of routes k switches)
  none_given k switches i n r e =
      let t = route_transfers routes k switches i n r e in
      unmarked-at r (omega (arith, t.bears.there, rows-within routes)) t.marked

  none_runs : (k : ℕ) (p : Part) → routed routes k p ≡ true → transferring p ≡ false
  none_runs k (Header held value) h = refl
  none_runs k (Payload route n held) h = refl
  none_runs k (Skip n) h = refl
  none_runs k (Transfer route left) h =
      let t = and3 (ltb route (length routes / 16)) (eqb (route_in routes route).connection k) (route_in routes route).transfer h in
      absurd (unmarked-at route (ltb-true route (length routes / 16) t.0) t.2)

-- ONE TAKE over what is left of the segment
module _ (l : Loan) (k : ℕ) (seg : List ℕ) where
  abbrev image : List ℕ
  image = l.image

  abbrev s : State
  s = l.state

  abbrev rx : List ℕ
  rx = l.rx

  abbrev answer : Result Unit NotReceived
  answer = segment_answer (sizes l) k

  abbrev bytes_from : ℕ → List ℕ → SegmentTaken → List ℕ
  bytes_from from m t = bytes_if_done t.answer (take_bytes from t.read t.outcome (payload_of seg m k t.outcome))

  pub taken_is : is_done answer ≡ true → segment_of l k seg ≡ take_on image s rx k seg
  unfolding segment_of
  taken_is e = rw e

  pub memory-is : is_done answer ≡ true → memory_of l k seg ≡ memory_on image s rx k seg
  unfolding memory_of
  memory-is e = rw e

  pub none_is : is_done answer ≡ false → segment_of l k seg ≡ none_taken s answer
  unfolding segment_of
  none_is e = rw e

  pub memory-stays : is_done answer ≡ false → rx ≡ memory_of l k seg
  unfolding memory_of
  memory-stays e = rw e

  -- its answer is the gate's
  pub answer-is : is_done (segment_of l k seg).answer ≡ is_done answer
  unfolding take_on
  answer-is = go (is_done answer) refl
    where
      go : (b : Bool) → is_done answer ≡ b → is_done (segment_of l k seg).answer ≡ is_done answer
      go true e = ap (λ (t : SegmentTaken). is_done t.answer) (taken_is e) ∙ sym e
      go false e = ap (λ (t : SegmentTaken). is_done t.answer) (none_is e)

  on-within : (from : ℕ) (m : List ℕ) → 9 * length (bytes_from from m (take_on image s rx k seg)) ≤ most (record_at s k).part
  unfolding take_on taken_of took_of
  on-within from m =
      spent_within from (length seg - length
      (take_b (lookup_of (body_of image RouteRows) k (record_at s k).switches) (cell_of (record_at s k).part (stretch 1464 k rx)) seg).rest) seg m k
      (lookup_of (body_of image RouteRows) k (record_at s k).switches) (id_of (body_of image RouteRows)) (stretch 1464 k rx) (record_at s k).part

  none_within : (from : ℕ) (m : List ℕ) → 9 * length (bytes_from from m (none_taken s answer)) ≤ most (record_at s k).part
  none_within from m = omega (
    arith,
    bytes_of-within answer (take_bytes from 0 (none_taken s answer).outcome (payload_of seg m k (none_taken s answer).outcome)),
    length_found 0 0 0 0 0,
    most_least (record_at s k).part,
  )

  pub take_within : (from : ℕ) (m : List ℕ) → 9 * length (bytes_from from m (segment_of l k seg)) ≤ most (record_at s k).part
  take_within from m = go (is_done answer) refl
    where
      go : (b : Bool) → is_done answer ≡ b → 9 * length (bytes_from from m (segment_of l k seg)) ≤ most (record_at s k).part
      go true e = subst (λ (t : SegmentTaken). 9 * length (bytes_from from m t) ≤ most (record_at s k).part) (sym (taken_is e)) (on-within from m)
      go false e = subst (λ (t : SegmentTaken). 9 * length (bytes_from from m t) ≤ most (record_at s k).part) (sym (none_is e)) (none_within from m)

  -- the record's part after it
  part-after : is_done answer ≡ true → (record_at (take_on image s rx k seg).state k).part ≡ (taken_at image s rx k seg).part
  unfolding take_on
  part-after e =
      ap (λ (cs : List Connection). (get_or cs k zero_record).part)
      (count-records (taken_at image s rx k seg).outcome (with_record k (with_part (taken_at image s rx k seg).part (record_at s k)) s))
      ∙ ap (λ (c : Connection). c.part) (get_or-set_same s.connections k (with_part (taken_at image s rx k seg).part (record_at s k)) zero_record
      (in_range s k (done_clear (sizes l) k (config_of image k).tcp e).receives))

  -- what a byte pays, where the gate has passed: in a sound state a transfer has a marked route
  pays_here : {pay : ℕ} → Rate image pay → is_done answer ≡ true → Pays (lookup_of (body_of image RouteRows) k (record_at s k).switches)
      (record_at s k).part pay
  pays_here Rate.any e = Pays.any
  pays_here (plain none) e =
      let c = done_clear (sizes l) k (config_of image k).tcp e in
      whole (none_given image none k (record_at s k).switches)
      (none_runs image none k (record_at s k).part
      (row-routed image k (record_at s k) (record-at image s.connections k c.passed.sound (in_range s k c.receives)) c.there))

  -- where it left bytes there is enough for the next
  on-goes : {pay : ℕ} (from : ℕ) (m : List ℕ) → Rate image pay → is_done answer ≡ true → (take_on image s rx k seg).read < length seg
      → 9 * length (bytes_from from m (take_on image s rx k seg)) + most
      (record_at (take_on image s rx k seg).state k).part + pay * (length seg - (take_on image s rx k seg).read)
      ≤ most (record_at s k).part + pay * length seg
  unfolding take_on taken_of took_of
  on-goes {pay} from m rate e h =
      let R : Routes = lookup_of (body_of image RouteRows) k (record_at s k).switches in
      let c : Cell = cell_of (record_at s k).part (stretch 1464 k rx) in
      let left : length seg - (length seg - length (take_b R c seg).rest) ≡ length (take_b R c seg).rest = omega (arith, take_less R c seg) in
      omega (
        arith,
        ap most (part-after e),
        ap (λ (n : ℕ). pay * n) left,
        spent_goes from (length seg - length (take_b R c seg).rest) seg m k R (id_of (body_of image RouteRows))
            (stretch 1464 k rx) (record_at s k).part (pays_here rate e) (omega arith),
      )

  pub take-goes : {pay : ℕ} (from : ℕ) (m : List ℕ) → Rate image pay → is_done (segment_of l k seg).answer ≡ true → (segment_of l k seg).read < length seg
      → 9 * length (bytes_from from m (segment_of l k seg)) + most (record_at (segment_of l k seg).state k).part + pay *
      (length seg - (segment_of l k seg).read)
      ≤ most (record_at s k).part + pay * length seg
  take-goes {pay} from m rate d =
      let e : is_done answer ≡ true = sym answer-is ∙ d in
      subst (λ (t : SegmentTaken). t.read < length seg
      → 9 * length (bytes_from from m t) + most (record_at t.state k).part + pay * (length seg - t.read) ≤ most (record_at s k).part + pay * length seg)
      (sym (taken_is e)) (on-goes from m rate e)

  -- the next take is not refused
  pub take_next : Bytes seg → is_done (segment_of l k seg).answer ≡ true
      → is_done (segment_answer (sizes (received l (segment_of l k seg).state (memory_of l k seg))) k) ≡ true
  take_next bytes d =
      let e : is_done answer ≡ true = sym answer-is ∙ d in
      ap (λ (t : SegmentTaken). is_done (segment_answer (sizes (received l t.state (memory_of l k seg))) k)) (taken_is e)
      ∙ ap (λ (m : List ℕ). is_done (segment_answer (sizes (received l (take_on image s rx k seg).state m)) k)) (memory-is e)
      ∙ clear_done (sizes (received l (take_on image s rx k seg).state (memory_on image s rx k seg))) k (config_of image k).tcp
      (take_clear l k seg bytes (done_clear (sizes l) k (config_of image k).tcp e))

-- THE TAKES OF AN EVENT
module _ (l : Loan) (k : ℕ) (segment : List ℕ) (at : ℕ) where
  pub bytes-within : 9 * length (bytes_at l k segment at) ≤ most (record_at l.state k).part
  unfolding bytes_at
  bytes-within = take_within l k (drop at segment) at (memory_at l k segment at)

  pub bytes_go : {pay : ℕ} → Rate l.image pay → is_done (take_at l k segment at).answer ≡ true → at + (take_at l k segment at).read < length segment
      → 9 * length (bytes_at l k segment at) + most (record_at (take_at l k segment at).state k).part + pay *
      (length segment - (at + (take_at l k segment at).read))
      ≤ most (record_at l.state k).part + pay * (length segment - at)
  unfolding bytes_at
  bytes_go {pay} rate d h =
      let e = length-drop at segment in
      let left : length (drop at segment) - (take_at l k segment at).read ≡ length segment - (at + (take_at l k segment at).read) = omega arith in
      omega (
        arith,
        take-goes l k (drop at segment) at (memory_at l k segment at) rate d (omega arith),
        ap (λ (n : ℕ). pay * n) left,
        ap (λ (n : ℕ). pay * n) e,
      )

  pub bytes_next : Bytes segment → is_done (take_at l k segment at).answer ≡ true
      → is_done (segment_answer (sizes (received l (take_at l k segment at).state (memory_at l k segment at))) k) ≡ true
  bytes_next bytes = take_next l k (drop at segment) (bytes_drop at segment bytes)

module _ (l : Loan) (k : ℕ) (segment : List ℕ) where
  -- from anywhere on
  run_fits : {pay : ℕ} → Rate l.image pay → (n : ℕ) (r : Progress)
      → 9 * length (takes_up_to l k segment n r).bytes ≤ 9 * length r.bytes + most (record_at r.state k).part + pay * (length segment - r.at)
  unfolding takes_up_to one_take
  run_fits rate zero r = omega
      (arith, length-append r.bytes (bytes_at (lent_next l k segment r) k segment r.at), bytes-within (lent_next l k segment r) k segment r.at)
  run_fits {pay} rate (suc n) r = go (take_follows l k segment (one_take l k segment r)) refl (run_fits rate n (one_take l k segment r))
    where
      go : (b : Bool) → take_follows l k segment (one_take l k segment r) ≡ b
          → 9 * length (takes_up_to l k segment n (one_take l k segment r)).bytes
          ≤ 9 * length (one_take l k segment r).bytes + most
          (record_at (one_take l k segment r).state k).part + pay * (length segment - (one_take l k segment r).at)
          → 9 * length (cond b (takes_up_to l k segment n (one_take l k segment r)) (one_take l k segment r)).bytes
          ≤ 9 * length r.bytes + most (record_at r.state k).part + pay * (length segment - r.at)
      go true e h =
          omega (
            arith,
            h,
            length-append r.bytes (bytes_at (lent_next l k segment r) k segment r.at),
            bytes_go (lent_next l k segment r) k segment r.at rate
                (and_left (is_done (take_at (lent_next l k segment r) k segment r.at).answer)
                (ltb (r.at + (take_at (lent_next l k segment r) k segment r.at).read) (length segment)) e)
                (ltb-true (r.at + (take_at (lent_next l k segment r) k segment r.at).read) (length segment)
                (and_right (is_done (take_at (lent_next l k segment r) k segment r.at).answer)
                (ltb (r.at + (take_at (lent_next l k segment r) k segment r.at).read) (length segment)) e)),
          )
      go false e h = omega (
        arith,
        length-append r.bytes (bytes_at (lent_next l k segment r) k segment r.at),
        bytes-within (lent_next l k segment r) k segment r.at,
      )

  -- THE WHOLE ANSWER, of any takes; and where no route is marked
  pub takes-fit : 4 + length (all_takes l k segment).bytes ≤ answer_room segment
  takes-fit = omega (arith, run_fits any (length segment) (begun l.state l.rx), most-all (record_at l.state k).part)

  plain-takes : none_marked l.image ≡ true → 4 + length (all_takes l k segment).bytes ≤ plain_room segment
  plain-takes none = omega (arith, run_fits (plain none) (length segment) (begun l.state l.rx), most-all (record_at l.state k).part)

  event_size : (room : ℕ) (a : Result Unit NotReceived) (count : ℕ) (bytes : List ℕ) → 6 ≤ room → 4 + length bytes ≤ room
      → length (event_bytes a count bytes) ≤ room
  event_size room (Ok tt) count bytes six h =
      omega (arith, h, length-append (done_with 2 count) bytes, length-append (spell 2 0) (spell 2 count), length-spell 2 0, length-spell 2 count)
  event_size room (Err (Refused r)) count bytes six h =
      omega (arith, six, length-append (spell 2 (refusal_number r)) (spell 4 0), length-spell 2 (refusal_number r), length-spell 4 0)
  event_size room (Err NotReceiving) count bytes six h = omega (arith, six, length-append (spell 2 4) (spell 4 0), length-spell 2 4, length-spell 4 0)

  abbrev whole-bytes : List ℕ
  whole-bytes = event_bytes (all_takes l k segment).answer (all_takes l k segment).count (all_takes l k segment).bytes

  pub event-fits : length whole-bytes ≤ answer_room segment
  event-fits = event_size _ (all_takes l k segment).answer (all_takes l k segment).count (all_takes l k segment).bytes (omega arith) takes-fit

  pub plain_fits : none_marked l.image ≡ true → length whole-bytes ≤ plain_room segment
  plain_fits none = event_size _ (all_takes l k segment).answer (all_takes l k segment).count (all_takes l k segment).bytes (omega arith) (plain-takes none)

  -- an out buffer that is long enough has room for it
  pub answer-fits : length segment ≤ longest_body → answer_room segment ≤ room
  answer-fits short = omega (arith, short)

-- WHAT IS REFUSED: an out buffer that is too short, and then bytes that are too long; nothing else
module _ (l : Loan) (out bytes : List ℕ) (e : Effect) where
  abbrev judged : Bool → Bool → Effect
  judged small long = cond small (untouched (Err Small) l.state l.rx l.tx out) (cond long (untouched (Err Unfit) l.state l.rx l.tx out) e)

  pub fits-is : room ≤ length out → length bytes ≤ longest_body → if_fits l out bytes e ≡ e
  fits-is roomy short = ap₂ judged (le-ltb (length out) room roomy) (le-ltb longest_body (length bytes) short)

  pub long-is : room ≤ length out → longest_body < length bytes → if_fits l out bytes e ≡ untouched (Err Unfit) l.state l.rx l.tx out
  long-is roomy long = ap₂ judged (le-ltb (length out) room roomy) (lt-ltb longest_body (length bytes) long)

  -- what the event leaves as it was, a refusal does
  pub fits_keeps : {A : Type 0} (f : Effect → A) (x : A)
      → ((v : Verdict) → x ≡ f (untouched v l.state l.rx l.tx out)) → x ≡ f e → x ≡ f (if_fits l out bytes e)
  fits_keeps f x refusing h = room_keeps l.state l.rx l.tx out _ f x (refusing (Err Small)) (go (too_long bytes))
    where
      go : (long : Bool) → x ≡ f (judged false long)
      go true = refusing (Err Unfit)
      go false = h

-- .. of a segment
module _ (l : Loan) (out : List ℕ) (k : ℕ) (segment : List ℕ) where
  abbrev taken : Effect
  taken = takes_effect (all_takes l k segment) l.tx out

  pub segment-small : length out < room → segment_effect l out k segment ≡ untouched (Err Small) l.state l.rx l.tx out
  unfolding segment_effect
  segment-small small = no_room l.state l.rx l.tx out _ small

  pub segment-long : room ≤ length out → longest_body < length segment → segment_effect l out k segment ≡ untouched (Err Unfit) l.state l.rx l.tx out
  unfolding segment_effect
  segment-long roomy long = long-is l out segment taken roomy long

  pub segment-roomy : room ≤ length out → length segment ≤ longest_body → segment_effect l out k segment ≡ taken
  unfolding segment_effect
  segment-roomy roomy short = fits-is l out segment taken roomy short

  -- refused or not, send memory stays
  pub segment-sent : l.tx ≡ (segment_effect l out k segment).tx
  unfolding segment_effect
  segment-sent = fits_keeps l out segment taken (λ (e : Effect). e.tx) l.tx (λ v. refl) refl

-- .. of a datagram
module _ (l : Loan) (out : List ℕ) (k place : ℕ) (datagram : List ℕ) where
  abbrev walked : Effect
  walked = walked_effect l out k place datagram

  pub walk-small : length out < room → walk_effect l out k place datagram ≡ untouched (Err Small) l.state l.rx l.tx out
  unfolding walk_effect
  walk-small small = no_room l.state l.rx l.tx out _ small

  pub walk-long : room ≤ length out → longest_body < length datagram → walk_effect l out k place datagram ≡ untouched (Err Unfit) l.state l.rx l.tx out
  unfolding walk_effect
  walk-long roomy long = long-is l out datagram walked roomy long

  pub walk-short : room ≤ length out → length datagram ≤ longest_body → walk_effect l out k place datagram ≡ walked
  unfolding walk_effect
  walk-short roomy short = fits-is l out datagram walked roomy short

  -- refused or not, both memories stay
  pub walk_kept : (l.rx ≡ (walk_effect l out k place datagram).rx) × (l.tx ≡ (walk_effect l out k place datagram).tx)
  unfolding walk_effect
  walk_kept = (
    fits_keeps l out datagram walked (λ (e : Effect). e.rx) l.rx (λ v. refl) refl,
    fits_keeps l out datagram walked (λ (e : Effect). e.tx) l.tx (λ v. refl) refl,
  )
