-- THE ANSWERS ARE READ BACK: what takes and walks find fits the widths that the answer spells it in, so a reader of the bytes gets exactly
-- the PDUs, drops, starts and pieces that the call tells.
use Rattle.std.proofs.Common.{Result, Ok, Err}
use Prim.Native.Nat.{ℕ, zero, suc, ◌+◌, ◌-◌, ◌/◌, ◌≤◌, ◌<◌}
use mathlib.Core.Path.{◌≡◌, refl, sym, ap, ◌∙◌, subst}
use mathlib.Core.Bool.{Bool, true, false, cond, true≢false}
use mathlib.Core.List.{List, []}
use native.Mathlib.Nat.{zero-add}
use native.Mathlib.Omega.{arith}
use borrow.Author.Tests.{leb-true}
use lib.Dec.{eqb, leb, ltb}
use lib.ListN.{length, drop, length-drop}
use lib.Seq.{length-take-le}
use Rattle.reading.proofs.Reasons.{reason_small}
use Rattle.wire.proofs.Lay.{lay-length}
use Rattle.table_layout.specs.Layout.{body_of, part_of}
use Rattle.table_layout.specs.declared.Kind.TheVariants.{Route as RouteRows}
use Rattle.table_layout.proofs.Parts.{body-rows, part-fits}
use Rattle.table.specs.Accepts.{Accepts}
use Rattle.table.proofs.Facts.{accepted_facts}
use Rattle.reading.specs.declared.Decision.{Decision}
use Rattle.reading.specs.declared.Decision.TheVariants as Decided
use Rattle.reading.specs.Feed.{Routes, Cell, Out, nothing, pdu, dropped, start, piece, take_b}
use Rattle.reading_lengths.specs.Listed.{Bytes}
use Rattle.reading_lengths.specs.Head.{Head, ended, short, beyond, whole, head_of}
use Rattle.reading_lengths.proofs.Bytes.{bytes_drop}
use Rattle.reading_lengths.proofs.Heads.{whole-fits}
use Rattle.reading_walk.specs.Walk.{whole_at, walk_step, walk_at}
use Rattle.receive_part.specs.declared.Part.{Part}
use Rattle.receive_part.specs.declared.Part.TheVariants.{Header, Payload, Skip, Transfer}
use Rattle.receive_route.specs.Route.{rows_in, lookup_of}
use Rattle.receive_route.proofs.Decided.{route-accepted, route_transfers}
use Rattle.state.specs.declared.State.{State}
use Rattle.state.specs.State.{record_at}
use Rattle.state.specs.Fresh.{config_of}
use Rattle.state.specs.Memory.{stretch}
use Rattle.gate.specs.Lent.{Lent, Loan, sizes}
use Rattle.gate.proofs.Records.{row-routed, record-at}
use Rattle.receive_stream.specs.Stream.{cell_of, is_in_segment, id_of, take_outcome, took_of, taken_of, Limits}
use Rattle.receive_stream.proofs.Leaves.{PartHolds, Owns, Moves, Told, take_sane, part_sane, Sane}
use Rattle.receive_datagram.specs.declared.Outcome.TheVariants as Met
use Rattle.receive_datagram.specs.Datagram.{walked_of}
use Rattle.receive_datagram.specs.Datagram as met
use Rattle.entry_receive.specs.declared.NotReceived.TheVariants.{Refused, NotReceiving}
use Rattle.entry_receive.specs.Answer.{is_done}
use Rattle.entry_receive.specs.Segment.{Takes, stretch_at, take_on, memory_on, segment_answer, segment_of, memory_of, payload_of}
use Rattle.entry_receive.specs.Walk.{walk_on, none_walked, walk_answer, walk_of}
use Rattle.entry_receive.proofs.Answers.{Clear, done_clear}
use Rattle.entry_receive.proofs.Keeps.{in_range}
use Rattle.entry_receive.proofs.Past.{stretch-length, passed-takes}
use Rattle.entry_receive.proofs.Routed.{routed_owns}
use Rattle.event_decode.specs.declared.Call.{Call}
use Rattle.event_decode.specs.declared.BadCall.{BadCall}
use Rattle.event_decode.specs.declared.Call.TheVariants.{Ticks, Own, Lost, Segment, Walk}
use Rattle.event_decode.specs.declared.Call.TheVariants.{TakeWaiting, Datagram, Accept, Transmit, SwitchAll, ReadCount, ClearCount}
use Rattle.event_decode.specs.Calls.{call_of, bytes_from}
use Rattle.dispatch_receive.specs.Long.{longest_body}
use Rattle.dispatch_receive.specs.Segment.{lent_next, Progress, begun, take_at, memory_at, one_take, all_takes, event_bytes}
use Rattle.dispatch_receive.specs.Walk.{walked_bytes}
use Rattle.dispatch_receive.proofs.Room.{answer-is}
use Rattle.dispatch_receive.proofs.Run.{read-within, first-answer, count_fits}
use Rattle.dispatch.proofs.Calls.{Short, call_short, segment-fits, walk-fits}
use Rattle.model_refines.specs.Machine.{Machine, lent_to, loan_to}
use Rattle.model_refines.specs.Run.{told_walk}
use Rattle.dispatch_refines.specs.Spelt.{Spoken}
use Rattle.dispatch_refines.specs.Told.{Take, bytes_in, outs_in, next_take, takes_from, tells_of}
use Rattle.dispatch_refines.specs.Answer.{takes_over, takes_answer as answer_to, answer_of, answer_by}
use Rattle.dispatch_refines.specs.Read.{takes_read, segment_read, walk_read, call_read}
use Rattle.dispatch_refines.proofs.Answer.{takes_count}
use Rattle.dispatch_refines.proofs.Read.{TakeFits, more_back, done_back, refused_back, StepFits, walk-read_back}
use Rattle.dispatch_refines.proofs.Drops.{OutFits, sane_heads, take-fits as outs-fit, head_small}
use Rattle.entry_receive.specs.declared.NotReceived.{NotReceived}

-- ROUTE AND LENGTH of each PDU that is handed out: a row of the table, and no more than it allows; and a transfer's route
abbrev Within : ℕ → ℕ → Type 0
Within r n = (r < 64) × (n ≤ 1464)

abbrev Row : ℕ → Type 0
Row r = r < 64

few_rows : (routes : List ℕ) → rows_in routes ≤ 64
unfolding rows_in
few_rows routes = go (leb (length routes / 16) 64) refl
  where
    go : (b : Bool) → leb (length routes / 16) 64 ≡ b → cond b (length routes / 16) 64 ≤ 64
    go true e = leb-true (length routes / 16) 64 e
    go false e = omega arith

accepted-row : (routes : List ℕ) (k switches i n r : ℕ) → lookup_of routes k switches i n ≡ Decided.Accept r → r < 64
accepted-row routes k switches i n r e = omega (arith, (route-accepted routes k switches i n r e).bears.there, few_rows routes)

moved_row : (routes : List ℕ) (k switches i n r : ℕ) → lookup_of routes k switches i n ≡ Decided.Transfer r → Row r
moved_row routes k switches i n r e = omega (arith, (route_transfers routes k switches i n r e).bears.there, few_rows routes)

owned-small : (routes : List ℕ) (k : ℕ) (p : Part) → Limits routes → PartHolds (Owns routes k) (Moves routes k) p → PartHolds Within Row p
owned-small routes k (Header held value) limits o = tt
owned-small routes k (Payload route n held) limits o = (omega (arith, o.there, few_rows routes), omega (arith, o.allows, limits route))
owned-small routes k (Skip n) limits o = tt
owned-small routes k (Transfer route n) limits o = omega (arith, o.there, few_rows routes)

told_small : (o : Out) (c : Cell) → Told Within Row o c → (r : ℕ) (p : List ℕ) → o ≡ pdu r p → Within r (length p)
told_small nothing c t r p e = let z : ◌≡◌ {A = ℕ} 0 1 = cc in absurd (omega arith)
told_small (pdu r' p') c t r p e =
    let same : r' ≡ r = cc in
    let long : p' ≡ p = cc in
    (subst (λ (x : ℕ). x < 64) same t.1.0, subst (λ (l : List ℕ). length l ≤ 1464) long t.1.1)
told_small (dropped k i n) c t r p e = let z : ◌≡◌ {A = ℕ} 0 1 = cc in absurd (omega arith)
told_small (start q i n m) c t r p e = let z : ◌≡◌ {A = ℕ} 0 1 = cc in absurd (omega arith)
told_small (piece q l m) c t r p e = let z : ◌≡◌ {A = ℕ} 0 1 = cc in absurd (omega arith)

-- an outcome with such a PDU, or with a drop, a start or a piece that fits, fits, where the take read no further than a segment that is not
-- too long, and receive memory is as long as it is
outcome_fits : (ids : ℕ → ℕ) (s : Bool) (begins read : ℕ) (rest rx : List ℕ) (k : ℕ) (o : Out) → ((r : ℕ) (p : List ℕ) → o ≡ pdu r p → Within r (length p))
    → OutFits o → begins + read ≤ longest_body → length (stretch 1464 k rx) ≡ 1464
    → TakeFits begins (take_outcome ids s read o) (payload_of rest rx k (take_outcome ids s read o))
unfolding payload_of
outcome_fits ids s begins read rest rx k nothing small spelt within room = tt
outcome_fits ids true begins read rest rx k (pdu r p) small spelt within room =
    let h = small r p refl in (omega (arith, h.0), (omega (arith, h.1), omega (arith, within)))
outcome_fits ids false begins read rest rx k (pdu r p) small spelt within room =
    let h = small r p refl in
    let l : length (part_of (stretch 1464 k rx) 0 (length p)) ≡ length p =
    ap length (part-fits (stretch 1464 k rx) 0 (length p) (omega (arith, h.1, room)))
    ∙ length-take-le (length p) (drop 0 (stretch 1464 k rx)) (omega (arith, h.1, room)) in
    (omega (arith, h.0), (omega (arith, h.1), l))
outcome_fits ids s begins read rest rx k (dropped j i n) small spelt within room = spelt
outcome_fits ids s begins read rest rx k (start r i n m) small spelt within room = spelt
outcome_fits ids s begins read rest rx k (piece r p m) small spelt within room = (spelt.0, (spelt.1, omega (arith, within)))

-- A TAKE THAT IS DONE
module _ (start : Loan) (k : ℕ) (seg : List ℕ) (bytes : Bytes seg) (not_long : length seg ≤ longest_body) where
  module _ (l : Loan) (at : ℕ) (within : at ≤ length seg) (d : is_done (take_at l k seg at).answer ≡ true) where
    abbrev image : List ℕ
    image = l.image

    abbrev s : State
    s = l.state

    abbrev rx : List ℕ
    rx = l.rx

    abbrev rest : List ℕ
    rest = drop at seg

    abbrev routes : List ℕ
    routes = body_of image RouteRows

    abbrev R : Routes
    R = lookup_of routes k (record_at s k).switches

    abbrev part : Cell
    part = cell_of (record_at s k).part (stretch 1464 k rx)

    e : is_done (segment_answer (sizes l) k) ≡ true
    e = sym (answer-is l k rest) ∙ d

    clear : Clear (sizes l) k (config_of image k).tcp
    clear = done_clear (sizes l) k (config_of image k).tcp e

    takes : Takes image (record_at s k) rx k
    takes = passed-takes l k clear.passed clear.there

    few : length routes / 16 ≤ 64
    few =
        let facts : Accepts image = accepted_facts image clear.passed.table in
        omega (arith, body-rows image facts.laid RouteRows, facts.most RouteRows)

    held : PartHolds Within Row (record_at s k).part
    held =
        owned-small routes k (record_at s k).part takes.fit.limits
        (routed_owns routes k (record_at s k).part few
        (row-routed image k (record_at s k) (record-at image s.connections k clear.passed.sound (in_range s k clear.receives)) clear.there))

    decides : (i n r : ℕ) → R i n ≡ Decided.Accept r → Within r n
    decides i n r a =
        let allows = route-accepted routes k (record_at s k).switches i n r a in
        (accepted-row routes k (record_at s k).switches i n r a, omega (arith, allows.fits, takes.fit.limits r))

    moves : (i n r : ℕ) → R i n ≡ Decided.Transfer r → Row r
    moves i n r = moved_row routes k (record_at s k).switches i n r

    sane : Sane Within Row part
    sane = part_sane Within Row routes (record_at s k).part (stretch 1464 k rx) takes.fit held

    small : (r : ℕ) (p : List ℕ) → (take_b R part rest).out ≡ pdu r p → Within r (length p)
    small = told_small (take_b R part rest).out (take_b R part rest).to (take_sane Within Row R decides moves part rest (bytes_drop at seg bytes) sane).1

    spelt : OutFits (take_b R part rest).out
    spelt =
        outs-fit R (λ i n r e. omega (arith, moves i n r e)) part rest (bytes_drop at seg bytes)
        (omega (arith, not_long, length-drop at seg)) (sane_heads Within Row (λ r low. omega (arith, low)) part sane)

    outcome-is : (segment_of l k rest).outcome
        ≡ take_outcome (id_of routes) (is_in_segment part) (length rest - length (take_b R part rest).rest) (take_b R part rest).out
    unfolding segment_of take_on taken_of took_of
    outcome-is = rw e refl

    memory-long : length (memory_of l k rest) ≡ 23424
    unfolding memory_of memory_on
    memory-long = rw e (lay-length rx _ (stretch_at image s rx k rest) ∙ clear.passed.receive)

    pub take-fits : TakeFits at (take_at l k seg at).outcome (payload_of rest (memory_at l k seg at) k (take_at l k seg at).outcome)
    take-fits =
        subst (λ (o : _). TakeFits at o (payload_of rest (memory_of l k rest) k o)) (sym outcome-is)
        (outcome_fits (id_of routes) (is_in_segment part) at (length rest - length (take_b R part rest).rest) rest
        (memory_of l k rest) k (take_b R part rest).out small spelt
        (omega (arith, within, not_long, length-drop at seg)) (stretch-length k (memory_of l k rest) takes.small memory-long))

  -- THE TAKES, one after the other
  abbrev next : Progress → Progress
  next r = one_take start k seg r

  takes_back : (n : ℕ) (r : Progress) → r.at ≤ length seg
      → takes_read seg (length (takes_from start k seg n r)) (bytes_in (takes_from start k seg n r)) ≡ outs_in seg (takes_from start k seg n r)
  unfolding takes_from one_take takes_read bytes_in outs_in
  takes_back zero r within = more_back seg (is_done (next r).answer) false (next_take start k seg r) [] (take-fits (lent_next start k seg r) r.at within) refl
  takes_back (suc n) r within =
      more_back seg (is_done (next r).answer) (ltb (next r).at (length seg)) (next_take start k seg r)
      (takes_from start k seg n (next r)) (take-fits (lent_next start k seg r) r.at within)
      (takes_back n (next r) (omega (arith, within, read-within (lent_next start k seg r) k (drop r.at seg), length-drop r.at seg)))

  none-taken : (n : ℕ) (r : Progress) → is_done (next r).answer ≡ false → takes_from start k seg n r ≡ []
  unfolding takes_from
  none-taken zero r e = rw e refl
  none-taken (suc n) r e = rw e refl

-- A SEGMENT EVENT
segment-read : (l : Loan) (k : ℕ) (seg : List ℕ) → Bytes seg → length seg ≤ longest_body
    → segment_read seg (answer_to l k seg) ≡ outs_in seg (takes_over l k seg)
unfolding one_take outs_in
segment-read l k seg bytes not_long = go (all_takes l k seg).answer refl
  where
    ts : List Take
    ts = takes_over l k seg

    none : is_done (all_takes l k seg).answer ≡ false → ts ≡ []
    none e = none-taken l k seg bytes not_long (length seg) (begun l.state l.rx) (sym (ap is_done (first-answer l k seg bytes)) ∙ e)

    go : (a : Result Unit NotReceived) → (all_takes l k seg).answer ≡ a → segment_read seg (event_bytes a (length ts) (bytes_in ts)) ≡ outs_in seg ts
    go (Ok tt) e =
        done_back seg ts
        (omega (arith, zero-add (length ts), takes_count l k seg (length seg) (begun l.state l.rx) (ap is_done e), count_fits l k seg not_long))
        (takes_back l k seg bytes not_long (length seg) (begun l.state l.rx) (omega arith))
    go (Err (Refused r)) e = refused_back seg (Err (Refused r)) (length ts) (bytes_in ts) refl ∙ sym (ap (outs_in seg) (none (ap is_done e)))
    go (Err NotReceiving) e = refused_back seg (Err NotReceiving) (length ts) (bytes_in ts) refl ∙ sym (ap (outs_in seg) (none (ap is_done e)))

-- A WALK
walk-read : (l : Lent) (k : ℕ) (datagram : List ℕ) (place : ℕ) → Bytes datagram → length datagram ≤ longest_body
    → walk_read datagram (walked_bytes (walk_of l k datagram place)) ≡ told_walk datagram (walk_of l k datagram place).outcome
unfolding walk_of walk_on walked_of walk_at
walk-read l k datagram place bytes not_long = go (is_done (walk_answer l k datagram place))
  where
    R : Routes
    R = lookup_of (body_of l.image RouteRows) k (record_at l.state k).switches

    pdu-fits : (r i n : ℕ) → Row r → head_of (drop place datagram) ≡ whole i n → StepFits (Met.Pdu r i (place + 8) n)
    pdu-fits r i n low e =
        let w = whole-fits (drop place datagram) i n e in
        let d = length-drop place datagram in
        (omega (arith, low), (omega (arith, not_long, w, d), omega (arith, not_long, w, d)))

    decided : (d : Decision) (i n : ℕ) → R i n ≡ d → head_of (drop place datagram) ≡ whole i n → StepFits (met.walk_outcome (whole_at d place i n).found)
    decided (Decided.Accept r) i n a e = pdu-fits r i n (accepted-row (body_of l.image RouteRows) k (record_at l.state k).switches i n r a) e
    decided (Decided.Transfer r) i n a e = pdu-fits r i n (moved_row (body_of l.image RouteRows) k (record_at l.state k).switches i n r a) e
    decided (Decided.Refuse j) i n a e =
        let h = head_small (drop place datagram) (bytes_drop place datagram bytes) (whole i n) e in
        (reason_small j, (h.0, h.1))

    fits : (h : Head) → head_of (drop place datagram) ≡ h → StepFits (met.walk_outcome (walk_step R (length datagram) place h).found)
    fits ended e = tt
    fits short e = (omega arith, (omega arith, omega arith))
    fits (beyond i n) e = let h = head_small (drop place datagram) (bytes_drop place datagram bytes) (beyond i n) e in (omega arith, (h.0, h.1))
    fits (whole i n) e = decided (R i n) i n refl e

    go : (b : Bool)
        → walk_read datagram (walked_bytes (cond b (walk_on l.image l.state k datagram place) (none_walked l.state place (walk_answer l k datagram place))))
        ≡ told_walk datagram (cond b (walk_on l.image l.state k datagram place) (none_walked l.state place (walk_answer l k datagram place))).outcome
    go true =
        walk-read_back datagram (Ok tt) (walk_on l.image l.state k datagram place).next
        (walk_on l.image l.state k datagram place).outcome (fits (head_of (drop place datagram)) refl) (λ z. absurd (true≢false z))
    go false = walk-read_back datagram (walk_answer l k datagram place) place Met.End tt (λ z. refl)

-- THE ANSWER OF A CALL, whose body is bytes: reading it gives exactly what the call tells
call-read : (image : List ℕ) (k : ℕ) (m : Machine) (body : List ℕ) (call : Result Call BadCall) → Bytes body → Short body call
    → call_read k body call (answer_of (loan_to image m) body call) ≡ tells_of image k m body call
unfolding call_read answer_of tells_of
call-read image k m body (Err bad) bytes h = refl
call-read image k m body (Ok (Ticks n)) bytes h = refl
call-read image k m body (Ok (Own c e)) bytes h = refl
call-read image k m body (Ok (Lost c)) bytes h = refl
call-read image k m body (Ok (Segment c at)) bytes h =
    ap (λ (l : List Out). cond (eqb c k) l []) (segment-read (loan_to image m) c (bytes_from body at) (bytes_drop at body bytes) (segment-fits body c at h))
call-read image k m body (Ok (Walk c place at)) bytes h =
    ap (λ (l : List Out). cond (eqb c k) l [])
    (walk-read (lent_to image m) c (bytes_from body at) place (bytes_drop at body bytes) (walk-fits body c place at h))
call-read image k m body (Ok (TakeWaiting c n)) bytes h = refl
call-read image k m body (Ok (Datagram group source)) bytes h = refl
call-read image k m body (Ok (Accept group source)) bytes h = refl
call-read image k m body (Ok (Transmit number at)) bytes h = refl
call-read image k m body (Ok (SwitchAll number position)) bytes h = refl
call-read image k m body (Ok (ReadCount protocol)) bytes h = refl
call-read image k m body (Ok (ClearCount protocol)) bytes h = refl

pub answers-read : (image : List ℕ) (k : ℕ) (m : Machine) (c : Spoken) → Bytes c.body
    → call_read k c.body (call_of c.number c.body) (answer_by image m c) ≡ tells_of image k m c.body (call_of c.number c.body)
answers-read image k m c bytes = call-read image k m c.body (call_of c.number c.body) bytes (call_short c.number c.body)
