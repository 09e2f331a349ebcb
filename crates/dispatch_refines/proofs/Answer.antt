-- THE ANSWER THAT STANDS IN THE OUT BUFFER IS NAMED: where the dispatcher says that n bytes are written, they are all n bytes of the call's
-- answer, and every byte behind them is as it was.
use Rattle.std.proofs.Common.{Result, Ok, Err}
use Prim.Native.Nat.{ℕ, zero, suc, ◌+◌, ◌≤◌}
use mathlib.Core.Path.{◌≡◌, refl, sym, ap, ap₂, ◌∙◌, subst}
use mathlib.Core.Bool.{Bool, true, false, cond, ◌&&◌, false≢true}
use mathlib.Core.List.{List, [], ◌++◌}
use native.Mathlib.Nat.{zero-add}
use native.Mathlib.Omega.{arith}
use borrow.Author.Tests.{ltb-false, le-ltb}
use lib.Dec.{ltb}
use lib.ListN.{length, drop, take, replicate}
use Rattle.wire.specs.Lay.{lay}
use Rattle.wire.proofs.Lay.{lay-fits}
use Rattle.entry_receive.specs.declared.NotReceived.TheVariants as Received
use Rattle.entry_receive.specs.Answer.{is_done}
use Rattle.entry_receive.specs.Walk.{walk_of}
use Rattle.entry_events.specs.Change.{event_of, loss_of}
use Rattle.entry_events.specs.Module.{switch_all_of}
use Rattle.entry_events.specs.Count.{read_of, clear_of}
use Rattle.entry_ticks.specs.Tick.{ticks_event}
use Rattle.entry_arrivals.specs.Arrivals.{datagram_of, accept_of}
use Rattle.event_decode.specs.declared.Call.{Call}
use Rattle.event_decode.specs.declared.BadCall.{BadCall}
use Rattle.event_decode.specs.declared.BadCall.TheVariants.{Unknown, Unfit}
use Rattle.event_decode.specs.declared.Call.TheVariants.{Ticks, Own, Lost, Segment, Walk}
use Rattle.event_decode.specs.declared.Call.TheVariants.{TakeWaiting, Datagram, Accept, Transmit, SwitchAll, ReadCount, ClearCount}
use Rattle.event_decode.specs.Calls.{call_of, bytes_from}
use Rattle.event_answer.specs.declared.NoAnswer.TheVariants.{Small}
use Rattle.event_answer.specs.Answers.{Effect, answers, untouched, room, if_room}
use Rattle.event_answer.proofs.Short.{with-room}
use Rattle.dispatch_events.specs.Events.{told_effect, loss_effect, ticked, counted_effect, own_effect}
use Rattle.dispatch_events.specs.Events.{lost_effect, ticks_effect, switch_all_effect, read_effect, clear_effect}
use Rattle.dispatch_receive.specs.Long.{longest_body}
use Rattle.dispatch_receive.specs.Walk.{walked_bytes}
use Rattle.dispatch_receive.specs.Segment.{Progress, begun, one_take, takes_up_to, all_takes, event_bytes, segment_effect}
use Rattle.dispatch_receive.proofs.Room.{segment-roomy, walk-short}
use Rattle.dispatch_send.specs.Send.{room_of, arrived_effect, datagram_effect, accept_effect, sent_effect, transmit_effect, take_into, take_effect}
use Rattle.dispatch.specs.Dispatch.{effect_of, dispatch_of}
use Rattle.dispatch.specs.Whole.{StandsWhole, answer, unknown, unfit, small}
use Rattle.dispatch.proofs.Calls.{Short, call_short, segment-fits, walk-fits}
use Rattle.dispatch.proofs.Whole.{answer-whole}
use Rattle.model_refines.specs.Machine.{Machine, loan_to}
use Rattle.dispatch_refines.specs.Spelt.{Spoken}
use Rattle.dispatch_refines.specs.Told.{Take, bytes_in, next_take, took_then, takes_from}
use Rattle.dispatch_refines.specs.Answer.{takes_over, takes_answer, answer_of, answer_by}
use Rattle.gate.specs.Lent.{Loan, sizes}
use Rattle.dispatch_refines.proofs.Takes.{segment-bytes}
use Rattle.entry_receive.specs.declared.NotReceived.{NotReceived}
use Rattle.event_answer.specs.Answers.{Verdict, no_answer}

-- THE NUMBER OF TAKES in an answer that is no refusal is that of the takes that it tells
last_counts : (done : Bool) (t : Take) (ts : List Take) → done ≡ true → 1 ≡ length (took_then done false t ts)
last_counts true t ts e = refl
last_counts false t ts e = absurd (false≢true e)

more-counts : (done left : Bool) (x y : Progress) (c : ℕ) (t : Take) (ts : List Take)
    → is_done y.answer ≡ done → is_done (cond (done && left) x y).answer ≡ true
    → y.count ≡ c + 1 → (is_done x.answer ≡ true → x.count ≡ y.count + length ts)
    → (cond (done && left) x y).count ≡ c + length (took_then done left t ts)
more-counts true true x y c t ts same d e h = omega (arith, h d, e)
more-counts true false x y c t ts same d e h = e
more-counts false left x y c t ts same d e h = absurd (false≢true (sym same ∙ d))

module _ (l : Loan) (k : ℕ) (seg : List ℕ) where
  abbrev next : Progress → Progress
  next r = one_take l k seg r

  pub takes_count : (n : ℕ) (r : Progress) → is_done (takes_up_to l k seg n r).answer ≡ true
      → (takes_up_to l k seg n r).count ≡ r.count + length (takes_from l k seg n r)
  unfolding takes_up_to one_take takes_from
  takes_count zero r d = ap (λ (n : ℕ). r.count + n) (last_counts (is_done (next r).answer) (next_take l k seg r) [] d)
  takes_count (suc n) r d =
      more-counts (is_done (next r).answer) (ltb (next r).at (length seg)) (takes_up_to l k seg n (next r)) (next r) r.count (next_take l k seg r)
      (takes_from l k seg n (next r)) refl d refl (takes_count n (next r))

  -- the answer of a segment event
  event-named : (a : Result Unit NotReceived) (count : ℕ) (bytes : List ℕ) (ts : List Take) → (is_done a ≡ true → count ≡ length ts) → bytes ≡ bytes_in ts
      → event_bytes a count bytes ≡ event_bytes a (length ts) (bytes_in ts)
  event-named (Ok tt) count bytes ts c e = ap₂ (event_bytes (Ok tt)) (c refl) e
  event-named (Err (Received.Refused r)) count bytes ts c e = refl
  event-named (Err Received.NotReceiving) count bytes ts c e = refl

module _ (l : Loan) where
  pub segment-named : (c : ℕ) (seg : List ℕ)
      → event_bytes (all_takes l c seg).answer (all_takes l c seg).count (all_takes l c seg).bytes
      ≡ takes_answer l c seg
  segment-named c seg =
      event-named l c seg (all_takes l c seg).answer (all_takes l c seg).count (all_takes l c seg).bytes
      (takes_over l c seg) (λ d. takes_count l c seg (length seg) (begun l.state l.rx) d ∙ zero-add _) (segment-bytes l c seg)

  -- what it leaves, where there is room for it
  segment-says : (out : List ℕ) (c : ℕ) (seg : List ℕ) → room ≤ length out → length seg ≤ longest_body
      → segment_effect l out c seg
      ≡ answers (takes_answer l c seg) (all_takes l c seg).state (all_takes l c seg).rx l.tx out
  segment-says out c seg long short =
      segment-roomy l out c seg long short
      ∙ ap (λ (bytes : List ℕ). answers bytes (all_takes l c seg).state (all_takes l c seg).rx l.tx out) (segment-named c seg)

-- how many bytes a verdict says are written, and whether it says so
abbrev written : Verdict → ℕ
written (Ok n) = n
written (Err why) = 0

abbrev answered : Verdict → Bool
answered (Ok n) = true
answered (Err why) = false

fits : (out : List ℕ) {v : Verdict} {after : List ℕ} → StandsWhole out v after → (n : ℕ) → v ≡ Ok n → n ≤ room
fits out (answer bytes h) n e = omega (arith, h, ap written e)
fits out unknown n e = omega (arith, ap written e)
fits out unfit n e = omega (arith, ap written e)
fits out small n e = omega (arith, ap written e)

-- n bytes of an answer at the front of a buffer, and the buffer behind them
abbrev Named : List ℕ → List ℕ → ℕ → List ℕ → Type 0
Named out bytes n after = (n ≡ length bytes) × (after ≡ bytes ++ drop n out)

module _ (l : Loan) (out : List ℕ) (n : ℕ) (low : n ≤ room) (long : room ≤ length out) where
  laid : (bytes : List ℕ) → ◌≡◌ {A = Verdict} (Ok (length bytes)) (Ok n) → Named out bytes n (lay out 0 bytes)
  laid bytes e =
      let is : length bytes ≡ n = ap written e in
      let z : 0 + length bytes ≡ n = omega (arith, is) in
      (sym is, lay-fits out 0 bytes (omega (arith, is, low, long)) ∙ ap (λ (k : ℕ). bytes ++ drop k out) z)

  -- such a buffer is not refused
  past : (x : Effect) (bytes : List ℕ) → (x.verdict ≡ Ok n → Named out bytes n x.out)
      → (if_room l.state l.rx l.tx out x).verdict ≡ Ok n → Named out bytes n (if_room l.state l.rx l.tx out x).out
  past x bytes h = subst (λ (e : Effect). e.verdict ≡ Ok n → Named out bytes n e.out) (sym (with-room l.state l.rx l.tx out x long)) h

  none : (v : Verdict) → written v ≡ 0 → v ≡ Ok n → Named out [] n out
  none v z e =
      let is : n ≡ 0 = sym (ap written e) ∙ z in
      (is, ap (λ (k : ℕ). drop k out) (sym is))

  -- the step of a call whose segment or datagram, where it has one, is short enough
  call_named : (body : List ℕ) (call : Result Call BadCall) → Short body call → (effect_of l out body call).verdict ≡ Ok n
      → Named out (answer_of l body call) n (effect_of l out body call).out
  unfolding effect_of answer_of own_effect lost_effect ticks_effect switch_all_effect read_effect clear_effect datagram_effect accept_effect transmit_effect
      take_effect
  call_named body (Err bad) h e = none (Err (no_answer bad)) refl e
  call_named body (Ok (Ticks k)) h e = past (ticked (ticks_event (sizes l) k) l.rx l.tx out) (answer_of l body (Ok (Ticks k))) (laid _) e
  call_named body (Ok (Own c own)) h e = past (told_effect (event_of (sizes l) c own) l.rx l.tx out) (answer_of l body (Ok (Own c own))) (laid _) e
  call_named body (Ok (Lost c)) h e = past (loss_effect (loss_of (sizes l) c) l.rx l.tx out) (answer_of l body (Ok (Lost c))) (laid _) e
  call_named body (Ok (Segment c at)) h e =
      subst (λ (x : Effect). x.verdict ≡ Ok n → Named out (takes_answer l c (bytes_from body at)) n x.out)
      (sym (segment-says l out c (bytes_from body at) long (segment-fits body c at h))) (laid _) e
  call_named body (Ok (Walk c place at)) h e =
      subst (λ (x : Effect). x.verdict ≡ Ok n → Named out (walked_bytes (walk_of (sizes l) c (bytes_from body at) place)) n x.out)
      (sym (walk-short l out c place (bytes_from body at) long (walk-fits body c place at h))) (laid _) e
  call_named body (Ok (TakeWaiting c k)) h e =
      past (take_into l out c (take (room_of k) (replicate 1472 0))) (answer_of l body (Ok (TakeWaiting c k))) (laid _) e
  call_named body (Ok (Datagram group source)) h e =
      past (arrived_effect (datagram_of (sizes l) group source) l.rx l.tx out) (answer_of l body (Ok (Datagram group source))) (laid _) e
  call_named body (Ok (Accept group source)) h e =
      past (arrived_effect (accept_of (sizes l) group source) l.rx l.tx out) (answer_of l body (Ok (Accept group source))) (laid _) e
  call_named body (Ok (Transmit pdu at)) h e = past (sent_effect l out pdu (bytes_from body at)) (answer_of l body (Ok (Transmit pdu at))) (laid _) e
  call_named body (Ok (SwitchAll number position)) h e =
      past (told_effect (switch_all_of (sizes l) number position) l.rx l.tx out) (answer_of l body (Ok (SwitchAll number position))) (laid _) e
  call_named body (Ok (ReadCount protocol)) h e =
      past (counted_effect (read_of (sizes l) protocol) l.rx l.tx out) (answer_of l body (Ok (ReadCount protocol))) (laid _) e
  call_named body (Ok (ClearCount protocol)) h e =
      past (counted_effect (clear_of (sizes l) protocol) l.rx l.tx out) (answer_of l body (Ok (ClearCount protocol))) (laid _) e

-- EVERY EVENT IS ANSWERED: what a number and a body spell, into an out buffer that is long enough
module _ (l : Loan) (out : List ℕ) (long : room ≤ length out) where
  past_too : (x : Effect) → (if_room l.state l.rx l.tx out x).verdict ≡ x.verdict
  past_too x = ap (λ (e : Effect). e.verdict) (with-room l.state l.rx l.tx out x long)

  call_answered : (body : List ℕ) (call : Result Call BadCall) → Short body call → (call ≡ Err Unknown → ⊥) → (call ≡ Err Unfit → ⊥)
      → (effect_of l out body call).verdict ≡ Ok (length (answer_of l body call))
  unfolding effect_of answer_of own_effect lost_effect ticks_effect switch_all_effect read_effect clear_effect datagram_effect accept_effect transmit_effect
      take_effect
  call_answered body (Err Unknown) h known fit = absurd (known refl)
  call_answered body (Err Unfit) h known fit = absurd (fit refl)
  call_answered body (Ok (Ticks k)) h known fit = past_too _
  call_answered body (Ok (Own c e)) h known fit = past_too _
  call_answered body (Ok (Lost c)) h known fit = past_too _
  call_answered body (Ok (Segment c at)) h known fit =
      ap (λ (x : Effect). x.verdict) (segment-says l out c (bytes_from body at) long (segment-fits body c at h))
  call_answered body (Ok (Walk c place at)) h known fit =
      ap (λ (x : Effect). x.verdict) (walk-short l out c place (bytes_from body at) long (walk-fits body c place at h))
  call_answered body (Ok (TakeWaiting c k)) h known fit = past_too _
  call_answered body (Ok (Datagram group source)) h known fit = past_too _
  call_answered body (Ok (Accept group source)) h known fit = past_too _
  call_answered body (Ok (Transmit pdu at)) h known fit = past_too _
  call_answered body (Ok (SwitchAll number position)) h known fit = past_too _
  call_answered body (Ok (ReadCount protocol)) h known fit = past_too _
  call_answered body (Ok (ClearCount protocol)) h known fit = past_too _

pub event-answered : (image : List ℕ) (m : Machine) (c : Spoken) → room ≤ length c.out
    → (call_of c.number c.body ≡ Err Unknown → ⊥) → (call_of c.number c.body ≡ Err Unfit → ⊥)
    → (dispatch_of (loan_to image m) c.out c.number c.body).verdict ≡ Ok (length (answer_by image m c))
unfolding dispatch_of
event-answered image m c long known fit =
    ap (λ (b : Bool). (cond b (untouched (Err Small) m.state m.rx m.tx c.out)
    (effect_of (loan_to image m) c.out c.body (call_of c.number c.body))).verdict)
    (le-ltb (length c.out) room long)
    ∙ call_answered (loan_to image m) c.out long c.body (call_of c.number c.body) (call_short c.number c.body) known fit

-- EVERY ANSWER, of any image, machine and call
pub answer-named : (image : List ℕ) (m : Machine) (c : Spoken) (n : ℕ) → (dispatch_of (loan_to image m) c.out c.number c.body).verdict ≡ Ok n
    → (n ≡ length (answer_by image m c)) × ((dispatch_of (loan_to image m) c.out c.number c.body).out ≡ answer_by image m c ++ drop n c.out)
unfolding dispatch_of
answer-named image m c n said = go (ltb (length c.out) room) refl said
  where
    low : n ≤ room
    low = fits c.out (answer-whole (loan_to image m) c.out c.number c.body) n said

    go : (b : Bool) → ltb (length c.out) room ≡ b
        → (cond b (untouched (Err Small) m.state m.rx m.tx c.out) (effect_of (loan_to image m) c.out c.body (call_of c.number c.body))).verdict
        ≡ Ok n
        → Named c.out (answer_by image m c) n
        (cond b (untouched (Err Small) m.state m.rx m.tx c.out) (effect_of (loan_to image m) c.out c.body (call_of c.number c.body))).out
    go true e d = absurd (false≢true (ap answered d))
    go false e d =
        call_named (loan_to image m) c.out n low (ltb-false (length c.out) room e)
        c.body (call_of c.number c.body) (call_short c.number c.body) d
