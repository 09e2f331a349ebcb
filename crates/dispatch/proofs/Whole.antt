-- EVERY ANSWER OF THE DISPATCHER STANDS WHOLE in its out buffer of 16,384 bytes: nothing is left out.
use Rattle.std.proofs.Common.{Ok, Err, Result}
use Prim.Native.Nat.{ℕ, ◌+◌, ◌≤◌}
use mathlib.Core.Path.{◌≡◌, refl, sym, ap, ◌∙◌, subst}
use mathlib.Core.Bool.{Bool, true, false, cond}
use mathlib.Core.List.{List, ◌++◌}
use native.Mathlib.Omega.{arith}
use borrow.Author.Tests.{ltb-false}
use lib.Dec.{ltb}
use lib.ListN.{length, drop, take, replicate}
use Rattle.wire.specs.Lay.{lay}
use Rattle.wire.proofs.Lay.{lay-fits}
use Rattle.connection.specs.declared.Event.{Event}
use Rattle.connection.specs.declared.Remote.{Remote}
use Rattle.event_decode.specs.declared.Call.{Call}
use Rattle.event_decode.specs.declared.BadCall.{BadCall}
use Rattle.event_decode.specs.declared.BadCall.TheVariants.{Unknown, Unfit}
use Rattle.event_decode.specs.declared.Call.TheVariants.{Ticks, Own, Lost, Segment, Walk}
use Rattle.event_decode.specs.declared.Call.TheVariants.{TakeWaiting, Datagram, Accept, Transmit, SwitchAll, ReadCount, ClearCount}
use Rattle.event_decode.specs.Calls.{call_of, bytes_from}
use Rattle.entry_events.specs.Change.{event_of, loss_of}
use Rattle.entry_events.specs.Module.{switch_all_of}
use Rattle.entry_events.specs.Count.{read_of, clear_of}
use Rattle.entry_ticks.specs.Tick.{ticks_event}
use Rattle.entry_receive.specs.Walk.{walk_of}
use Rattle.entry_arrivals.specs.Arrivals.{datagram_of, accept_of}
use Rattle.entry_send.specs.Sending.{send_of, taken_waiting, taken_out}
use Rattle.event_answer.specs.declared.NoAnswer.TheVariants.{Small}
use Rattle.event_answer.specs.Answers.{Effect, untouched, room, if_room}
use Rattle.event_answer.proofs.Short.{with-room}
use Rattle.dispatch_events.specs.Events.{told_effect, loss_effect, ticked, counted_effect, own_effect}
use Rattle.dispatch_events.specs.Events.{lost_effect, ticks_effect, switch_all_effect, read_effect, clear_effect}
use Rattle.dispatch_receive.specs.Long.{longest_body}
use Rattle.dispatch_receive.specs.Walk.{walk_effect}
use Rattle.dispatch_receive.specs.Segment.{segment_effect}
use Rattle.dispatch_receive.proofs.Room.{event-fits, answer-fits, segment-roomy, walk-short}
use Rattle.dispatch_send.specs.Send.{room_of, arrived_effect, datagram_effect, accept_effect, sent_effect, transmit_effect, take_into, take_effect}
use Rattle.dispatch.specs.Dispatch.{effect_of, dispatch_of}
use Rattle.dispatch.specs.Whole.{StandsWhole, answer, unknown, unfit, small}
use Rattle.dispatch.proofs.Calls.{Short, call_short, segment-fits, walk-fits}
use Rattle.gate.specs.Lent.{Loan, sizes}
use Rattle.dispatch.proofs.Sizes.{told_size, loss_size, ticks_size, count_size, arrival_size}
use Rattle.dispatch.proofs.Sizes.{transmission_size, walked_size, taking_size, taken_size, buffer_size}

module _ (l : Loan) (out : List ℕ) (long : room ≤ length out) where
  abbrev Told : Effect → Type 0
  Told e = StandsWhole out e.verdict e.out

  -- bytes laid at the front, where there is room, are all there
  laid : (bytes : List ℕ) → length bytes ≤ room → StandsWhole out (Ok (length bytes)) (lay out 0 bytes)
  laid bytes h =
      let z : 0 + length bytes ≡ length bytes = omega arith in
      subst (StandsWhole out (Ok (length bytes))) (sym (lay-fits out 0 bytes (omega arith) ∙ ap (λ (k : ℕ). bytes ++ drop k out) z)) (answer bytes h)

  -- such a buffer is not refused
  past : (e : Effect) → Told e → Told (if_room l.state l.rx l.tx out e)
  past e h = subst Told (sym (with-room l.state l.rx l.tx out e long)) h

  own-whole : (c : ℕ) (e : Event) → Told (own_effect l out c e)
  unfolding own_effect
  own-whole c e = past (told_effect (event_of (sizes l) c e) l.rx l.tx out) (laid _ (omega (arith, told_size (event_of (sizes l) c e).answer)))

  lost-whole : (c : ℕ) → Told (lost_effect l out c)
  unfolding lost_effect
  lost-whole c = past (loss_effect (loss_of (sizes l) c) l.rx l.tx out)
      (laid _ (omega (arith, loss_size (loss_of (sizes l) c).answer (loss_of (sizes l) c).failed)))

  ticks-whole : (n : ℕ) → Told (ticks_effect l out n)
  unfolding ticks_effect
  ticks-whole n = past (ticked (ticks_event (sizes l) n) l.rx l.tx out)
      (laid _ (omega (arith, ticks_size (ticks_event (sizes l) n).answer (ticks_event (sizes l) n).failed)))

  switch_all-whole : (number : ℕ) (on : Bool) → Told (switch_all_effect l out number on)
  unfolding switch_all_effect
  switch_all-whole number on =
      past (told_effect (switch_all_of (sizes l) number on) l.rx l.tx out) (laid _ (omega (arith, told_size (switch_all_of (sizes l) number on).answer)))

  read_whole : (p : ℕ) → Told (read_effect l out p)
  unfolding read_effect
  read_whole p = past (counted_effect (read_of (sizes l) p) l.rx l.tx out) (laid _ (omega (arith, count_size (read_of (sizes l) p).answer)))

  clear_whole : (p : ℕ) → Told (clear_effect l out p)
  unfolding clear_effect
  clear_whole p = past (counted_effect (clear_of (sizes l) p) l.rx l.tx out) (laid _ (omega (arith, count_size (clear_of (sizes l) p).answer)))

  segment-whole : (c : ℕ) (bytes : List ℕ) → length bytes ≤ longest_body → Told (segment_effect l out c bytes)
  segment-whole c bytes short =
      subst Told (sym (segment-roomy l out c bytes long short)) (laid _ (omega (arith, answer-fits l c bytes short, event-fits l c bytes)))

  walk-whole : (c place : ℕ) (bytes : List ℕ) → length bytes ≤ longest_body → Told (walk_effect l out c place bytes)
  walk-whole c place bytes short =
      let w = walk_of (sizes l) c bytes place in
      subst Told (sym (walk-short l out c place bytes long short)) (laid _ (omega (arith, walked_size w.answer w.next w.outcome)))

  take_whole : (c n : ℕ) → Told (take_effect l out c n)
  unfolding take_effect
  take_whole c n =
      let b : List ℕ = take (room_of n) (replicate 1472 0) in
      past (take_into l out c b) (laid _ (omega (arith, taking_size (taken_waiting l c b).answer (taken_out l c b), taken_size l c b, buffer_size n)))

  datagram-whole : (group : ℕ) (source : Remote) → Told (datagram_effect l out group source)
  unfolding datagram_effect
  datagram-whole group source =
      past (arrived_effect (datagram_of (sizes l) group source) l.rx l.tx out)
      (laid _ (omega (arith, arrival_size (datagram_of (sizes l) group source).answer)))

  accept-whole : (group : ℕ) (source : Remote) → Told (accept_effect l out group source)
  unfolding accept_effect
  accept-whole group source =
      past (arrived_effect (accept_of (sizes l) group source) l.rx l.tx out)
      (laid _ (omega (arith, arrival_size (accept_of (sizes l) group source).answer)))

  transmit-whole : (pdu : ℕ) (payload : List ℕ) → Told (transmit_effect l out pdu payload)
  unfolding transmit_effect
  transmit-whole pdu payload = past (sent_effect l out pdu payload) (laid _ (omega (arith, transmission_size (send_of l pdu payload).answer)))

  -- the step of a call whose segment or datagram, where it has one, is short enough
  call_whole : (body : List ℕ) (call : Result Call BadCall) → Short body call → Told (effect_of l out body call)
  unfolding effect_of
  call_whole body (Err Unknown) h = unknown
  call_whole body (Err Unfit) h = unfit
  call_whole body (Ok (Ticks n)) h = ticks-whole n
  call_whole body (Ok (Own c e)) h = own-whole c e
  call_whole body (Ok (Lost c)) h = lost-whole c
  call_whole body (Ok (Segment c at)) h = segment-whole c (bytes_from body at) (segment-fits body c at h)
  call_whole body (Ok (Walk c place at)) h = walk-whole c place (bytes_from body at) (walk-fits body c place at h)
  call_whole body (Ok (TakeWaiting c n)) h = take_whole c n
  call_whole body (Ok (Datagram group source)) h = datagram-whole group source
  call_whole body (Ok (Accept group source)) h = accept-whole group source
  call_whole body (Ok (Transmit pdu at)) h = transmit-whole pdu (bytes_from body at)
  call_whole body (Ok (SwitchAll number on)) h = switch_all-whole number on
  call_whole body (Ok (ReadCount protocol)) h = read_whole protocol
  call_whole body (Ok (ClearCount protocol)) h = clear_whole protocol

-- EVERY ANSWER, of any image, state, memories, number, body and out buffer
pub answer-whole : (l : Loan) (out : List ℕ) (number : ℕ) (body : List ℕ)
    → StandsWhole out (dispatch_of l out number body).verdict (dispatch_of l out number body).out
unfolding dispatch_of
answer-whole l out number body = go (ltb (length out) room) refl
  where
    go : (b : Bool) → ltb (length out) room ≡ b
        → StandsWhole out (cond b (untouched (Err Small) l.state l.rx l.tx out) (effect_of l out body (call_of number body))).verdict
        (cond b (untouched (Err Small) l.state l.rx l.tx out) (effect_of l out body (call_of number body))).out
    go true e = small
    go false e = call_whole l out (ltb-false (length out) room e) body (call_of number body) (call_short number body)
