-- A CALL OF THE DISPATCHER LEAVES WHAT ITS EVENTS MAKE OF THE MACHINE: of any image, state, memories, number, body and out buffer, refusals
-- included.
use Rattle.std.proofs.Common.{Err, Result, Ok}
use Prim.Native.Nat.{ℕ, ◌≤◌}
use mathlib.Core.Path.{◌≡◌, refl, ap, ◌∙◌}
use mathlib.Core.Bool.{Bool, true, false, cond}
use mathlib.Core.List.{List, []}
use native.Mathlib.Omega.{arith}
use borrow.Author.Tests.{ltb-false}
use lib.Dec.{ltb}
use lib.ListN.{length, take as front, replicate, length-take, length-replicate}
use Rattle.gate.specs.Lent.{Loan, sizes}
use Rattle.gate.specs.Gate.{gate_at, through}
use Rattle.entry_events.specs.Change.{loss_of}
use Rattle.entry_send.specs.declared.Taken.{Taken}
use Rattle.entry_send.specs.Sending.{not_taken, take_past, taken_waiting}
use Rattle.event_decode.specs.declared.Call.{Call}
use Rattle.event_decode.specs.declared.BadCall.{BadCall}
use Rattle.event_decode.specs.declared.Call.TheVariants.{Ticks, Own, Lost, Segment, Walk}
use Rattle.event_decode.specs.declared.Call.TheVariants.{TakeWaiting, Datagram, Accept, Transmit, SwitchAll, ReadCount, ClearCount}
use Rattle.event_decode.specs.Calls.{call_of, bytes_from}
use Rattle.event_answer.specs.declared.NoAnswer.TheVariants.{Small}
use Rattle.event_answer.specs.Answers.{Effect, untouched, room, if_room}
use Rattle.event_answer.proofs.Short.{with-room}
use Rattle.dispatch_events.specs.Events.{own_effect, lost_effect, ticks_effect, switch_all_effect, read_effect, clear_effect}
use Rattle.dispatch_receive.proofs.Room.{segment-roomy, walk-short}
use Rattle.dispatch_send.specs.Send.{room_of, datagram_effect, accept_effect, transmit_effect, take_effect}
use Rattle.dispatch.specs.Dispatch.{effect_of, dispatch_of}
use Rattle.dispatch.proofs.Calls.{Short, call_short, segment-fits, walk-fits}
use Rattle.model_refines.specs.Machine.{Machine, machine, loan_to}
use Rattle.model_refines.specs.Run.{after_own, after_whole, after_event, after_run}
use Rattle.dispatch_refines.specs.Spelt.{events_of, Spoken, spelt_by, machine_of, after_dispatch}
use Rattle.dispatch_refines.proofs.Segment.{segment-machine}
use Rattle.dispatch_refines.proofs.Ticks.{ticks-run}

-- the call's own buffer has the room that is asked for, 1,472 at most
buffer_room : (n : ℕ) → length {A = ℕ} (front (room_of n) (replicate 1472 0)) ≡ length {A = ℕ} (replicate (room_of n) 0)
buffer_room n =
    omega (arith, length-take {A = ℕ} (room_of n) (replicate 1472 0), length-replicate {A = ℕ} 1472 0, length-replicate {A = ℕ} (room_of n) 0)

-- of an out buffer only its room matters to the state
take-room : (l : Loan) (c : ℕ) (a b : List ℕ) → length a ≡ length b → taken_waiting l c a ≡ taken_waiting l c b
unfolding taken_waiting
take-room l c a b e = ap (λ (n : ℕ). through (gate_at (sizes l) c) (not_taken l.state) (take_past l.image l.state c n)) e

module _ (image : List ℕ) (m : Machine) (out body : List ℕ) (long : room ≤ length out) where
  -- such a buffer is not refused
  past : (e : Effect) → machine_of (if_room m.state m.rx m.tx out e) ≡ machine_of e
  past e = ap machine_of (with-room m.state m.rx m.tx out e long)

  -- the step of a call whose segment or datagram, where it has one, is short enough
  call_events : (call : Result Call BadCall) → Short body call
      → machine_of (effect_of (loan_to image m) out body call) ≡ after_run image m (events_of body call)
  unfolding effect_of events_of after_run after_event after_own after_whole own_effect lost_effect loss_of
      ticks_effect switch_all_effect read_effect clear_effect datagram_effect accept_effect transmit_effect take_effect
  call_events (Err bad) h = refl
  call_events (Ok (Ticks n)) h = past _ ∙ ticks-run image m.rx m.tx m.state n
  call_events (Ok (Own c e)) h = past _
  call_events (Ok (Lost c)) h = past _
  call_events (Ok (Segment c at)) h =
      ap machine_of (segment-roomy (loan_to image m) out c (bytes_from body at) long (segment-fits body c at h))
      ∙ segment-machine image c (bytes_from body at) m
  call_events (Ok (Walk c place at)) h = ap machine_of (walk-short (loan_to image m) out c place (bytes_from body at) long (walk-fits body c place at h))
  call_events (Ok (TakeWaiting c n)) h =
      past _
      ∙ ap (λ (t : Taken). machine t.state m.rx m.tx)
      (take-room (loan_to image m) c (front (room_of n) (replicate 1472 0)) (replicate (room_of n) 0) (buffer_room n))
  call_events (Ok (Datagram group source)) h = past _
  call_events (Ok (Accept group source)) h = past _
  call_events (Ok (Transmit pdu at)) h = past _
  call_events (Ok (SwitchAll number position)) h = past _
  call_events (Ok (ReadCount protocol)) h = past _
  call_events (Ok (ClearCount protocol)) h = past _

-- ONE CALL
pub dispatched_events : (image : List ℕ) (m : Machine) (c : Spoken) → after_dispatch image c m ≡ after_run image m (spelt_by c)
unfolding dispatch_of spelt_by after_run
dispatched_events image m c = go (ltb (length c.out) room) refl
  where
    go : (b : Bool) → ltb (length c.out) room ≡ b
        → machine_of (cond b (untouched (Err Small) m.state m.rx m.tx c.out) (effect_of (loan_to image m) c.out c.body (call_of c.number c.body)))
        ≡ after_run image m (cond b [] (events_of c.body (call_of c.number c.body)))
    go true e = refl
    go false e =
        call_events image m c.out c.body (ltb-false (length c.out) room e) (call_of c.number c.body) (call_short c.number c.body)
