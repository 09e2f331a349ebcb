-- WHERE THERE IS NO ANSWER, the state is as it was.
use Rattle.std.proofs.Common.{ℕ, ◌≡◌, refl, Bool, true, false, cond, List, length, Result, Ok, Err}
use lib.Dec.{ltb}
use Rattle.state.specs.declared.State.{State}
use Rattle.event_decode.specs.declared.Call.{Call}
use Rattle.event_decode.specs.declared.BadCall.{BadCall}
use Rattle.event_decode.specs.declared.Call.TheVariants.{Ticks, Own, Lost, Segment, Walk}
use Rattle.event_decode.specs.declared.Call.TheVariants.{TakeWaiting, Datagram, Accept, Transmit, SwitchAll, ReadCount, ClearCount}
use Rattle.event_decode.specs.Calls.{call_of}
use Rattle.event_answer.specs.declared.NoAnswer.{NoAnswer}
use Rattle.event_answer.specs.declared.NoAnswer.TheVariants.{Small, Unfit}
use Rattle.event_answer.specs.Answers.{Effect, untouched, room, if_room}
use Rattle.gate.specs.Lent.{Loan}
use Rattle.dispatch_events.specs.Events.{own_effect, lost_effect, ticks_effect, switch_all_effect, read_effect, clear_effect}
use Rattle.dispatch_receive.specs.Long.{too_long, if_fits}
use Rattle.dispatch_receive.specs.Walk.{walk_effect}
use Rattle.dispatch_receive.specs.Segment.{segment_effect}
use Rattle.dispatch_send.specs.Send.{datagram_effect, accept_effect, transmit_effect, take_effect}
use Rattle.dispatch.specs.Dispatch.{effect_of, dispatch_of}

module _ (l : Loan) (out : List ℕ) where
  abbrev Stays : Effect → Type 0
  Stays e = (why : NoAnswer) → e.verdict ≡ Err why → e.state ≡ l.state

  answered : {n : ℕ} {s : State} (why : NoAnswer) → Ok n ≡ Err why → s ≡ l.state
  answered why e = cc

  in_room : (e : Effect) → Stays e → Stays (if_room l.state l.rx l.tx out e)
  in_room e h = go (ltb (length out) room)
    where
      go : (short : Bool) → Stays (cond short (untouched (Err Small) l.state l.rx l.tx out) e)
      go true = λ why p. refl
      go false = h

  fitting : (bytes : List ℕ) (e : Effect) → Stays e → Stays (if_fits l out bytes e)
  fitting bytes e h = in_room _ (go (too_long bytes))
    where
      go : (long : Bool) → Stays (cond long (untouched (Err Unfit) l.state l.rx l.tx out) e)
      go true = λ why p. refl
      go false = h

  call_stays : (body : List ℕ) (call : Result Call BadCall) → Stays (effect_of l out body call)
  unfolding effect_of own_effect lost_effect ticks_effect switch_all_effect read_effect
      clear_effect segment_effect walk_effect datagram_effect accept_effect transmit_effect take_effect
  call_stays body (Err bad) = λ why p. refl
  call_stays body (Ok (Ticks n)) = in_room _ answered
  call_stays body (Ok (Own c e)) = in_room _ answered
  call_stays body (Ok (Lost c)) = in_room _ answered
  call_stays body (Ok (Segment c at)) = fitting _ _ answered
  call_stays body (Ok (Walk c place at)) = fitting _ _ answered
  call_stays body (Ok (TakeWaiting c n)) = in_room _ answered
  call_stays body (Ok (Datagram group source)) = in_room _ answered
  call_stays body (Ok (Accept group source)) = in_room _ answered
  call_stays body (Ok (Transmit pdu at)) = in_room _ answered
  call_stays body (Ok (SwitchAll number on)) = in_room _ answered
  call_stays body (Ok (ReadCount protocol)) = in_room _ answered
  call_stays body (Ok (ClearCount protocol)) = in_room _ answered

  pub dispatch_stays : (number : ℕ) (body : List ℕ) → Stays (dispatch_of l out number body)
  unfolding dispatch_of
  dispatch_stays number body = in_room _ (call_stays body (call_of number body))
