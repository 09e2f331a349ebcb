-- A SHORT OUT BUFFER LOSES NOTHING: whatever is called with it leaves the state, both lent memories and the buffer as they were, so waiting
-- bytes wait on.
use Rattle.std.proofs.Common.{Ok, Err, Result}
use Prim.Native.Nat.{ℕ, ◌<◌}
use mathlib.Core.Path.{◌≡◌, refl, sym, ap, ◌∙◌}
use mathlib.Core.List.{List}
use lib.ListN.{length}
use Rattle.event_decode.specs.declared.Call.{Call}
use Rattle.event_decode.specs.declared.BadCall.{BadCall}
use Rattle.event_decode.specs.declared.Call.TheVariants.{Ticks, Own, Lost, Segment, Walk}
use Rattle.event_decode.specs.declared.Call.TheVariants.{TakeWaiting, Datagram, Accept, Transmit, SwitchAll, ReadCount, ClearCount}
use Rattle.event_answer.specs.Answers.{Effect, untouched, room, if_room}
use Rattle.event_answer.proofs.Short.{no_room}
use Rattle.gate.specs.Lent.{Loan}
use Rattle.dispatch_events.specs.Events.{own_effect, lost_effect, ticks_effect, switch_all_effect, read_effect, clear_effect}
use Rattle.dispatch_receive.specs.Walk.{walk_effect}
use Rattle.dispatch_receive.specs.Segment.{segment_effect}
use Rattle.dispatch_send.specs.Send.{datagram_effect, accept_effect, transmit_effect, take_effect}
use Rattle.dispatch.specs.Dispatch.{effect_of}
use Rattle.event_answer.specs.Answers.{Verdict}

module _ (l : Loan) (out : List ℕ) (short : length out < room) where
  abbrev Stays : Effect → Type 0
  Stays e = e ≡ untouched e.verdict l.state l.rx l.tx out

  refused : (e : Effect) → Stays (if_room l.state l.rx l.tx out e)
  refused e =
      let is = no_room l.state l.rx l.tx out e short in
      is ∙ ap (λ (v : Verdict). untouched v l.state l.rx l.tx out) (sym (ap (λ (x : Effect). x.verdict) is))

  -- the step of each call: so of each function that the dispatcher hands its out buffer to
  pub short-stays : (body : List ℕ) (call : Result Call BadCall) → Stays (effect_of l out body call)
  unfolding effect_of own_effect lost_effect ticks_effect switch_all_effect read_effect
      clear_effect segment_effect walk_effect datagram_effect accept_effect transmit_effect take_effect
  short-stays body (Err bad) = refl
  short-stays body (Ok (Ticks n)) = refused _
  short-stays body (Ok (Own c e)) = refused _
  short-stays body (Ok (Lost c)) = refused _
  short-stays body (Ok (Segment c at)) = refused _
  short-stays body (Ok (Walk c place at)) = refused _
  short-stays body (Ok (TakeWaiting c n)) = refused _
  short-stays body (Ok (Datagram group source)) = refused _
  short-stays body (Ok (Accept group source)) = refused _
  short-stays body (Ok (Transmit pdu at)) = refused _
  short-stays body (Ok (SwitchAll number on)) = refused _
  short-stays body (Ok (ReadCount protocol)) = refused _
  short-stays body (Ok (ClearCount protocol)) = refused _
