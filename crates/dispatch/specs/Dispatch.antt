-- THE DISPATCHER (R16.1): the step of the event that a number and a body spell, with its answer in an out buffer, the new state and all
-- memory (docs/EVENTS.md).
use Rattle.std.specs.Prelude.{ℕ, List, Err, Result, Ok}
use Rattle.event_decode.specs.declared.Call.{Call}
use Rattle.event_decode.specs.declared.BadCall.{BadCall}
use Rattle.event_decode.specs.declared.Call.TheVariants.{Ticks, Own, Lost, Segment, Walk, TakeWaiting, Datagram, Accept, Transmit}
use Rattle.event_decode.specs.declared.Call.TheVariants.{SwitchAll, ReadCount, ClearCount}
use Rattle.event_decode.specs.Calls.{call_of, bytes_from}
use Rattle.event_answer.specs.Answers.{Effect, untouched, no_answer, if_room}
use Rattle.dispatch_events.specs.Events.{own_effect, lost_effect, ticks_effect, switch_all_effect, read_effect, clear_effect}
use Rattle.dispatch_receive.specs.Walk.{walk_effect}
use Rattle.dispatch_receive.specs.Segment.{segment_effect}
use Rattle.gate.specs.Lent.{Loan}
use Rattle.dispatch_send.specs.Send.{datagram_effect, accept_effect, transmit_effect, take_effect}

module _ (l : Loan) (out : List ℕ) where
  -- the step of a call, whose bytes stand in the body; what spells none has no answer
  unfoldable pub effect_of : List ℕ → Result Call BadCall → Effect
  effect_of body (Err bad) = untouched (Err (no_answer bad)) l.state l.rx l.tx out
  effect_of body (Ok (Ticks n)) = ticks_effect l out n
  effect_of body (Ok (Own c e)) = own_effect l out c e
  effect_of body (Ok (Lost c)) = lost_effect l out c
  effect_of body (Ok (Segment c at)) = segment_effect l out c (bytes_from body at)
  effect_of body (Ok (Walk c place at)) = walk_effect l out c place (bytes_from body at)
  effect_of body (Ok (TakeWaiting c n)) = take_effect l out c n
  effect_of body (Ok (Datagram group source)) = datagram_effect l out group source
  effect_of body (Ok (Accept group source)) = accept_effect l out group source
  effect_of body (Ok (Transmit pdu at)) = transmit_effect l out pdu (bytes_from body at)
  effect_of body (Ok (SwitchAll number on)) = switch_all_effect l out number on
  effect_of body (Ok (ReadCount protocol)) = read_effect l out protocol
  effect_of body (Ok (ClearCount protocol)) = clear_effect l out protocol

  -- an out buffer that is too short is refused; else the step of the event that number and body spell
  unfoldable pub dispatch_of : ℕ → List ℕ → Effect
  dispatch_of number body = if_room l.state l.rx l.tx out (effect_of body (call_of number body))
