-- THE BYTES OF AN ANSWER (R16.2; docs/EVENTS.md, "The answer"), call by call; those of a segment event as its takes tell them.
use Rattle.std.specs.Prelude.{ℕ, List, [], length, take, replicate, Result, Ok, Err}
use Rattle.connection.specs.declared.Event.{Event}
use Rattle.entry_events.specs.Change.{event_of, loss_of}
use Rattle.entry_events.specs.Module.{switch_all_of}
use Rattle.entry_events.specs.Count.{read_of, clear_of}
use Rattle.entry_ticks.specs.Tick.{ticks_event}
use Rattle.entry_receive.specs.Walk.{walk_of}
use Rattle.entry_arrivals.specs.Arrivals.{datagram_of, accept_of}
use Rattle.entry_send.specs.Sending.{send_of, taken_waiting, taken_out}
use Rattle.event_decode.specs.declared.Call.{Call}
use Rattle.event_decode.specs.declared.BadCall.{BadCall}
use Rattle.event_decode.specs.declared.Call.TheVariants.{Ticks, Own, Lost, Segment, Walk, TakeWaiting, Datagram, Accept, Transmit}
use Rattle.event_decode.specs.declared.Call.TheVariants.{SwitchAll, ReadCount, ClearCount}
use Rattle.event_decode.specs.Calls.{call_of, bytes_from}
use Rattle.dispatch_events.specs.Events.{told_bytes, loss_bytes, ticks_bytes, count_bytes}
use Rattle.dispatch_receive.specs.Walk.{walked_bytes}
use Rattle.dispatch_receive.specs.Segment.{begun, all_takes, event_bytes}
use Rattle.dispatch_send.specs.Send.{arrival_bytes, transmission_bytes, taking_bytes, room_of}
use Rattle.model_refines.specs.Machine.{Machine, loan_to}
use Rattle.dispatch_refines.specs.Spelt.{Spoken}
use Rattle.gate.specs.Lent.{Loan, sizes}
use Rattle.dispatch_refines.specs.Told.{Take, bytes_in, takes_from}

module _ (l : Loan) where
  -- open, close, connected, set remote, switch, cancel
  abbrev pub own_answer : ℕ → Event → List ℕ
  own_answer c e = told_bytes (event_of (sizes l) c e).answer

  -- "number of takes (2), then for every take" its bytes; or the refusal
  abbrev pub takes_over : ℕ → List ℕ → List Take
  takes_over c segment = takes_from l c segment (length segment) (begun l.state l.rx)

  abbrev pub takes_answer : ℕ → List ℕ → List ℕ
  takes_answer c segment =
      event_bytes (all_takes l c segment).answer (length (takes_over c segment)) (bytes_in (takes_over c segment))

  -- "count (4), address (19): the remote before the call, bytes": out of a buffer of the room that is asked for
  abbrev pub take_answer : ℕ → List ℕ → List ℕ
  take_answer c buffer = taking_bytes (taken_waiting l c buffer).answer (taken_out l c buffer)

  -- what is refused by its number or its body has none
  unfoldable pub answer_of : List ℕ → Result Call BadCall → List ℕ
  answer_of body (Err bad) = []
  answer_of body (Ok (Ticks n)) = ticks_bytes (ticks_event (sizes l) n).answer (ticks_event (sizes l) n).failed
  answer_of body (Ok (Own c e)) = own_answer c e
  answer_of body (Ok (Lost c)) = loss_bytes (loss_of (sizes l) c).answer (loss_of (sizes l) c).failed
  answer_of body (Ok (Segment c at)) = takes_answer c (bytes_from body at)
  answer_of body (Ok (Walk c place at)) = walked_bytes (walk_of (sizes l) c (bytes_from body at) place)
  answer_of body (Ok (TakeWaiting c n)) = take_answer c (take (room_of n) (replicate 1472 0))
  answer_of body (Ok (Datagram group source)) = arrival_bytes (datagram_of (sizes l) group source).answer
  answer_of body (Ok (Accept group source)) = arrival_bytes (accept_of (sizes l) group source).answer
  answer_of body (Ok (Transmit pdu at)) = transmission_bytes (send_of l pdu (bytes_from body at)).answer
  answer_of body (Ok (SwitchAll number position)) = told_bytes (switch_all_of (sizes l) number position).answer
  answer_of body (Ok (ReadCount protocol)) = count_bytes (read_of (sizes l) protocol).answer
  answer_of body (Ok (ClearCount protocol)) = count_bytes (clear_of (sizes l) protocol).answer

-- of a call of the dispatcher
abbrev pub answer_by : List ℕ → Machine → Spoken → List ℕ
answer_by image m c = answer_of (loan_to image m) c.body (call_of c.number c.body)
