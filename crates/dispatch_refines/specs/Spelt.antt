-- THE EVENTS THAT A CALL OF THE DISPATCHER SPELLS (R16.3; docs/EVENTS.md, "Event numbers and bodies"), and calls one after the other, each
-- lent the memory that the last one left.
use Rattle.std.specs.Prelude.{ℕ, cond, List, [], ◌∷◌, ◌++◌, ltb, length, replicate, Result, Ok, Err}
use Rattle.connection.specs.declared.Event.TheVariants.{Lost as Loses}
use Rattle.reading_lengths.specs.Listed.{Bytes}
use Rattle.event_decode.specs.declared.Call.{Call}
use Rattle.event_decode.specs.declared.BadCall.{BadCall}
use Rattle.event_decode.specs.declared.Call.TheVariants.{Ticks, Own, Lost, Segment, Walk, TakeWaiting, Datagram, Accept, Transmit}
use Rattle.event_decode.specs.declared.Call.TheVariants.{SwitchAll, ReadCount, ClearCount}
use Rattle.event_decode.specs.Calls.{call_of, bytes_from}
use Rattle.event_answer.specs.Answers.{Effect, room}
use Rattle.dispatch_send.specs.Send.{room_of}
use Rattle.dispatch.specs.Dispatch.{dispatch_of}
use Rattle.model.specs.Events.{change, segment, walk, take_waiting, datagram, accept, tick, transmit, switch_all, read_count, clear_count, Event, on, on_whole}
use Rattle.model_refines.specs.Machine.{Machine, machine, loan_to}

-- the events of a call whose bytes stand in the body: "n ticks" are n events; "a room above 1,472 answers as 1,472"; "refused and changes
-- nothing" is no event
unfoldable pub events_of : List ℕ → Result Call BadCall → List Event
events_of body (Err bad) = []
events_of body (Ok (Ticks n)) = replicate n (on_whole tick)
events_of body (Ok (Own c e)) = on c (change e) ∷ []
events_of body (Ok (Lost c)) = on c (change Loses) ∷ []
events_of body (Ok (Segment c at)) = on c (segment (bytes_from body at)) ∷ []
events_of body (Ok (Walk c place at)) = on c (walk (bytes_from body at) place) ∷ []
events_of body (Ok (TakeWaiting c n)) = on c (take_waiting (room_of n)) ∷ []
events_of body (Ok (Datagram group source)) = on_whole (datagram group source) ∷ []
events_of body (Ok (Accept group source)) = on_whole (accept group source) ∷ []
events_of body (Ok (Transmit pdu at)) = on_whole (transmit pdu (bytes_from body at)) ∷ []
events_of body (Ok (SwitchAll number position)) = on_whole (switch_all number position) ∷ []
events_of body (Ok (ReadCount protocol)) = on_whole (read_count protocol) ∷ []
events_of body (Ok (ClearCount protocol)) = on_whole (clear_count protocol) ∷ []

-- ONE CALL OF THE DISPATCHER: an event number, a body, and an out buffer
pub record Spoken : Type 0 where
  pub number : ℕ
  pub body : List ℕ
  pub out : List ℕ

-- the events that it spells; an out buffer that is too short is refused
unfoldable pub spelt_by : Spoken → List Event
spelt_by c = cond (ltb (length c.out) room) [] (events_of c.body (call_of c.number c.body))

-- .. and those of calls one after the other
unfoldable pub spelt_in : List Spoken → List Event
spelt_in [] = []
spelt_in (c ∷ cs) = spelt_by c ++ spelt_in cs

-- calls whose bodies are bytes
abbrev pub CallBytes : List Spoken → Type 0
CallBytes [] = Unit
CallBytes (c ∷ cs) = Bytes c.body × CallBytes cs

-- the machine that an effect leaves: its state and both lent memories
abbrev pub machine_of : Effect → Machine
machine_of e = machine e.state e.rx e.tx

module _ (image : List ℕ) where
  -- what a call leaves, by the dispatcher's contract
  abbrev pub after_dispatch : Spoken → Machine → Machine
  after_dispatch c m = machine_of (dispatch_of (loan_to image m) c.out c.number c.body)

  -- calls, each lent the memory that the last one left
  unfoldable pub after_dispatches : Machine → List Spoken → Machine
  after_dispatches m [] = m
  after_dispatches m (c ∷ cs) = after_dispatches (after_dispatch c m) cs
