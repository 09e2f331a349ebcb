-- THE ENTRIES OF A RECORDING, each by its number from 0 (R17.1, R17.2): where its body begins, the ticks before it, the events that its
-- arguments spell, the recorded answer, and whether it is cut or has a fault.
use Rattle.std.specs.Prelude.{ℕ, zero, suc, ◌+◌, Bool, true, false, not, ◌&&◌, List, [], ◌++◌, ltb, length, take, drop, replicate, Result, Ok, Err}
use Rattle.event_decode.specs.declared.Call.{Call}
use Rattle.event_decode.specs.declared.BadCall.{BadCall}
use Rattle.event_decode.specs.Calls.{call_of}
use Rattle.recording.specs.declared.Fault.{Fault}
use Rattle.recording.specs.Recording.{entries_in, contents_to, entry_row, stamp_in, number_in, body_long, distance_in, stamps}
use Rattle.recording.specs.Entry.{arguments_in, answer_in, fault_of}
use Rattle.model.specs.Events.{tick, Event, on_whole}
use Rattle.dispatch_refines.specs.Spelt.{events_of}

unfoldable pub is_nothing : Result Unit Fault → Bool
is_nothing (Ok tt) = true
is_nothing (Err fault) = false

-- so many ticks
abbrev pub tick_events : ℕ → List Event
tick_events n = replicate n (on_whole tick)

module _ (r : List ℕ) where
  -- "The bodies follow in the same order without gaps": behind the contents rows, each behind the one before
  unfoldable pub body_begins : ℕ → ℕ
  body_begins zero = contents_to (entries_in r)
  body_begins (suc i) = body_begins i + body_long (entry_row r i)

  -- the bytes from there to the recording's end, and the body
  abbrev pub bytes_left : ℕ → List ℕ
  bytes_left i = drop (body_begins i) r

  abbrev pub entry_body : ℕ → List ℕ
  entry_body i = take (body_long (entry_row r i)) (bytes_left i)

  -- "the first stamp counts as distance 0"
  unfoldable pub stamp_before : ℕ → ℕ
  stamp_before zero = stamp_in (entry_row r 0)
  stamp_before (suc i) = stamp_in (entry_row r i)

  -- the ticks before an entry, and those before the first n entries
  abbrev pub ticks_before : ℕ → ℕ
  ticks_before i = distance_in stamps (stamp_before i) (stamp_in (entry_row r i))

  unfoldable pub ticks_up_to : ℕ → ℕ
  ticks_up_to zero = 0
  ticks_up_to (suc n) = ticks_up_to n + ticks_before n

  -- its event's number and arguments, the call that they spell, and the answer the truck gave
  abbrev pub entry_number : ℕ → ℕ
  entry_number i = number_in (entry_row r i)

  abbrev pub entry_arguments : ℕ → List ℕ
  entry_arguments i = arguments_in (entry_number i) (entry_body i)

  abbrev pub entry_call : ℕ → Result Call BadCall
  entry_call i = call_of (entry_number i) (entry_arguments i)

  abbrev pub recorded_answer : ℕ → List ℕ
  recorded_answer i = answer_in (entry_number i) (entry_body i)

  -- THE EVENTS THAT ENTRIES SPELL: an entry's ticks and then its event; those of the first n entries
  abbrev pub entry_events : ℕ → List Event
  entry_events i = tick_events (ticks_before i) ++ events_of (entry_arguments i) (entry_call i)

  unfoldable pub events_up_to : ℕ → List Event
  events_up_to zero = []
  events_up_to (suc n) = events_up_to n ++ entry_events n

  -- R17.3: cut off inside its body; why it is refused; neither
  abbrev pub is_cut : ℕ → Bool
  is_cut i = ltb (length (bytes_left i)) (body_long (entry_row r i))

  abbrev pub fault_of_entry : ℕ → Result Unit Fault
  fault_of_entry i = fault_of (ticks_before i) (entry_row r i) (entry_body i)

  abbrev pub is_fine : ℕ → Bool
  is_fine i = not (is_cut i) && is_nothing (fault_of_entry i)
