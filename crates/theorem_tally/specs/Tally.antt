-- A RUN OF CALLS, COUNTED ENTRY BY ENTRY (R21.10), and the run of events that it spells.
use Rattle.std.specs.Prelude.{ℕ, List, [], ◌∷◌, ◌++◌, replicate}
use Rattle.reading_lengths.specs.Listed.{Bytes}
use Rattle.event_decode.specs.Calls.{call_of}
use Rattle.model.specs.Events.{Event, tick, on_whole}
use Rattle.dispatch_refines.specs.Spelt.{events_of}
use Rattle.recording.specs.Recording.{distance_in, stamps}
use Rattle.report_count.specs.declared.Run.{Run}
use Rattle.report_count.specs.Count.{event_counted}
use Rattle.theorem_record.specs.Record.{Noted}
use Rattle.theorem_record.specs.Again.{Timed}

-- THE COUNT: each entry by its number, its arguments and its answer
unfoldable pub entries_counted : Run → List Noted → Run
entries_counted r [] = r
entries_counted r (e ∷ es) = entries_counted (event_counted e.number e.arguments e.answer r) es

-- THE RUN: of each call the ticks since the stamp before, then the events that it spells
unfoldable pub events_timed : ℕ → List Timed → List Event
events_timed before [] = []
events_timed before (c ∷ cs) =
    replicate (distance_in stamps before c.stamp) (on_whole tick)
    ++ (events_of c.arguments (call_of c.number c.arguments) ++ events_timed c.stamp cs)

-- calls whose arguments are bytes
abbrev pub TimedBytes : List Timed → Type 0
TimedBytes [] = Unit {0}
TimedBytes (c ∷ cs) = Bytes c.arguments × TimedBytes cs
