-- R15.5, THE STREAMS OF A TCP CONNECTION in a run of the machine: the bytes of its accepted segments, each beside the switch word that stands when
-- it is read; one stream for each online period.
use Rattle.std.specs.Prelude.{ℕ, Bool, cond, not, ◌&&◌, List, [], ◌∷◌, map, eqb}
use Rattle.connection.specs.Connection.{is_online}
use Rattle.connection.specs.Event.{receiving}
use Rattle.state.specs.State.{record_at}
use Rattle.reading_lengths.specs.Listed.{Marked, mark}
use Rattle.model.specs.Events.{change, segment, walk, take_waiting, Event, on, on_whole}
use Rattle.model_runs.specs.Streams.{Streams, streams, longer}
use Rattle.model_refines.specs.Machine.{Machine}
use Rattle.model_refines.specs.Run.{after_event}

-- of connection k, which is a TCP row of the table
module _ (image : List ℕ) (k : ℕ) where
  abbrev pub online_at : Machine → Bool
  online_at m = is_online (record_at m.state k).mode

  -- the bytes that it reads at an event: of a segment of its own, where it is online without close wanted
  abbrev pub reads_at : Machine → Event → List Marked
  reads_at m (on i (change e)) = []
  reads_at m (on i (segment bytes)) = cond (eqb i k && receiving (record_at m.state k)) (map (mark (record_at m.state k).switches) bytes) []
  reads_at m (on i (walk datagram place)) = []
  reads_at m (on i (take_waiting room)) = []
  reads_at m (on_whole e) = []

  -- whether an online period of it ends at an event
  abbrev pub ends_at : Machine → Event → Bool
  ends_at m e = online_at m && not (online_at (after_event image e m))

  unfoldable pub streams_in : Machine → List Event → Streams
  streams_in m [] = streams [] []
  streams_in m (e ∷ es) = longer (ends_at m e) (reads_at m e) (streams_in (after_event image e m) es)
