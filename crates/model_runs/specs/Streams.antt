-- R15.5, THE STREAM OF A TCP CONNECTION in a run: the bytes of its accepted segments, each beside the switch word that stands when it is
-- read; one stream for each online period.
use Rattle.std.specs.Prelude.{ℕ, ◌≡◌, Bool, true, false, cond, not, ◌&&◌, List, [], ◌∷◌, ◌++◌, map, eqb, ltb}
use Rattle.connection.specs.Connection.{is_online}
use Rattle.reading.specs.Feed.{Routes, Cell, ready, Handed}
use Rattle.reading_lengths.specs.Listed.{Marked, mark, listed, listed_from, Bytes, Shaped}
use Rattle.model.specs.World.{Held, World, held_at, cell_at}
use Rattle.model.specs.Events.{change, segment, walk, take_waiting, Whole, Event, on, on_whole}
use Rattle.connection.specs.Event.{receiving}
use Rattle.model.specs.Step.{Table, step}

abbrev pub online : World → ℕ → Bool
online w k = is_online (held_at w k).connection.mode

-- the stream of the present online period, and those of the later ones
pub record Streams : Type 0 where
  pub first : List Marked
  pub later : List (List Marked)

abbrev pub streams : List Marked → List (List Marked) → Streams
streams s ss = record { first = s; later = ss }

-- more bytes in the present period; or it has ended here, and another begins
abbrev pub longer : Bool → List Marked → Streams → Streams
longer true bytes s = streams [] (s.first ∷ s.later)
longer false bytes s = streams (bytes ++ s.first) s.later

module _ (T : Table) (whole : Whole → World → World) (k : ℕ) where
  -- whether connection k reads a segment
  abbrev pub accepts : World → ℕ → Bool
  accepts w i = eqb i k && (ltb k T.rows && ((T.config k).tcp && receiving (held_at w k).connection))

  -- the bytes that connection k reads at an event
  abbrev pub reads : World → Event → List Marked
  reads w (on i (change e)) = []
  reads w (on i (segment bytes)) = cond (accepts w i) (map (mark (held_at w k).connection.switches) bytes) []
  reads w (on i (walk datagram place)) = []
  reads w (on i (take_waiting room)) = []
  reads w (on_whole e) = []

  -- whether an online period of connection k ends at an event: by a loss or a closing tick
  abbrev pub ends : World → Event → Bool
  ends w e = online w k && not (online (step T whole w e) k)

  -- ITS STREAMS in a run
  unfoldable pub streams_of : World → List Event → Streams
  streams_of w [] = streams [] []
  streams_of w (e ∷ es) = longer (ends w e) (reads w e) (streams_of (step T whole w e) es)

-- THE PDUS AND TRANSFERS OF STREAMS, by lengths: those that are complete, routed, switched on at their eighth header byte and short
-- enough, and transfers with their bytes so far (no stream goes on with a transfer of the one before); the first stream begins with what
-- the record holds, the later ones at a header's first byte
unfoldable pub listed_later : (ℕ → Routes) → List (List Marked) → List Handed
listed_later Q [] = []
listed_later Q (s ∷ ss) = listed Q s ++ listed_later Q ss

unfoldable pub listed_in : (ℕ → Routes) → Cell → Streams → List Handed
listed_in Q c s = listed_from Q c s.first ++ listed_later Q s.later

-- a run whose segments are bytes
abbrev pub EventBytes : Event → Type 0
EventBytes (on i (change e)) = Unit
EventBytes (on i (segment bytes)) = Bytes bytes
EventBytes (on i (walk datagram place)) = Unit
EventBytes (on i (take_waiting room)) = Unit
EventBytes (on_whole e) = Unit

abbrev pub RunBytes : List Event → Type 0
RunBytes [] = Unit
RunBytes (e ∷ es) = EventBytes e × RunBytes es

-- a connection that is not online holds nothing of a stream
abbrev pub Quiet : Held → Type 0
Quiet h = is_online h.connection.mode ≡ false → cell_at h ≡ ready

-- a connection of a sound state: what it holds of its stream has its shape, and it holds nothing unless it is online
pub record Rests (h : Held) : Type 0 where
  pub shape : Shaped (cell_at h)
  pub quiet : Quiet h

-- what anything but a segment may do to what a connection holds of its stream: leave it, or end it
pub record Kept (h h' : Held) : Type 0 where
  pub going : is_online h'.connection.mode ≡ true → cell_at h' ≡ cell_at h
  pub gone : Quiet h'
