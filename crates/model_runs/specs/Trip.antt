-- WHO READS SEGMENTS in a run, and the segments of a stream that was cut.
use Rattle.std.specs.Prelude.{ℕ, ◌≡◌, true, List, map, ltb}
use Rattle.reading.specs.Feed.{ready}
use Rattle.connection.specs.Event.{receiving}
use Rattle.model.specs.World.{World, held_at, cell_at}
use Rattle.model.specs.Events.{segment, Event, on}
use Rattle.model.specs.Step.{Table}

-- R5.17, a reader that is ready: a TCP connection that is there, online without close wanted, and holds nothing
pub record Reads (T : Table) (w : World) (k : ℕ) : Type 0 where
  pub there : ltb k T.rows ≡ true
  pub tcp : (T.config k).tcp ≡ true
  pub receives : receiving (held_at w k).connection ≡ true
  pub at_header : cell_at (held_at w k) ≡ ready

-- one segment event on connection k for each piece
abbrev pub as_segments : ℕ → List (List ℕ) → List Event
as_segments k pieces = map (λ (p : List ℕ). on k (segment p)) pieces
