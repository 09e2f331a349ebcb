-- DEMAND 3 (R15.3 to R15.5), as one statement of two runs from one machine.
use Rattle.std.specs.Prelude.{ℕ, ◌<◌, ◌≡◌, true, List}
use Rattle.table_layout.specs.Layout.{rows_of, body_of}
use Rattle.table_layout.specs.declared.Kind.TheVariants.{Connection as Connections, Route as Routes}
use Rattle.receive_route.specs.Route.{lookup_of}
use Rattle.state.specs.Fresh.{config_of}
use Rattle.model.specs.World.{held_at, cell_at}
use Rattle.model.specs.Events.{Event}
use Rattle.reading.specs.Feed.{compared}
use Rattle.model_runs.specs.Streams.{listed_in}
use Rattle.model_refines.specs.Machine.{Machine, seen}
use Rattle.model_refines.specs.Run.{after_run, given_in}
use Rattle.theorems.specs.Streams.{streams_in}

pub record Demand3 (image : List ℕ) (m : Machine) (es fs : List Event) : Type 0 where
  -- the end state is the same: same numbers and same held bytes
  pub state : seen (after_run image m es) ≡ seen (after_run image m fs)
  -- each connection has handed out the same PDUs and transfers in the same order: of a transfer its start, its joined bytes and its end mark
  -- (R19.9)
  pub pdus : (k : ℕ) → compared (given_in image k m es) ≡ compared (given_in image k m fs)
  -- and, of a TCP connection, that list is exactly demand 2's: of each online period's stream, by lengths; the first stream begun with what
  -- the record holds
  pub list : (k : ℕ) → k < rows_of image Connections → (config_of image k).tcp ≡ true
      → compared (given_in image k m es) ≡ listed_in (lookup_of (body_of image Routes) k) (cell_at (held_at (seen m) k)) (streams_in image k m es)
