-- DEMAND 3, OF THE DISPATCHER (R16.3), as one statement of two lists of calls from one machine.
use Rattle.std.specs.Prelude.{ℕ, ◌<◌, ◌≡◌, true, List}
use Rattle.table_layout.specs.Layout.{rows_of, body_of}
use Rattle.table_layout.specs.declared.Kind.TheVariants.{Connection as Connections, Route as Routes}
use Rattle.receive_route.specs.Route.{lookup_of}
use Rattle.state.specs.Fresh.{config_of}
use Rattle.model.specs.World.{held_at, cell_at}
use Rattle.reading.specs.Feed.{Out, compared}
use Rattle.model_runs.specs.Streams.{listed_in}
use Rattle.model_refines.specs.Machine.{Machine, seen}
use Rattle.theorems.specs.Streams.{streams_in}
use Rattle.dispatch_refines.specs.Spelt.{Spoken, spelt_in, after_dispatches}

-- `told` says what calls one after the other have told for a connection: by the bytes of their answers (specs/Read `told_in`), or by the takes and
-- walks that they answer (specs/Told `tells_in`)
pub record CallsAlike (told : ℕ → Machine → List Spoken → List Out) (image : List ℕ) (m : Machine) (cs ds : List Spoken) : Type 0 where
  -- the end state is the same: same numbers and same held bytes
  pub state : seen (after_dispatches image m cs) ≡ seen (after_dispatches image m ds)
  -- for each connection they have told the same PDUs and transfers in the same order: of a transfer its start, its joined bytes and its end
  -- mark (R19.9)
  pub pdus : (k : ℕ) → compared (told k m cs) ≡ compared (told k m ds)
  -- and, of a TCP connection, that list is exactly demand 2's: of each online period's stream, by lengths; the first stream begun with what
  -- the record holds
  pub list : (k : ℕ) → k < rows_of image Connections → (config_of image k).tcp ≡ true
      → compared (told k m cs) ≡ listed_in (lookup_of (body_of image Routes) k) (cell_at (held_at (seen m) k)) (streams_in image k m (spelt_in cs))
