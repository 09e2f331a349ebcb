-- What an image says to the world of runs.
use Rattle.std.specs.Prelude.{ℕ, List}
use Rattle.table_layout.specs.Layout.{rows_of, body_of}
use Rattle.table_layout.specs.declared.Kind.TheVariants.{Connection, Route}
use Rattle.receive_route.specs.Route.{lookup_of}
use Rattle.state.specs.Fresh.{config_of}
use Rattle.model.specs.Step.{Table}

-- how many connections, what the table says of each, and what its routes say as its switches stand
abbrev pub table_of : List ℕ → Table
table_of image = record { rows = rows_of image Connection; config = config_of image; routes = λ k switches. lookup_of (body_of image Route) k switches }
