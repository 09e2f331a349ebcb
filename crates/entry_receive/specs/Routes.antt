-- The routes of a connection, as its switches stand, and when they give which decision.
use Rattle.std.specs.Prelude.{ℕ, List}
use Rattle.reading.specs.declared.Decision.{Decision}
use Rattle.reading.specs.Feed.{Routes}
use Rattle.table_layout.specs.Layout.{body_of}
use Rattle.table_layout.specs.declared.Kind.TheVariants.{Route}
use Rattle.receive_route.specs.Route.{lookup_of}
use Rattle.receive_route.specs.Decided.{Decided}
use Rattle.state.specs.declared.State.{State}
use Rattle.state.specs.State.{record_at}

-- R5.2, R5.3: what the table's routes say on connection k of a state
abbrev pub routes_in : List ℕ → State → ℕ → Routes
routes_in image s k = lookup_of (body_of image Route) k (record_at s k).switches

-- the ground of a decision on a header with this id and length, on connection k of a state
abbrev pub DecidedIn : List ℕ → State → ℕ → ℕ → ℕ → Decision → Type 0
DecidedIn image s k id n d = Decided (body_of image Route) k (record_at s k).switches id n d
