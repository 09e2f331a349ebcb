-- THE DECISION ON A HEADER, of an accepted table: it has the ground that R5.5 gives for it, and no other decision has one; one row
-- at most bears an id on a connection.
use Prim.Native.Nat.{ℕ}
use mathlib.Core.Path.{◌≡◌}
use mathlib.Core.List.{List}
use native.Mathlib.Omega.{arith}
use Rattle.reading.specs.declared.Decision.{Decision}
use Rattle.table_layout.specs.Layout.{body_of}
use Rattle.table_layout.specs.declared.Kind.TheVariants.{Route}
use Rattle.table_layout.proofs.Parts.{body-rows}
use Rattle.table.specs.Accepts.{Accepts}
use Rattle.state.specs.declared.State.{State}
use Rattle.state.specs.State.{record_at}
use Rattle.receive_route.specs.Decided.{Bears, Alone}
use Rattle.receive_route.proofs.Decided.{lookup_decided, one-bears, decided_lookup}
use Rattle.entry_receive.specs.Routes.{routes_in, DecidedIn}
use Rattle.entry_receive.proofs.Routed.{rows-within}

module _ (image : List ℕ) (a : Accepts image) where
  alone : Alone (body_of image Route)
  alone i j l h = a.routes_apart i j l (omega (arith, h, rows-within (body_of image Route), body-rows image a.laid Route))

  pub one-route : (k id i j : ℕ) → Bears (body_of image Route) k id i → Bears (body_of image Route) k id j → i ≡ j
  one-route k id = one-bears (body_of image Route) k id alone

  module _ (s : State) (k id n : ℕ) where
    pub header-decided : DecidedIn image s k id n (routes_in image s k id n)
    header-decided = lookup_decided (body_of image Route) k (record_at s k).switches id n

    pub decided-header : (d : Decision) → DecidedIn image s k id n d → routes_in image s k id n ≡ d
    decided-header d h = decided_lookup (body_of image Route) k id alone (record_at s k).switches n d h
