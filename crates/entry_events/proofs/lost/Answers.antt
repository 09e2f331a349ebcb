-- `entry_events::lost` meets its contract.
use Prim.Native.Nat.{◌≤◌}
use native.Mathlib.Omega.{arith}
use lib.ListN.{length}
use Rattle.entry_events.proofs.Fails.{loss_told, loss_past}
use Rattle.entry_events.proofs.lost.Goals as goal

pub returns-then-n-lt16 : goal.returns-then-n-lt16
returns-then-n-lt16 c = loss_told _ _ _ c.happen-told.ensures c.failed.ensures

pub returns : goal.returns
returns c =
    let all = c.well_formed.1.0.1.1.0.1.0.1 in
    let h : length c.args.state.connections ≤ c.args.connection = omega (arith, all, c.if-n-lt16.false) in
    loss_past _ _ _ c.happen-told.ensures h
