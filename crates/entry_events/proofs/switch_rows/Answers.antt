use Prim.Native.Nat.{◌<◌}
use mathlib.Core.Path.{◌≡◌, refl, ap, ◌∙◌}
use lib.ListN.{length}
use native.Mathlib.Omega.{arith}
use borrow.Author.Rules.{rules}
use Rattle.connection.specs.Connection.{switched_of}
use Rattle.state.proofs.Upto.{still, turn}
use Rattle.entry_events.specs.Module.{switch_at, switched_all}
use Rattle.entry_events.proofs.switch_rows.Goals as goal

pub loop-i-init : goal.loop-i-init
loop-i-init c = (search rules, search rules, c.well_formed.1.0.1.1.0.1.0.1, refl)

pub loop-i-preserved : goal.loop-i-preserved
loop-i-preserved c =
    let a = c.args in
    let h : c.loop-i.i < length a.state.connections = omega arith in
    let d = c.switch-next.ensures ∙ ap (switched_of a.number a.on) (still (switch_at a.number a.on) a.state _ _ c.loop-i.invariant.3) in
    (omega arith, c.loop-i.invariant.1, c.loop-i.invariant.2, turn (switch_at a.number a.on) a.state _ _ _ h c.loop-i.invariant.3 d)

pub returns : goal.returns
unfolding switched_all
returns c =
    let a = c.args in
    let e : c.loop-i.i ≡ a.rows = omega arith in
    rw e at c.loop-i.invariant.3
