use Prim.Native.Nat.{◌<◌}
use mathlib.Core.Path.{◌≡◌, ap, ◌∙◌}
use native.Mathlib.Omega.{arith}
use borrow.Author.Rules.{rules}
use Rattle.connection.specs.Connection.{fresh_of}
use Rattle.state.specs.Fresh.{fresh_at, fresh_state, empty_state}
use Rattle.state.proofs.Upto.{turn, upto_whole}
use Rattle.state.proofs.fresh_state.Goals as goal

pub loop-i-init : goal.loop-i-init
loop-i-init c = (search rules, c.empty_state-next.ensures)

pub loop-i-preserved : goal.loop-i-preserved
loop-i-preserved c =
    let h : c.loop-i.i < 16 = omega arith in
    let d = c.fresh-record.ensures ∙ ap fresh_of c.config_of-config.ensures in
    (omega arith, turn (fresh_at _) empty_state _ _ _ h c.loop-i.invariant.1 d)

pub returns : goal.returns
unfolding fresh_state
returns c =
    let l : 16 ≡ c.loop-i.i = omega arith in
    upto_whole (fresh_at _) empty_state _ _ l c.loop-i.invariant.1
