use Rattle.std.proofs.Common.{◌≡◌, refl, ap, ◌∙◌, length, arith}
use Rattle.state.proofs.Upto.{still, turn}
use Rattle.sheet.specs.Force.{pair_at}
use Rattle.entry_sheet.specs.Apply.{forced_of, force_at, forced_rows}
use Rattle.entry_sheet.proofs.force_rows.Goals as goal

pub loop-i-init : goal.loop-i-init
loop-i-init c = refl

pub loop-i-preserved : goal.loop-i-preserved
loop-i-preserved c =
    let a = c.args in
    let sixteen : length a.state.connections ≡ 16 = c.well_formed.1.0.1.1.0.1.0.1 in
    let d = c.forced.ensures ∙ ap (forced_of (pair_at a.words c.loop-i.i)) (still (force_at a.words) a.state _ _ c.loop-i.invariant) in
    turn (force_at a.words) a.state _ _ _ (omega arith) c.loop-i.invariant d

pub returns : goal.returns
unfolding forced_rows
returns c = let e : c.loop-i.i ≡ c.args.rows = omega arith in rw e at c.loop-i.invariant
