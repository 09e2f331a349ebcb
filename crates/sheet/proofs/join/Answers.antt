use Rattle.std.proofs.Common.{◌≡◌, refl, length, arith}
use Rattle.sheet.proofs.Turns.{join-on, join-ended}
use Rattle.sheet.proofs.join.Goals as goal

pub loop-i-init : goal.loop-i-init
loop-i-init c = refl

pub loop-i-preserved : goal.loop-i-preserved
loop-i-preserved c =
    let a = c.args in
    let sixteen : length a.earlier.pairs ≡ 16 = c.well_formed.0.1.1.0.1.0.1 in
    join-on a.earlier a.later (record { pairs = c.loop-i.pair-items }) c.loop-i.i c.then.result (omega arith) c.loop-i.invariant c.then.ensures

pub returns : goal.returns
returns c =
    let sixteen : length c.args.earlier.pairs ≡ 16 = c.well_formed.0.1.1.0.1.0.1 in
    join-ended c.args.earlier c.args.later (record { pairs = c.loop-i.pair-items }) c.loop-i.i (omega arith) c.loop-i.invariant
