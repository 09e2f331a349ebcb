use Rattle.std.proofs.Common.{refl, arith}
use Rattle.report.proofs.Turns.{joined-on, joined-all}
use Rattle.report.proofs.add_all.Goals as goal

pub loop-i-init : goal.loop-i-init
loop-i-init g c = refl

pub loop-i-preserved : goal.loop-i-preserved
loop-i-preserved g c =
    let f = g.F.Figures in
    joined-on f.nothing f.sum c.args.these.now c.args.more.now c.loop-i.i c.loop-i.these _ _ _ c.loop-i.auto.these c.requires c.loop-i-test.true
    c.loop-i.invariant c.index-more-i.is c.plus.ensures

pub returns : goal.returns
returns g c =
    let f = g.F.Figures in
    joined-all f.nothing f.sum c.args.these.now c.args.more.now c.loop-i.i c.loop-i.these c.requires (omega arith) c.loop-i.invariant
