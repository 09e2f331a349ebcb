use Rattle.std.proofs.Common.{◌≡◌, ◌-◌, ◌+◌, arith}
use Rattle.report_count.specs.Count.{takes_counted}
use Rattle.report_count.proofs.Turns.{route_small, count-on}
use Rattle.report_count.proofs.takes_counted.Goals as goal

pub bounds-after-adds : goal.bounds-after-adds
bounds-after-adds c = rw c.adds_of-adds.ensures (route_small _ _ _ _)

pub bounds-after-adds-in-loop-i : goal.bounds-after-adds-in-loop-i
bounds-after-adds-in-loop-i c = rw c.adds_of-adds.ensures (route_small _ _ _ _)

pub loop-i-preserved : goal.loop-i-preserved
loop-i-preserved c =
    let a = c.args in
    count-on a.connection a.s.now c.loop-i.after (a.count - c.loop-i._i) (a.count - (c.loop-i._i + 1)) c.loop-i.at _ c.adds_of-adds.result
    _ _ _ _ _ _ _ (omega arith) c.loop-i.invariant c.bytes_from-rest.ensures.bytes c.adds_of-adds.ensures
    c.fits.ensures c.fits-in-loop-i.ensures c.plus.ensures c.plus-in-loop-i.ensures c.take_needs.ensures c.passed-at.ensures

pub returns : goal.returns
unfolding takes_counted
returns c = let e : c.args.count - c.loop-i._i ≡ 0 = omega arith in rw e at c.loop-i.invariant
