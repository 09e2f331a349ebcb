use Rattle.std.proofs.Common.{◌-◌, ◌+◌, arith}
use Rattle.recording.proofs.Takes.{takes-refused, takes-next, takes-within, takes-ended}
use Rattle.recording.proofs.takes_fit.Goals as goal

pub returns-then-not-take_fits-needs : goal.returns-then-not-take_fits-needs
returns-then-not-take_fits-needs c =
    takes-refused _ _ _ (c.args.count - (c.loop-i._i + 1)) _ _ _ _ c.loop-i.invariant (omega arith)
    c.bytes_from-rest.ensures.bytes c.take_fits.ensures c.take_needs-needs.ensures c.if-not-take_fits-needs.true-raw

pub overflow_add-at : goal.overflow_add-at
overflow_add-at c =
    omega (
      arith,
      takes-within _ _ _ (c.args.count - (c.loop-i._i + 1)) _ _ _ _ c.loop-i.invariant (omega arith)
          c.bytes_from-rest.ensures.bytes c.take_fits.ensures c.take_needs-needs.ensures c.if-not-take_fits-needs.false-raw,
    )

pub loop-i-preserved : goal.loop-i-preserved
loop-i-preserved c =
    takes-next _ _ _ (c.args.count - (c.loop-i._i + 1)) _ _ _ _ c.loop-i.invariant (omega arith)
    c.bytes_from-rest.ensures.bytes c.take_fits.ensures c.take_needs-needs.ensures c.if-not-take_fits-needs.false-raw

pub returns : goal.returns
returns c = takes-ended _ _ _ _ c.loop-i.invariant (omega arith)
