-- `dispatch_receive::segment` meets its contract.
use Rattle.std.proofs.Common.{refl, arith, rules}
use Rattle.gate.specs.Lent.{loan}
use Rattle.event_answer.proofs.Short.{not_roomy, long_of}
use Rattle.dispatch_receive.specs.Segment.{all_takes, segment_effect}
use Rattle.dispatch_receive.proofs.Room.{takes-fit, segment-roomy, segment-long}
use Rattle.dispatch_receive.proofs.Run.{all_told}
use Rattle.wire.proofs.Clauses.{value_rx_out}
use Rattle.dispatch_receive.proofs.segment.Goals as goal

pub returns-in-Err : goal.returns-in-Err
unfolding segment_effect
returns-in-Err c = value_rx_out (rw (not_roomy _ _ _ _ _ c.has_room.ensures c.in-Err.is) (search rules, (refl, refl)))

pub returns-then-segment-gt4096 : goal.returns-then-segment-gt4096
returns-then-segment-gt4096 c =
    let a = c.args in
    value_rx_out (rw (segment-long (loan a.image.now a.state a.rx.now a.tx.now)
    a.out.now a.connection a.segment.now (long_of a.out.now c.has_room.ensures c.in_default.is) c.if-segment-gt4096.true)
    (refl, (refl, refl)))

pub take_all-taken-requires : goal.take_all-taken-requires
take_all-taken-requires c = let a = c.args in omega (arith, (long_of a.out.now c.has_room.ensures c.in_default.is), c.if-segment-gt4096.false)

pub returns : goal.returns
returns c =
    let a = c.args in
    value_rx_out (rw (segment-roomy (loan a.image.now a.state a.rx.now a.tx.now)
    a.out.now a.connection a.segment.now (long_of a.out.now c.has_room.ensures c.in_default.is) c.if-segment-gt4096.false)
    (all_told (all_takes (loan a.image.now a.state a.rx.now a.tx.now) a.connection a.segment.now) a.tx.now a.out.now
    (omega (
      arith,
      (long_of a.out.now c.has_room.ensures c.in_default.is),
      c.if-segment-gt4096.false,
      takes-fit (loan a.image.now a.state a.rx.now a.tx.now) a.connection a.segment.now,
    )) c.take_all-taken.ensures.value c.take_all-taken.ensures.rx_after c.take_all-taken.ensures.out_after c.put_takes-length.ensures.value
    c.put_takes-length.ensures.out_after))
