-- `dispatch_receive::take_once` meets its contract.
use native.Mathlib.Omega.{arith}
use Rattle.dispatch_receive.proofs.Once.{turn-within, turn_is}
use Rattle.wire.proofs.Clauses.{value_rx_out}
use Rattle.dispatch_receive.proofs.take_once.Goals as goal

pub overflow_add-result : goal.overflow_add-result
overflow_add-result c =
    let a = c.args in
    omega (
      arith,
      turn-within a.routes.now a.switches a.connection a.segment.now a.turn a.rx.now a.out.now c.requires
          (λ i. (c.shared_slice_known-2-1.given i).fits) c.bytes_from-rest.ensures.bytes c.take-taken.ensures.answer,
      c.well_formed.1.1.1.1.1.0.0,
    )

pub overflow_add-result-2 : goal.overflow_add-result-2
overflow_add-result-2 c =
    omega (arith, c.requires.low, c.requires.within, c.well_formed.1.1.1.1.1.0.1)

pub returns : goal.returns
returns c =
    let a = c.args in
    value_rx_out (turn_is a.routes.now a.switches a.connection a.segment.now a.turn a.rx.now a.out.now
    c.requires (λ i. (c.shared_slice_known-2-1.given i).fits) c.bytes_from-rest.ensures.bytes
    c.take-taken.ensures.answer c.take-taken.ensures.memory c.segment_payload-payload.ensures.bytes
    c.put_take-place.ensures.value c.put_take-place.ensures.out_after c.drops_after.ensures)
