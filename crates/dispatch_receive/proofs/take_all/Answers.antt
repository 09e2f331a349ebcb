use mathlib.Core.Path.{refl, sym, ◌∙◌}
use native.Mathlib.Omega.{arith}
use Rattle.gate.specs.Lent.{loan, lent_by}
use Rattle.dispatch_receive.proofs.Run.{refused-first}
use Rattle.dispatch_receive.proofs.Turned.{gate_open, turn-start, turn-goes, turn_on, turn-ends, turn-count, put_together}
use Rattle.wire.proofs.Clauses.{value_rx_out}
use Rattle.dispatch_receive.proofs.take_all.Goals as goal

pub returns-then-not-done : goal.returns-then-not-done
returns-then-not-done c =
    let a = c.args in
    value_rx_out (refused-first (loan a.image.now a.state a.rx.now a.tx.now) a.connection a.segment.now a.out.now
    c.may_take-answer.result c.may_take-answer.ensures (sym c.is_done-done.ensures ∙ c.if-not-done.true))

pub offset_bounds-state-n : goal.offset_bounds-state-n
offset_bounds-state-n c =
    let a = c.args in
    let done = sym c.is_done-done.ensures ∙ c.if-not-done.false in
    let o = gate_open (lent_by a.image.now a.state a.rx.now a.tx.now) a.connection c.may_take-answer.ensures done in
    omega (arith, o.small)

pub bounds-state-n : goal.bounds-state-n
bounds-state-n c =
    let a = c.args in
    let done = sym c.is_done-done.ensures ∙ c.if-not-done.false in
    let o = gate_open (lent_by a.image.now a.state a.rx.now a.tx.now) a.connection c.may_take-answer.ensures done in
    o.small

pub body_laid-routes-requires : goal.body_laid-routes-requires
body_laid-routes-requires c =
    let a = c.args in
    let done = sym c.is_done-done.ensures ∙ c.if-not-done.false in
    (gate_open (lent_by a.image.now a.state a.rx.now a.tx.now) a.connection c.may_take-answer.ensures done).laid

pub loop-turn-init : goal.loop-turn-init
loop-turn-init c =
    let a = c.args in
    let done = sym c.is_done-done.ensures ∙ c.if-not-done.false in
    let o = gate_open (lent_by a.image.now a.state a.rx.now a.tx.now) a.connection c.may_take-answer.ensures done in
    (turn-start (loan a.image.now a.state a.rx.now a.tx.now) a.connection a.segment.now a.out.now c.requires o.clear, (refl, refl))

pub take_once-turn-requires : goal.take_once-turn-requires
take_once-turn-requires c =
    let a = c.args in
    let done = sym c.is_done-done.ensures ∙ c.if-not-done.false in
    let o = gate_open (lent_by a.image.now a.state a.rx.now a.tx.now) a.connection c.may_take-answer.ensures done in
    turn-goes (loan a.image.now a.state a.rx.now a.tx.now) a.connection a.segment.now a.out.now
    o.there c.loop-turn.turn c.loop-turn.rx c.loop-turn.out c.loop-turn.invariant.0 c.body_laid-routes.ensures.bytes

pub offset_bounds-next-n : goal.offset_bounds-next-n
offset_bounds-next-n c =
    let a = c.args in
    let done = sym c.is_done-done.ensures ∙ c.if-not-done.false in
    let o = gate_open (lent_by a.image.now a.state a.rx.now a.tx.now) a.connection c.may_take-answer.ensures done in
    omega (arith, o.small)

pub bounds-next-n : goal.bounds-next-n
bounds-next-n c =
    let a = c.args in
    let done = sym c.is_done-done.ensures ∙ c.if-not-done.false in
    let o = gate_open (lent_by a.image.now a.state a.rx.now a.tx.now) a.connection c.may_take-answer.ensures done in
    o.small

pub returns-then-segment-turn : goal.returns-then-segment-turn
returns-then-segment-turn c =
    let a = c.args in
    let done = sym c.is_done-done.ensures ∙ c.if-not-done.false in
    let o = gate_open (lent_by a.image.now a.state a.rx.now a.tx.now) a.connection c.may_take-answer.ensures done in
    value_rx_out (put_together (loan a.image.now a.state a.rx.now a.tx.now) a.connection a.segment.now a.out.now c.take_once-turn.result
    (turn-ends (loan a.image.now a.state a.rx.now a.tx.now) a.connection a.segment.now a.out.now
    o.there c.loop-turn.turn c.loop-turn.rx c.loop-turn.out c.loop-turn.invariant.0
    c.body_laid-routes.ensures.bytes c.take_once-turn.ensures.value c.take_once-turn.ensures.rx_after c.take_once-turn.ensures.out_after c.if-segment-turn.true)
    done c.with_part.ensures)

pub loop-turn-smaller : goal.loop-turn-smaller
loop-turn-smaller c =
    let a = c.args in
    let done = sym c.is_done-done.ensures ∙ c.if-not-done.false in
    let o = gate_open (lent_by a.image.now a.state a.rx.now a.tx.now) a.connection c.may_take-answer.ensures done in
    let g = turn_on (loan a.image.now a.state a.rx.now a.tx.now) a.connection a.segment.now a.out.now
    o.there c.loop-turn.turn c.loop-turn.rx c.loop-turn.out c.loop-turn.invariant.0 c.body_laid-routes.ensures.bytes c.take_once-turn.ensures.value
    c.take_once-turn.ensures.rx_after
    c.take_once-turn.ensures.out_after (λ i. (c.shared_slice_known-3-1.given i).fits) (omega (arith, c.if-segment-turn.false)) in
    let n = turn-count (loan a.image.now a.state a.rx.now a.tx.now) a.connection a.segment.now a.out.now
    o.there c.loop-turn.turn c.loop-turn.rx c.loop-turn.out c.loop-turn.invariant.0 c.body_laid-routes.ensures.bytes c.take_once-turn.ensures.value
    c.take_once-turn.ensures.rx_after c.take_once-turn.ensures.out_after in
    omega (arith, c.loop-turn.invariant.0.low, g.low, c.if-segment-turn.false, n)

pub loop-turn-preserved : goal.loop-turn-preserved
loop-turn-preserved c = (
  let a = c.args in
      let done = sym c.is_done-done.ensures ∙ c.if-not-done.false in
      let o = gate_open (lent_by a.image.now a.state a.rx.now a.tx.now) a.connection c.may_take-answer.ensures done in
      turn_on (loan a.image.now a.state a.rx.now a.tx.now) a.connection a.segment.now a.out.now
      o.there c.loop-turn.turn c.loop-turn.rx c.loop-turn.out c.loop-turn.invariant.0 c.body_laid-routes.ensures.bytes c.take_once-turn.ensures.value
      c.take_once-turn.ensures.rx_after
      c.take_once-turn.ensures.out_after (λ i. (c.shared_slice_known-3-1.given i).fits) (omega (arith, c.if-segment-turn.false)),
  (omega arith, omega arith),
)
