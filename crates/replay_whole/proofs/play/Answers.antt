use mathlib.Core.Path.{refl, ap, ◌∙◌}
use mathlib.Core.Logic.{⊎_elim}
use native.Mathlib.Omega.{arith}
use borrow.Author.Rules.{rules}
use Rattle.recording.specs.Recording.{stamp_in}
use Rattle.replay_whole.proofs.Entries.{entry_start, all_done, entry_stops, entry_placed, entry_on}
use Rattle.wire.proofs.Clauses.{value_rx_tx_out}
use Rattle.replay_whole.proofs.play.Goals as goal

pub loop-i-init : goal.loop-i-init
loop-i-init c = (
  entry_start _ _ _ _ _ _ _ _ _ c.entries_in-entries.ensures (search rules) refl
      (c.stamp_in-before.ensures ∙ ap stamp_in c.entry_row.ensures.bytes),
  (refl, (refl, refl)),
)

pub shape_of-tx-in-Err : goal.shape_of-tx-in-Err
shape_of-tx-in-Err c =
    omega (arith, c.loop-i.invariant.1.1.0)

pub shape_of-out-in-Err : goal.shape_of-out-in-Err
shape_of-out-in-Err c =
    omega (arith, c.loop-i.invariant.1.1.1)

pub returns-in-Err : goal.returns-in-Err
returns-in-Err c =
    value_rx_tx_out (entry_stops _ _ _ _ _ _ _ _ _ c.loop-i.invariant.0 c.loop-i-test.true _ _ _ _ _ _ c.entry_row-row.ensures.bytes c.bytes_from.ensures.bytes
    (c.replay_step-step.ensures.value, (c.replay_step-step.ensures.rx_after, (c.replay_step-step.ensures.tx_after, c.replay_step-step.ensures.out_after))) _
    _ c.in-Err.is c.end_at.ensures)

pub overflow_add-ticks : goal.overflow_add-ticks
overflow_add-ticks c =
    omega (
      arith,
      c.loop-i.invariant.0.few,
    )

pub overflow_add-at-in-loop-i : goal.overflow_add-at-in-loop-i
overflow_add-at-in-loop-i c =
    ⊎_elim (λ x. omega (arith, x)) (λ x. omega (arith, x, c.well_formed))
    (entry_placed _ _ _ _ _ _ _ _ _ c.loop-i.invariant.0 c.loop-i-test.true _ _ _ _ _ _ c.entry_row-row.ensures.bytes c.bytes_from.ensures.bytes
    (c.replay_step-step.ensures.value, (c.replay_step-step.ensures.rx_after, (c.replay_step-step.ensures.tx_after, c.replay_step-step.ensures.out_after))) _ _
    c.in_default.is c.body_long-at.ensures)

pub loop-i-preserved : goal.loop-i-preserved
loop-i-preserved c = (
  entry_on _ _ _ _ _ _ _ _ _ c.loop-i.invariant.0 c.loop-i-test.true _ _ _ _ _ _ c.entry_row-row.ensures.bytes c.bytes_from.ensures.bytes
      (c.replay_step-step.ensures.value, (c.replay_step-step.ensures.rx_after, (c.replay_step-step.ensures.tx_after, c.replay_step-step.ensures.out_after)))
      _ _ _ _ _ _ _
      c.in_default.is
      c.stamp_in.ensures c.distance.ensures
      (omega (arith, c.distance.type_inv)) c.body_long-at.ensures
      c.stamp_in-before-in-loop-i.ensures c.is_other.ensures c.first_other-differs.ensures,
  (
    omega (arith, c.replay_step-step.auto, c.loop-i.invariant.1),
    (omega (arith, c.replay_step-step.auto, c.loop-i.invariant.1), omega (arith, c.replay_step-step.auto, c.loop-i.invariant.1)),
  ),
)

pub returns : goal.returns
returns c = value_rx_tx_out (all_done _ _ _ _ _ _ _ _ _ _ c.loop-i.invariant.0 c.loop-i-test.false refl)
