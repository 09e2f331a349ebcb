-- `replay_step::replay_step` meets its contract.
use mathlib.Core.Path.{refl}
use borrow.Author.Tests.{lt-ltb, le-ltb}
use Rattle.replay_step.specs.Step.{entry_step}
use Rattle.replay_step.proofs.Leaves.{leaves_by, step-entered}
use Rattle.wire.proofs.Clauses.{value_rx_tx_out}
use Rattle.replay_step.proofs.replay_step.Goals as goal

pub returns-then-out-lt16384 : goal.returns-then-out-lt16384
unfolding entry_step
returns-then-out-lt16384 c = rw (lt-ltb _ _ c.if-out-lt16384.true) record {
  value = c.not_run.ensures;
  rx_after = refl;
  tx_after = refl;
  out_after = refl;
}

pub returns-then-rest-long : goal.returns-then-rest-long
unfolding entry_step
returns-then-rest-long c = rw (le-ltb _ _ c.if-out-lt16384.false, ← c.body_long-long.ensures, lt-ltb _ _ c.if-rest-long.true)
    record {
      value = c.not_run-then-rest-long.ensures;
      rx_after = refl;
      tx_after = refl;
      out_after = refl;
    }

pub returns : goal.returns
returns c = value_rx_tx_out (leaves_by _ _ _ _ _ _
    (step-entered _ _ _ _ _ _ _ _ _ _ _ c.if-out-lt16384.false c.body_long-long.ensures c.if-rest-long.false c.front-body.ensures.bytes
    c.stamp_in.ensures c.distance-count.ensures c.fault_of-fault.ensures c.number_in.ensures)
    (c.unless_fault.ensures.value, (c.unless_fault.ensures.rx_after, (c.unless_fault.ensures.tx_after, c.unless_fault.ensures.out_after))))
