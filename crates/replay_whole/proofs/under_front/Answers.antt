-- `replay_whole::under_front` meets its contract.
use mathlib.Core.Path.{refl}
use Rattle.replay_whole.specs.Replay.{under_front}
use Rattle.replay_whole.proofs.Entries.{unrun_so, played_so}
use Rattle.wire.proofs.Clauses.{value_rx_tx_out}
use Rattle.replay_whole.proofs.under_front.Goals as goal

pub returns-in-Err : goal.returns-in-Err
unfolding under_front
returns-in-Err c = rw c.in-Err.is record {
  value = unrun_so _ _ _ _ c.unrun.ensures c.fresh_state-state.ensures;
  rx_after = refl;
  tx_after = refl;
  out_after = refl;
}

pub returns-in-Ok : goal.returns-in-Ok
unfolding under_front
returns-in-Ok c = value_rx_tx_out (rw c.in-Ok.is
    (played_so _ _ _ _ _ _ _ _ _ _ _ (c.play.ensures.value, (c.play.ensures.rx_after, (c.play.ensures.tx_after, c.play.ensures.out_after)))
    c.fresh_state-state.ensures))
