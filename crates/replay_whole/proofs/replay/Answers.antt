-- `replay_whole::replay` meets its contract.
use Rattle.replay_whole.specs.Replay.{under_table, replay_of}
use Rattle.wire.proofs.Clauses.{value_rx_tx_out}
use Rattle.replay_whole.proofs.replay.Goals as goal

pub returns-in-Ok : goal.returns-in-Ok
unfolding replay_of under_table
returns-in-Ok c = value_rx_tx_out (rw (← c.check_table.ensures, c.in-Ok.is, ← c.front_of.ensures)
    (c.under_front.ensures.value, (c.under_front.ensures.rx_after, (c.under_front.ensures.tx_after, c.under_front.ensures.out_after))))
