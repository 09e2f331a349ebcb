-- `replay_step::happen` meets its contract.
use Rattle.std.proofs.Common.{ap}
use Rattle.event_answer.specs.declared.Dispatched.{Dispatched}
use Rattle.replay_step.proofs.Leaves.{happens_so}
use Rattle.wire.proofs.Clauses.{value_rx_tx_out}
use Rattle.replay_step.proofs.happen.Goals as goal

pub returns : goal.returns
returns c =
    let d = c.dispatch-done.ensures in
    value_rx_tx_out (happens_so _ _ _ _ _ _ _ _ _ _ _ _ _ _ c.ticks_by-later.ensures c.arguments_in-given.ensures.bytes
    (ap (λ (x : Dispatched). x.state) d.value) (ap (λ (x : Dispatched). x.verdict) d.value) d.rx_after d.tx_after d.out_after
    c.answer_in.ensures.bytes c.played_by.ensures)
