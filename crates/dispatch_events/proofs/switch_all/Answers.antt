-- `dispatch_events::switch_all` meets its contract.
use Rattle.std.proofs.Common.{ap, rules}
use Rattle.event_answer.proofs.Short.{refuses_so, long_of, replies}
use Rattle.entry_events.specs.declared.Told.{Told}
use Rattle.dispatch_events.specs.Events.{told_bytes, switch_all_effect}
use Rattle.wire.proofs.Clauses.{value_out}
use Rattle.dispatch_events.proofs.switch_all.Goals as goal

pub returns-in-Err : goal.returns-in-Err
unfolding switch_all_effect
returns-in-Err c = value_out (refuses_so _ _ _ _ _ c.has_room.ensures c.in-Err.is)

pub returns : goal.returns
unfolding switch_all_effect
returns c =
    let a = c.args in
    let h = c.switch_all-entry.ensures in
    value_out (replies a.state a.rx.now a.tx.now a.out.now (long_of a.out.now c.has_room.ensures c.in_default.is)
    c.put_told-length.ensures.value c.put_told-length.ensures.out_after (ap (λ (t : Told). told_bytes t.answer) h) (ap (λ (t : Told). t.state) h))
