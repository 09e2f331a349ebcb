-- `dispatch_events::clear_count` meets its contract.
use Rattle.std.proofs.Common.{ap, rules}
use Rattle.event_answer.proofs.Short.{refuses_so, long_of, replies}
use Rattle.entry_events.specs.declared.Counted.{Counted}
use Rattle.dispatch_events.specs.Events.{count_bytes, clear_effect}
use Rattle.wire.proofs.Clauses.{value_out}
use Rattle.dispatch_events.proofs.clear_count.Goals as goal

pub returns-in-Err : goal.returns-in-Err
unfolding clear_effect
returns-in-Err c = value_out (refuses_so _ _ _ _ _ c.has_room.ensures c.in-Err.is)

pub returns : goal.returns
unfolding clear_effect
returns c =
    let a = c.args in
    let h = c.clear_count-entry.ensures in
    value_out (replies a.state a.rx.now a.tx.now a.out.now (long_of a.out.now c.has_room.ensures c.in_default.is)
    c.put_count-length.ensures.value c.put_count-length.ensures.out_after (ap (λ (t : Counted). count_bytes t.answer) h) (ap (λ (t : Counted). t.state) h))
