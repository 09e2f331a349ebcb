-- `dispatch_events::many_ticks` meets its contract.
use Rattle.std.proofs.Common.{ap, rules}
use Rattle.event_answer.proofs.Short.{refuses_so, long_of, replies}
use Rattle.entry_ticks.specs.declared.Ticked.{Ticked}
use Rattle.dispatch_events.specs.Events.{ticks_bytes, ticks_effect}
use Rattle.wire.proofs.Clauses.{value_out}
use Rattle.dispatch_events.proofs.many_ticks.Goals as goal

pub returns-in-Err : goal.returns-in-Err
unfolding ticks_effect
returns-in-Err c = value_out (refuses_so _ _ _ _ _ c.has_room.ensures c.in-Err.is)

pub returns : goal.returns
unfolding ticks_effect
returns c =
    let a = c.args in
    let h = c.ticks_by-entry.ensures in
    value_out (replies a.state a.rx.now a.tx.now a.out.now (long_of a.out.now c.has_room.ensures c.in_default.is)
    c.put_ticks-length.ensures.value c.put_ticks-length.ensures.out_after (ap (λ (t : Ticked). ticks_bytes t.answer t.failed) h) (ap (λ
    (t : Ticked). t.state) h))
