-- `dispatch_send::datagram` meets its contract.
use Rattle.std.proofs.Common.{ap, rules}
use Rattle.event_answer.proofs.Short.{refuses_so, long_of, replies}
use Rattle.select.specs.declared.Arrived.{Arrived}
use Rattle.dispatch_send.specs.Send.{arrival_bytes, datagram_effect}
use Rattle.wire.proofs.Clauses.{value_out}
use Rattle.dispatch_send.proofs.datagram.Goals as goal

pub returns-in-Err : goal.returns-in-Err
unfolding datagram_effect
returns-in-Err c = value_out (refuses_so _ _ _ _ _ c.has_room.ensures c.in-Err.is)

pub returns : goal.returns
unfolding datagram_effect
returns c =
    let a = c.args in
    let h = c.arrive-entry.ensures in
    value_out (replies a.state a.rx.now a.tx.now a.out.now (long_of a.out.now c.has_room.ensures c.in_default.is)
    c.put_arrival-length.ensures.value c.put_arrival-length.ensures.out_after (ap (λ (t : Arrived). arrival_bytes t.answer) h) (ap (λ
    (t : Arrived). t.state) h))
