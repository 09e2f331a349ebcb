-- `dispatch_receive::walk` meets its contract.
use Rattle.std.proofs.Common.{refl, ap, rules}
use Rattle.gate.specs.Lent.{loan}
use Rattle.event_answer.proofs.Reply.{reply}
use Rattle.event_answer.proofs.Short.{refuses_so, long_of}
use Rattle.entry_receive.specs.declared.DatagramWalked.{DatagramWalked}
use Rattle.dispatch_receive.specs.Walk.{walked_bytes, walk_effect}
use Rattle.dispatch_receive.proofs.Room.{walk-short, walk-long}
use Rattle.wire.proofs.Clauses.{value_out}
use Rattle.dispatch_receive.proofs.walk.Goals as goal

pub returns-in-Err : goal.returns-in-Err
unfolding walk_effect
returns-in-Err c = value_out (refuses_so _ _ _ _ _ c.has_room.ensures c.in-Err.is)

pub returns-then-datagram-gt4096 : goal.returns-then-datagram-gt4096
returns-then-datagram-gt4096 c =
    let a = c.args in
    value_out (rw (walk-long (loan a.image.now a.state a.rx.now a.tx.now) a.out.now
    a.connection a.place a.datagram.now (long_of a.out.now c.has_room.ensures c.in_default.is) c.if-datagram-gt4096.true) (refl, refl))

pub returns : goal.returns
returns c =
    let a = c.args in
    let h = c.walk_datagram-walked.ensures in
    value_out (rw (walk-short (loan a.image.now a.state a.rx.now a.tx.now) a.out.now
    a.connection a.place a.datagram.now (long_of a.out.now c.has_room.ensures c.in_default.is) c.if-datagram-gt4096.false)
    (reply a.out.now c.put_walked-length.ensures.value c.put_walked-length.ensures.out_after (ap walked_bytes h) (ap (λ (t : DatagramWalked). t.state) h)))
