-- `dispatch_receive::put_walk_pdu` meets its contract.
use Rattle.std.proofs.Common.{arith}
use Rattle.dispatch_receive.proofs.Written.{pdu-laid}
use Rattle.dispatch_receive.proofs.put_walk_pdu.Goals as goal

pub returns-clause-out_after : goal.returns-clause-out_after
returns-clause-out_after c = let a = c.args in
    pdu-laid a.out.now a.next a.route a.id a.n a.at c.put_step.ensures.out_after c.put_number.ensures (omega arith)
