-- `event_answer::put_waiting` meets its contract.
use Rattle.std.proofs.Common.{arith}
use Rattle.event_answer.proofs.Chain.{waiting-laid}
use Rattle.event_answer.proofs.put_waiting.Goals as goal

pub returns-clause-out_after : goal.returns-clause-out_after
returns-clause-out_after c = let a = c.args in
    waiting-laid a.out.now a.remote a.bytes.now c.put16.ensures c.put_number.ensures c.put_address.ensures c.copy_in.ensures (omega arith)
