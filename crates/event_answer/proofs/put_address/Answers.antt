-- `event_answer::put_address` meets its contract.
use Rattle.std.proofs.Common.{arith}
use Rattle.event_answer.proofs.Chain.{address-laid}
use Rattle.event_answer.proofs.put_address.Goals as goal

pub returns : goal.returns
returns c = let a = c.args in
    address-laid a.out.now a.at a.remote c.put8.ensures c.put_zeros.ensures c.put32.ensures c.put16.ensures (omega arith)
