-- `event_answer::put_found` meets its contract.
use Rattle.std.proofs.Common.{arith}
use Rattle.event_answer.proofs.Chain.{found-laid}
use Rattle.event_answer.proofs.put_found.Goals as goal

pub returns : goal.returns
returns c = let a = c.args in
    found-laid a.out.now a.at a.first a.kind a.which a.id a.n
    c.put_number.ensures c.put8.ensures c.put8-2.ensures c.put32.ensures c.put32-2.ensures (omega arith)
