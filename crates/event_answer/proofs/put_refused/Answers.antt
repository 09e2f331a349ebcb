-- `event_answer::put_refused` meets its contract.
use Rattle.std.proofs.Common.{arith}
use Rattle.event_answer.proofs.Chain.{pair}
use Rattle.event_answer.proofs.put_refused.Goals as goal

pub returns-clause-out_after : goal.returns-clause-out_after
returns-clause-out_after c = let a = c.args in pair a.out.now 2 4 a.number a.place c.put16.ensures c.put_number.ensures (omega arith)
