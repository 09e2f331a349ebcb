-- `event_answer::put_zeros` meets its contract.
use Rattle.std.proofs.Common.{arith}
use Rattle.event_answer.proofs.Chain.{zeros}
use Rattle.event_answer.proofs.put_zeros.Goals as goal

pub returns : goal.returns
returns c = zeros c.args.out.now c.args.at c.put32.ensures c.put32-2.ensures c.put32-3.ensures (omega arith)
