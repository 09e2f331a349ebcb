-- `dispatch_receive::put_step` meets its contract.
use Rattle.std.proofs.Common.{arith}
use Rattle.dispatch_receive.proofs.Written.{step-laid}
use Rattle.dispatch_receive.proofs.put_step.Goals as goal

pub returns-clause-out_after : goal.returns-clause-out_after
returns-clause-out_after c = let a = c.args in
    step-laid a.out.now a.next a.kind a.which a.id a.n c.put_done.ensures.out_after c.put_found.ensures (omega arith)
