-- `dispatch_receive::put_held` meets its contract.
use Rattle.std.proofs.Common.{arith}
use Rattle.dispatch_receive.proofs.Written.{held-laid}
use Rattle.dispatch_receive.proofs.put_held.Goals as goal

pub returns-clause-out_after : goal.returns-clause-out_after
returns-clause-out_after c = let a = c.args in
    held-laid a.out.now a.place a.read a.route a.id a.n a.payload.now c.put_found.ensures c.put8.ensures c.copy_in.ensures (omega arith)
