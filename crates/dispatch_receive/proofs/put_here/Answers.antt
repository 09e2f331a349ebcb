-- `dispatch_receive::put_here` meets its contract.
use Rattle.std.proofs.Common.{arith}
use Rattle.dispatch_receive.proofs.Written.{here-laid}
use Rattle.dispatch_receive.proofs.put_here.Goals as goal

pub returns-clause-out_after : goal.returns-clause-out_after
returns-clause-out_after c = let a = c.args in
    here-laid a.out.now a.place a.read a.route a.id a.n a.from a.at c.put_found.ensures c.put8.ensures c.put_sum.ensures (omega arith)
