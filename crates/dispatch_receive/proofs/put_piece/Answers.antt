-- `dispatch_receive::put_piece` meets its contract.
use Rattle.std.proofs.Common.{arith}
use Rattle.dispatch_receive.proofs.Written.{piece-laid}
use Rattle.dispatch_receive.proofs.put_piece.Goals as goal

pub returns-clause-out_after : goal.returns-clause-out_after
returns-clause-out_after c = let a = c.args in
    piece-laid a.out.now a.place a.read _ a.route a.id a.n a.last a.from a.at c.piece_kind.ensures c.put_found.ensures c.put_sum.ensures (omega arith)
