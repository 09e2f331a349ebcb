-- `event_answer::put_done_with` meets its contract.
use Rattle.std.proofs.Common.{arith}
use Rattle.wire.specs.Lay.{spell}
use Rattle.wire.proofs.Spell.{length-spell}
use Rattle.event_answer.proofs.Chain.{then}
use Rattle.event_answer.proofs.put_done_with.Goals as goal

pub returns-clause-out_after : goal.returns-clause-out_after
returns-clause-out_after c = let a = c.args in
    then a.out.now 0 2 (spell 2 0) a.value.now c.put16.ensures c.copy_in.ensures (omega (arith, length-spell 2 0)) (omega arith)
