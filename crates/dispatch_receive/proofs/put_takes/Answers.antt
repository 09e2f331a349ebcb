-- `dispatch_receive::put_takes` meets its contract.
use Rattle.std.proofs.Common.{ℕ, List, ◌++◌, ap, ◌∙◌, arith}
use Rattle.wire.specs.Lay.{spell, lay}
use Rattle.event_answer.proofs.Bytes.{two_bytes}
use Rattle.event_answer.proofs.Chain.{spell-low}
use Rattle.dispatch_receive.proofs.put_takes.Goals as goal

pub returns-in-Ok-clause-out_after : goal.returns-in-Ok-clause-out_after
returns-in-Ok-clause-out_after c = let a = c.args in
    rw c.in-Ok.is
    (c.put_done_with.ensures.out_after
    ∙ ap (λ (x : List ℕ). lay a.out.now 0 (spell 2 0 ++ x)) (c.to_be_bytes.ensures ∙ two_bytes _ ∙ spell-low 2 a.count (omega arith)))
