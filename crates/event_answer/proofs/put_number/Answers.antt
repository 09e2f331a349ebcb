-- `event_answer::put_number` meets its contract.
use Rattle.event_answer.proofs.Chain.{spell-low}
use native.Mathlib.Omega.{arith}
use mathlib.Core.Path.{ap, ◌∙◌}
use Rattle.wire.specs.Lay.{lay}
use Rattle.event_answer.proofs.put_number.Goals as goal

pub returns : goal.returns
returns c = let a = c.args in
    c.put32.ensures ∙ ap (lay a.out.now a.at) (spell-low 4 a.v (omega arith))
