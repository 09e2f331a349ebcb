-- `dispatch_receive::put_sum` meets its contract.
use mathlib.Core.Path.{ap, ◌∙◌}
use Rattle.wire.specs.Lay.{lay}
use Rattle.dispatch_receive.proofs.Written.{sum_low}
use Rattle.dispatch_receive.proofs.put_sum.Goals as goal

pub returns : goal.returns
returns c = let a = c.args in
    c.put_number.ensures ∙ ap (lay a.out.now a.at) (sum_low a.a a.b)
