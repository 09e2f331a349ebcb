-- `send_waiting::take` meets its contract.
use mathlib.Core.Path.{ap, ◌∙◌}
use Rattle.connection.specs.declared.Connection.{Connection}
use Rattle.send_waiting.specs.Waiting.{after_take}
use Rattle.send_waiting.proofs.Taken.{taking_short, take-nothing, take-some}
use Rattle.wire.proofs.Clauses.{value_out}
use Rattle.send_waiting.proofs.take.Goals as goal

pub returns-then-out-used : goal.returns-then-out-used
returns-then-out-used c = value_out (taking_short _ _ _ _ c.if-out-used.true)

pub returns-then-used-eq0 : goal.returns-then-used-eq0
returns-then-used-eq0 c = value_out (take-nothing _ _ _ _ c.if-out-used.false _ c.copy_in.ensures c.if-used-eq0.true)

pub returns : goal.returns
returns c =
    let a = c.args in
    value_out (take-some _ _ _ _ c.if-out-used.false _ c.copy_in.ensures c.if-used-eq0.false _
    (c.after_take-next.ensures ∙ ap (λ (x : Connection). after_take a.config x) c.with_send-emptied.ensures))
