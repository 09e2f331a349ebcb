-- `dispatch_send::take_waiting` meets its contract.
use Rattle.std.proofs.Common.{ℕ, ap, ◌∙◌, length, take, replicate}
use borrow.Author.Tests.{ltb-true, ltb-false}
use Rattle.gate.specs.Lent.{loan}
use Rattle.event_answer.specs.Answers.{Effect, dispatched, room}
use Rattle.event_answer.proofs.Short.{refuses, goes_on}
use Rattle.dispatch_send.specs.Send.{room_of, take_into, take_effect}
use Rattle.wire.proofs.Clauses.{value_out}
use Rattle.dispatch_send.proofs.take_waiting.Goals as goal

pub returns-then-short : goal.returns-then-short
unfolding take_effect
returns-then-short c = value_out (refuses _ _ _ _ _ (ltb-true _ _ c.if-short.true-raw))

pub returns : goal.returns
unfolding take_effect
returns c =
    let a = c.args in
    let into : ℕ → Effect =
    λ k. take_into (loan a.image.now a.state a.rx.now a.tx.now) a.out.now a.connection (take k (replicate 1472 0)) in
    let e = c.min-n.ensures in
    value_out (goes_on a.state a.rx.now a.tx.now a.out.now (into (room_of a.room)) (ltb-false (length a.out.now) room c.if-short.false-raw)
    (c.take_into.ensures.value ∙ ap (λ (k : ℕ). dispatched (into k)) e, c.take_into.ensures.out_after ∙ ap (λ (k : ℕ). (into k).out) e))
