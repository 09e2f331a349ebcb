-- `dispatch_events::lost` meets its contract.
use Rattle.std.proofs.Common.{sym, ap, ◌∙◌, rules}
use Rattle.event_answer.proofs.Short.{refuses_so, long_of, replies}
use Rattle.gate.specs.Lent.{lent_by}
use Rattle.gate.proofs.Pass.{in_sixteen, gate_at-laid}
use Rattle.entry_events.specs.declared.Loss.{Loss}
use Rattle.dispatch_events.specs.Events.{loss_bytes, lost_effect}
use Rattle.dispatch_events.proofs.Replaced.{loss_refused, loss_past}
use Rattle.wire.proofs.Clauses.{value_out}
use Rattle.dispatch_events.proofs.lost.Goals as goal

pub returns-in-Err : goal.returns-in-Err
unfolding lost_effect
returns-in-Err c = value_out (refuses_so _ _ _ _ _ c.has_room.ensures c.in-Err.is)

pub returns-in-Err-ask_at : goal.returns-in-Err-ask_at
unfolding lost_effect
returns-in-Err-ask_at c =
    let a = c.args in
    let h = loss_refused (lent_by a.image.now a.state a.rx.now a.tx.now) a.connection c.ask_at.ensures c.in-Err-ask_at.is in
    value_out (replies a.state a.rx.now a.tx.now a.out.now (long_of a.out.now c.has_room.ensures c.in_default.is)
    c.put_refusal-length.ensures.value c.put_refusal-length.ensures.out_after (ap (λ (u : Loss). loss_bytes u.answer u.failed) h) (ap (λ
    (u : Loss). u.state) h))

pub bounds-state-n : goal.bounds-state-n
bounds-state-n c = in_sixteen _ _ (sym c.ask_at.ensures ∙ c.in_default-ask_at.is)

pub bounds-state-n-2 : goal.bounds-state-n-2
bounds-state-n-2 c = in_sixteen _ _ (sym c.ask_at.ensures ∙ c.in_default-ask_at.is)

pub bounds-state-n-3 : goal.bounds-state-n-3
bounds-state-n-3 c = in_sixteen _ _ (sym c.ask_at.ensures ∙ c.in_default-ask_at.is)

pub config_laid-requires : goal.config_laid-requires
config_laid-requires c = gate_at-laid _ _ (sym c.ask_at.ensures ∙ c.in_default-ask_at.is)

pub returns : goal.returns
unfolding lost_effect
returns c =
    let a = c.args in
    let h =
    loss_past (lent_by a.image.now a.state a.rx.now a.tx.now) a.connection c.ask_at.ensures
    c.in_default-ask_at.is c.config_laid.ensures c.step-stepped.ensures c.failed.ensures in
    value_out (replies a.state a.rx.now a.tx.now a.out.now (long_of a.out.now c.has_room.ensures c.in_default.is)
    c.put_loss-length.ensures.value c.put_loss-length.ensures.out_after (ap (λ (u : Loss). loss_bytes u.answer u.failed) h) (ap (λ (u : Loss). u.state) h))
