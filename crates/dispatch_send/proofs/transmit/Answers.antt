-- `dispatch_send::transmit` meets its contract.
use Rattle.std.proofs.Common.{sym, ap, ◌∙◌, rules}
use Rattle.event_answer.specs.Answers.{Effect}
use Rattle.event_answer.proofs.Reply.{reply}
use Rattle.event_answer.proofs.Short.{short_of, long_of, with-room, no_room, refuses_so, goes_on}
use Rattle.send.specs.declared.Transmitted.{Transmitted}
use Rattle.gate.specs.Lent.{loan}
use Rattle.dispatch_send.specs.Send.{transmission_bytes, sent_effect, transmit_effect}
use Rattle.dispatch_send.proofs.transmit.Goals as goal

pub returns-in-Err : goal.returns-in-Err
unfolding transmit_effect
returns-in-Err c =
    let a = c.args in
    let r = refuses_so a.state a.rx.now a.tx.now a.out.now _ c.has_room.ensures c.in-Err.is in
    let is = no_room a.state a.rx.now a.tx.now a.out.now _ (short_of a.out.now c.has_room.ensures c.in-Err.is).0 in
    record {
      value = r.0;
      tx_after = ap (λ (x : Effect). x.tx) (sym is);
      out_after = r.1;
    }

pub returns : goal.returns
unfolding transmit_effect
returns c =
    let a = c.args in
    let l = loan a.image.now a.state a.rx.now a.tx.now in
    let e : Effect = sent_effect l a.out.now a.pdu a.payload.now in
    let long = long_of a.out.now c.has_room.ensures c.in_default.is in
    let is = with-room a.state a.rx.now a.tx.now a.out.now e long in
    let r =
    goes_on a.state a.rx.now a.tx.now a.out.now e long
    (reply a.out.now c.put_transmission-length.ensures.value c.put_transmission-length.ensures.out_after
    (ap (λ (t : Transmitted). transmission_bytes t.answer) c.transmit-entry.ensures.value)
    (ap (λ (t : Transmitted). t.state) c.transmit-entry.ensures.value)) in
    record {
      value = r.0;
      tx_after = c.transmit-entry.ensures.tx_after ∙ ap (λ (x : Effect). x.tx) (sym is);
      out_after = r.1;
    }
