-- `dispatch::dispatch` meets its contract.
use Rattle.std.proofs.Common.{rules, refl, sym, ◌∙◌, length}
use borrow.Author.Tests.{lt-ltb, le-ltb}
use Rattle.dispatch.specs.Dispatch.{effect_of, dispatch_of}
use Rattle.wire.proofs.Clauses.{value_rx_tx_out}
use Rattle.dispatch.proofs.dispatch.Goals as goal

pub returns-then-out-lt16384 : goal.returns-then-out-lt16384
unfolding dispatch_of
returns-then-out-lt16384 c = value_rx_tx_out (rw (lt-ltb (length c.args.out.now) 16384 c.if-out-lt16384.true) (refl, (refl, (refl, refl))))

pub returns-in-Ok : goal.returns-in-Ok
unfolding dispatch_of
returns-in-Ok c =
    value_rx_tx_out (rw (
      le-ltb _ _ c.if-out-lt16384.false,
      sym c.call_of.ensures ∙ c.in-Ok.is,
    ) (c.answer_call.ensures.value, (c.answer_call.ensures.rx_after, (c.answer_call.ensures.tx_after, c.answer_call.ensures.out_after))))

pub returns-in-Err : goal.returns-in-Err
unfolding dispatch_of effect_of
returns-in-Err c =
    value_rx_tx_out (rw (
      le-ltb _ _ c.if-out-lt16384.false,
      sym c.call_of.ensures ∙ c.in-Err.is,
    ) (search rules, (refl, (refl, refl))))
