-- `entry_receive::segment_take` meets its contract.
use Prim.Native.Nat.{◌%◌}
use mathlib.Core.Path.{refl, sym, ◌∙◌}
use Rattle.state.specs.State.{record_at}
use Rattle.gate.specs.Lent.{loan, sizes}
use Rattle.gate.proofs.Pass.{gate_at-laid}
use Rattle.entry_receive.proofs.Taking.{segment-answer, may_take, segment-is, memory-is}
use Rattle.entry_receive.proofs.segment_take.Goals as goal

pub is_stream-tcp-requires : goal.is_stream-tcp-requires
is_stream-tcp-requires c =
    let a = c.args in
    λ p. gate_at-laid (sizes (loan a.image.now a.state a.rx.now a.tx.now)) a.connection (sym c.ask_at-asked.ensures ∙ p)

pub take_step-step-requires : goal.take_step-step-requires
take_step-step-requires c =
    let a = c.args in
    may_take (loan a.image.now a.state a.rx.now a.tx.now) a.connection
    a.segment.now (record_at a.state (a.connection % 16)) refl c.answer_past-answer.result
    (segment-answer (sizes (loan a.image.now a.state a.rx.now a.tx.now)) a.connection
    c.ask_at-asked.result c.ask_at-asked.ensures c.is_stream-tcp.result c.is_stream-tcp.ensures
    (record_at a.state (a.connection % 16)) refl c.answer_past-answer.result c.answer_past-answer.ensures)

pub returns : goal.returns
returns c =
    let a = c.args in
    let e =
    segment-answer (sizes (loan a.image.now a.state a.rx.now a.tx.now)) a.connection
    c.ask_at-asked.result c.ask_at-asked.ensures c.is_stream-tcp.result c.is_stream-tcp.ensures
    (record_at a.state (a.connection % 16)) refl c.answer_past-answer.result c.answer_past-answer.ensures in record {
      value = segment-is (loan a.image.now a.state a.rx.now a.tx.now) a.connection
          a.segment.now (record_at a.state (a.connection % 16)) refl c.answer_past-answer.result e
          c.take_step-step.result c.take_step-step.ensures.value;
      rx_after = memory-is (loan a.image.now a.state a.rx.now a.tx.now) a.connection
          a.segment.now (record_at a.state (a.connection % 16)) refl c.answer_past-answer.result e
          c.take_step-step.new.rx c.take_step-step.ensures.rx_after;
    }
