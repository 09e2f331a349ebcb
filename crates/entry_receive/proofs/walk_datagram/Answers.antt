-- `entry_receive::walk_datagram` meets its contract.
use Prim.Native.Nat.{◌%◌}
use mathlib.Core.Path.{refl, sym, ◌∙◌}
use Rattle.state.specs.State.{record_at}
use Rattle.gate.specs.Lent.{lent_by}
use Rattle.gate.proofs.Pass.{gate_at-laid}
use Rattle.entry_receive.proofs.Walking.{walk-answer, may_walk, walk_is}
use Rattle.entry_receive.proofs.walk_datagram.Goals as goal

pub is_stream-tcp-requires : goal.is_stream-tcp-requires
is_stream-tcp-requires c =
    let a = c.args in
    λ p. gate_at-laid (lent_by a.image.now a.state a.rx.now a.tx.now) a.connection (sym c.ask_at-asked.ensures ∙ p)

pub walk_step-step-requires : goal.walk_step-step-requires
walk_step-step-requires c =
    let a = c.args in
    may_walk (lent_by a.image.now a.state a.rx.now a.tx.now) a.connection
    a.datagram.now a.place (record_at a.state (a.connection % 16)) refl c.answer_past-answer.result
    (walk-answer (lent_by a.image.now a.state a.rx.now a.tx.now) a.connection
    a.datagram.now a.place c.ask_at-asked.result c.ask_at-asked.ensures c.is_stream-tcp.result c.is_stream-tcp.ensures
    (record_at a.state (a.connection % 16)) refl c.answer_past-answer.result c.answer_past-answer.ensures)

pub returns : goal.returns
returns c =
    let a = c.args in
    walk_is (lent_by a.image.now a.state a.rx.now a.tx.now) a.connection
    a.datagram.now a.place (record_at a.state (a.connection % 16)) refl c.answer_past-answer.result
    (walk-answer (lent_by a.image.now a.state a.rx.now a.tx.now) a.connection
    a.datagram.now a.place c.ask_at-asked.result c.ask_at-asked.ensures
    c.is_stream-tcp.result c.is_stream-tcp.ensures (record_at a.state (a.connection % 16)) refl c.answer_past-answer.result c.answer_past-answer.ensures)
    c.walk_step-step.result c.walk_step-step.ensures
