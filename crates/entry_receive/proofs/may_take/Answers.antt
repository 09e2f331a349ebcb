-- `entry_receive::may_take` meets its contract.
use Prim.Native.Nat.{◌%◌}
use mathlib.Core.Path.{refl, sym, ◌∙◌}
use Rattle.state.specs.State.{record_at}
use Rattle.gate.specs.Lent.{lent}
use Rattle.gate.proofs.Pass.{gate_at-laid}
use Rattle.entry_receive.proofs.Taking.{segment-answer}
use Rattle.entry_receive.proofs.may_take.Goals as goal

pub is_stream-tcp-requires : goal.is_stream-tcp-requires
is_stream-tcp-requires c =
    let a = c.args in
    λ p. gate_at-laid (lent a.image.now a.state a.rx a.tx) a.connection (sym c.ask_at-asked.ensures ∙ p)

pub returns : goal.returns
returns c =
    let a = c.args in
    segment-answer (lent a.image.now a.state a.rx a.tx) a.connection c.ask_at-asked.result c.ask_at-asked.ensures
    c.is_stream-tcp.result c.is_stream-tcp.ensures (record_at a.state (a.connection % 16)) refl c.answer_past.result c.answer_past.ensures
