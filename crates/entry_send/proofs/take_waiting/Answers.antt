-- `entry_send::take_waiting` meets its contract.
use Prim.Native.Nat.{ℕ, ◌<◌}
use mathlib.Core.Path.{sym, ap, ◌∙◌}
use mathlib.Core.List.{List}
use native.Mathlib.Omega.{arith}
use Rattle.state.specs.State.{record_at}
use Rattle.send_waiting.specs.Waiting.{out_of}
use Rattle.entry_send.specs.Sending.{taken_waiting, taken_out}
use Rattle.gate.proofs.Pass.{in_sixteen, gate_at-laid}
use Rattle.entry_send.proofs.Past.{taken_is, not_taken_lem}
use Rattle.wire.proofs.Clauses.{value_out}
use Rattle.entry_send.proofs.take_waiting.Goals as goal

pub bounds-after-n : goal.bounds-after-n
bounds-after-n c =
    let small : c.args.connection < 16 = in_sixteen _ _ (sym c.ask_at-asked.ensures ∙ c.in-Ok.is) in
    small

pub config_laid-config-requires : goal.config_laid-config-requires
config_laid-config-requires c = gate_at-laid _ _ (sym c.ask_at-asked.ensures ∙ c.in-Ok.is)

pub offset_bounds-after-n-in-Ok : goal.offset_bounds-after-n-in-Ok
offset_bounds-after-n-in-Ok c =
    let small : c.args.connection < 16 = in_sixteen _ _ (sym c.ask_at-asked.ensures ∙ c.in-Ok.is) in
    omega (arith, small)

pub bounds-after-n-in-Ok : goal.bounds-after-n-in-Ok
bounds-after-n-in-Ok c =
    let small : c.args.connection < 16 = in_sixteen _ _ (sym c.ask_at-asked.ensures ∙ c.in-Ok.is) in
    small

pub returns-in-Err : goal.returns-in-Err
returns-in-Err c = value_out (not_taken_lem _ _ _ _ _ c.ask_at-asked.ensures c.in-Err.is)

pub returns-in-Ok : goal.returns-in-Ok
unfolding taken_waiting taken_out
returns-in-Ok c =
    let a = c.args in record {
      value = rw (← c.ask_at-asked.ensures, c.in-Ok.is) (taken_is _ a.state _ _ _ _ c.config_laid-config.ensures c.take-drained.ensures.value);
      out_after = rw (← c.ask_at-asked.ensures, c.in-Ok.is)
          (c.take-drained.ensures.out_after ∙ ap (λ (w : List ℕ). out_of (record_at a.state a.connection) w a.out.now) c.waiting_of-waiting.ensures.bytes);
    }
