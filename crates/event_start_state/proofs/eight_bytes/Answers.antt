-- `event_start_state::eight_bytes` meets its contract.
use Prim.Native.Nat.{ℕ, ◌+◌, ◌*◌}
use mathlib.Core.Path.{sym, ap₂, ◌∙◌}
use Rattle.wire.proofs.Join.{be-add}
use Rattle.event_start_state.proofs.eight_bytes.Goals as goal

pub returns : goal.returns
returns c = let a = c.args in
    ap₂ (λ (x y : ℕ). x * 4294967296 + y) c.be32.ensures.is c.be32-2.ensures.is ∙ sym (be-add 4 4 a.s.now a.at)
