-- An answer is written and handed back.
use Prim.Native.Nat.{ℕ}
use mathlib.Core.Path.{◌≡◌, ap, ap₂, ◌∙◌}
use mathlib.Core.List.{List}
use lib.ListN.{length}
use Rattle.std.proofs.Common.{Ok}
use Rattle.wire.specs.Lay.{lay}
use Rattle.state.specs.declared.State.{State}
use Rattle.event_answer.specs.declared.Dispatched.{Dispatched}

abbrev handed : ℕ → State → Dispatched
handed n s = record { verdict = Ok n; state = s }

-- the bytes b of an answer were written, and they are those that are asked for
pub reply : {b c : List ℕ} {n : ℕ} {s u : State} {out' : List ℕ} (out : List ℕ) → n ≡ length b → out' ≡ lay out 0 b → b ≡ c → s ≡ u
    → (handed n s ≡ handed (length c) u) × (out' ≡ lay out 0 c)
reply out p q e f = (ap₂ handed (p ∙ ap length e) f, q ∙ ap (lay out 0) e)
