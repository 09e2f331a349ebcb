-- Three writes, one after the other, are the frame.
use Prim.Native.Nat.{ℕ, ◌+◌, ◌≤◌}
use mathlib.Core.Path.{◌≡◌, ap, ◌∙◌}
use mathlib.Core.List.{List, ◌++◌, append_assoc}
use native.Mathlib.Omega.{arith}
use lib.ListN.{length, length-append}
use Rattle.frame.specs.Frame.{frame}
use Rattle.wire.specs.Lay.{spell, lay}
use Rattle.wire.proofs.Lay.{lay-lay}
use Rattle.wire.proofs.Spell.{length-spell}

-- id, length and payload, laid one after the other
pub frame_is : (id : ℕ) (payload out d₁ d₂ d₃ : List ℕ) → 8 + length payload ≤ length out
    → d₁ ≡ lay out 0 (spell 4 id) → d₂ ≡ lay d₁ 4 (spell 4 (length payload)) → d₃ ≡ lay d₂ 8 payload → d₃ ≡ lay out 0 (frame id payload)
unfolding frame
frame_is id payload out d₁ d₂ d₃ h e₁ e₂ e₃ =
    let a : length (spell 4 id) ≡ 4 = length-spell 4 id in
    let b : length (spell 4 (length payload)) ≡ 4 = length-spell 4 (length payload) in
    let f₂ : d₂ ≡ lay out 0 (spell 4 id ++ spell 4 (length payload)) =
    e₂ ∙ ap (λ (d : List ℕ). lay d 4 (spell 4 (length payload))) e₁ ∙ lay-lay out 0 4 (spell 4 id) (spell 4 (length payload)) (omega arith) (omega arith) in
    e₃ ∙ ap (λ (d : List ℕ). lay d 8 payload) f₂
    ∙ lay-lay out 0 8 (spell 4 id ++ spell 4 (length payload)) payload (omega (arith, length-append (spell 4 id) (spell 4 (length payload)))) (omega arith)
    ∙ ap (lay out 0) (append_assoc (spell 4 id) (spell 4 (length payload)) payload)
