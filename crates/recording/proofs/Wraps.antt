-- THE DISTANCE BETWEEN TWO STAMPS, across the wrap, of any width.
use Rattle.std.proofs.Common.{◌≡◌, ℕ, ◌+◌, ◌-◌, ◌%◌, ◌<◌, sym, ap, ◌∙◌, mod-eq_of_lt, arith}
use native.Mathlib.Nat.{mod-add-mod, add-mod_right}
use Rattle.recording.specs.Recording.{distance_in}

-- the number that, added to the stamp before, wraps to the stamp is the distance
pub distance_only : (most before stamp d : ℕ) → before < most → d < most → (d + before) % most ≡ stamp → d ≡ distance_in most before stamp
unfolding distance_in
distance_only most before stamp d b h e =
    let s : d + before + (most - before) ≡ d + most = omega arith in
    sym (ap (λ (x : ℕ). (x + (most - before)) % most) (sym e)
    ∙ mod-add-mod (d + before) most (most - before)
    ∙ ap (λ (x : ℕ). x % most) s
    ∙ add-mod_right d most
    ∙ mod-eq_of_lt h)
