-- The two drop counts that stop at their top: the order in which two connections drop does not matter, and drops may be counted
-- at once or one lot after the other.
use Prim.Native.Nat.{ℕ, zero, suc, ◌+◌}
use mathlib.Core.Path.{◌≡◌, refl, sym, ap, ◌∙◌}
use mathlib.Core.Bool.{Bool, true, false}
use native.Mathlib.Omega.{arith}
use Rattle.state.specs.State.{counted}
use Rattle.model.specs.Step.{count_after, count_after_if}

counts-add : (a b n : ℕ) → count_after (a + b) n ≡ count_after b (count_after a n)
unfolding count_after
counts-add zero b n = let e : 0 + b ≡ b = omega arith in ap (λ (m : ℕ). count_after m n) e
counts-add (suc a) b n =
    let e : suc a + b ≡ suc (a + b) = omega arith in
    ap (λ (m : ℕ). count_after m n) e ∙ counts-add a b (counted n)

pub counts_if_add : (p : Bool) (a b n : ℕ) → count_after_if p (a + b) n ≡ count_after_if p b (count_after_if p a n)
counts_if_add true a b n = counts-add a b n
counts_if_add false a b n = refl

pub counts_if_comm : (p q : Bool) (a b n : ℕ) → count_after_if q b (count_after_if p a n) ≡ count_after_if p a (count_after_if q b n)
counts_if_comm true true a b n =
    let e : a + b ≡ b + a = omega arith in
    sym (counts-add a b n) ∙ ap (λ (m : ℕ). count_after m n) e ∙ counts-add b a n
counts_if_comm true false a b n = refl
counts_if_comm false true a b n = refl
counts_if_comm false false a b n = refl
