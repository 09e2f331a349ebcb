-- R5.3, on when its groups are 0 or share a set bit with the connection's switches, bit by bit.
use Prim.Native.Nat.{ℕ, ◌+◌, ◌*◌, ◌/◌, ◌%◌, ◌^◌, min}
use mathlib.Core.Path.{◌≡◌, refl, sym, ap, ap₂, ◌∙◌}
use mathlib.Core.Bool.{Bool, true, false, not, ◌||◌}
use mathlib.Core.Logic.{◌⊎◌, inl, inr}
use native.Mathlib.Omega.{arith}
use native.Mathlib.Decide.{ℕ_discrete}
use lib.Arith.{bin_ind}
use lib.Bits.{bit_and, and_step, and_zero_l, and_shr}
use lib.Dec.{eqb}
use lib.Pow.{shr_le, shr-shr}
use borrow.Author.Tests.{eqb-true, eqb-false, eq-eqb, ne_eqb}
use Rattle.switches.specs.Switches.{is_on, Shared}

-- a shared bit of the halves is one of the words
double : (a b : ℕ) → Shared (a / 2) (b / 2) → Shared a b
double a b s =
    record {
      bit = 1 + s.bit;
      grouped = ap (λ (x : ℕ). x % 2) (sym (shr-shr a 1 s.bit)) ∙ s.grouped;
      switched = ap (λ (x : ℕ). x % 2) (sym (shr-shr b 1 s.bit)) ∙ s.switched;
    }

lowest : (a b : ℕ) → a % 2 ≡ 1 → b % 2 ≡ 1 → Shared a b
lowest a b p q = record { bit = 0; grouped = omega arith; switched = omega arith }

-- words that have a bit in common share one
meets : (a b : ℕ) → (bit_and a b ≡ 0 → ⊥) → Shared a b
meets =
    bin_ind (λ (a : ℕ). (b : ℕ) → (bit_and a b ≡ 0 → ⊥) → Shared a b)
    (λ b h. absurd (h (and_zero_l b)))
    (λ n ih b h. go n b h (ih (b / 2)) (ℕ_discrete (n % 2) 1) (ℕ_discrete (b % 2) 1))
  where
    rest : (n b : ℕ) → (bit_and n b ≡ 0 → ⊥) → min (n % 2) (b % 2) ≡ 0 → bit_and (n / 2) (b / 2) ≡ 0 → ⊥
    rest n b h m z = h (and_step n b ∙ ap₂ (λ (x y : ℕ). x * 2 + y) z m)

    go : (n b : ℕ) → (bit_and n b ≡ 0 → ⊥) → ((bit_and (n / 2) (b / 2) ≡ 0 → ⊥) → Shared (n / 2) (b / 2)) → Dec (n % 2 ≡ 1) → Dec (b % 2 ≡ 1) → Shared n b
    go n b h ih (yes p) (yes q) = lowest n b p q
    go n b h ih (no p) d = double n b (ih (rest n b h (omega (arith, p))))
    go n b h ih (yes p) (no q) = double n b (ih (rest n b h (omega (arith, q))))

-- and words that share a bit have it in common
shares : (a b : ℕ) → Shared a b → bit_and a b ≡ 0 → ⊥
shares a b s z =
    let x = a / 2 ^ s.bit in
    let y = b / 2 ^ s.bit in
    let one : bit_and x y ≡ bit_and (x / 2) (y / 2) * 2 + 1 = and_step x y ∙ ap₂ (λ (p q : ℕ). bit_and (x / 2) (y / 2) * 2 + min p q) s.grouped s.switched in
    omega (arith, one, z, and_shr a b s.bit, shr_le (bit_and a b) s.bit)

module _ (groups switches : ℕ) where
  pub on_from : is_on groups switches ≡ true → (groups ≡ 0) ⊎ Shared groups switches
  unfolding is_on
  on_from p = go (eqb groups 0) refl (eqb (bit_and groups switches) 0) refl p
    where
      go : (a : Bool) → eqb groups 0 ≡ a → (b : Bool) → eqb (bit_and groups switches) 0 ≡ b → (a || not b) ≡ true → (groups ≡ 0) ⊎ Shared groups switches
      go true e b f q = inl (eqb-true _ _ e)
      go false e false f q = inr (meets groups switches (eqb-false _ _ f))
      go false e true f q = absurd (let z : ◌≡◌ {A = ℕ} 0 1 = cc in omega arith)

  pub on-to : (groups ≡ 0) ⊎ Shared groups switches → is_on groups switches ≡ true
  unfolding is_on
  on-to (inl e) = rw (eq-eqb _ _ e)
  on-to (inr s) = go (eqb groups 0)
    where
      go : (a : Bool) → (a || not (eqb (bit_and groups switches) 0)) ≡ true
      go true = refl
      go false = rw (ne_eqb _ _ (shares groups switches s))
