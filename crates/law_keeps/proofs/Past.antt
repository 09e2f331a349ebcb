-- An entry, refused at the gate or past it.
use Rattle.std.proofs.Common.{Result, Ok, Err}
use mathlib.Core.Path.{◌≡◌, refl}
use Rattle.connection.specs.declared.Refusal.{Refusal}
use Rattle.gate.specs.Gate.{through}

pub past_or : {A : Type 0} (P : A → Type 0) (g : Result Unit Refusal) (refused : Refusal → A) (event : A)
    → ((r : Refusal) → P (refused r)) → (g ≡ Ok tt → P event) → P (through g refused event)
past_or P (Ok tt) refused event p q = q refl
past_or P (Err r) refused event p q = p r
