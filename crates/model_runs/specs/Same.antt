-- WHICH RUNS COUNT AS THE SAME (R15.2): neighbouring connection events of different connections are swapped, neighbouring segments of one
-- connection are cut or joined, as often as you like. Events of a whole group or module stay where they are.
use Rattle.std.specs.Prelude.{ℕ, ◌≡◌, List, ◌∷◌, ◌++◌}
use Rattle.model.specs.Events.{Own, segment, Event, on}

pub data Same : List Event → List Event → Type 0 where
  swap : (i j : ℕ) (a b : Own) (es : List Event) → (i ≡ j → ⊥) → Same (on i a ∷ on j b ∷ es) (on j b ∷ on i a ∷ es)
  cut : (i : ℕ) (x y : List ℕ) (es : List Event) → Same (on i (segment (x ++ y)) ∷ es) (on i (segment x) ∷ on i (segment y) ∷ es)
  join : (i : ℕ) (x y : List ℕ) (es : List Event) → Same (on i (segment x) ∷ on i (segment y) ∷ es) (on i (segment (x ++ y)) ∷ es)
  same : (es : List Event) → Same es es
  later : (e : Event) {es fs : List Event} → Same es fs → Same (e ∷ es) (e ∷ fs)
  both : {es fs gs : List Event} → Same es fs → Same fs gs → Same es gs
