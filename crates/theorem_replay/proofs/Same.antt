-- TWO ANSWERS ARE THE SAME, byte by byte, exactly when they are one list.
use Prim.Native.Nat.{ℕ}
use mathlib.Core.Path.{◌≡◌}
use mathlib.Core.Logic.{◌↔◌}
use mathlib.Core.Bool.{true}
use mathlib.Core.List.{List}
use Rattle.replay_step.specs.Step.{same_bytes}
use Rattle.replay_step.proofs.Same.{same_equal, same_self}

pub list_same : (a b : List ℕ) → a ≡ b → same_bytes a b ≡ true
list_same a b e = rw e (same_self b)

pub same_exactly : (a b : List ℕ) → (same_bytes a b ≡ true) ↔ (a ≡ b)
same_exactly a b = (same_equal a b, list_same a b)
