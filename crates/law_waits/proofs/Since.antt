-- THE LAW FOR A READER: what waits after any events is what waited at the start with all that was added since, or, once
-- something emptied it, only what was added since the last that did.
use mathlib.Core.Path.{◌≡◌, refl, sym, ◌∙◌}
use mathlib.Core.Bool.{Bool, true, false, cond}
use mathlib.Core.List.{List, [], ◌∷◌, ◌++◌, append_assoc, append-nil}
use Prim.Native.Nat.{ℕ}
use Rattle.law_waits.specs.Waits.{Turn, adds, empties, after_all, any_empties, since}

pub waits-since : (ts : List Turn) (w : List ℕ) → after_all ts w ≡ cond (any_empties ts) (since ts) (w ++ since ts)
waits-since [] w = sym (append-nil w)
waits-since (adds bytes ∷ ts) w = waits-since ts (w ++ bytes) ∙ go (any_empties ts)
  where
    go : (b : Bool) → cond b (since ts) ((w ++ bytes) ++ since ts) ≡ cond b (cond b (since ts) (bytes ++ since ts)) (w ++ cond b (since ts) (bytes ++ since ts))
    go true = refl
    go false = append_assoc w bytes (since ts)
waits-since (empties why ∷ ts) w = waits-since ts [] ∙ go (any_empties ts)
  where
    go : (b : Bool) → cond b (since ts) ([] ++ since ts) ≡ since ts
    go true = refl
    go false = refl
