-- The best of numbered candidates, each with a score that is 0 where it is none (R7.5).
use Rattle.std.specs.Prelude.{ℕ, ◌<◌, ◌≤◌, ◌≡◌, cond, eqb, leb, Option, Some, None}
use Rattle.lists.specs.Fold.{fold_from}
use Rattle.select.specs.declared.Pick.{Pick}

-- what best means
module _ (score : ℕ → ℕ) (n : ℕ) where
  -- k counts, none scores higher, and none with a lower number scores the same
  pub record Best (k : ℕ) : Type 0 where
    pub inside : k < n
    pub counts : 0 < score k
    pub highest : (j : ℕ) → j < n → score j ≤ score k
    pub lowest : (j : ℕ) → j < k → score j < score k

  -- nobody exactly when none counts
  abbrev pub IsChosen : Option ℕ → Type 0
  IsChosen None = (j : ℕ) → j < n → score j ≡ 0
  IsChosen (Some k) = Best k

-- the best so far, in one pass over the candidates
abbrev pub pick : ℕ → ℕ → Pick
pick s k = record { score = s; at = k }

-- a candidate takes the place only where it scores higher
unfoldable pub better : (ℕ → ℕ) → Pick → ℕ → Pick
better score b i = cond (leb (score i) b.score) b (pick (score i) i)

abbrev pub found : Pick → Option ℕ
found b = cond (eqb b.score 0) None (Some b.at)

-- of the candidates 0 .. n - 1
unfoldable pub chosen_of : (ℕ → ℕ) → ℕ → Option ℕ
chosen_of score n = found (fold_from (better score) n 0 (pick 0 0))
