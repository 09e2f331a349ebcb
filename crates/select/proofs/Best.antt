-- One pass finds the best, and there is only one best.
use Rattle.std.proofs.Common.{Option, ℕ, Some, None}
use Prim.Native.Nat.{ℕ, zero, suc, ◌+◌, ◌<◌, ◌≤◌}
use mathlib.Core.Path.{◌≡◌, refl, sym, ap, subst}
use mathlib.Core.Logic.{⊎_elim}
use mathlib.Core.Bool.{Bool, true, false, cond}
use native.Mathlib.Omega.{arith}
use native.Mathlib.Nat.{eq-or-lt_of_le, le_of_suc-le-suc}
use native.Mathlib.Decide.{dec_lt}
use lib.Dec.{eqb, leb}
use borrow.Author.Tests.{leb-true, leb-false, eqb-true, eqb-false, le-leb, lt-leb}
use Rattle.lists.specs.Fold.{fold_from}
use Rattle.select.specs.Best.{Best, IsChosen, pick, better, found, chosen_of}
use Rattle.select.specs.declared.Pick.{Pick}

module _ (score : ℕ → ℕ) where
  -- after the rows below i
  record Leads (i : ℕ) (b : Pick) : Type 0 where
    pub most : (j : ℕ) → j < i → score j ≤ b.score
    pub inside : 0 < b.score → b.at < i
    pub is : 0 < b.score → score b.at ≡ b.score
    pub first : 0 < b.score → (j : ℕ) → j < b.at → score j < b.score

  one_more : (P : ℕ → Type 0) (i : ℕ) → ((j : ℕ) → j < i → P j) → P i → (j : ℕ) → j < suc i → P j
  one_more P i all p j h = ⊎_elim (λ (e : j ≡ i). subst P (sym e) p) (λ (l : j < i). all j l) (eq-or-lt_of_le (le_of_suc-le-suc h))

  leads_step : (i : ℕ) (b : Pick) → Leads i b → Leads (suc i) (better score b i)
  unfolding better
  leads_step i b v = go (leb (score i) b.score) refl
    where
      go : (t : Bool) → leb (score i) b.score ≡ t → Leads (suc i) (cond t b (pick (score i) i))
      go true e =
          let h : score i ≤ b.score = leb-true _ _ e in
          record { most = one_more (λ j. score j ≤ b.score) i v.most h; inside = λ p. omega (arith, v.inside p); is = v.is; first = v.first }
      go false e =
          let h : b.score < score i = leb-false _ _ e in
          record {
            most = one_more (λ j. score j ≤ score i) i (λ j l. omega (arith, v.most j l)) (omega arith);
            inside =
                λ p. omega arith;
            is = λ p. refl;
            first = λ p j l. omega (arith, v.most j l);
          }

  leads_fold : (n i : ℕ) (b : Pick) → Leads i b → Leads (i + n) (fold_from (better score) n i b)
  unfolding fold_from
  leads_fold zero i b v = let e : i + 0 ≡ i = omega arith in rw e v
  leads_fold (suc n) i b v = let e : i + suc n ≡ suc i + n = omega arith in rw e (leads_fold n (suc i) (better score b i) (leads_step i b v))

  found-is : (n : ℕ) (b : Pick) → Leads n b → IsChosen score n (found b)
  found-is n b v = go (eqb b.score 0) refl
    where
      go : (t : Bool) → eqb b.score 0 ≡ t → IsChosen score n (cond t None (Some b.at))
      go true e = λ j l. let z : b.score ≡ 0 = eqb-true _ _ e in omega (arith, v.most j l)
      go false e =
          let z : b.score ≡ 0 → ⊥ = eqb-false _ _ e in
          let p : 0 < b.score = omega arith in
          let s : score b.at ≡ b.score = v.is p in
          record { inside = v.inside p; counts = omega arith; highest = λ j l. omega (arith, v.most j l); lowest = λ j l. omega (arith, v.first p j l) }

  -- the one pass finds the best
  pub chosen_best : (n : ℕ) → IsChosen score n (chosen_of score n)
  unfolding chosen_of
  chosen_best n =
      let start : Leads 0 (pick 0 0) =
      record {
        most = λ j l. absurd (omega arith);
        inside = λ p. absurd (omega arith);
        is =
            λ p. absurd (omega arith);
        first = λ p j l. absurd (omega arith);
      } in
      let e : 0 + n ≡ n = omega arith in
      found-is n _ (rw e at (leads_fold n 0 (pick 0 0) start))

  -- and there is only one
  same : (n k m : ℕ) → Best score n k → Best score n m → k ≡ m
  same n k m a b = go (dec_lt k m) (dec_lt m k)
    where
      go : Dec (k < m) → Dec (m < k) → k ≡ m
      go (yes l) x = absurd (omega (arith, b.lowest k l, a.highest m b.inside))
      go (no h) (yes l) = absurd (omega (arith, a.lowest m l, b.highest k a.inside))
      go (no h) (no g) = omega (arith, h, g)

  pub chosen_one : (n : ℕ) (x y : Option ℕ) → IsChosen score n x → IsChosen score n y → x ≡ y
  chosen_one n None None a b = refl
  chosen_one n None (Some m) a b = absurd (omega (arith, a m b.inside, b.counts))
  chosen_one n (Some k) None a b = absurd (omega (arith, b k a.inside, a.counts))
  chosen_one n (Some k) (Some m) a b = ap Some (same n k m a b)

  -- one turn of the loop
  pub better_no : (b : Pick) (i : ℕ) → score i ≤ b.score → b ≡ better score b i
  unfolding better
  better_no b i h = rw (le-leb _ _ h)

  pub better_yes : (b : Pick) (i r : ℕ) → r ≡ score i → b.score < r → pick r i ≡ better score b i
  unfolding better
  better_yes b i r e h = let l : b.score < score i = omega arith in rw (lt-leb _ _ l, e)

-- a turn asks the score of its own candidate alone
pub better-alike : (f g : ℕ → ℕ) (b : Pick) (i : ℕ) → f i ≡ g i → better f b i ≡ better g b i
unfolding better
better-alike f g b i e = ap (λ (r : ℕ). cond (leb r b.score) b (pick r i)) e

-- the number stays one of the candidates
pub better-small : (f : ℕ → ℕ) (n : ℕ) (b : Pick) (i : ℕ) → b.at < n → i < n → (better f b i).at < n
unfolding better
better-small f n b i h l = go (leb (f i) b.score)
  where
    go : (t : Bool) → (cond t b (pick (f i) i)).at < n
    go true = h
    go false = l
