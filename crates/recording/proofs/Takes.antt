-- The takes of a recorded answer, one after the other, as a loop over the bytes goes through them.
use Rattle.std.proofs.Common.{◌≡◌, ℕ, suc, ◌+◌, ◌-◌, ◌≤◌, Bool, true, false, not, ◌&&◌, eqb, leb, List, length, drop, sym, refl, ap, ◌∙◌, subst, arith}
use Rattle.std.proofs.Common.{length-drop, drop-drop, eq-eqb, ne_eqb, leb-true}
use native.Mathlib.Decide.{ℕ_discrete}
use borrow.Author.Tests.{not-true, not-false}
use Rattle.lists.proofs.Both.{and_right, and_first}
use Rattle.recording.specs.Entry.{take_fits, take_needs, takes_fit}

module _ (count : ℕ) (s : List ℕ) where
  -- so many are left, from here on, and they decide
  pub record LeftTo (left at : ℕ) : Type 0 where
    pub rest : takes_fit left (drop at s) ≡ takes_fit count s
    pub within : at ≤ length s

  -- the next one is laid out as a take, and is there whole
  abbrev Fine : ℕ → ℕ → Bool
  Fine at needs = take_fits (drop at s) && leb needs (length (drop at s))

  pub takes-start : LeftTo count 0
  takes-start = record { rest = refl; within = omega arith }

  takes-bad : (left at needs : ℕ) → LeftTo (suc left) at → needs ≡ take_needs (drop at s) → Fine at needs ≡ false → false ≡ takes_fit count s
  unfolding takes_fit
  takes-bad left at needs l n e =
      sym (sym l.rest ∙ and_first _ (takes_fit left (drop (take_needs (drop at s)) (drop at s))) (ap (λ (k : ℕ). Fine at k) (sym n) ∙ e))

  takes-on : (left at needs : ℕ) → LeftTo (suc left) at → needs ≡ take_needs (drop at s) → Fine at needs ≡ true → LeftTo left (at + needs)
  unfolding takes_fit
  takes-on left at needs l n e =
      let f : Fine at (take_needs (drop at s)) ≡ true = ap (λ (k : ℕ). Fine at k) (sym n) ∙ e in
      let b : needs ≤ length (drop at s) = leb-true _ _ (and_right (take_fits (drop at s)) (leb needs (length (drop at s))) e) in
      record {
        rest =
            ap (λ (k : ℕ). takes_fit left (drop (at + k) s)) n
            ∙ ap (takes_fit left) (sym (drop-drop (take_needs (drop at s)) at s))
            ∙ sym (ap (λ (t : Bool). t && takes_fit left (drop (take_needs (drop at s)) (drop at s))) f)
            ∙ l.rest;
        within = omega (arith, b, length-drop at s, l.within);
      }

  pub takes-end : (at : ℕ) → LeftTo 0 at → eqb at (length s) ≡ takes_fit count s
  unfolding takes_fit
  takes-end at l = none (length s) (length (drop at s)) (length-drop at s) l.within ∙ l.rest
    where
      none : (n m : ℕ) → m ≡ n - at → at ≤ n → eqb at n ≡ eqb m 0
      none n m e h = go (ℕ_discrete at n)
        where
          go : Dec (at ≡ n) → eqb at n ≡ eqb m 0
          go (yes q) = eq-eqb _ _ q ∙ sym (eq-eqb m 0 (omega arith))
          go (no q) = ne_eqb _ _ q ∙ sym (ne_eqb m 0 (λ z. q (omega (arith, z))))

  -- .. as the loop knows them: `rest` is lent from the place on
  module _ (left fewer at needs : ℕ) (rest : List ℕ) (fits : Bool) (l : LeftTo left at) (h : left ≡ suc fewer) (r : rest ≡ drop at s)
      (f : fits ≡ take_fits rest) (n : needs ≡ take_needs rest) where
    needed : needs ≡ take_needs (drop at s)
    needed = n ∙ ap take_needs r

    fine : (fits && leb needs (length rest)) ≡ Fine at needs
    fine = ap (λ (t : Bool). t && leb needs (length rest)) f ∙ ap (λ (x : List ℕ). take_fits x && leb needs (length x)) r

    before : LeftTo (suc fewer) at
    before = subst (λ (k : ℕ). LeftTo k at) h l

    pub takes-refused : not (fits && leb needs (length rest)) ≡ true → false ≡ takes_fit count s
    takes-refused e = takes-bad fewer at needs before needed (sym fine ∙ not-true _ e)

    pub takes-next : not (fits && leb needs (length rest)) ≡ false → LeftTo fewer (at + needs)
    takes-next e = takes-on fewer at needs before needed (sym fine ∙ not-false _ e)

    pub takes-within : not (fits && leb needs (length rest)) ≡ false → at + needs ≤ length s
    takes-within e = (takes-next e).within

  pub takes-ended : (left at : ℕ) → LeftTo left at → left ≤ 0 → eqb at (length s) ≡ takes_fit count s
  takes-ended left at l h = let z : left ≡ 0 = omega arith in takes-end at (subst (λ (k : ℕ). LeftTo k at) z l)
