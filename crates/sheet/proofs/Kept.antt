-- THE SHORTENED SHEET (R18.7) HAS THE WORDS OF THE WHOLE ONE: a switch that is refused or overridden by a later one changes nothing.
use Prim.Native.Nat.{ℕ, zero, suc, ◌+◌, ◌*◌, ◌/◌, ◌<◌, ◌≤◌}
use mathlib.Core.Path.{◌≡◌, refl, sym, ap, ap₂, ◌∙◌}
use mathlib.Core.Bool.{Bool, true, false, cond, ◌&&◌}
use mathlib.Core.List.{List, [], ◌∷◌}
use native.Mathlib.Omega.{arith}
use native.Mathlib.Decide.{ℕ_discrete}
use lib.Dec.{eqb, ltb}
use lib.ListN.{length, drop, length-drop}
use borrow.Author.Tests.{eqb-true, eq-eqb, lt-ltb}
use Rattle.lists.proofs.Both.{and_left, and_right, and_both, impossible}
use Rattle.lists.proofs.Fold.{fold_goes}
use Rattle.sheet.specs.declared.Words.{Words}
use Rattle.sheet.specs.declared.Switching.{Switching}
use Rattle.sheet.specs.declared.Fate.{Fate}
use Rattle.sheet.specs.declared.Fate.TheVariants.{Counts, Overridden, Missing}
use Rattle.sheet.specs.Force.{no_words}
use Rattle.sheet.specs.Sheet.{switching_at, sheet_switches, switch_there, add_switch, sheet_from, sheet_words}
use Rattle.sheet.specs.Sheet.{alike, pick_alike, last_alike, fate_of, counts_for, kept_from, kept_of}
use Rattle.sheet.proofs.Turns.{three, short_none}
use Rattle.sheet.proofs.Joins.{at, Full, no_full, add-full, add_missing, add_twice, add-swap}

alike_self : (t : Switching) → alike t t ≡ true
alike_self t = and_both (eq-eqb t.connection t.connection refl) (eq-eqb t.number t.number refl)

-- a switch behind one of the same connection and number
add-alike : (rows : ℕ) (ws : Words) (t u : Switching) → Full ws → alike t u ≡ true → add_switch rows (add_switch rows ws t) u ≡ add_switch rows ws u
add-alike rows ws t u f e =
    let c = eqb-true _ _ (and_left (eqb t.connection u.connection) _ e) in
    let n = eqb-true _ _ (and_right (eqb t.connection u.connection) _ e) in
    ap (λ (x : Switching). add_switch rows (add_switch rows ws x) u) (ap₂ (λ (c n : ℕ). at c n t.on) c n)
    ∙ add_twice rows ws u.connection u.number t.on u.on f

module _ (rows : ℕ) (s : List ℕ) where
  abbrev count : ℕ
  count = length s / 3

  -- the switches by their numbers
  abbrev numbered : ℕ → ℕ → List Switching
  numbered zero k = []
  numbered (suc n) k = switching_at s (k * 3) ∷ numbered n (suc k)

  switches_from : (n k : ℕ) → k + n ≡ count → sheet_switches (drop (k * 3) s) ≡ numbered n k
  unfolding sheet_switches
  switches_from zero k e = short_none (drop (k * 3) s) (let l = length-drop (k * 3) s in omega arith)
  switches_from (suc n) k e =
      let z : k * 3 + 3 ≡ suc k * 3 = omega arith in
      ap sheet_switches (three s (k * 3) (omega arith))
      ∙ ap (λ (l : List Switching). switching_at s (k * 3) ∷ l) (ap (λ (m : ℕ). sheet_switches (drop m s)) z ∙ switches_from n (suc k) (omega arith))

  -- the last switch like switch k is one of the sheet's, and no earlier
  pub last_later : (k : ℕ) → k < count → (alike (switching_at s (k * 3)) (switching_at s (last_alike s k * 3)) ≡ true) × (last_alike s k < count) ×
      (k ≤ last_alike s k)
  unfolding last_alike
  last_later k h =
      let r = fold_goes (pick_alike s k) Holds count 0 k (λ i c l u p. go i c (omega arith) (alike (switching_at s (k * 3)) (switching_at s (i * 3))) refl p)
      (alike_self (switching_at s (k * 3)), h, λ l. absurd (omega arith)) in
      (r.0, r.1, r.2 (omega arith))
    where
      Holds : ℕ → ℕ → Type 0
      Holds i b = (alike (switching_at s (k * 3)) (switching_at s (b * 3)) ≡ true) × (b < count) × (k < i → k ≤ b)

      go : (i c : ℕ) → i < count → (b : Bool) → alike (switching_at s (k * 3)) (switching_at s (i * 3)) ≡ b → Holds i c → Holds (suc i) (cond b i c)
      go i c l true e p = (e, l, λ q. omega arith)
      go i c l false e p = (p.0, p.1, λ q. past q (ℕ_discrete k i))
        where
          past : k < suc i → Dec (k ≡ i) → k ≤ c
          past q (yes d) = impossible (sym e ∙ ap (λ (m : ℕ). alike (switching_at s (k * 3)) (switching_at s (m * 3))) (sym d)
              ∙ alike_self (switching_at s (k * 3)))
          past q (no d) = p.2 (omega arith)

  -- a switch that a later one overrides changes nothing
  overriding : (t : Switching) (n k j : ℕ) → k ≤ j → j < k + n → alike t (switching_at s (j * 3)) ≡ true → (ws : Words) → Full ws
      → sheet_from rows (add_switch rows ws t) (numbered n k) ≡ sheet_from rows ws (numbered n k)
  unfolding sheet_from
  overriding t zero k j l u e ws f = absurd (omega arith)
  overriding t (suc n) k j l u e ws f =
      go (λ h. overriding t n (suc k) j h (omega arith) e (add_switch rows ws (switching_at s (k * 3))) (add-full rows ws (switching_at s (k * 3)) f))
      (alike t (switching_at s (k * 3))) refl
    where
      ne : alike t (switching_at s (k * 3)) ≡ false → t.connection ≡ (switching_at s (k * 3)).connection → t.number ≡ (switching_at s (k * 3)).number → ⊥
      ne q c m = impossible (sym q ∙ and_both (eq-eqb _ _ c) (eq-eqb _ _ m))

      later : alike t (switching_at s (k * 3)) ≡ false → Dec (k ≡ j) → suc k ≤ j
      later q (yes d) = impossible (sym q ∙ ap (λ (m : ℕ). alike t (switching_at s (m * 3))) d ∙ e)
      later q (no d) = omega arith

      go : (suc k ≤ j → sheet_from rows (add_switch rows (add_switch rows ws (switching_at s (k * 3))) t) (numbered n (suc k))
          ≡ sheet_from rows (add_switch rows ws (switching_at s (k * 3))) (numbered n (suc k)))
          → (b : Bool) → alike t (switching_at s (k * 3)) ≡ b
          → sheet_from rows (add_switch rows (add_switch rows ws t) (switching_at s (k * 3))) (numbered n (suc k))
          ≡ sheet_from rows (add_switch rows ws (switching_at s (k * 3))) (numbered n (suc k))
      go more true q = ap (λ (w : Words). sheet_from rows w (numbered n (suc k))) (add-alike rows ws t (switching_at s (k * 3)) f q)
      go more false q =
          ap (λ (w : Words). sheet_from rows w (numbered n (suc k))) (add-swap rows ws t (switching_at s (k * 3)) (ne q) f)
          ∙ more (later q (ℕ_discrete k j))

  -- what a fate says of its switch
  pub fate_is_missing : (k : ℕ) → k < count → fate_of rows s k ≡ Missing → switch_there rows (switching_at s (k * 3)) ≡ false
  unfolding fate_of
  fate_is_missing k h e = go (switch_there rows (switching_at s (k * 3))) refl (eqb (last_alike s k) k) (rw (lt-ltb k count h) at e)
    where
      go : (b : Bool) → switch_there rows (switching_at s (k * 3)) ≡ b → (c : Bool) → cond b (cond c Counts (Overridden (last_alike s k))) Missing ≡ Missing
          → switch_there rows (switching_at s (k * 3)) ≡ false
      go false q c p = q
      go true q true p = absurd (let z : ◌≡◌ {A = ℕ} 0 1 = cc in omega arith)
      go true q false p = absurd (let z : ◌≡◌ {A = ℕ} 0 1 = cc in omega arith)

  pub fate_is_overridden : (k j : ℕ) → fate_of rows s k ≡ Overridden j → (last_alike s k ≡ k → ⊥)
  unfolding fate_of
  fate_is_overridden k j e q = go (ltb k count && switch_there rows (switching_at s (k * 3))) (rw (eq-eqb (last_alike s k) k q) at e)
    where
      go : (b : Bool) → cond b Counts Missing ≡ Overridden j → ⊥
      go true p = let z : ◌≡◌ {A = ℕ} 0 1 = cc in omega arith
      go false p = let z : ◌≡◌ {A = ℕ} 0 1 = cc in omega arith

  kept_from_lem : (n k : ℕ) → k + n ≡ count → (ws : Words) → Full ws → sheet_from rows ws (kept_from rows s n k) ≡ sheet_from rows ws (numbered n k)
  unfolding sheet_from kept_from
  kept_from_lem zero k e ws f = refl
  kept_from_lem (suc n) k e ws f = go (λ w g. kept_from_lem n (suc k) (omega arith) w g) (fate_of rows s k) refl
    where
      u : Switching
      u = switching_at s (k * 3)

      go : ((w : Words) → Full w → sheet_from rows w (kept_from rows s n (suc k)) ≡ sheet_from rows w (numbered n (suc k))) → (x : Fate) → fate_of rows s k ≡ x
          → sheet_from rows ws (cond (counts_for x) (u ∷ kept_from rows s n (suc k)) (kept_from rows s n (suc k)))
          ≡ sheet_from rows (add_switch rows ws u) (numbered n (suc k))
      go rest Counts q = rest (add_switch rows ws u) (add-full rows ws u f)
      go rest (Overridden j) q =
          let r = last_later k (omega arith) in
          let d = fate_is_overridden k j q in
          rest ws f ∙ sym (overriding u n (suc k) (last_alike s k) (omega arith) (omega arith) r.0 ws f)
      go rest Missing q =
          rest ws f ∙ ap (λ (w : Words). sheet_from rows w (numbered n (suc k))) (sym (add_missing rows ws u (fate_is_missing k (omega arith) q)))

  -- R18.7: the shortened sheet has the words of the whole one
  pub kept_words : sheet_words rows (kept_of rows s) ≡ sheet_words rows (sheet_switches s)
  kept_words =
      let z : 0 + count ≡ count = omega arith in
      let y : 0 * 3 ≡ 0 = omega arith in
      kept_from_lem count 0 z no_words no_full ∙ ap (sheet_words rows) (sym (switches_from count 0 z))
