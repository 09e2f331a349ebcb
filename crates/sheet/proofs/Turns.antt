-- The loops over a sheet and over the sixteen pairs, at the places where they stand.
use Prim.Native.Nat.{ℕ, suc, ◌+◌, ◌-◌, ◌*◌, ◌/◌, ◌%◌, ◌<◌, ◌≤◌}
use mathlib.Core.Path.{◌≡◌, refl, sym, ap, ap₂, ◌∙◌}
use mathlib.Core.Bool.{Bool, true, false, cond, ◌&&◌}
use Rattle.std.proofs.Common.{Ok}
use Rattle.std.specs.List.{list_all}
use mathlib.Core.List.{List, [], ◌∷◌}
use native.Mathlib.Omega.{arith}
use native.Mathlib.Numerals.{add-one}
use lib.Dec.{eqb, ltb}
use Rattle.std.specs.Int.Bits.{bit_and}
use lib.ListN.{length, get_or, set, drop, length-drop}
use lib.Seq.{drop-cons, drop-length}
use borrow.Author.Tests.{lt-ltb, le-ltb, ltb-true, eq-eqb, ne_eqb}
use Rattle.lists.proofs.Both.{and3}
use Rattle.wire.specs.Be.{byte_at}
use Rattle.lists.specs.Each.{each_to, all_from}
use Rattle.lists.proofs.Each.{each_get, each_set, each_all}
use Rattle.sheet.specs.declared.Pair.{Pair}
use Rattle.sheet.specs.declared.Words.{Words}
use Rattle.sheet.specs.declared.Switching.{Switching}
use Rattle.sheet.specs.declared.Fate.TheVariants.{Counts, Overridden, Missing}
use Rattle.sheet.specs.Force.{force_then, force_none, pair_at, with_pair, join_at, join_words, never_twice, agreeing}
use Rattle.sheet.specs.Sheet.{switch_there, switching_at, alike, sheet_switches, fit_from, add_switch}
use Rattle.sheet.specs.Sheet.{sheet_from, sheet_words, last_alike, fate_of, unfit}

-- three bytes of a sheet, and the rest of it
pub three : (s : List ℕ) (at : ℕ) → at + 3 ≤ length s → drop at s ≡ byte_at s at ∷ byte_at s (at + 1) ∷ byte_at s (at + 2) ∷ drop (at + 3) s
three s at h =
    let one : at + 1 ≡ suc at = omega arith in
    let two : at + 2 ≡ suc (suc at) = omega arith in
    let all : at + 3 ≡ suc (suc (suc at)) = omega arith in
    let k : at < length s = omega arith in
    let l : suc at < length s = omega arith in
    let m : suc (suc at) < length s = omega arith in
    rw (one, two, all) (drop-cons s at 0 k ∙ ap (λ (x : List ℕ). byte_at s at ∷ x) (drop-cons s (suc at) 0 l
    ∙ ap (λ (x : List ℕ). byte_at s (suc at) ∷ x) (drop-cons s (suc (suc at)) 0 m)))

short-unfit : (at : ℕ) (l : List ℕ) → 0 < length l → length l < 3 → fit_from at l ≡ unfit at
unfolding fit_from
short-unfit at [] p q = absurd (omega arith)
short-unfit at (c ∷ []) p q = refl
short-unfit at (c ∷ n ∷ []) p q = refl
short-unfit at (c ∷ n ∷ k ∷ l) p q = absurd (omega arith)

pub short_none : (l : List ℕ) → length l < 3 → sheet_switches l ≡ []
unfolding sheet_switches
short_none [] q = refl
short_none (c ∷ []) q = refl
short_none (c ∷ n ∷ []) q = refl
short_none (c ∷ n ∷ k ∷ l) q = absurd (omega arith)

module _ (s : List ℕ) where
  -- what is left of the sheet, k switches on, fits as the whole does
  abbrev pub Fitting : ℕ → Type 0
  Fitting k = (k ≤ length s / 3) × (fit_from (k * 3) (drop (k * 3) s) ≡ fit_from 0 s)

  fit-one : (k : ℕ) → Fitting k → k < length s / 3
      → cond (ltb (byte_at s (k * 3 + 2)) 2) (fit_from (k * 3 + 3) (drop (k * 3 + 3) s)) (unfit (k * 3 + 2)) ≡ fit_from 0 s
  unfolding fit_from
  fit-one k inv h = sym (ap (fit_from (k * 3)) (three s (k * 3) (omega arith))) ∙ inv.1

  pub fit-bad : (k : ℕ) → Fitting k → k < length s / 3 → 1 < byte_at s (k * 3 + 2) → unfit (k * 3 + 2) ≡ fit_from 0 s
  fit-bad k inv h p = rw (le-ltb (byte_at s (k * 3 + 2)) 2 (omega arith)) at (fit-one k inv h)

  pub fit_on : (k : ℕ) → Fitting k → k < length s / 3 → byte_at s (k * 3 + 2) ≤ 1 → Fitting (k + 1)
  fit_on k inv h p =
      let e : (k + 1) * 3 ≡ k * 3 + 3 = omega arith in (
        omega arith,
        ap (λ (n : ℕ). fit_from n (drop n s)) e ∙ (rw (lt-ltb (byte_at s (k * 3 + 2)) 2 (omega arith)) at (fit-one k inv h)),
      )

  -- behind the whole switches: a switch that is cut off, or nothing
  pub fit-cut : (k : ℕ) → Fitting k → length s / 3 ≤ k → (length s % 3 ≡ 0 → ⊥) → unfit (length s / 3 * 3) ≡ fit_from 0 s
  fit-cut k inv l n =
      let e : length s / 3 * 3 ≡ k * 3 = omega arith in
      let d : length (drop (k * 3) s) ≡ length s - k * 3 = length-drop (k * 3) s in
      ap unfit e ∙ sym (short-unfit (k * 3) (drop (k * 3) s) (omega arith) (omega arith)) ∙ inv.1

  pub fit-ended : (k : ℕ) → Fitting k → length s / 3 ≤ k → length s % 3 ≡ 0 → Ok tt ≡ fit_from 0 s
  unfolding fit_from
  fit-ended k inv l n =
      let e : k * 3 ≡ length s = omega arith in
      sym (ap (fit_from (k * 3)) (ap (λ (m : ℕ). drop m s) e ∙ drop-length s)) ∙ inv.1

  module _ (rows : ℕ) where
    -- what is left of the sheet, k switches on, leads to the whole's words
    abbrev pub Adding : ℕ → Words → Type 0
    Adding k ws = sheet_from rows ws (sheet_switches (drop (k * 3) s)) ≡ sheet_words rows (sheet_switches s)

    pub add-on : (k : ℕ) (ws next : Words) → Adding k ws → k < length s / 3 → next ≡ add_switch rows ws (switching_at s (k * 3)) → Adding (k + 1) next
    unfolding sheet_from sheet_switches
    add-on k ws next inv h e =
        let n : (k + 1) * 3 ≡ k * 3 + 3 = omega arith in
        let one : sheet_from rows (add_switch rows ws (switching_at s (k * 3))) (sheet_switches (drop (k * 3 + 3) s))
        ≡ sheet_words rows (sheet_switches s) =
        sym (ap (λ (x : List ℕ). sheet_from rows ws (sheet_switches x)) (three s (k * 3) (omega arith))) ∙ inv in
        ap₂ (λ (w : Words) (m : ℕ). sheet_from rows w (sheet_switches (drop m s))) e n ∙ one

    pub add-ended : (k : ℕ) (ws : Words) → Adding k ws → length s / 3 ≤ k → ws ≡ sheet_words rows (sheet_switches s)
    unfolding sheet_from
    add-ended k ws inv h =
        let d : length (drop (k * 3) s) ≡ length s - k * 3 = length-drop (k * 3) s in
        sym (ap (sheet_from rows ws) (short_none (drop (k * 3) s) (omega arith))) ∙ inv

-- no pair has a bit twice, as a loop over the pairs finds it
pub agreeing_all : (ws : Words) → agreeing ws ≡ list_all (λ (p : Pair). eqb (bit_and p.on p.off) 0) ws.pairs
unfolding agreeing
agreeing_all ws = go 0 ws.pairs
  where
    go : (k : ℕ) (ps : List Pair) → all_from never_twice k ps ≡ list_all (λ (p : Pair). eqb (bit_and p.on p.off) 0) ps
    go k [] = refl
    go k (p ∷ ps) = ap (λ (b : Bool). eqb (bit_and p.on p.off) 0 && b) (go (suc k) ps)

module _ (earlier later : Words) where
  -- the pairs below i are joined
  abbrev pub Joining : Words → ℕ → Type 0
  Joining after i = after ≡ record { pairs = each_to (join_at later) 0 i earlier.pairs }

  pub join-on : (after : Words) (i : ℕ) (d : Pair) → i < length earlier.pairs → Joining after i → d ≡ force_then (pair_at after i) (pair_at later i)
      → Joining (with_pair i d after) (i + 1)
  join-on after i d h e p =
      let x = earlier.pairs in
      let z : i ≡ 0 + i = omega arith in
      let still : pair_at after i ≡ get_or x i force_none = ap (λ (w : Words). pair_at w i) e ∙ each_get (join_at later) 0 i x force_none in
      let q : d ≡ join_at later (0 + i) (get_or x i force_none) = p ∙ ap (λ (c : Pair). join_at later i c) still
      ∙ ap (λ (k : ℕ). join_at later k (get_or x i force_none)) z in
      ap (with_pair i d) e
      ∙ ap (λ (c : Pair). record { pairs = set (each_to (join_at later) 0 i x) i c }) q
      ∙ ap (λ (l : List Pair). record { pairs = l }) (each_set (join_at later) 0 i x force_none h)
      ∙ ap (λ (k : ℕ). record { pairs = each_to (join_at later) 0 k x }) (sym (add-one i))

  pub join-ended : (after : Words) (i : ℕ) → length earlier.pairs ≡ i → Joining after i → after ≡ join_words earlier later
  unfolding join_words
  join-ended after i l e =
      e ∙ ap (λ (k : ℕ). record { pairs = each_to (join_at later) 0 k earlier.pairs }) (sym l)
      ∙ ap (λ (l : List Pair). record { pairs = l }) (each_all (join_at later) 0 earlier.pairs)

-- the connection of a switch that is there is one of the rows, and of the sixteen
pub there-row : (rows : ℕ) (s : Switching) → switch_there rows s ≡ true → s.connection < rows
there-row rows s p = ltb-true s.connection rows (and3 (ltb s.connection rows) (ltb s.connection 16) (ltb s.number 32) p).0

pub there_below : (rows : ℕ) (s : Switching) → switch_there rows s ≡ true → s.connection < 16
there_below rows s p = ltb-true s.connection 16 (and3 (ltb s.connection rows) (ltb s.connection 16) (ltb s.number 32) p).1

-- which of two numbers, by the switches that two reads give
pub picks : (i last : ℕ) {s t s' t' : Switching} {b : Bool} → s ≡ s' → t ≡ t' → alike s t ≡ b → cond b i last ≡ cond (alike s' t') i last
picks i last p q e = ap (λ (x : Bool). cond x i last) (sym e ∙ ap₂ alike p q)

-- what becomes of a switch, by the tests
module _ (rows : ℕ) (s : List ℕ) (k : ℕ) where
  pub fate_past : length s / 3 ≤ k → Missing ≡ fate_of rows s k
  unfolding fate_of
  fate_past h = rw (le-ltb k (length s / 3) h)

  module _ (h : k < length s / 3) (t : Switching) (is : t ≡ switching_at s (k * 3)) where
    pub fate_missing : switch_there rows t ≡ false → Missing ≡ fate_of rows s k
    unfolding fate_of
    fate_missing e = rw (lt-ltb k (length s / 3) h, sym (ap (switch_there rows) is) ∙ e)

    module _ (e : switch_there rows t ≡ true) (last : ℕ) (l : last ≡ last_alike s k) where
      pub fate_counts : last ≡ k → Counts ≡ fate_of rows s k
      unfolding fate_of
      fate_counts q = rw (lt-ltb k (length s / 3) h, sym (ap (switch_there rows) is) ∙ e, ← l, eq-eqb last k q)

      pub fate_overridden : (last ≡ k → ⊥) → Overridden last ≡ fate_of rows s k
      unfolding fate_of
      fate_overridden q = rw (lt-ltb k (length s / 3) h, sym (ap (switch_there rows) is) ∙ e, ← l, ne_eqb last k q)
