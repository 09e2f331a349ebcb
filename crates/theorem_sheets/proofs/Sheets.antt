-- A SHEET IS TWO WORDS FOR EACH CONNECTION (R18.8): from an accepted table, a sound state and memory of the right lengths, its words applied leave
-- the state that its switches leave, called one by one, refused ones left out. What two sheets leave is then a matter of their words.
use Rattle.std.proofs.Common.{Result, Ok, Err}
use Prim.Native.Nat.{ℕ}
use mathlib.Core.Path.{◌≡◌, refl, sym, ap, subst, ◌∙◌}
use mathlib.Core.Bool.{Bool, true, false, cond}
use native.Mathlib.Omega.{arith}
use mathlib.Core.List.{List, [], ◌∷◌, ◌++◌}
use Rattle.connection.specs.declared.Refusal.{Refusal}
use Rattle.connection.specs.declared.Refusal.TheVariants.{Denied}
use Rattle.state.specs.declared.State.{State}
use Rattle.gate.specs.Lent.{Lent, next}
use Rattle.gate.specs.Gate.{gate_of, through, Passed}
use Rattle.entry_events.specs.declared.Told.{Told}
use Rattle.entry_events.specs.Change.{refused_told}
use Rattle.gate.proofs.Pass.{passed_gate}
use Rattle.sheet.specs.declared.Words.{Words}
use Rattle.sheet.specs.declared.Switching.{Switching}
use Rattle.sheet.specs.Force.{no_words, join_words, agreeing}
use Rattle.sheet.specs.declared.Unfit.{Unfit}
use Rattle.sheet.specs.Sheet.{sheet_switches, fit_from, switch_there, add_switch, sheet_from, sheet_words, words_where, words_given, shorten_of, kept_of}
use Rattle.sheet.proofs.Joins.{at, Full, no_full, add-full, add_missing, add_twice, add-swap, words_agree}
use Rattle.sheet.proofs.Kept.{kept_words}
use Rattle.entry_sheet.specs.Apply.{forced_rows, apply_of}
use Rattle.theorem_sheets.specs.Switched.{table_rows, after_switch, after_switches}
use Rattle.theorem_sheets.proofs.Steps.{few, forced_passed, forced_none, forced_join, forced_add, switch_done, switch_left}

module _ (l : Lent) (passed : Passed l) where
  -- one switch more, behind words
  one_more : (ws : Words) (s : Switching) → Full ws
      → after_switch (next l (forced_rows (table_rows l) ws l.state)) s ≡ forced_rows (table_rows l) (add_switch (table_rows l) ws s) l.state
  one_more ws s f = go (switch_there (table_rows l) s) refl
    where
      go : (b : Bool) → switch_there (table_rows l) s ≡ b
          → after_switch (next l (forced_rows (table_rows l) ws l.state)) s ≡ forced_rows (table_rows l) (add_switch (table_rows l) ws s) l.state
      go true e = switch_done _ (forced_passed l passed ws) s e ∙ forced_add (table_rows l) ws s f e l.state
      go false e = switch_left _ (forced_passed l passed ws) s e
          ∙ sym (ap (λ (w : Words). forced_rows (table_rows l) w l.state) (add_missing (table_rows l) ws s e))

  -- switches behind words
  more : (ws : Words) (ss : List Switching) → Full ws
      → after_switches (next l (forced_rows (table_rows l) ws l.state)) ss ≡ forced_rows (table_rows l) (sheet_from (table_rows l) ws ss) l.state
  unfolding after_switches sheet_from
  more ws [] f = refl
  more ws (s ∷ ss) f =
      ap (λ (t : State). after_switches (next l t) ss) (one_more ws s f)
      ∙ more (add_switch (table_rows l) ws s) ss (add-full (table_rows l) ws s f)

  -- the switches one by one leave what their words force
  pub switches_forced : (ss : List Switching) → after_switches l ss ≡ forced_rows (table_rows l) (sheet_words (table_rows l) ss) l.state
  switches_forced ss = ap (λ (t : State). after_switches (next l t) ss) (sym (forced_none (table_rows l) l.state)) ∙ more no_words ss no_full

  -- words without a bit in both are applied
  pub applied : (ws : Words) → agreeing ws ≡ true → apply_of l ws ≡ record { answer = Ok tt; state = forced_rows (table_rows l) ws l.state }
  unfolding apply_of
  applied ws e = rw (passed_gate l passed, e)

  -- words with a bit in both get 3
  pub both-refused : (ws : Words) → agreeing ws ≡ false → apply_of l ws ≡ refused_told l.state Denied
  unfolding apply_of
  both-refused ws e = rw (passed_gate l passed, e)

  -- what passes the gate passes it again, whatever words are applied
  pub apply_passed : (ws : Words) → Passed (next l (apply_of l ws).state)
  apply_passed ws = go (agreeing ws) refl
    where
      go : (b : Bool) → agreeing ws ≡ b → Passed (next l (apply_of l ws).state)
      go true e = subst (λ (t : Told). Passed (next l t.state)) (sym (applied ws e)) (forced_passed l passed ws)
      go false e = subst (λ (t : Told). Passed (next l t.state)) (sym (both-refused ws e)) passed

  -- R18.8: ANY SHEET EQUALS ITS WORDS: applied, they are answered 0 and leave the state that the switches leave, called one by one
  pub sheet-words : (ss : List Switching) → apply_of l (sheet_words (table_rows l) ss) ≡ record { answer = Ok tt; state = after_switches l ss }
  sheet-words ss =
      applied (sheet_words (table_rows l) ss) (words_agree (table_rows l) ss)
      ∙ ap (λ (t : State). record { answer = Ok tt; state = t }) (sym (switches_forced ss))

  -- sheets with the same words leave the same state
  pub same_words_same_state : (ss ts : List Switching) → sheet_words (table_rows l) ss ≡ sheet_words (table_rows l) ts → after_switches l ss
      ≡ after_switches l ts
  same_words_same_state ss ts e = switches_forced ss ∙ ap (λ (w : Words). forced_rows (table_rows l) w l.state) e ∙ sym (switches_forced ts)

  -- R18.6: a sheet that fits, shortened and applied
  pub shortened_applied : (sheet : List ℕ) → fit_from 0 sheet ≡ Ok tt
      → apply_of l (words_given (shorten_of (table_rows l) sheet)) ≡ record { answer = Ok tt; state = after_switches l (sheet_switches sheet) }
  unfolding shorten_of
  shortened_applied sheet e =
      ap (λ (f : Result Unit Unfit). apply_of l (words_given (words_where f (table_rows l) sheet))) e ∙ sheet-words (sheet_switches sheet)

  -- R18.7: the shortened sheet, its switches called one by one, leaves the state of the whole one
  pub short_sheet : (sheet : List ℕ) → after_switches l (kept_of (table_rows l) sheet) ≡ after_switches l (sheet_switches sheet)
  short_sheet sheet = same_words_same_state _ _ (kept_words (table_rows l) sheet)

  -- R18.8: the same switch of the same connection twice is the last one
  pub last_wins : (c n : ℕ) (a b : Bool) (rest : List Switching) → after_switches l (at c n a ∷ at c n b ∷ rest) ≡ after_switches l (at c n b ∷ rest)
  unfolding sheet_from
  last_wins c n a b rest = same_words_same_state _ _ (ap (λ (w : Words). sheet_from (table_rows l) w rest) (add_twice (table_rows l) no_words c n a b no_full))

  -- R18.8: switches of different numbers or different connections may change places
  pub swapped : (s t : Switching) (rest : List Switching) → (s.connection ≡ t.connection → s.number ≡ t.number → ⊥)
      → after_switches l (s ∷ t ∷ rest) ≡ after_switches l (t ∷ s ∷ rest)
  unfolding sheet_from
  swapped s t rest ne = same_words_same_state _ _ (ap (λ (w : Words). sheet_from (table_rows l) w rest) (add-swap (table_rows l) no_words s t ne no_full))

  -- R18.8: the empty sheet does nothing, as switches and as words
  pub empty_switches : after_switches l [] ≡ l.state
  unfolding after_switches
  empty_switches = refl

  pub empty_words : apply_of l no_words ≡ record { answer = Ok tt; state = l.state }
  unfolding sheet_from
  empty_words = sheet-words [] ∙ ap (λ (t : State). record { answer = Ok tt; state = t }) empty_switches

  -- R18.8: words applied one after the other are the words joined
  pub join_applied : (a b : Words) → Full a → forced_rows (table_rows l) (join_words a b) l.state
      ≡ forced_rows (table_rows l) b (forced_rows (table_rows l) a l.state)
  join_applied a b f = forced_join (table_rows l) a b l.state (few l passed) f

-- R18.6: a refusal changes nothing, from any table, state and memory
pub apply_stays : (l : Lent) (ws : Words) (r : Refusal) → (apply_of l ws).answer ≡ Err r → (apply_of l ws).state ≡ l.state
unfolding apply_of
apply_stays l ws r e = go (gate_of l) (agreeing ws) e
  where
    done : Told
    done = record { answer = Ok tt; state = forced_rows (table_rows l) ws l.state }

    go : (g : Result Unit Refusal) (b : Bool) → (through g (refused_told l.state) (cond b done (refused_told l.state Denied))).answer ≡ Err r
        → (through g (refused_told l.state) (cond b done (refused_told l.state Denied))).state ≡ l.state
    go (Err q) b p = refl
    go (Ok tt) false p = refl
    go (Ok tt) true p = absurd (let z : ◌≡◌ {A = ℕ} 0 1 = cc in omega arith)

-- sheets one after the other, in calls
pub after-append : (l : Lent) (ss ts : List Switching) → after_switches l (ss ++ ts) ≡ after_switches (next l (after_switches l ss)) ts
unfolding after_switches
after-append l [] ts = refl
after-append l (s ∷ ss) ts = after-append (next l (after_switch l s)) ss ts
