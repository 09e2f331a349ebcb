-- ONE SWITCH through the entry point, and words applied, past the gate: what each leaves, and that both pass the gate again.
use Rattle.std.proofs.Common.{Result, Ok, Err}
use Prim.Native.Nat.{ℕ, ◌<◌, ◌≤◌, ◌+◌}
use mathlib.Core.Path.{◌≡◌, refl, sym, ap, ◌∙◌}
use mathlib.Core.Bool.{Bool, true, false, cond, not, ◌&&◌}
use mathlib.Core.List.{List}
use native.Mathlib.Omega.{arith}
use native.Mathlib.Decide.{dec_lt}
use lib.Dec.{ltb}
use lib.Seq.{get_or-set_same, get_or-set_other}
use borrow.Author.Tests.{lt-ltb, le-ltb}
use Rattle.table_layout.specs.Layout.{rows_of}
use Rattle.table_layout.specs.declared.Kind.TheVariants.{Connection as Connections}
use Rattle.table.proofs.Facts.{accepted_facts}
use Rattle.connection.specs.declared.Connection.{Connection}
use Rattle.connection.specs.declared.Event.TheVariants.{Switch}
use Rattle.connection.specs.Connection.{zero_record, with_switches, switch_of, switched_of}
use Rattle.connection.specs.declared.Refusal.TheVariants.{Missing, Denied}
use Rattle.connection.specs.declared.Stepped.{Stepped}
use Rattle.connection.specs.Event.{refused_by, step_of}
use Rattle.connection.proofs.Keeps.{switches-keep}
use Rattle.lists.proofs.Both.{and3}
use Rattle.lists.proofs.Each.{all-each}
use Rattle.state.specs.declared.State.{State}
use Rattle.state.specs.State.{record_at, with_record, with_records}
use Rattle.state.specs.Fresh.{config_of}
use Rattle.gate.specs.Lent.{Lent, next}
use Rattle.gate.specs.Sound.{sound_at, records_sound}
use Rattle.gate.specs.Gate.{gate_at, through, Passed}
use Rattle.gate.proofs.Pass.{passed_gate, passed_gate_at, passed-next}
use Rattle.gate.proofs.Records.{row-sound, row-routed, sound-row}
use Rattle.entry_events.specs.Change.{refused_told, told_of, change_of, event_of}
use Rattle.sheet.specs.declared.Pair.{Pair}
use Rattle.sheet.specs.declared.Words.{Words}
use Rattle.sheet.specs.declared.Switching.{Switching}
use Rattle.sheet.specs.Force.{force_of, force_then, force_none, force_one, no_words, pair_at, join_words}
use Rattle.sheet.specs.Sheet.{switch_there, add_switch}
use Rattle.sheet.proofs.Pairs.{then_force, none_force, one_force}
use Rattle.sheet.proofs.Joins.{Full, no_at, join-at, add-there}
use Rattle.sheet.proofs.Turns.{there-row, there_below}
use Rattle.entry_sheet.specs.Apply.{forced_of, force_at, forced_rows}
use Rattle.theorem_sheets.specs.Switched.{table_rows, after_switch}
use Rattle.law_lists.proofs.Each.{each_same, each-still, each_twice, each_more}
use Rattle.connection.specs.declared.Refusal.{Refusal}

-- other switches leave a row's record sound
pub word_sound : (image : List ℕ) (n : ℕ) (c : Connection) (w : ℕ) → sound_at image n c ≡ true → n < rows_of image Connections
    → sound_at image n (with_switches w c) ≡ true
word_sound image n c w p h = sound-row image n (with_switches w c) h (switches-keep (config_of image n) c (row-sound image n c p h) w)
    (row-routed image n c p h)

-- words applied one after the other are the words joined
pub forced_join : (rows : ℕ) (a b : Words) (s : State) → rows ≤ 16 → Full a → forced_rows rows (join_words a b) s ≡ forced_rows rows b (forced_rows rows a s)
unfolding forced_rows
forced_join rows a b s h f =
    ap (λ (l : List Connection). with_records l s)
    (each_same (force_at (join_words a b)) (λ (i : ℕ) (c : Connection). force_at b i (force_at a i c)) 0 rows s.connections
    (λ i l u c. ap (λ (w : ℕ). with_switches w c) (ap (λ (p : Pair). force_of p c.switches) (join-at a b i f (omega arith))
    ∙ then_force (pair_at a i) (pair_at b i) c.switches))
    ∙ sym (each_twice (force_at a) (force_at b) 0 rows s.connections))

-- words that force nothing leave every record
pub forced_none : (rows : ℕ) (s : State) → forced_rows rows no_words s ≡ s
unfolding forced_rows
forced_none rows s =
    ap (λ (l : List Connection). with_records l s)
    (each_same (force_at no_words) (λ (i : ℕ) (c : Connection). c) 0 rows s.connections
    (λ i l u c. ap (λ (w : ℕ). with_switches w c) (ap (λ (p : Pair). force_of p c.switches) (no_at i) ∙ none_force c.switches))
    ∙ each-still 0 rows s.connections)

-- a switch more at the end of a sheet is that switch, behind the words
module _ (rows : ℕ) (ws : Words) (s : Switching) (f : Full ws) (e : switch_there rows s ≡ true) where
  pair_own : pair_at (add_switch rows ws s) s.connection ≡ force_then (pair_at ws s.connection) (force_one s.number s.on)
  pair_own =
      let h = there_below rows s e in
      ap (λ (w : Words). pair_at w s.connection) (add-there rows ws s e) ∙ get_or-set_same ws.pairs s.connection _ force_none (omega arith)

  pair_other : (i : ℕ) → (i ≡ s.connection → ⊥) → pair_at (add_switch rows ws s) i ≡ pair_at ws i
  pair_other i ne = ap (λ (w : Words). pair_at w i) (add-there rows ws s e) ∙ get_or-set_other ws.pairs s.connection i _ force_none ne

  own : (i : ℕ) → i ≡ s.connection → (c : Connection) → switched_of s.number s.on (force_at ws i c) ≡ force_at (add_switch rows ws s) i c
  own i q c =
      ap (λ (w : ℕ). with_switches w c)
      (sym (ap (λ (k : ℕ). force_of (pair_at (add_switch rows ws s) k) c.switches) q ∙ ap (λ (p : Pair). force_of p c.switches) pair_own
      ∙ then_force (pair_at ws s.connection) (force_one s.number s.on) c.switches
      ∙ one_force s.number s.on (force_of (pair_at ws s.connection) c.switches)
      ∙ ap (λ (k : ℕ). switch_of s.number s.on (force_of (pair_at ws k) c.switches)) (sym q)))

  pub forced_add : (t : State)
      → with_record s.connection (switched_of s.number s.on (record_at (forced_rows rows ws t) s.connection)) (forced_rows rows ws t)
      ≡ forced_rows rows (add_switch rows ws s) t
  unfolding forced_rows
  forced_add t =
      let z : 0 + s.connection ≡ s.connection = omega arith in
      ap (λ (l : List Connection). with_records l t)
      (each_more (force_at ws) (force_at (add_switch rows ws s)) (switched_of s.number s.on) zero_record 0 rows s.connection t.connections
      (there-row rows s e)
      (own (0 + s.connection) z) (λ i ne c. ap (λ (p : Pair). forced_of p c) (sym (pair_other i (λ q. ne (q ∙ sym z))))))

-- a switch past the gate: done where its number is at most 31
change-state : (image : List ℕ) (t : State) (c n : ℕ) (on : Bool)
    → (change_of image t c (Switch n on)).state ≡ cond (ltb n 32) (with_record c (switched_of n on (record_at t c)) t) t
unfolding change_of told_of step_of
change-state image t c n on = go (ltb n 32)
  where
    stepped : Bool → Stepped
    stepped b = cond (not b) (refused_by Missing (record_at t c))
        (cond (not true) (refused_by Denied (record_at t c)) (record { answer = Ok tt; connection = switched_of n on (record_at t c) }))

    go : (b : Bool) → (told_of t c (stepped b).answer (stepped b).connection).state ≡ cond b (with_record c (switched_of n on (record_at t c)) t) t
    go true = refl
    go false = refl

module _ (l : Lent) (passed : Passed l) where
  pub few : table_rows l ≤ 16
  few = (accepted_facts l.image passed.table).most Connections

  -- words applied leave what passes the gate
  pub forced_passed : (ws : Words) → Passed (next l (forced_rows (table_rows l) ws l.state))
  unfolding forced_rows records_sound
  forced_passed ws =
      passed-next l _ passed
      (all-each (sound_at l.image) (force_at ws) 0 (table_rows l) l.state.connections passed.sound
      (λ j c u p. word_sound l.image j c _ p (omega arith)))

  through_gate : (s : Switching) (g : Result Unit Refusal) → gate_at l s.connection ≡ g
      → after_switch l s ≡ (through g (refused_told l.state) (change_of l.image l.state s.connection (Switch s.number s.on))).state
  unfolding after_switch event_of
  through_gate s g e = ap (λ (x : Result Unit Refusal). (through x (refused_told l.state)
      (change_of l.image l.state s.connection (Switch s.number s.on))).state) e

  -- a switch of a connection that is there
  in_row : (s : Switching) → s.connection < table_rows l
      → after_switch l s ≡ cond (ltb s.number 32)
      (with_record s.connection (switched_of s.number s.on (record_at l.state s.connection)) l.state) l.state
  in_row s h = through_gate s (Ok tt) (passed_gate_at l s.connection passed h) ∙ change-state l.image l.state s.connection s.number s.on

  -- a switch that is there is done, and another leaves the state
  pub switch_done : (s : Switching) → switch_there (table_rows l) s ≡ true
      → after_switch l s ≡ with_record s.connection (switched_of s.number s.on (record_at l.state s.connection)) l.state
  switch_done s e =
      in_row s (there-row (table_rows l) s e)
      ∙ ap (λ (b : Bool). cond b (with_record s.connection (switched_of s.number s.on (record_at l.state s.connection)) l.state) l.state)
      (and3 (ltb s.connection (table_rows l)) (ltb s.connection 16) (ltb s.number 32) e).2

  gate_missing : (c : ℕ) → table_rows l ≤ c → gate_at l c ≡ Err Missing
  unfolding gate_at
  gate_missing c h = rw (passed_gate l passed, le-ltb c (table_rows l) h)

  pub switch_left : (s : Switching) → switch_there (table_rows l) s ≡ false → after_switch l s ≡ l.state
  switch_left s e = go (dec_lt s.connection (table_rows l))
    where
      last : (x y z : Bool) → x ≡ true → y ≡ true → (x && y && z) ≡ false → z ≡ false
      last x y z p q r = rw (p, q) at r

      go : Dec (s.connection < table_rows l) → after_switch l s ≡ l.state
      go (no h) = through_gate s (Err Missing) (gate_missing s.connection (omega arith))
      go (yes h) =
          let m = few in
          in_row s h
          ∙ ap (λ (b : Bool). cond b (with_record s.connection (switched_of s.number s.on (record_at l.state s.connection)) l.state) l.state)
          (last (ltb s.connection (table_rows l)) (ltb s.connection 16) (ltb s.number 32) (lt-ltb _ _ h) (lt-ltb s.connection 16 (omega arith)) e)
