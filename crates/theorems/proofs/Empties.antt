-- How many bytes wait on a connection after an event that is no transmit: none where the event empties, else as many as before.
use Prim.Native.Nat.{ℕ, zero, suc, ◌+◌, ◌<◌, ◌≤◌}
use mathlib.Core.Path.{◌≡◌, refl, sym, ap, ◌∙◌, subst}
use mathlib.Core.Bool.{Bool, true, false, cond, not, ◌&&◌, false≢true}
use mathlib.Core.List.{List, [], ◌∷◌}
use native.Mathlib.Omega.{arith}
use native.Mathlib.Decide.{ℕ_discrete}
use lib.Dec.{eqb, leb, ltb}
use lib.ListN.{length, get_or}
use lib.Seq.{get_or-set_same, get_or-set_other}
use borrow.Author.Tests.{eqb-true, eq-eqb, ne_eqb, lt-ltb, le-ltb, ltb-true}
use Rattle.lists.specs.Each.{each_to}
use Rattle.table_layout.specs.Layout.{rows_of}
use Rattle.table_layout.specs.declared.Kind.TheVariants.{Connection as Connections}
use Rattle.connection.specs.declared.Connection.{Connection}
use Rattle.connection.specs.Connection.{zero_record, tick_of}
use Rattle.connection.specs.Event.{receiving}
use Rattle.reading.specs.Feed.{segment_ran as segment_of, finely}
use Rattle.state.specs.declared.State.{State}
use Rattle.state.specs.State.{record_at}
use Rattle.state.specs.Fresh.{config_of}
use Rattle.entry_ticks.specs.Tick.{tick_at, ticked_to}
use Rattle.send_waiting.proofs.Taken.{take-used}
use Rattle.reading_walk.specs.Walk.{walk_at, outs_told}
use Rattle.law_waits.proofs.Turns.{tick-used, step-used, if_emptied, only-emptied}
use Rattle.model.specs.World.{Held, World, blank, held_at, cell_at}
use Rattle.model.specs.Events.{Own, change, segment, walk, take_waiting, Whole, datagram, accept, tick, transmit, switch_all, read_count, clear_count, on}
use Rattle.model.specs.Events.{on_whole}
use Rattle.model.specs.Step.{Table, acted, streamed, routes_at, does, acts, step}
use Rattle.model_refines.specs.Table.{table_of}
use Rattle.model_refines.specs.Whole.{whole_of}
use Rattle.model_refines.proofs.Left.{left-nothing}
use Rattle.model_refines.proofs.Becomes.{Becomes, becomes_itself, as_it_was, becomes-met, becomes-ticked, becomes-switched, becomes-sent, becomes}
use Rattle.theorems.specs.Waits.{drains, own_empties}
use Rattle.law_waits.specs.Waits.{emptied_at_tick, emptied_by, was_taken, was_lost, is_emptied, only_if}

-- a take: one of nothing leaves nothing
drains-used : (room : ℕ) (c : Connection) → cond (not (ltb room c.used)) 0 c.used ≡ cond (drains room c) 0 c.used
drains-used room c = go (eqb c.used 0) refl (not (ltb room c.used))
  where
    go : (z : Bool) → eqb c.used 0 ≡ z → (b : Bool) → cond b 0 c.used ≡ cond (not z && b) 0 c.used
    go true e true = sym (eqb-true c.used 0 e)
    go true e false = refl
    go false e b = refl

-- AN EVENT OF A CONNECTION on its record
does-used : (T : Table) (k : ℕ) (e : Own) (h : Held)
    → (does T k e h).to.connection.used ≡ cond (is_emptied (own_empties e (T.config k) h.connection)) 0 h.connection.used
unfolding does
does-used T k (change e) h =
    step-used e (T.config k) h.connection
    ∙ ap (λ (b : Bool). cond b 0 h.connection.used) (sym (if_emptied (emptied_by e (T.config k) h.connection) was_lost))
does-used T k (segment bytes) h = go ((T.config k).tcp && receiving h.connection)
  where
    go : (b : Bool) → (cond b (streamed h (finely (segment_of (routes_at T k h) (cell_at h) bytes))) (acted h [])).to.connection.used ≡ h.connection.used
    go true = refl
    go false = refl
does-used T k (walk d p) h = go (not (T.config k).tcp && leb p (length d) && receiving h.connection)
  where
    go : (b : Bool) → (cond b (acted h (outs_told d (walk_at (routes_at T k h) d p).found [])) (acted h [])).to.connection.used ≡ h.connection.used
    go true = refl
    go false = refl
does-used T k (take_waiting room) h =
    take-used (T.config k) room h.connection
    ∙ drains-used room h.connection
    ∙ ap (λ (b : Bool). cond b 0 h.connection.used) (sym (if_emptied (drains room h.connection) was_taken))

-- of all records to a number, each is changed, and past it each is as it was
module _ {A : Type 0} (d : A) (f : ℕ → A → A) (P : A → Type 0) where
  below_or_past : (b n : ℕ) (xs : List A) (k : ℕ) → n ≤ length xs
      → (k < n → P (f (b + k) (get_or xs k d))) → (n ≤ k → P (get_or xs k d)) → P (get_or (each_to f b n xs) k d)
  below_or_past b zero xs k l p q = q (omega arith)
  below_or_past b (suc n) [] k l p q = absurd (omega arith)
  below_or_past b (suc n) (x ∷ xs) zero l p q = let e : b + 0 ≡ b = omega arith in subst (λ (m : ℕ). P (f m x)) e (p (omega arith))
  below_or_past b (suc n) (x ∷ xs) (suc k) l p q =
      let e : b + suc k ≡ suc b + k = omega arith in
      below_or_past (suc b) n xs k (omega arith) (λ h. subst (λ (m : ℕ). P (f m (get_or xs k d))) e (p (omega arith))) (λ h. q (omega arith))

-- A TICK
pub ticked-used : (image : List ℕ) (s : State) (j : ℕ) → rows_of image Connections ≤ length s.connections
    → (record_at (ticked_to image (rows_of image Connections) s) j).used
    ≡ cond (ltb j (rows_of image Connections) && is_emptied (emptied_at_tick (config_of image j) (record_at s j))) 0 (record_at s j).used
unfolding ticked_to
ticked-used image s j rows =
    below_or_past zero_record (tick_at image)
    (λ (c : Connection). c.used
    ≡ cond (ltb j (rows_of image Connections) && is_emptied (emptied_at_tick (config_of image j) (record_at s j))) 0 (record_at s j).used)
    0 (rows_of image Connections) s.connections j rows
    (λ h.
    let z : 0 + j ≡ j = omega arith in
    rw (lt-ltb _ _ h) (subst
    (λ (i : ℕ). (tick_of (config_of image i) (record_at s j)).used ≡ cond (is_emptied (emptied_at_tick (config_of image j) (record_at s j))) 0
    (record_at s j).used)
    (sym z) (tick-used (config_of image j) (record_at s j))))
    (λ h. rw (le-ltb _ _ h))

-- neither a tick nor a transmit
abbrev pub leaves_all : Whole → Bool
leaves_all (datagram group source) = true
leaves_all (accept group source) = true
leaves_all tick = false
leaves_all (transmit pdu payload) = false
leaves_all (switch_all n b) = true
leaves_all (read_count p) = true
leaves_all (clear_count p) = true

module _ (image : List ℕ) (w : World) (j : ℕ) where
  abbrev c : Connection
  c = (held_at w j).connection

  -- AN EVENT OF ANY CONNECTION
  pub own-used : (k : ℕ) (e : Own) → rows_of image Connections ≤ length w.held
      → (held_at (step (table_of image) (whole_of image) w (on k e)) j).connection.used
      ≡ cond (is_emptied (only_if (eqb k j && ltb j (rows_of image Connections)) (own_empties e (config_of image j) c))) 0 c.used
  unfolding step acts
  own-used k e rows = go (ℕ_discrete k j)
    where
      there : (b : Bool) → ltb j (rows_of image Connections) ≡ b → (held_at (step (table_of image) (whole_of image) w (on j e)) j).connection.used
          ≡ cond (b && is_emptied (own_empties e (config_of image j) c)) 0 c.used
      there true h =
          ap (λ (x : Held). x.connection.used) (get_or-set_same w.held j _ blank (omega (arith, rows, ltb-true j (rows_of image Connections) h)))
          ∙ rw h (does-used (table_of image) j e (held_at w j))
      there false h = rw h (ap (λ (v : World). (held_at v j).connection.used) (left-nothing (table_of image) w j))

      go : Dec (k ≡ j) → (held_at (step (table_of image) (whole_of image) w (on k e)) j).connection.used
          ≡ cond (is_emptied (only_if (eqb k j && ltb j (rows_of image Connections)) (own_empties e (config_of image j) c))) 0 c.used
      go (no ne) = rw (ne_eqb k j ne) (ap (λ (x : Held). x.connection.used) (get_or-set_other w.held k j _ blank (λ q. ne (sym q))))
      go (yes q) =
          ap (λ (i : ℕ). (held_at (step (table_of image) (whole_of image) w (on i e)) j).connection.used) q
          ∙ there (ltb j (rows_of image Connections)) refl
          ∙ ap (λ (b : Bool). cond b 0 c.used) (sym (only-emptied (ltb j (rows_of image Connections)) (own_empties e (config_of image j) c)))
          ∙ rw (eq-eqb k j q)

  -- AN EVENT OF A WHOLE GROUP OR MODULE, but a tick and a transmit
  becomes-used : (e : Whole) (h : Held) → Becomes image j (held_at w j) e h → leaves_all e ≡ true → h.connection.used ≡ c.used
  becomes-used _ _ (becomes_itself e) l = refl
  becomes-used _ _ (as_it_was e) l = refl
  becomes-used _ _ (becomes-met e source _) l = refl
  becomes-used _ _ becomes-ticked l = absurd (false≢true l)
  becomes-used _ _ (becomes-switched e n b) l = refl
  becomes-used _ _ (becomes-sent pdu payload h a) l = absurd (false≢true l)

  pub whole-used : (e : Whole) → leaves_all e ≡ true → (held_at (step (table_of image) (whole_of image) w (on_whole e)) j).connection.used ≡ c.used
  unfolding step
  whole-used e l = becomes-used e (held_at (whole_of image e w) j) (becomes image j w e) l
