-- AN ONLINE PERIOD of a TCP connection ends by a loss or a closing tick, and by nothing else.
use Prim.Native.Nat.{ℕ}
use mathlib.Core.Path.{◌≡◌, refl, sym, ap, ◌∙◌, subst}
use mathlib.Core.Bool.{Bool, true, false, not, false≢true}
use mathlib.Core.List.{List}
use native.Mathlib.Decide.{ℕ_discrete}
use Rattle.lists.proofs.Both.{and_left, and_right}
use Rattle.connection.specs.declared.Connection.{Connection}
use Rattle.connection.specs.declared.Config.{Config}
use Rattle.connection.specs.declared.Event.{Event as Change}
use Rattle.connection.specs.Connection.{is_online, tick_of}
use Rattle.connection.specs.Event.{empties}
use Rattle.state.specs.Fresh.{config_of}
use Rattle.model.specs.World.{Held, World, blank, held_at}
use Rattle.model.specs.Events.{Own, change, segment, walk, take_waiting, Whole, tick, transmit, Event, on, on_whole}
use Rattle.model.specs.Step.{acts, acts_at, step}
use Rattle.model_runs.specs.Streams.{online, ends}
use Rattle.model_refines.specs.Table.{table_of}
use Rattle.model_refines.specs.Whole.{whole_of}
use Rattle.lists.proofs.Each.{one_at}
use Rattle.connection.proofs.Leaves.{after-leaves, only_loss}
use Rattle.connection.proofs.Ticks.{Tick, closes_wanted, lets_go, goes_on, tick_is, let_go_udp, step-either}
use Rattle.send_waiting.proofs.Taken.{take-mode}
use Rattle.model_refines.proofs.Becomes.{Acts, acts-idle, acts-fed, acts_changed, acts-took, acts-is, Becomes}
use Rattle.model_refines.proofs.Becomes.{becomes_itself, as_it_was, becomes-met, becomes-ticked, becomes-switched, becomes-sent, becomes}
use Rattle.theorems.specs.Ends.{EndsBy, by_loss, by_closing}

-- still online (c after, d before)
abbrev Up : Connection → Connection → Type 0
Up c d = is_online d.mode ≡ true → is_online c.mode ≡ true

-- a loss
abbrev losing : Own → Bool
losing (change e) = empties e
losing (segment bs) = false
losing (walk d p) = false
losing (take_waiting room) = false

-- an event of a TCP connection
up_acts : (g : Config) (c : Connection) (e : Own) (d : Connection) → Acts g c e d → g.tcp ≡ true → losing e ≡ false → Up d c
up_acts g c _ _ (acts-idle e) tcp ne = λ on_line. on_line
up_acts g c _ _ (acts-fed bytes p) tcp ne = λ on_line. on_line
up_acts g c _ _ (acts_changed e) tcp ne = step-either e g c (λ (d : Connection). Up d c) (λ _ on_line. on_line) (λ _. (after-leaves e g c).up ne)
up_acts g c _ _ (acts-took room) tcp ne = λ on_line. ap is_online (take-mode g room c tcp) ∙ on_line

-- IN THE WORLD: each event but those two leaves a TCP connection online
module _ (image : List ℕ) (w : World) (k : ℕ) (tcp : (config_of image k).tcp ≡ true) where
  abbrev c : Connection
  c = (held_at w k).connection

  -- a tick that does not close
  tick_up : c.close_wanted ≡ false → Up (tick_of (config_of image k) c) c
  tick_up stays = go (tick_of (config_of image k) c) (tick_is (config_of image k) c)
    where
      go : (d : Connection) → Tick (config_of image k) c d → Up d c
      go d (closes_wanted e) = absurd (false≢true (sym stays ∙ e))
      go d (lets_go e x) = absurd (false≢true (sym (let_go_udp (config_of image k) c x) ∙ tcp))
      go d (goes_on _ e x t) = λ on_line. t.online tcp ∙ on_line

  own_up : (i : ℕ) (e : Own) → (i ≡ k → losing e ≡ false) → Up (held_at (step (table_of image) (whole_of image) w (on i e)) k).connection c
  unfolding step
  own_up i e ne =
      one_at blank w.held i k (acts_at (table_of image) w i e).to (λ (h : Held). Up h.connection c)
      (λ q. subst (λ (j : ℕ). Up (acts (table_of image) j e (held_at w j)).to.connection c) (sym q)
      (up_acts (config_of image k) c e _ (acts-is (table_of image) k e (held_at w k)) tcp (ne q)))
      (λ on_line. on_line)

  -- an event after which it is online ends nothing
  not_ended : (e : Event) → Up (held_at (step (table_of image) (whole_of image) w e) k).connection c → ends (table_of image) (whole_of image) k w e ≡ true → ⊥
  not_ended e up q =
      let before : online w k ≡ true = and_left (online w k) _ q in
      let behind : not (online (step (table_of image) (whole_of image) w e) k) ≡ true = and_right (online w k) _ q in
      false≢true (ap not (sym (up before)) ∙ behind)

  still : (e : Whole) {h : Held} → held_at (step (table_of image) (whole_of image) w (on_whole e)) k ≡ h
      → Up h.connection c → ends (table_of image) (whole_of image) k w (on_whole e) ≡ true → ⊥
  still e is up = not_ended (on_whole e) (subst (λ (h : Held). Up h.connection c) (sym is) up)

  ends-own : (i : ℕ) (e : Own) (b : Bool) → losing e ≡ b → Dec (i ≡ k) → ends (table_of image) (whole_of image) k w (on i e) ≡ true → EndsBy k c (on i e)
  ends-own i e b l (no ne) q = absurd (not_ended (on i e) (own_up i e (λ p. absurd (ne p))) q)
  ends-own i e false l (yes p) q = absurd (not_ended (on i e) (own_up i e (λ _. l)) q)
  ends-own i (change e) true l (yes p) q =
      subst (λ (j : ℕ). EndsBy k c (on j (change e))) (sym p) (subst (λ (x : Change). EndsBy k c (on k (change x))) (sym (only_loss e l)) by_loss)
  ends-own i (segment bs) true l (yes p) q = absurd (false≢true l)
  ends-own i (walk d n) true l (yes p) q = absurd (false≢true l)
  ends-own i (take_waiting room) true l (yes p) q = absurd (false≢true l)

  -- an event of a whole group or module, by what it makes of the connection
  ends-whole : (e : Whole) (h : Held) → held_at (step (table_of image) (whole_of image) w (on_whole e)) k ≡ h
      → Becomes image k (held_at w k) e h → ends (table_of image) (whole_of image) k w (on_whole e) ≡ true
      → EndsBy k c (on_whole e)
  ends-whole _ _ is (becomes_itself e) q = absurd (still e is (λ on_line. on_line) q)
  ends-whole _ _ is (as_it_was e) q = absurd (still e is (λ on_line. on_line) q)
  ends-whole _ _ is (becomes-met e source _) q = absurd (still e is (λ on_line. refl) q)
  ends-whole _ _ is becomes-ticked q = go c.close_wanted refl
    where
      go : (b : Bool) → c.close_wanted ≡ b → EndsBy k c (on_whole tick)
      go true e = by_closing e
      go false e = absurd (still tick is (tick_up e) q)
  ends-whole _ _ is (becomes-switched e n b) q = absurd (still e is (λ on_line. on_line) q)
  ends-whole _ _ is (becomes-sent pdu payload h a) q = absurd (still (transmit pdu payload) is (λ on_line. a.online ∙ on_line) q)

  step-whole : (e : Whole) → step (table_of image) (whole_of image) w (on_whole e) ≡ whole_of image e w
  unfolding step
  step-whole e = refl

  -- SO A PERIOD ENDS BY A LOSS OR A CLOSING TICK
  pub ends_by : (e : Event) → ends (table_of image) (whole_of image) k w e ≡ true → EndsBy k (held_at w k).connection e
  ends_by (on i e) q = ends-own i e (losing e) refl (ℕ_discrete i k) q
  ends_by (on_whole e) q = ends-whole e (held_at (whole_of image e w) k) (ap (λ (v : World). held_at v k) (step-whole e)) (becomes image k w e) q
