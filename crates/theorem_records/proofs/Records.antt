-- WHAT EVENTS LEAVE OF THE RECORDS.
use Rattle.std.proofs.Common.{Result, Ok, Err, Option, ℕ, Some, None}
use Prim.Native.Nat.{ℕ, suc, ◌<◌, ◌≤◌}
use mathlib.Core.Path.{◌≡◌, refl, sym, ap, ◌∙◌, subst}
use mathlib.Core.Bool.{Bool, true, false, cond, not, ◌&&◌, ◌||◌, false≢true}
use mathlib.Core.List.{List}
use native.Mathlib.Omega.{arith}
use lib.Dec.{eqb, leb, ltb}
use lib.Seq.{get_or-set_other}
use borrow.Author.Tests.{eqb-true, eqb-false, ltb-true, ltb-false}
use Rattle.connection.specs.declared.Config.{Config}
use Rattle.connection.specs.declared.Connection.{Connection}
use Rattle.connection.specs.declared.Remote.{Remote}
use Rattle.connection.specs.declared.Refusal.TheVariants.{Missing, Denied}
use Rattle.connection.specs.declared.Event.{Event as Change}
use Rattle.connection.specs.declared.Event.TheVariants.{Open, Close, Connected, Lost, SetRemote, Switch, Cancel}
use Rattle.connection.specs.declared.Mode.TheVariants.{Reconnect}
use Rattle.connection.specs.declared.Watch.{Watch}
use Rattle.connection.specs.Connection.{wildcard, with_mode, with_send, become, reset_of, met_of, tick_of}
use Rattle.connection.proofs.Ticks.{Tick, closes_wanted, lets_go, goes_on, tick_is}
use Rattle.connection.specs.Event.{known, allowed, record_after, refused_by, step_of}
use Rattle.table_layout.specs.Layout.{rows_of}
use Rattle.table_layout.specs.declared.Kind.TheVariants.{Group}
use Rattle.state.specs.State.{record_at, with_record}
use Rattle.state.specs.Fresh.{config_of}
use Rattle.gate.specs.Lent.{Lent}
use Rattle.gate.specs.Gate.{gate_of, through}
use Rattle.select.specs.declared.NotMet.TheVariants.{Refused, Unmatched}
use Rattle.select.specs.declared.Arrived.{Arrived}
use Rattle.select.specs.Choose.{chosen_in, meet, arrival_refused, denied_of, arrive_of}
use Rattle.entry_arrivals.specs.Arrivals.{arrival_of}
use Rattle.send_waiting.specs.Waiting.{after_take, take_of}
use Rattle.model.specs.World.{World, held_at, blank}
use Rattle.model.specs.Events.{Own, on}
use Rattle.model.specs.Step.{step, acts_at}
use Rattle.model_runs.specs.Streams.{EventBytes}
use Rattle.model_refines.specs.Machine.{Machine, seen}
use Rattle.model_refines.specs.Run.{after_event, Good}
use Rattle.model_refines.specs.Table.{table_of}
use Rattle.model_refines.specs.Whole.{whole_of}
use Rattle.model_refines.proofs.Steps.{event_view}
use Rattle.theorem_records.specs.Records.{RemoteAfter, lost_configured, lost_refused, set_given, set_refused, kept_open, kept_close}
use Rattle.theorem_records.specs.Records.{kept_connected, kept_switch, kept_cancel, RemoteAtTick, closed_configured, let_go_configured, kept_ticking}
use Rattle.theorem_records.specs.Records.{Drained, TakeLeaves, nothing_taken, back_to_reconnect, to_be_closed, stays_as_it_is}
use Rattle.connection.specs.declared.Refusal.{Refusal}
use Rattle.select.specs.declared.NotMet.{NotMet}

-- A CONNECTION EVENT LEAVES EVERY OTHER CONNECTION AS IT WAS: its record, and the bytes that it holds
others-step : (image : List ℕ) (w : World) (k : ℕ) (e : Own) (i : ℕ) → (i ≡ k → ⊥) → held_at (step (table_of image) (whole_of image) w (on k e)) i ≡ held_at w i
unfolding step
others-step image w k e i ne = get_or-set_other w.held k i (acts_at (table_of image) w k e).to blank ne

pub others_stay : (image : List ℕ) (m : Machine) → Good image m → (k : ℕ) (e : Own) → EventBytes (on k e) → (i : ℕ) → (i ≡ k → ⊥)
    → held_at (seen (after_event image (on k e) m)) i ≡ held_at (seen m) i
others_stay image m good k e bytes i ne = ap (λ (w : World). held_at w i) (event_view image m good (on k e) bytes) ∙ others-step image (seen m) k e i ne

-- THE REMOTE
module _ (g : Config) (c : Connection) where
  -- done, or refused
  stepped : (e : Change) (P : Remote → Bool → Type 0) → (allowed e g c ≡ true → P (record_after e g c).remote (record_after e g c).watch.remote_set)
      → (allowed e g c ≡ false → P c.remote c.watch.remote_set) → known e ≡ true
      → P (step_of e g c).connection.remote (step_of e g c).connection.watch.remote_set
  unfolding step_of
  stepped e P done refused is = rw is (go (allowed e g c) refl)
    where
      go : (b : Bool) → allowed e g c ≡ b
          → P (cond (not b) (refused_by Denied c) (record { answer = Ok tt; connection = record_after e g c })).connection.remote
          (cond (not b) (refused_by Denied c) (record { answer = Ok tt; connection = record_after e g c })).connection.watch.remote_set
      go true q = done q
      go false q = refused q

  switch_remote : (n : ℕ) (position : Bool)
      → RemoteAfter g c (Switch n position) (step_of (Switch n position) g c).connection.remote
      (step_of (Switch n position) g c).connection.watch.remote_set
  unfolding step_of
  switch_remote n position = go (known (Switch n position))
    where
      go : (b : Bool) → RemoteAfter g c (Switch n position)
          (cond (not b) (refused_by Missing c) (record { answer = Ok tt; connection = record_after (Switch n position) g c })).connection.remote
          (cond (not b) (refused_by Missing c) (record { answer = Ok tt; connection = record_after (Switch n position) g c })).connection.watch.remote_set
      go true = kept_switch n position
      go false = kept_switch n position

  pub step-remote : (e : Change) → RemoteAfter g c e (step_of e g c).connection.remote (step_of e g c).connection.watch.remote_set
  step-remote Open = stepped Open (RemoteAfter g c Open) (λ _. kept_open) (λ _. kept_open) refl
  step-remote Close = stepped Close (RemoteAfter g c Close) (λ _. kept_close) (λ _. kept_close) refl
  step-remote Connected = stepped Connected (RemoteAfter g c Connected) (λ _. kept_connected) (λ _. kept_connected) refl
  step-remote Lost = stepped Lost (RemoteAfter g c Lost) lost_configured lost_refused refl
  step-remote (SetRemote r) = stepped (SetRemote r) (RemoteAfter g c (SetRemote r)) (set_given r) (set_refused r) refl
  step-remote (Switch n position) = switch_remote n position
  step-remote Cancel = stepped Cancel (RemoteAfter g c Cancel) (λ _. kept_cancel) (λ _. kept_cancel) refl

  -- a tick: the configured one where it closes or lets go, else as it was
  pub tick-remote : RemoteAtTick g c (tick_of g c).remote (tick_of g c).watch.remote_set
  tick-remote = go (tick_of g c) (tick_is g c)
    where
      go : (d : Connection) → Tick g c d → RemoteAtTick g c d.remote d.watch.remote_set
      go _ (closes_wanted e) = closed_configured e
      go _ (lets_go e x) = let_go_configured e x
      go d (goes_on _ e x t) =
          subst (λ (r : Remote). RemoteAtTick g c r d.watch.remote_set) (sym t.remote)
          (subst (λ (v : Watch). RemoteAtTick g c c.remote v.remote_set) (sym t.watch) (kept_ticking e x))

-- A TAKE OF WAITING BYTES
module _ (g : Config) (room : ℕ) (c : Connection) where
  drained : (x : Connection) → x.used ≡ 0 → x.timer ≡ 0 → x.due ≡ false
      → x.open_wanted ≡ c.open_wanted → x.switches ≡ c.switches → x.part ≡ c.part → Drained g room c x
  drained x u t d o s p = record { used = u; timer = t; due = d; «open» = o; switches = s; part = p }

  after : 0 < c.used → c.used ≤ room → TakeLeaves g room c (after_take g (with_send 0 0 false c))
  after some fits = go g.automatic refl (wildcard g.remote) refl g.tcp refl
    where
      emptied : Connection
      emptied = with_send 0 0 false c

      go : (a : Bool) → g.automatic ≡ a → (w : Bool) → wildcard g.remote ≡ w → (t : Bool) → g.tcp ≡ t
          → TakeLeaves g room c (cond (a && w)
          (cond t (with_mode emptied.mode emptied.open_wanted true emptied) (become Reconnect (reset_of g emptied))) emptied)
      go true a true w true t =
          to_be_closed some fits (drained (with_mode c.mode c.open_wanted true emptied) refl refl refl refl refl refl) (a, w) t refl refl refl refl
      go true a true w false t =
          back_to_reconnect some fits (drained (become Reconnect (reset_of g emptied)) refl refl refl refl refl refl) (a, w) t refl refl refl refl
      go true a false w t _ = stays_as_it_is some fits (drained emptied refl refl refl refl refl refl) (λ s. false≢true (sym w ∙ s.1)) refl refl refl refl
      go false a w _ t _ = stays_as_it_is some fits (drained emptied refl refl refl refl refl refl) (λ s. false≢true (sym a ∙ s.0)) refl refl refl refl

  pub take-leaves : TakeLeaves g room c (take_of g room c)
  unfolding take_of
  take-leaves = go (eqb c.used 0) refl (ltb room c.used) refl
    where
      go : (z : Bool) → eqb c.used 0 ≡ z → (b : Bool) → ltb room c.used ≡ b → TakeLeaves g room c (cond (z || b) c (after_take g (with_send 0 0 false c)))
      go true z b _ = nothing_taken (λ l. absurd (omega (arith, l, eqb-true c.used 0 z))) refl
      go false z true b = nothing_taken (λ _. ltb-true room c.used b) refl
      go false z false b = let ne : c.used ≡ 0 → ⊥ = eqb-false c.used 0 z in after (omega (arith, ne)) (ltb-false room c.used b)

-- A DATAGRAM OR AN ACCEPT that meets connection k leaves it online with the source as remote, and every other record and both counts as they were
module _ (l : Lent) (accept : Bool) (group : ℕ) (source : Remote) (k : ℕ) where
  abbrev Met_is : Arrived → Type 0
  Met_is x = x.answer ≡ Ok k → x.state ≡ with_record k (met_of (config_of l.image k) source (record_at l.state k)) l.state

  whom : Result ℕ NotMet → ℕ
  whom (Ok n) = suc n
  whom (Err (Refused r)) = 0
  whom (Err Unmatched) = 0

  not_met : (x : Arrived) → whom x.answer ≡ 0 → Met_is x
  unfolding whom
  not_met x z e = absurd (omega (arith, z, ap whom e))

  met-is : (x : Option ℕ) → Met_is (meet l.image l.state source x)
  unfolding whom
  met-is None e = not_met (meet l.image l.state source None) refl e
  met-is (Some j) e = let q : j ≡ k = omega (arith, ap whom e) in
      ap (λ (n : ℕ). with_record n (met_of (config_of l.image n) source (record_at l.state n)) l.state) q

  pub arrival_leaves : (arrival_of l accept group source).answer ≡ Ok k
      → (arrival_of l accept group source).state ≡ with_record k (met_of (config_of l.image k) source (record_at l.state k)) l.state
  unfolding arrival_of arrive_of whom
  arrival_leaves = gate (gate_of l)
    where
      asked : (b : Bool) → Met_is
          (cond b (arrival_refused l.state Denied) (meet l.image l.state source (chosen_in l.image l.state accept group source)))
      asked true = not_met (arrival_refused l.state Denied) refl
      asked false = met-is (chosen_in l.image l.state accept group source)

      there : (b : Bool) → Met_is (cond b (arrival_refused l.state Missing)
          (cond (denied_of l.image accept group source) (arrival_refused l.state Denied)
          (meet l.image l.state source (chosen_in l.image l.state accept group source))))
      there true = not_met (arrival_refused l.state Missing) refl
      there false = asked (denied_of l.image accept group source)

      gate : (g : Result Unit Refusal) → Met_is (through g (arrival_refused l.state) (arrive_of l.image l.state accept group source))
      gate (Ok tt) = there (leb (rows_of l.image Group) group)
      gate (Err r) = not_met (arrival_refused l.state r) refl
