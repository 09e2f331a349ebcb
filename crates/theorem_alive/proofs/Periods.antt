-- AN ONLINE PERIOD OF A UDP CONNECTION ENDS EXACTLY BY A CLOSING TICK, BY ITS ALIVE TIMER, OR BY A TAKE AFTER WHICH IT WAITS FOR ANYONE AGAIN.
use Rattle.std.proofs.Common.{Ok}
use Prim.Native.Nat.{ℕ, ◌<◌, ◌≤◌}
use mathlib.Core.Path.{◌≡◌, refl, sym, ap, ◌∙◌, subst}
use mathlib.Core.Logic.{◌↔◌}
use mathlib.Core.Bool.{Bool, true, false, not, true≢false, false≢true}
use mathlib.Core.List.{List}
use native.Mathlib.Omega.{arith}
use native.Mathlib.Decide.{ℕ_discrete}
use lib.Seq.{get_or-set_same}
use borrow.Author.Tests.{lt-ltb, not-true}
use Rattle.lists.proofs.Both.{and_left, and_right, and_both}
use Rattle.table_layout.specs.Layout.{rows_of}
use Rattle.table_layout.specs.declared.Kind.TheVariants.{Connection as Connections}
use Rattle.connection.specs.declared.Config.{Config}
use Rattle.connection.specs.declared.Connection.{Connection}
use Rattle.connection.specs.declared.Event.{Event as Change}
use Rattle.connection.specs.Connection.{is_online, wildcard, tick_of}
use Rattle.connection.specs.Event.{empties, record_after, allowed}
use Rattle.connection.proofs.Leaves.{after-leaves, only_loss}
use Rattle.connection.proofs.Ticks.{Tick, closes_wanted, lets_go, goes_on, tick_is, tick-closes, tick_lets_go, step-either}
use Rattle.state.specs.State.{record_at}
use Rattle.state.specs.Fresh.{config_of}
use Rattle.entry_arrivals.specs.Arrivals.{arrival_of}
use Rattle.send_waiting.specs.Waiting.{take_of}
use Rattle.model.specs.World.{Held, blank}
use Rattle.model.specs.Events.{Own, change, take_waiting, Whole, datagram, accept, tick, transmit, switch_all, read_count, clear_count, Event, on, on_whole}
use Rattle.model.specs.Step.{acts, does, step}
use Rattle.model.proofs.View.{view_record, view_length}
use Rattle.model_runs.specs.Streams.{EventBytes}
use Rattle.model_refines.specs.Machine.{Machine, lent_to, seen}
use Rattle.model_refines.specs.Run.{after_event, Good}
use Rattle.model_refines.proofs.Becomes.{Acts, acts-idle, acts-fed, acts_changed, acts-took}
use Rattle.theorems.specs.Streams.{online_at, ends_at}
use Rattle.theorem_records.specs.Records.{TakeLeaves, nothing_taken, back_to_reconnect, to_be_closed, stays_as_it_is}
use Rattle.theorem_records.proofs.Records.{take-leaves}
use Rattle.theorem_alive.specs.Periods.{UdpEnds, by_closing_tick, by_expiry, by_take}
use Rattle.theorem_alive.proofs.Events.{whom, whom_is, whom_met, ticked, given, not_given, accepted}
use Rattle.theorem_alive.proofs.Events.{not_accepted, after_record, own_keeps, plain, plain_keeps, inside}

module _ (image : List ℕ) (k : ℕ) (m : Machine) (good : Good image m) (there : k < rows_of image Connections) (udp : (config_of image k).tcp ≡ false)
    (online : is_online (record_at m.state k).mode ≡ true) where
  abbrev g : Config
  g = config_of image k

  abbrev c : Connection
  c = record_at m.state k

  -- a record that is not online any more shows what ended the period
  abbrev Shows : Event → Connection → Type 0
  Shows e d = is_online d.mode ≡ false → UdpEnds image m k e

  up : {e : Event} {b : Bool} → b ≡ true → b ≡ false → UdpEnds image m k e
  up o f = absurd (true≢false (sym o ∙ f))

  -- an event of its own
  after_up : (e : Change) → allowed e g c ≡ true → is_online (record_after e g c).mode ≡ true
  after_up e a = go (empties e) refl
    where
      go : (b : Bool) → empties e ≡ b → is_online (record_after e g c).mode ≡ true
      go false n = (after-leaves e g c).up n online
      go true n = absurd (false≢true (sym udp ∙ and_left g.tcp (is_online c.mode) (subst (λ (x : Change). allowed x g c ≡ true) (only_loss e n) a)))

  took_shows : (room : ℕ) (d : Connection) → TakeLeaves g room c d → Shows (on k (take_waiting room)) d
  took_shows room d (nothing_taken n e) = up (ap (λ (x : Connection). is_online x.mode) e ∙ online)
  took_shows room d (back_to_reconnect some fits drained any t mode remote watch wish) = λ _. by_take room some fits any.0 any.1
  took_shows room d (to_be_closed some fits drained any t mode remote watch wish) = absurd (false≢true (sym udp ∙ t))
  took_shows room d (stays_as_it_is some fits drained any mode remote watch wish) = up (ap is_online mode ∙ online)

  own_shows : (e : Own) (d : Connection) → Acts g c e d → Shows (on k e) d
  own_shows _ _ (acts-idle e) = up online
  own_shows _ _ (acts-fed bytes p) = up online
  own_shows _ _ (acts_changed e) = step-either e g c (Shows (on k (change e))) (λ _. up online) (λ a. up (after_up e a))
  own_shows _ _ (acts-took room) = took_shows room (take_of g room c) (take-leaves g room c)

  -- a tick
  tick_shows : (d : Connection) → Tick g c d → Shows (on_whole tick) d
  tick_shows _ (closes_wanted e) = λ _. by_closing_tick e
  tick_shows _ (lets_go e x) = λ _. by_expiry e x
  tick_shows d (goes_on _ e x t) = up (t.up online)

  -- an arrival
  abbrev Up : Event → Type 0
  Up e = is_online (record_at (after_event image e m).state k).mode ≡ true

  mode_of : {d x : Connection} → d ≡ x → is_online x.mode ≡ true → is_online d.mode ≡ true
  mode_of e o = ap (λ (x : Connection). is_online x.mode) e ∙ o

  datagram_up : (group : ℕ) (source : _) → Up (on_whole (datagram group source))
  datagram_up group source = go (ℕ_discrete (whom (arrival_of (lent_to image m) false group source).answer) _)
    where
      go : Dec (whom (arrival_of (lent_to image m) false group source).answer ≡ whom (Ok k)) → Up (on_whole (datagram group source))
      go (yes e) = mode_of (given image k m good there group source (whom_is (arrival_of (lent_to image m) false group source).answer k (e ∙ whom_met k))) refl
      go (no ne) = mode_of (not_given image k m good there group source (λ is. ne (ap whom is))) online

  accept_up : (group : ℕ) (source : _) → Up (on_whole (accept group source))
  accept_up group source = go (ℕ_discrete (whom (arrival_of (lent_to image m) true group source).answer) _)
    where
      go : Dec (whom (arrival_of (lent_to image m) true group source).answer ≡ whom (Ok k)) → Up (on_whole (accept group source))
      go (yes e) = mode_of (accepted image k m good there group source (whom_is (arrival_of (lent_to image m) true group source).answer k (e ∙ whom_met k)))
          refl
      go (no ne) = mode_of (not_accepted image k m good there group source (λ is. ne (ap whom is))) online

  plain_up : (e : Whole) → plain e ≡ true → Up (on_whole e)
  plain_up =
      plain_keeps image k m good there (λ (d : Connection). is_online d.mode ≡ true) online
      (λ d e. ap (λ (x : Connection). is_online x.mode) e ∙ online) (λ _. online)

  shows : (e : Event) → EventBytes e → Shows e (record_at (after_event image e m).state k)
  shows (on i e) bytes =
      own_keeps image k m good there (Shows (on i e)) i e bytes (up online)
      (λ same d a. subst (λ (j : ℕ). Shows (on j e) d) (sym same) (own_shows e d a))
  shows (on_whole (datagram group source)) bytes = up (datagram_up group source)
  shows (on_whole (accept group source)) bytes = up (accept_up group source)
  shows (on_whole tick) bytes = subst (Shows (on_whole tick)) (sym (ticked image k m good there)) (tick_shows (tick_of g c) (tick_is g c))
  shows (on_whole (transmit pdu payload)) bytes = up (plain_up (transmit pdu payload) refl)
  shows (on_whole (switch_all n x)) bytes = up (plain_up (switch_all n x) refl)
  shows (on_whole (read_count p)) bytes = up (plain_up (read_count p) refl)
  shows (on_whole (clear_count p)) bytes = up (plain_up (clear_count p) refl)

  -- AND EACH OF THEM ENDS IT
  taken : (room : ℕ) → record_at (after_event image (on k (take_waiting room)) m).state k ≡ take_of g room c
  unfolding step acts does
  taken room =
      after_record image k m good there (on k (take_waiting room)) tt
      ∙ ap (λ (h : Held). h.connection)
      (get_or-set_same (seen m).held k _ blank (omega (arith, inside image k m good there, view_length m.rx m.tx 0 m.state.connections)))
      ∙ rw (lt-ltb k (rows_of image Connections) there) (ap (take_of g room) (view_record m.state m.rx m.tx k))

  took_down : (room : ℕ) (d : Connection) → TakeLeaves g room c d → 0 < c.used → c.used ≤ room → g.automatic ≡ true → wildcard g.remote ≡ true
      → is_online d.mode ≡ false
  took_down room d (nothing_taken n e) some fits a w = absurd (let l = n some in omega (arith, l, fits))
  took_down room d (back_to_reconnect _ _ drained any t mode remote watch wish) some fits a w = ap is_online mode
  took_down room d (to_be_closed _ _ drained any t mode remote watch wish) some fits a w = absurd (false≢true (sym udp ∙ t))
  took_down room d (stays_as_it_is _ _ drained any mode remote watch wish) some fits a w = absurd (any (a, w))

  down : (e : Event) → UdpEnds image m k e → is_online (record_at (after_event image e m).state k).mode ≡ false
  down _ (by_closing_tick wanted) = ap (λ (x : Connection). is_online x.mode) (ticked image k m good there ∙ sym (tick-closes g c wanted))
  down _ (by_expiry stays x) = ap (λ (x : Connection). is_online x.mode) (ticked image k m good there ∙ sym (tick_lets_go g c stays x))
  down _ (by_take room some fits a w) =
      ap (λ (x : Connection). is_online x.mode) (taken room) ∙ took_down room (take_of g room c) (take-leaves g room c) some fits a w

  -- EXACTLY WHEN
  pub udp_exactly : (e : Event) → EventBytes e → (ends_at image k m e ≡ true) ↔ UdpEnds image m k e
  udp_exactly e bytes = (
    λ (q : ends_at image k m e ≡ true). shows e bytes (not-true _ (and_right (online_at image k m) (not (online_at image k (after_event image e m))) q)),
    λ (u : UdpEnds image m k e). and_both {a = online_at image k m} online (ap not (down e u)),
  )
