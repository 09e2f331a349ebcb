-- AN ONLINE PERIOD OF A TCP CONNECTION ENDS EXACTLY BY AN ALLOWED LOSS OR A CLOSING TICK.
use Prim.Native.Nat.{ℕ, ◌<◌}
use mathlib.Core.Path.{◌≡◌, ap, ◌∙◌}
use mathlib.Core.Logic.{◌↔◌}
use mathlib.Core.Bool.{true, not}
use mathlib.Core.List.{List}
use native.Mathlib.Nat.{zero-add}
use native.Mathlib.Omega.{arith}
use lib.ListN.{length}
use lib.Seq.{get_or-set_same}
use Rattle.lists.proofs.Both.{and_left, and_right, and_both}
use Rattle.law_lists.proofs.Each.{each-own}
use Rattle.table_layout.specs.Layout.{rows_of}
use Rattle.table_layout.specs.declared.Kind.TheVariants.{Connection as Connections}
use Rattle.connection.specs.declared.Connection.{Connection}
use Rattle.connection.specs.declared.Event.TheVariants.{Lost}
use Rattle.connection.specs.Connection.{is_online, lost_of, closed_of, tick_of, zero_record}
use Rattle.connection.specs.Event.{lost_allowed, step_of}
use Rattle.state.specs.State.{record_at}
use Rattle.state.specs.Fresh.{config_of}
use Rattle.gate.proofs.Pass.{passed_gate, passed_gate_at, rows_in-sixteen}
use Rattle.entry_events.specs.Change.{told_of, change_of, event_of}
use Rattle.entry_ticks.specs.Tick.{tick_at, ticked_to, tick_event}
use Rattle.model.specs.Events.{change, tick, Event, on, on_whole}
use Rattle.model_runs.specs.Streams.{EventBytes}
use Rattle.model_refines.specs.Machine.{Machine, lent_to}
use Rattle.model_refines.specs.Run.{after_own, after_whole, after_event, Good}
use Rattle.theorems.specs.Ends.{EndsBy, by_loss, by_closing}
use Rattle.theorems.specs.Streams.{online_at, ends_at}
use Rattle.theorems.proofs.Streams.{period_ends}
use Rattle.theorem_periods.specs.Periods.{PeriodEnds, allowed_loss, closing_tick}

module _ (image : List ℕ) (m : Machine) (good : Good image m) (k : ℕ) (there : k < rows_of image Connections) where
  abbrev c : Connection
  c = record_at m.state k

  inside : k < length m.state.connections
  inside = omega (arith, there, good.sixteen, rows_in-sixteen (lent_to image m) (passed_gate (lent_to image m) good.passed))

  -- after an allowed loss it is in reconnect
  lost-after : lost_allowed (config_of image k) c ≡ true → record_at (after_event image (on k (change Lost)) m).state k ≡ lost_of (config_of image k) c
  unfolding after_event after_own event_of change_of told_of step_of
  lost-after allowed =
      rw (passed_gate_at (lent_to image m) k good.passed there, allowed)
      (get_or-set_same m.state.connections k (lost_of (config_of image k) c) zero_record inside)

  -- after a closing tick it is offline
  closed_after : c.close_wanted ≡ true → record_at (after_event image (on_whole tick) m).state k ≡ closed_of (config_of image k) c
  unfolding after_event after_whole tick_event ticked_to tick_of
  closed_after wanted =
      rw (passed_gate (lent_to image m) good.passed)
      (each-own (tick_at image) zero_record 0 (rows_of image Connections) k m.state.connections there inside
      ∙ ap (λ (n : ℕ). tick_of (config_of image n) c) (zero-add k) ∙ rw wanted)

  -- so a period ends
  ends_there : (e : Event) → PeriodEnds image m k e → ends_at image k m e ≡ true
  ends_there _ (allowed_loss allowed) =
      and_both {a = is_online c.mode} (and_right (config_of image k).tcp (is_online c.mode) allowed)
      (ap (λ (d : Connection). not (is_online d.mode)) (lost-after allowed))
  ends_there _ (closing_tick online wanted) =
      and_both {a = is_online c.mode} online (ap (λ (d : Connection). not (is_online d.mode)) (closed_after wanted))

  module _ (tcp : (config_of image k).tcp ≡ true) where
    ended_by : (e : Event) → EndsBy k c e → is_online c.mode ≡ true → PeriodEnds image m k e
    ended_by _ by_loss online = allowed_loss (and_both tcp online)
    ended_by _ (by_closing wanted) online = closing_tick online wanted

    -- EXACTLY WHEN
    pub period_exactly : (e : Event) → EventBytes e → (ends_at image k m e ≡ true) ↔ PeriodEnds image m k e
    period_exactly e bytes = (
      λ (q : ends_at image k m e ≡ true).
          ended_by e (period_ends image k there tcp m good e bytes q) (and_left (online_at image k m) (not (online_at image k (after_event image e m))) q),
      ends_there e,
    )
