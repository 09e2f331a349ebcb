-- GROUP AND MODULE EVENTS that write no lent memory: what their entry points leave is the world's step.
use Rattle.std.proofs.Common.{Result, Ok}
use Prim.Native.Nat.{ℕ}
use mathlib.Core.Path.{◌≡◌, refl, sym, ap, ◌∙◌, subst}
use mathlib.Core.Bool.{Bool, true, false, cond}
use mathlib.Core.List.{List}
use lib.Dec.{ltb}
use Rattle.table_layout.specs.Layout.{rows_of}
use Rattle.table_layout.specs.declared.Kind.TheVariants.{Connection as Connections}
use Rattle.connection.specs.declared.Connection.{Connection}
use Rattle.connection.specs.declared.Remote.{Remote}
use Rattle.connection.specs.declared.Refusal.{Refusal}
use Rattle.connection.specs.declared.Refusal.TheVariants.{Missing}
use Rattle.state.specs.declared.State.{State}
use Rattle.state.specs.Fresh.{config_of}
use Rattle.gate.specs.Lent.{Loan, sizes}
use Rattle.gate.specs.Gate.{gate_of, through, Passed}
use Rattle.gate.proofs.Pass.{passed_gate}
use Rattle.select.specs.Choose.{arrive_of}
use Rattle.entry_ticks.specs.declared.Ticked.{Ticked}
use Rattle.entry_ticks.specs.Tick.{tick_at, ticked_to, unticked, ticked_from, tick_event}
use Rattle.entry_events.specs.declared.Told.{Told}
use Rattle.entry_events.specs.declared.Counted.{Counted}
use Rattle.entry_events.specs.Change.{refused_told}
use Rattle.entry_events.specs.Module.{switch_at, switched_all, switch_all_of}
use Rattle.entry_events.specs.Count.{uncounted, read_past, clear_past, read_of, clear_of}
use Rattle.entry_events.proofs.Counts.{read-state, clear_records}
use Rattle.model.specs.World.{World, view_of, state_of, leaves}
use Rattle.model.specs.Events.{tick, switch_all, read_count, clear_count, on_whole}
use Rattle.model.specs.Step.{step}
use Rattle.model.proofs.View.{state_view, Fewer, fewer-same, fewer-each, view_leaves}
use Rattle.model_refines.specs.Table.{table_of}
use Rattle.model_refines.specs.Whole.{whole_of}
use Rattle.model_refines.proofs.Less.{switch_less, tick_less}
use Rattle.model_refines.proofs.Arrivals.{arrive_is, meeting_fewer}

-- an event by what it makes of the state
leaves_view : (f : State → State) (s : State) (rx tx : List ℕ) → Fewer (f s).connections s.connections
    → view_of (f s) rx tx ≡ leaves (f (state_of (view_of s rx tx))) (view_of s rx tx)
leaves_view f s rx tx h = view_leaves s (f s) rx tx h ∙ ap (λ (t : State). leaves (f t) (view_of s rx tx)) (sym (state_view s rx tx))

module _ (l : Loan) where
  abbrev image : List ℕ
  image = l.image

  abbrev s : State
  s = l.state

  abbrev rx : List ℕ
  rx = l.rx

  abbrev tx : List ℕ
  tx = l.tx

  abbrev w : World
  w = view_of s rx tx

  -- a datagram, an accept
  pub arrive_view : (a : Bool) (group : ℕ) (source : Remote)
      → view_of (arrive_of image s a group source).state rx tx ≡ leaves (arrive_of image (state_of w) a group source).state w
  arrive_view a group source =
      leaves_view (λ (t : State). (arrive_of image t a group source).state) s rx tx
      (meeting_fewer image s source (arrive_of image s a group source).state (arrive_is image s a group source))

  -- past the gate
  pub past : {A : Type 0} (refused : Refusal → A) (event : A) → Passed (sizes l) → through (gate_of (sizes l)) refused event ≡ event
  past refused event p = ap (λ (g : Result Unit Refusal). through g refused event) (passed_gate (sizes l) p)

  -- a tick
  pub tick_view : Passed (sizes l)
      → view_of (tick_event (sizes l)).state rx tx ≡ step (table_of image) (whole_of image) w (on_whole tick)
  unfolding tick_event step ticked_to
  tick_view p =
      ap (λ (t : Ticked). view_of t.state rx tx)
      (past (unticked s) (ticked_from (rows_of image Connections) s (ticked_to image (rows_of image Connections) s)) p)
      ∙ leaves_view (ticked_to image (rows_of image Connections)) s rx tx
      (fewer-each (tick_at image) (λ k c. tick_less (config_of image k) c) 0 (rows_of image Connections) s.connections)

  -- a switch on all connections
  pub switch_all_view : (n : ℕ) (b : Bool) → Passed (sizes l)
      → view_of (switch_all_of (sizes l) n b).state rx tx ≡ step (table_of image) (whole_of image) w (on_whole (switch_all n b))
  unfolding switch_all_of step switched_all
  switch_all_view n b p =
      ap (λ (t : Told). view_of t.state rx tx)
      (past (refused_told s) (cond (ltb n 32) (record { answer = Ok tt; state = switched_all (rows_of image Connections) n b s }) (refused_told s Missing)) p)
      ∙ go (ltb n 32)
    where
      go : (x : Bool) → view_of (cond x (record { answer = Ok tt; state = switched_all (rows_of image Connections) n b s })
          (refused_told s Missing)).state rx tx
          ≡ cond x (leaves (switched_all (rows_of image Connections) n b (state_of w)) w) w
      go true =
          leaves_view (switched_all (rows_of image Connections) n b) s rx tx
          (fewer-each (switch_at n b) (λ k c. switch_less n b c) 0 (rows_of image Connections) s.connections)
      go false = refl

  -- a count read, and read and cleared
  pub read_view : (protocol : ℕ) → Passed (sizes l)
      → view_of (read_of (sizes l) protocol).state rx tx ≡ step (table_of image) (whole_of image) w (on_whole (read_count protocol))
  unfolding read_of step
  read_view n p = ap (λ (t : Counted). view_of t.state rx tx) (past (uncounted s) (read_past s n) p) ∙ ap (λ (t : State). view_of t rx tx) (read-state s n)

  pub clear_view : (protocol : ℕ) → Passed (sizes l)
      → view_of (clear_of (sizes l) protocol).state rx tx ≡ step (table_of image) (whole_of image) w (on_whole (clear_count protocol))
  unfolding clear_of step
  clear_view n p =
      ap (λ (t : Counted). view_of t.state rx tx) (past (uncounted s) (clear_past s n) p)
      ∙ leaves_view (λ (t : State). (clear_past t n).state) s rx tx
      (subst (λ (l : List Connection). Fewer l s.connections) (sym (clear_records s n)) (fewer-same s.connections))
