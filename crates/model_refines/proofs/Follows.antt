-- A CONNECTION EVENT THAT WRITES NO MEMORY and drops nothing: what its entry point leaves is the world's step. The six events of the
-- record alone, and taking the waiting bytes.
use Rattle.std.proofs.Common.{Result, Err}
use Prim.Native.Nat.{ℕ}
use mathlib.Core.Path.{◌≡◌, refl, sym, ap, ◌∙◌}
use mathlib.Core.Bool.{Bool, true, false}
use mathlib.Core.List.{List, []}
use lib.ListN.{length}
use lib.Dec.{ltb}
use borrow.Author.Tests.{ltb-true}
use Rattle.table_layout.specs.Layout.{rows_of}
use Rattle.table_layout.specs.declared.Kind.TheVariants.{Connection as Connections}
use Rattle.connection.specs.declared.Connection.{Connection}
use Rattle.connection.specs.declared.Event.{Event as Change}
use Rattle.connection.specs.declared.Refusal.{Refusal}
use Rattle.connection.specs.declared.Refusal.TheVariants.{Missing}
use Rattle.connection.specs.Event.{known, allowed, step_of}
use Rattle.state.specs.declared.State.{State}
use Rattle.state.specs.State.{record_at, with_record}
use Rattle.state.specs.Fresh.{config_of}
use Rattle.state.proofs.Records.{put_back}
use Rattle.gate.specs.Lent.{Loan, sizes}
use Rattle.gate.specs.Gate.{gate_at, through, Passed}
use Rattle.gate.proofs.Pass.{passed_gate, passed_gate_at}
use Rattle.entry_events.specs.declared.Told.{Told}
use Rattle.entry_events.specs.Change.{refused_told, told_of, change_of, event_of}
use Rattle.send_waiting.specs.Waiting.{take_of}
use Rattle.entry_send.specs.declared.Taken.{Taken}
use Rattle.entry_send.specs.Sending.{not_taken, take_past, taken_waiting}
use Rattle.model.specs.World.{Held, World, held_at, view_of, follow}
use Rattle.model.specs.Events.{Own, change, take_waiting, Whole, on}
use Rattle.model.specs.Step.{acted, does, acts, left, step}
use Rattle.model.proofs.View.{view_record, Less}
use Rattle.model_refines.specs.Table.{table_of}
use Rattle.model_refines.proofs.Less.{step_less, taking_less}
use Rattle.model_refines.proofs.Left.{view_follow, left-nothing}

-- done or refused, the record is the one that the event leaves
told_state : (image : List ℕ) (s : State) (n : ℕ) (e : Change)
    → (change_of image s n e).state ≡ with_record n (step_of e (config_of image n) (record_at s n)).connection s
unfolding change_of told_of step_of
told_state image s n e = go (known e) (allowed e (config_of image n) (record_at s n)) refl refl
  where
    go : (k a : Bool) → known e ≡ k → allowed e (config_of image n) (record_at s n) ≡ a
        → (change_of image s n e).state ≡ with_record n (step_of e (config_of image n) (record_at s n)).connection s
    go false a p q = rw p (sym (put_back s n))
    go true false p q = rw (p, q) (sym (put_back s n))
    go true true p q = rw (p, q)

module _ (l : Loan) (whole : Whole → World → World) (passed : Passed (sizes l)) where
  abbrev image : List ℕ
  image = l.image

  abbrev s : State
  s = l.state

  abbrev rx : List ℕ
  rx = l.rx

  abbrev tx : List ℕ
  tx = l.tx

  abbrev w : World
  w = view_of s rx tx

  -- past the gate, or not there
  passes : {A : Type 0} (refused : Refusal → A) (event : A) (k : ℕ)
      → ltb k (rows_of image Connections) ≡ true → through (gate_at (sizes l) k) refused event ≡ event
  passes refused event k h =
      ap (λ (g : Result Unit Refusal). through g refused event) (passed_gate_at (sizes l) k passed (ltb-true k (rows_of image Connections) h))

  missing : (k : ℕ) → ltb k (rows_of image Connections) ≡ false → gate_at (sizes l) k ≡ Err Missing
  unfolding gate_at
  missing k h = rw (passed_gate (sizes l) passed, h)

  misses : {A : Type 0} (refused : Refusal → A) (event : A) (k : ℕ)
      → ltb k (rows_of image Connections) ≡ false → through (gate_at (sizes l) k) refused event ≡ refused Missing
  misses refused event k h = ap (λ (g : Result Unit Refusal). through g refused event) (missing k h)

  -- the world's side
  acts-there : (k : ℕ) (e : Own) → ltb k (rows_of image Connections) ≡ true → acts (table_of image) k e (held_at w k) ≡ does (table_of image) k e (held_at w k)
  unfolding acts
  acts-there k e h = rw h

  acts_missing : (k : ℕ) (e : Own) → ltb k (rows_of image Connections) ≡ false → acts (table_of image) k e (held_at w k) ≡ acted (held_at w k) []
  unfolding acts
  acts_missing k e h = rw h

  -- an event that makes f of the record
  made_view : (k : ℕ) (e : Own) (f : Connection → Connection) (t : State) → ((h : Held) → does (table_of image) k e h ≡ acted (follow (f h.connection) h) [])
      → Less (f (record_at s k)) (record_at s k)
      → (ltb k (rows_of image Connections) ≡ true → t ≡ with_record k (f (record_at s k)) s)
      → (ltb k (rows_of image Connections) ≡ false → t ≡ s)
      → view_of t rx tx ≡ step (table_of image) whole w (on k e)
  unfolding step
  made_view k e f t is less there away = go (ltb k (rows_of image Connections)) refl
    where
      go : (b : Bool) → ltb k (rows_of image Connections) ≡ b → view_of t rx tx ≡ left (table_of image) w k (acts (table_of image) k e (held_at w k))
      go true h =
          ap (λ (u : State). view_of u rx tx) (there h)
          ∙ view_follow (table_of image) s rx tx k (f (record_at s k)) less
          ∙ ap (λ (d : Connection). left (table_of image) w k (acted (follow (f d) (held_at w k)) [])) (sym (view_record s rx tx k))
          ∙ ap (left (table_of image) w k) (sym (acts-there k e h ∙ is (held_at w k)))
      go false h =
          ap (λ (u : State). view_of u rx tx) (away h) ∙ sym (left-nothing (table_of image) w k) ∙ ap (left (table_of image) w k) (sym (acts_missing k e h))

  does-change : (k : ℕ) (e : Change) (h : Held)
      → does (table_of image) k (change e) h ≡ acted (follow (step_of e (config_of image k) h.connection).connection h) []
  unfolding does
  does-change k e h = refl

  does-take : (k room : ℕ) (h : Held) → does (table_of image) k (take_waiting room) h ≡ acted (follow (take_of (config_of image k) room h.connection) h) []
  unfolding does
  does-take k room h = refl

  -- OPEN, CLOSE, CONNECTED, LOST, SET REMOTE, SWITCH
  pub change_view : (k : ℕ) (e : Change) → view_of (event_of (sizes l) k e).state rx tx ≡ step (table_of image) whole w (on k (change e))
  unfolding event_of
  change_view k e =
      made_view k (change e) (λ (c : Connection). (step_of e (config_of image k) c).connection) (event_of (sizes l) k e).state (does-change k e)
      (step_less e (config_of image k) (record_at s k))
      (λ h. ap (λ (t : Told). t.state) (passes (refused_told s) (change_of image s k e) k h) ∙ told_state image s k e)
      (λ h. ap (λ (t : Told). t.state) (misses (refused_told s) (change_of image s k e) k h))

  -- TAKING THE WAITING BYTES into an out buffer
  pub take_view : (k : ℕ) (out : List ℕ) → view_of (taken_waiting l k out).state rx tx ≡ step (table_of image) whole w (on k (take_waiting (length out)))
  unfolding taken_waiting
  take_view k out =
      made_view k (take_waiting (length out)) (take_of (config_of image k) (length out)) (taken_waiting l k out).state (does-take k (length out))
      (taking_less (config_of image k) (length out) (record_at s k))
      (λ h. ap (λ (t : Taken). t.state) (passes (not_taken s) (take_past image s k (length out)) k h))
      (λ h. ap (λ (t : Taken). t.state) (misses (not_taken s) (take_past image s k (length out)) k h))
