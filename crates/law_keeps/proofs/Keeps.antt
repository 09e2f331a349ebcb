-- R3.13, every event leaves a sound state sound: what passes the gate passes it again after a connection event, a switch on all connections, a
-- count read or cleared, and a tick.
use Rattle.std.proofs.Common.{Result, Ok, Err}
use Prim.Native.Nat.{ℕ, ◌<◌}
use mathlib.Core.Path.{◌≡◌, ap, ◌∙◌}
use mathlib.Core.Bool.{Bool, true, false, cond}
use mathlib.Core.List.{List}
use native.Mathlib.Omega.{arith}
use lib.Dec.{ltb}
use Rattle.table_layout.specs.Layout.{rows_of}
use Rattle.table_layout.specs.declared.Kind.TheVariants.{Connection as Connections}
use Rattle.connection.specs.declared.Connection.{Connection}
use Rattle.connection.specs.declared.Refusal.TheVariants.{Missing}
use Rattle.connection.specs.declared.Event.{Event}
use Rattle.connection.specs.declared.Event.TheVariants.{Lost}
use Rattle.lists.proofs.Each.{all-each}
use Rattle.lists.proofs.Fold.{fold_keeps}
use Rattle.state.specs.declared.State.{State}
use Rattle.state.specs.State.{record_at}
use Rattle.gate.specs.Lent.{Lent, next}
use Rattle.gate.specs.Sound.{sound_at, records_sound}
use Rattle.gate.specs.Gate.{gate_of, gate_at, through, Passed}
use Rattle.gate.proofs.Pass.{gate_at-passed, passed-next}
use Rattle.gate.proofs.Records.{record_set}
use Rattle.entry_events.specs.Change.{refused_told, told_of, change_of, event_of, loss_of}
use Rattle.entry_events.specs.Module.{switch_at, switched_all, switch_all_of}
use Rattle.entry_events.specs.declared.Told.{Told}
use Rattle.entry_events.specs.Count.{uncounted, read_past, clear_past, read_of, clear_of}
use Rattle.entry_events.specs.declared.Counted.{Counted}
use Rattle.entry_events.proofs.Counts.{read-state, clear_records}
use Rattle.entry_ticks.specs.declared.Ticked.{Ticked}
use Rattle.entry_ticks.specs.Tick.{tick_at, ticked_to, tick_once, ticks_to, unticked, ticked_from, tick_event, ticks_event}
use Rattle.law_keeps.proofs.Past.{past_or}
use Rattle.law_keeps.proofs.Rows.{sound-row-at, step-sound, switch_sound, tick-sound}
use Rattle.connection.specs.declared.Refusal.{Refusal}

-- a tick of every row
pub ticked-sound : (image : List ℕ) (s : State) → records_sound image s.connections ≡ true
    → records_sound image (ticked_to image (rows_of image Connections) s).connections ≡ true
unfolding ticked_to records_sound
ticked-sound image s p =
    all-each (sound_at image) (tick_at image) 0 (rows_of image Connections) s.connections p (λ j c l q. tick-sound image j c q (omega arith))

pub ticks-sound : (image : List ℕ) (s : State) (count : ℕ) → records_sound image s.connections ≡ true
    → records_sound image (ticks_to image (rows_of image Connections) count s).connections ≡ true
unfolding ticks_to
ticks-sound image s count p =
    fold_keeps (tick_once image (rows_of image Connections))
    (λ (t : State). records_sound image t.connections ≡ true) count 0 s (λ i t l u q. ticked-sound image t q) p

module _ (l : Lent) (passed : Passed l) where
  abbrev image : List ℕ
  image = l.image

  abbrev s : State
  s = l.state

  -- a connection event: past the gate its own record is replaced by a sound one
  told_sound : (n : ℕ) (a : Result Unit Refusal) (c : Connection) → sound_at image n c ≡ true → records_sound image (told_of s n a c).state.connections ≡ true
  unfolding told_of
  told_sound n (Ok tt) c p = record_set image s.connections n c passed.sound p
  told_sound n (Err r) c p = passed.sound

  pub event-passed : (n : ℕ) (e : Event) → Passed (next l (event_of l n e).state)
  unfolding event_of change_of
  event-passed n e =
      past_or (λ (t : Told). Passed (next l t.state)) (gate_at l n) (refused_told s) (change_of image s n e) (λ r. passed)
      (λ q.
      let h : n < rows_of image Connections = (gate_at-passed l n q).1 in
      passed-next l _ passed (told_sound n _ _ (step-sound image n (record_at s n) (sound-row-at image s.connections n passed.sound h) h e)))

  pub loss_passed : (n : ℕ) → Passed (next l (loss_of l n).state)
  unfolding loss_of
  loss_passed n = event-passed n Lost

  -- a switch on all connections
  switched-sound : (number : ℕ) (on : Bool) → records_sound image (switched_all (rows_of image Connections) number on s).connections ≡ true
  unfolding switched_all records_sound
  switched-sound number on =
      all-each (sound_at image) (switch_at number on) 0 (rows_of image Connections) s.connections passed.sound
      (λ j c l p. switch_sound image j c p (omega arith) number on)

  pub switch_all-passed : (number : ℕ) (on : Bool) → Passed (next l (switch_all_of l number on).state)
  unfolding switch_all_of
  switch_all-passed number on = go (gate_of l) (ltb number 32)
    where
      go : (g : Result Unit Refusal) (b : Bool)
          → Passed (next l (through g (refused_told s)
          (cond b (record { answer = Ok tt; state = switched_all (rows_of image Connections) number on s }) (refused_told s Missing))).state)
      go (Err r) b = passed
      go (Ok tt) false = passed
      go (Ok tt) true = passed-next l _ passed (switched-sound number on)

  -- the counts: the records stay
  pub read-passed : (p : ℕ) → Passed (next l (read_of l p).state)
  unfolding read_of
  read-passed p =
      past_or (λ (t : Counted). Passed (next l t.state)) (gate_of l) (uncounted s) (read_past s p) (λ r. passed)
      (λ _. passed-next l _ passed (ap (λ (t : State). records_sound image t.connections) (read-state s p) ∙ passed.sound))

  pub clear_passed : (p : ℕ) → Passed (next l (clear_of l p).state)
  unfolding clear_of
  clear_passed p =
      past_or (λ (t : Counted). Passed (next l t.state)) (gate_of l) (uncounted s) (clear_past s p) (λ r. passed)
      (λ _. passed-next l _ passed (ap (records_sound image) (clear_records s p) ∙ passed.sound))

  pub tick-passed : Passed (next l (tick_event l).state)
  unfolding tick_event
  tick-passed =
      past_or (λ (t : Ticked). Passed (next l t.state)) (gate_of l) (unticked s)
      (ticked_from (rows_of image Connections) s (ticked_to image (rows_of image Connections) s)) (λ r. passed)
      (λ _. passed-next l _ passed (ticked-sound image s passed.sound))

  pub ticks-passed : (count : ℕ) → Passed (next l (ticks_event l count).state)
  unfolding ticks_event
  ticks-passed count =
      past_or (λ (t : Ticked). Passed (next l t.state)) (gate_of l) (unticked s)
      (ticked_from (rows_of image Connections) s (ticks_to image (rows_of image Connections) count s)) (λ r. passed)
      (λ _. passed-next l _ passed (ticks-sound image s count passed.sound))
