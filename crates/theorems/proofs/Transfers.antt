-- A TRANSFER ENDS with its end mark handed out, or is told failed, and nothing else ends one (R19.4, R19.7); and failed is told exactly
-- when a transfer ran before the event and none runs after it.
use Prim.Native.Nat.{ℕ, zero, suc, ◌<◌}
use mathlib.Core.Path.{◌≡◌, refl, sym, ap, ap₂, ◌∙◌, subst}
use mathlib.Core.Bool.{Bool, true, false, cond, not, ◌&&◌, ◌||◌, true≢false}
use mathlib.Core.List.{List, [], ◌∷◌, ◌++◌}
use native.Mathlib.Omega.{arith}
use native.Mathlib.Decide.{dec_lt, ℕ_discrete}
use lib.ListN.{length, get_or, replicate, get_or-eq_default}
use borrow.Author.Tests.{lt-ltb, eq-eqb}
use Rattle.wire.specs.Bits.{bit_at}
use Rattle.lists.proofs.Each.{one_at}
use Rattle.table_layout.specs.Layout.{rows_of}
use Rattle.table_layout.specs.declared.Kind.TheVariants.{Connection as Connections}
use Rattle.receive_part.specs.Part.{transferring}
use Rattle.receive_stream.specs.declared.Outcome.{Outcome}
use Rattle.receive_stream.specs.declared.Outcome.TheVariants as Found
use Rattle.receive_stream.specs.Stream.{runs_after}
use Rattle.connection.specs.declared.Connection.{Connection}
use Rattle.connection.specs.declared.Event.{Event as Change}
use Rattle.connection.specs.declared.Event.TheVariants.{Lost}
use Rattle.connection.specs.Connection.{zero_record}
use Rattle.connection.specs.Event.{empties}
use Rattle.connection.proofs.Leaves.{only_loss}
use Rattle.state.specs.State.{record_at}
use Rattle.gate.proofs.Pass.{passed_gate}
use Rattle.gate.proofs.Records.{record-at, past-zero}
use Rattle.reading.specs.Feed.{Out}
use Rattle.reading_lengths.specs.Listed.{Bytes}
use Rattle.reading_lengths.proofs.Bytes.{bytes_drop}
use Rattle.entry_events.specs.Change.{loss_of}
use Rattle.entry_ticks.specs.Tick.{ticked_to, tick_event}
use Rattle.entry_ticks.proofs.Fails.{failed-bit}
use Rattle.entry_receive.specs.Answer.{is_done}
use Rattle.entry_receive.specs.Segment.{payload_of}
use Rattle.entry_receive.proofs.Keeps.{walk-records}
use Rattle.entry_receive.proofs.Running.{segment-running}
use Rattle.law_transitions.proofs.Transfers.{PartStays, event-part, switch_all-part, read-part, clear_part, arrival_part, send-part, taken-part}
use Rattle.model.specs.World.{Held, World, blank, held_at}
use Rattle.model.specs.Events.{Own, change, segment, walk, take_waiting, Whole, datagram, accept}
use Rattle.model.specs.Events.{tick, transmit, switch_all, read_count, clear_count, Event, on, on_whole}
use Rattle.model.specs.Step.{acts_at, step}
use Rattle.model.proofs.View.{view_record}
use Rattle.model_runs.specs.Streams.{EventBytes}
use Rattle.model_refines.specs.Table.{table_of}
use Rattle.model_refines.specs.Machine.{Machine, loan_to, lent_to, seen, taken, after_one, rest_of, pdu_told, told_by, goes_on, after_takes, told_takes}
use Rattle.model_refines.specs.Run.{after_own, after_whole, after_event, given, Good}
use Rattle.model_refines.proofs.Steps.{event_view}
use Rattle.theorems.specs.Transfers.{end_mark, some_mark, runs_at, EndsTransfer, by_end_mark, by_failed_loss, by_failed_tick}

-- the marks of two lists
mark-append : (xs ys : List Out) → some_mark (xs ++ ys) ≡ (some_mark xs || some_mark ys)
unfolding some_mark
mark-append [] ys = refl
mark-append (x ∷ xs) ys = go (end_mark x) (mark-append xs ys)
  where
    go : (b : Bool) → some_mark (xs ++ ys) ≡ (some_mark xs || some_mark ys) → (b || some_mark (xs ++ ys)) ≡ ((b || some_mark xs) || some_mark ys)
    go true e = refl
    go false e = e

or_right : (a b : Bool) → b ≡ true → (a || b) ≡ true
or_right true b e = refl
or_right false b e = e

module _ (image : List ℕ) (k : ℕ) where
  -- A TAKE that ends a transfer hands out its mark
  told_mark : (payload : List ℕ) (o : Outcome) → runs_after true o ≡ false → some_mark (pdu_told image k payload o) ≡ true
  unfolding some_mark
  told_mark payload Found.More e = absurd (true≢false e)
  told_mark payload (Found.Pdu route id inside at n) e = absurd (true≢false e)
  told_mark payload (Found.Drop reason id n) e = absurd (true≢false e)
  told_mark payload (Found.Start route id n true) e = refl
  told_mark payload (Found.Start route id n false) e = absurd (true≢false e)
  told_mark payload (Found.Piece route id at n true) e = refl
  told_mark payload (Found.Piece route id at n false) e = absurd (true≢false e)

  one_runs : (m : Machine) (bs : List ℕ) → Bytes bs → runs_at k m ≡ true → runs_at k (after_one image k m bs) ≡ runs_after true (taken image k m bs).outcome
  one_runs m bs bytes runs =
      segment-running (loan_to image m) k bs bytes ∙ ap (λ (b : Bool). runs_after b (taken image k m bs).outcome) runs

  -- .. and so do the takes over a segment
  takes-mark : (f : ℕ) (m : Machine) (bs : List ℕ) → Bytes bs → runs_at k m ≡ true
      → runs_at k (after_takes image k f m bs) ≡ false → some_mark (told_takes image k f m bs) ≡ true
  unfolding after_takes told_takes
  takes-mark zero m bs bytes runs over = absurd (true≢false (sym runs ∙ over))
  takes-mark (suc f) m bs bytes runs over =
      mark-append (told_by image k m bs) _
      ∙ go (runs_at k m') refl (goes_on image k (is_done (taken image k m bs).answer) rest) over
      (takes-mark f m' rest (bytes_drop (taken image k m bs).read bs bytes))
    where
      m' : Machine
      m' = after_one image k m bs

      rest : List ℕ
      rest = rest_of image k m bs

      go : (b : Bool) → runs_at k m' ≡ b → (g : Bool) → runs_at k (cond g (after_takes image k f m' rest) m') ≡ false
          → (runs_at k m' ≡ true → runs_at k (after_takes image k f m' rest) ≡ false → some_mark (told_takes image k f m' rest) ≡ true)
          → (some_mark (told_by image k m bs) || some_mark (cond g (told_takes image k f m' rest) [])) ≡ true
      go false e g p later =
          ap (λ (b : Bool). b || some_mark (cond g (told_takes image k f m' rest) []))
          (told_mark (payload_of bs m'.rx k (taken image k m bs).outcome) (taken image k m bs).outcome (sym (one_runs m bs bytes runs) ∙ e))
      go true e true p later = or_right (some_mark (told_by image k m bs)) _ (later e p)
      go true e false p later = absurd (true≢false (sym e ∙ p))

-- FAILED IS TOLD EXACTLY when a transfer ran before the event and none runs after it
pub loss_exactly : (image : List ℕ) (k : ℕ) (m : Machine)
    → (loss_of (lent_to image m) k).failed ≡ (runs_at k m && not (runs_at k (after_event image (on k (change Lost)) m)))
unfolding after_event after_own loss_of
loss_exactly image k m = refl

pub tick_exactly : (image : List ℕ) (k : ℕ) (m : Machine) → Good image m → k < rows_of image Connections
    → bit_at k (tick_event (lent_to image m)).failed ≡ cond (runs_at k m && not (runs_at k (after_event image (on_whole tick) m))) 1 0
unfolding after_event after_whole tick_event
tick_exactly image k m good there =
    rw (passed_gate (lent_to image m) good.passed)
    (failed-bit m.state (ticked_to image (rows_of image Connections) m.state) (rows_of image Connections) k
    ∙ ap (λ (b : Bool). cond (b && (runs_at k m && not (transferring (record_at (ticked_to image (rows_of image Connections) m.state) k).part))) 1 0)
    (lt-ltb k (rows_of image Connections) there))

module _ (image : List ℕ) (k : ℕ) (m : Machine) (good : Good image m) (runs : runs_at k m ≡ true) where
  -- an event that leaves the part ends nothing
  part_stays : (e : Event) → PartStays m.state (after_event image e m).state k → runs_at k (after_event image e m) ≡ false → ⊥
  part_stays e p over = true≢false (sym runs ∙ sym (ap transferring p) ∙ over)

  -- one of another connection leaves it
  other : (i : ℕ) (e : Own) → EventBytes (on i e) → (i ≡ k → ⊥) → PartStays m.state (after_event image (on i e) m).state k
  unfolding step
  other i e bytes ne =
      let v : World = seen (after_event image (on i e) m) in
      ap (λ (c : Connection). c.part)
      (sym (view_record (after_event image (on i e) m).state (after_event image (on i e) m).rx (after_event image (on i e) m).tx k))
      ∙ ap (λ (w : World). (held_at w k).connection.part) (event_view image m good (on i e) bytes)
      ∙ one_at blank (seen m).held i k (acts_at (table_of image) (seen m) i e).to (λ (h : Held). h.connection.part ≡ (record_at m.state k).part)
      (λ q. absurd (ne q)) (ap (λ (c : Connection). c.part) (view_record m.state m.rx m.tx k))

  -- a connection that is not there has no transfer
  there : k < rows_of image Connections
  there = go (dec_lt k (rows_of image Connections)) (dec_lt k (length m.state.connections))
    where
      none : record_at m.state k ≡ zero_record → k < rows_of image Connections
      none e = absurd (true≢false (sym runs ∙ ap (λ (c : Connection). transferring c.part) e))

      go : Dec (k < rows_of image Connections) → Dec (k < length m.state.connections) → k < rows_of image Connections
      go (yes h) l = h
      go (no h) (yes l) = none (past-zero image k (record_at m.state k) (record-at image m.state.connections k good.passed.sound l) (omega arith))
      go (no h) (no l) = none (get_or-eq_default m.state.connections zero_record (omega arith))

  -- of its own
  changed : (e : Change) (b : Bool) → empties e ≡ b → runs_at k (after_event image (on k (change e)) m) ≡ false → EndsTransfer image k m (on k (change e))
  unfolding after_event after_own loss_of
  changed e false n over = absurd (part_stays (on k (change e)) (event-part (lent_to image m) k k e n) over)
  changed e true n over =
      subst (λ (x : Change). runs_at k (after_event image (on k (change x)) m) ≡ false → EndsTransfer image k m (on k (change x))) (sym (only_loss e n))
      (λ gone. by_failed_loss (rw (runs, gone))) over

  own : (e : Own) → EventBytes (on k e) → runs_at k (after_event image (on k e) m) ≡ false → EndsTransfer image k m (on k e)
  unfolding after_event after_own given
  own (change e) b over = changed e (empties e) refl over
  own (segment bs) b over = by_end_mark bs (rw (eq-eqb k k refl) (takes-mark image k (suc (length bs)) m bs b runs over))
  own (walk d p) b over = absurd
      (part_stays (on k (walk d p)) (ap (λ (cs : List Connection). (get_or cs k zero_record).part) (walk-records (lent_to image m) k d p)) over)
  own (take_waiting room) b over = absurd (part_stays (on k (take_waiting room)) (taken-part (loan_to image m) k k (replicate room 0)) over)

  -- of a whole group or module
  ticked : runs_at k (after_event image (on_whole tick) m) ≡ false → bit_at k (tick_event (lent_to image m)).failed ≡ 1
  ticked over = tick_exactly image k m good there ∙ ap₂ (λ (a b : Bool). cond (a && not b) 1 0) runs over

  whole : (e : Whole) → runs_at k (after_event image (on_whole e) m) ≡ false → EndsTransfer image k m (on_whole e)
  unfolding after_event after_whole
  whole (datagram group source) over = absurd (part_stays (on_whole (datagram group source)) (arrival_part (lent_to image m) k false group source) over)
  whole (accept group source) over = absurd (part_stays (on_whole (accept group source)) (arrival_part (lent_to image m) k true group source) over)
  whole tick over = by_failed_tick (ticked over)
  whole (transmit number payload) over = absurd (part_stays (on_whole (transmit number payload)) (send-part (loan_to image m) k number payload) over)
  whole (switch_all number position) over =
      absurd (part_stays (on_whole (switch_all number position)) (switch_all-part (lent_to image m) k number position) over)
  whole (read_count protocol) over = absurd (part_stays (on_whole (read_count protocol)) (read-part (lent_to image m) k protocol) over)
  whole (clear_count protocol) over = absurd (part_stays (on_whole (clear_count protocol)) (clear_part (lent_to image m) k protocol) over)

  -- A TRANSFER THAT RAN AND RUNS NO MORE: its end mark was handed out, or it was told failed
  pub transfer-ends : (e : Event) → EventBytes e → runs_at k (after_event image e m) ≡ false → EndsTransfer image k m e
  transfer-ends (on i e) bytes over = go (ℕ_discrete i k)
    where
      go : Dec (i ≡ k) → EndsTransfer image k m (on i e)
      go (yes p) = subst (λ (j : ℕ). EventBytes (on j e) → runs_at k (after_event image (on j e) m) ≡ false → EndsTransfer image k m (on j e))
          (sym p) (own e) bytes over
      go (no ne) = absurd (part_stays (on i e) (other i e bytes ne) over)
  transfer-ends (on_whole e) bytes over = whole e over
