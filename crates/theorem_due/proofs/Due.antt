-- TIMER AND DUE MARK IN ANY RUN: at each moment they say of the PDUs that wait what the rule says.
use Rattle.std.proofs.Common.{Result, Ok, Err}
use Prim.Native.Nat.{ℕ, suc, ◌+◌, ◌<◌}
use mathlib.Core.Path.{◌≡◌, refl, sym, ap, ◌∙◌, subst}
use mathlib.Core.Logic.{◌⊎◌, inl, inr}
use mathlib.Core.Bool.{Bool, true, false, cond, not, ◌&&◌, ◌||◌, false≢true, true≢false}
use mathlib.Core.List.{List, [], ◌∷◌, ◌++◌, append-nil}
use native.Mathlib.Omega.{arith}
use native.Mathlib.Decide.{ℕ_discrete}
use lib.Dec.{eqb, ltb}
use lib.ListN.{length}
use lib.Seq.{get_or-set_same}
use borrow.Author.Tests.{eqb-true, eqb-false, lt-ltb}
use Rattle.lists.proofs.Fold.{fold_goes}
use Rattle.table_layout.specs.Layout.{rows_of}
use Rattle.table_layout.specs.declared.Kind.TheVariants.{Connection as Connections}
use Rattle.table_rows.specs.declared.DestinationRow.{DestinationRow}
use Rattle.table_rows.specs.Rows.{destination_of}
use Rattle.table.proofs.Facts.{accepted_facts}
use Rattle.connection.specs.declared.Config.{Config}
use Rattle.connection.specs.declared.Connection.{Connection}
use Rattle.connection.specs.declared.Event.{Event as Change}
use Rattle.connection.specs.declared.Event.TheVariants.{Open, Close, Connected, Lost, SetRemote, Switch, Cancel}
use Rattle.connection.specs.Connection.{zero_record, expires}
use Rattle.connection.specs.Event.{record_after, step_of}
use Rattle.connection.specs.Sound.{Sound}
use Rattle.connection.proofs.Ticks.{step-either}
use Rattle.frame.specs.Frame.{frames}
use Rattle.state.specs.State.{record_at}
use Rattle.state.specs.Fresh.{config_of}
use Rattle.gate.specs.Gate.{through}
use Rattle.gate.proofs.Pass.{passed_gate}
use Rattle.gate.proofs.Records.{row-sound, record-at}
use Rattle.send_destination.specs.Destination.{sent_of}
use Rattle.send.specs.Verdict.{is_stored}
use Rattle.send.specs.Send.{destinations, Sending, sending, append_of, check_of, wanted_at, store_of, store_all, transmit_of, transmitted_of}
use Rattle.send_waiting.specs.Waiting.{take_of}
use Rattle.entry_send.specs.Sending.{not_sent, send_of}
use Rattle.law_keeps.proofs.Transmitted.{all_fit}
use Rattle.law_turns.proofs.Entries.{waits-length}
use Rattle.law_waits.specs.Waits.{waits, was_closed, was_let_go, Emptied, not_emptied, emptied, is_emptied, emptied_if, emptied_at_tick, turn_by, turned}
use Rattle.law_waits.proofs.Append.{append_other, append-sixteen}
use Rattle.law_waits.proofs.Turns.{only-emptied}
use Rattle.model.specs.World.{World, Held, held_at, blank}
use Rattle.model.specs.Events.{Own, Whole, datagram, accept, tick, transmit, switch_all, read_count, clear_count, Event, on, on_whole}
use Rattle.model.specs.Step.{step, acts_at}
use Rattle.model.proofs.View.{view_record, view_length}
use Rattle.model_runs.specs.Streams.{EventBytes, RunBytes}
use Rattle.model_refines.specs.Machine.{Machine, lent_to, seen}
use Rattle.model_refines.specs.Run.{after_whole, after_event, after_run, Good}
use Rattle.model_refines.specs.Table.{table_of}
use Rattle.model_refines.specs.Whole.{whole_of}
use Rattle.model_refines.proofs.Steps.{event_view}
use Rattle.model_refines.proofs.Good.{event_good}
use Rattle.model_refines.proofs.Becomes.{Acts, acts-idle, acts-fed, acts_changed, acts-took, acts-is, Becomes}
use Rattle.model_refines.proofs.Becomes.{becomes_itself, as_it_was, becomes-met, becomes-ticked, becomes-switched, becomes-sent, becomes}
use Rattle.theorems.specs.Waits.{empties_by, adds_by}
use Rattle.theorems.proofs.Waiting.{event-waits}
use Rattle.theorems.proofs.Empties.{leaves_all}
use Rattle.theorem_timer.specs.Timer.{BufferStep, stores, ticks, TimerReads}
use Rattle.theorem_timer.proofs.Timer.{stored_reads, tick-reads, empty_reads}
use Rattle.theorem_records.specs.Records.{TakeLeaves, nothing_taken, back_to_reconnect, to_be_closed, stays_as_it_is}
use Rattle.theorem_records.proofs.Records.{others_stay, take-leaves}
use Rattle.theorem_records.proofs.Untouched.{tick-own}
use Rattle.theorem_due.specs.Buffer.{appends_to, steps_with, steps_after, steps_in}
use Rattle.connection.specs.declared.Refusal.{Refusal}

-- what the timer and the due mark of a record say of these steps
abbrev Reads : List BufferStep → Connection → Type 0
Reads steps c = TimerReads steps c.timer c.due

-- timer and due mark are as they were, or nothing waits
pub record SameTimer (c x : Connection) : Type 0 where
  pub timer : x.timer ≡ c.timer
  pub due : x.due ≡ c.due

same_reads : (steps : List BufferStep) (c x : Connection) → SameTimer c x → Reads steps c → Reads steps x
same_reads steps c x s h =
    subst (λ (n : ℕ). TimerReads steps n x.due) (sym s.timer) (subst (λ (b : Bool). TimerReads steps c.timer b) (sym s.due) h)

abbrev Either : Connection → Connection → Type 0
Either c x = SameTimer c x ⊎ (x.used ≡ 0)

same : (c : Connection) → SameTimer c c
same c = record { timer = refl; due = refl }

-- AN EVENT OF ITS OWN
changed_either : (e : Change) (g : Config) (c : Connection) → Either c (step_of e g c).connection
changed_either e g c = step-either e g c (Either c) (λ _. inl (same c)) (λ _. made e)
  where
    made : (f : Change) → Either c (record_after f g c)
    made Open = inl (record { timer = refl; due = refl })
    made Close = inl (record { timer = refl; due = refl })
    made Connected = inl (record { timer = refl; due = refl })
    made Lost = inr refl
    made (SetRemote r) = inl (record { timer = refl; due = refl })
    made (Switch n position) = inl (record { timer = refl; due = refl })
    made Cancel = inl (record { timer = refl; due = refl })

took-either : (g : Config) (room : ℕ) (c x : Connection) → TakeLeaves g room c x → Either c x
took-either g room c x (nothing_taken _ e) = inl (subst (SameTimer c) (sym e) (same c))
took-either g room c x (back_to_reconnect _ _ d _ _ _ _ _ _) = inr d.used
took-either g room c x (to_be_closed _ _ d _ _ _ _ _ _) = inr d.used
took-either g room c x (stays_as_it_is _ _ d _ _ _ _ _) = inr d.used

acts-either : (g : Config) (c : Connection) (e : Own) (x : Connection) → Acts g c e x → Either c x
acts-either g c e x (acts-idle _) = inl (same c)
acts-either g c e x (acts-fed bytes p) = inl (record { timer = refl; due = refl })
acts-either g c e x (acts_changed f) = changed_either f g c
acts-either g c e x (acts-took room) = took-either g room c (take_of g room c) (take-leaves g room c)

-- AN EVENT OF A WHOLE GROUP OR MODULE, but a tick and a transmit
becomes-same : (image : List ℕ) (k : ℕ) (h : Held) (e : Whole) (x : Held) → Becomes image k h e x → leaves_all e ≡ true → SameTimer h.connection
    x.connection
becomes-same image k h _ _ (becomes_itself e) l = same h.connection
becomes-same image k h _ _ (as_it_was e) l = same h.connection
becomes-same image k h _ _ (becomes-met e source _) l = record { timer = refl; due = refl }
becomes-same image k h _ _ becomes-ticked l = absurd (false≢true l)
becomes-same image k h _ _ (becomes-switched e n b) l = record { timer = refl; due = refl }
becomes-same image k h _ _ (becomes-sent pdu payload x a) l = absurd (false≢true l)

-- ONE EVENT of a good machine, seen from connection j
module _ (image : List ℕ) (j : ℕ) (there : j < rows_of image Connections) (m : Machine) (good : Good image m) where
  abbrev c : Connection
  c = record_at m.state j

  low : j < 16
  low = omega (arith, there, (accepted_facts image good.passed.table).most Connections)

  -- where nothing waits no timer runs, in a sound state
  idle : (n : Machine) → Good image n → (record_at n.state j).used ≡ 0 → ((record_at n.state j).timer ≡ 0) × ((record_at n.state j).due ≡ false)
  idle n ok none = both (eqb x.timer 0) refl x.due refl (subst (λ (u : ℕ). ((eqb x.timer 0 && not x.due) || ltb 0 u) ≡ true) none s.send.timing)
    where
      x : Connection
      x = record_at n.state j

      s : Sound (config_of image j) x
      s = row-sound image j x (record-at image n.state.connections j ok.passed.sound (omega (arith, low, ok.sixteen))) there

      both : (a : Bool) → eqb x.timer 0 ≡ a → (b : Bool) → x.due ≡ b → ((a && not b) || false) ≡ true → (x.timer ≡ 0) × (x.due ≡ false)
      both true ea false eb q = (eqb-true x.timer 0 ea, eb)
      both true ea true eb q = absurd (false≢true q)
      both false ea b eb q = absurd (false≢true q)

  none_reads : (n : Machine) → Good image n → (record_at n.state j).used ≡ 0 → Reads [] (record_at n.state j)
  none_reads n ok none = let z = idle n ok none in empty_reads (record_at n.state j).timer (record_at n.state j).due z.0 z.1

  waits-used : (n : Machine) → Good image n → length (waits n.state n.tx j) ≡ (record_at n.state j).used
  waits-used n ok =
      waits-length n.tx j (record_at n.state j).used low ok.passed.send
      (all_fit image (accepted_facts image ok.passed.table) n.state ok.passed.sound j)

  module _ (e : Event) (bytes : EventBytes e) where
    abbrev after : Machine
    after = after_event image e m

    after_good : Good image after
    after_good = event_good image m good e bytes

    -- the record as the world's step has it
    seen-after : (held_at (step (table_of image) (whole_of image) (seen m) e) j).connection ≡ record_at after.state j
    seen-after = ap (λ (w : World). (held_at w j).connection) (sym (event_view image m good e bytes)) ∙ view_record after.state after.rx after.tx j

    seen-before : (held_at (seen m) j).connection ≡ c
    seen-before = view_record m.state m.rx m.tx j

    -- an event that empties leaves nothing waiting; one that adds nothing and does not empty leaves as many bytes
    used-after : (y : Emptied) → empties_by image j m e ≡ y → length (turned (turn_by y (frames (adds_by image j m e))) (waits m.state m.tx j))
        ≡ (record_at after.state j).used
    used-after y q =
        ap (λ (z : Emptied). length (turned (turn_by z (frames (adds_by image j m e))) (waits m.state m.tx j))) (sym q)
        ∙ ap length (sym (event-waits image j m good e bytes))
        ∙ waits-used after after_good

    emptied_none : is_emptied (empties_by image j m e) ≡ true → (record_at after.state j).used ≡ 0
    emptied_none q = go (empties_by image j m e) refl q
      where
        go : (y : Emptied) → empties_by image j m e ≡ y → is_emptied y ≡ true → (record_at after.state j).used ≡ 0
        go (emptied why) f p = sym (used-after (emptied why) f)
        go not_emptied f p = absurd (false≢true p)

    kept_used : is_emptied (empties_by image j m e) ≡ false → frames (adds_by image j m e) ≡ [] → (record_at after.state j).used ≡ c.used
    kept_used q none = go (empties_by image j m e) refl q
      where
        go : (y : Emptied) → empties_by image j m e ≡ y → is_emptied y ≡ false → (record_at after.state j).used ≡ c.used
        go (emptied why) f p = absurd (true≢false p)
        go not_emptied f p =
            sym (used-after not_emptied f)
            ∙ ap (λ (l : List ℕ). length (waits m.state m.tx j ++ l)) none
            ∙ ap length (append-nil (waits m.state m.tx j))
            ∙ waits-used m good

    -- emptied or not
    judged : (steps : List BufferStep) → (is_emptied (empties_by image j m e) ≡ false → Reads (steps_with image j m e steps) (record_at after.state j))
        → Reads (steps_after image j m e steps) (record_at after.state j)
    judged steps h = go (is_emptied (empties_by image j m e)) refl
      where
        go : (b : Bool) → is_emptied (empties_by image j m e) ≡ b → Reads (cond b [] (steps_with image j m e steps)) (record_at after.state j)
        go true q = none_reads after after_good (emptied_none q)
        go false q = h q

    -- a record whose timer and due mark stay, or on which nothing waits
    either-reads : (steps : List BufferStep) → Either c (record_at after.state j) → (record_at after.state j).used ≡ c.used → Reads steps c
        → Reads steps (record_at after.state j)
    either-reads steps (inl s) u h = same_reads steps c (record_at after.state j) s h
    either-reads steps (inr none) u h =
        let a = idle after after_good none in
        let b = idle m good (sym u ∙ none) in
        same_reads steps c (record_at after.state j) (record { timer = a.0 ∙ sym b.0; due = a.1 ∙ sym b.1 }) h

  no_frames : frames [] ≡ []
  unfolding frames
  no_frames = refl

  -- an event of a connection
  own-either : (k : ℕ) (e : Own) (bytes : EventBytes (on k e)) → Either c (record_at (after_event image (on k e) m).state j)
  unfolding step
  own-either k e bytes = go (ℕ_discrete k j)
    where
      wide : j < length (seen m).held
      wide = omega (arith, low, good.sixteen, view_length m.rx m.tx 0 m.state.connections)

      other : (k ≡ j → ⊥) → record_at (after_event image (on k e) m).state j ≡ c
      other ne =
          sym (view_record (after_event image (on k e) m).state (after_event image (on k e) m).rx (after_event image (on k e) m).tx j)
          ∙ ap (λ (h : Held). h.connection) (others_stay image m good k e bytes j (λ q. ne (sym q)))
          ∙ view_record m.state m.rx m.tx j

      own : k ≡ j → Acts (config_of image j) c e (record_at (after_event image (on k e) m).state j)
      own q =
          subst (λ (y : Connection). Acts (config_of image j) c e y)
          (sym (ap (λ (h : Held). h.connection) (ap (λ (i : ℕ). held_at (step (table_of image) (whole_of image) (seen m) (on i e)) j) q
          ∙ get_or-set_same (seen m).held j (acts_at (table_of image) (seen m) j e).to blank wide)) ∙ seen-after (on k e) bytes)
          (subst (λ (d : Connection). Acts (config_of image j) d e (acts_at (table_of image) (seen m) j e).to.connection) (seen-before (on k e) bytes)
          (acts-is (table_of image) j e (held_at (seen m) j)))

      go : Dec (k ≡ j) → Either c (record_at (after_event image (on k e) m).state j)
      go (yes q) = acts-either (config_of image j) c e (record_at (after_event image (on k e) m).state j) (own q)
      go (no ne) = inl (subst (SameTimer c) (sym (other ne)) (same c))

  -- of a whole group or module
  whole_same : (e : Whole) → leaves_all e ≡ true → SameTimer c (record_at (after_event image (on_whole e) m).state j)
  unfolding step
  whole_same e l =
      let s = becomes-same image j (held_at (seen m) j) e (held_at (whole_of image e (seen m)) j) (becomes image j (seen m) e) l in
      let a = seen-after (on_whole e) tt in
      let b = seen-before (on_whole e) tt in
      record {
        timer = ap (λ (d : Connection). d.timer) (sym a) ∙ s.timer ∙ ap (λ (d : Connection). d.timer) b;
        due = ap (λ (d : Connection). d.due) (sym a) ∙ s.due ∙ ap (λ (d : Connection). d.due) b;
      }

  whole-reads : (e : Whole) → leaves_all e ≡ true → (steps : List BufferStep) → Reads steps c
      → Reads steps (record_at (after_event image (on_whole e) m).state j)
  whole-reads e l steps h = same_reads steps c (record_at (after_event image (on_whole e) m).state j) (whole_same e l) h

  -- a tick that does not empty neither closes nor lets go
  tick-stays : is_emptied (empties_by image j m (on_whole tick)) ≡ false → (c.close_wanted ≡ false) × (expires (config_of image j) c ≡ false)
  tick-stays q = go c.close_wanted refl (expires (config_of image j) c) refl test
    where
      test : is_emptied (emptied_at_tick (config_of image j) c) ≡ false
      test =
          ap (λ (b : Bool). b && is_emptied (emptied_at_tick (config_of image j) c)) (sym (lt-ltb j (rows_of image Connections) there))
          ∙ sym (only-emptied (ltb j (rows_of image Connections)) (emptied_at_tick (config_of image j) c))
          ∙ q

      go : (k : Bool) → c.close_wanted ≡ k → (x : Bool) → expires (config_of image j) c ≡ x
          → is_emptied (cond k (emptied was_closed) (emptied_if x was_let_go)) ≡ false → (c.close_wanted ≡ false) × (expires (config_of image j) c ≡ false)
      go false e false f p = (e, f)
      go false e true f p = absurd (true≢false p)
      go true e x f p = absurd (true≢false p)

  ticked : (steps : List BufferStep) → is_emptied (empties_by image j m (on_whole tick)) ≡ false → Reads steps c → Reads (ticks ∷ steps) (record_at
      (after_event image (on_whole tick) m).state j)
  unfolding after_event after_whole
  ticked steps q h =
      subst (Reads (ticks ∷ steps)) (sym (tick-own (lent_to image m) j (passed_gate (lent_to image m) good.passed) there (omega (arith, low, good.sixteen))))
      (let t = tick-stays q in tick-reads (config_of image j) steps c t.0 t.1 h)

  -- a transmit
  module _ (pdu : ℕ) (payload : List ℕ) (steps : List BufferStep) (h : Reads steps c) where
    abbrev row : ℕ → DestinationRow
    row i = destination_of image i

    abbrev Stored : ℕ → Sending → Type 0
    Stored i y = (length y.state.connections ≡ 16) × Reads (appends_to image j m.state pdu payload i steps) (record_at y.state j)

    -- of its own connection the record has what the append makes of it
    append_at : (i : ℕ) (y : Sending) → (row i).connection ≡ j → length y.state.connections ≡ 16 → (later : List BufferStep) → Reads later (record_at
        y.state j)
        → Reads (stores (row i) (c.used + 8 + length payload) ∷ later) (record_at (append_of (row i) payload y).state j)
    unfolding append_of
    append_at i y q sixteen later p =
        let d = row i in
        let u : ℕ = (record_at y.state d.connection).used + 8 + length payload in
        let is : record_at (append_of d payload y).state j ≡ sent_of d u (record_at y.state d.connection) =
        ap (record_at (append_of d payload y).state) (sym q)
        ∙ get_or-set_same y.state.connections d.connection (sent_of d u (record_at y.state d.connection)) zero_record (omega
        (arith, q, low, sixteen)) in
        subst (Reads (stores d (c.used + 8 + length payload) ∷ later)) (sym is)
        (stored_reads later (record_at y.state d.connection).timer (record_at y.state d.connection).due
        (subst (λ (k : ℕ). Reads later (record_at y.state k)) (sym q) p) d (c.used + 8 + length payload))

    one-row : (i : ℕ) (y : Sending) → Stored i y → Stored (suc i) (store_of image m.state pdu payload y i)
    unfolding store_of appends_to
    one-row i y (sixteen, p) = go (wanted_at image m.state pdu payload i) (eqb (row i).connection j) refl
      where
        later : List BufferStep
        later = appends_to image j m.state pdu payload i steps

        next : Bool → Sending
        next w = cond w (append_of (row i) payload y) y

        go : (w q : Bool) → eqb (row i).connection j ≡ q
            → (length (next w).state.connections ≡ 16) × Reads (cond (w && q) (stores (row i) (c.used + 8 + length payload) ∷ later) later) (record_at
            (next w).state j)
        go false q e = (sixteen, p)
        go true true e = (append-sixteen (row i) payload y sixteen, append_at i y (eqb-true _ _ e) sixteen later p)
        go true false e =
            (append-sixteen (row i) payload y sixteen, subst (Reads later) (sym (append_other (row i) payload y j (eqb-false _ _ e))) p)

    all-rows : Reads (appends_to image j m.state pdu payload (destinations image) steps) (record_at (store_all image m.state pdu payload m.tx).state j)
    unfolding store_all appends_to
    all-rows =
        let z : 0 + destinations image ≡ destinations image = omega arith in
        subst (λ (n : ℕ). Reads (appends_to image j m.state pdu payload n steps) (record_at (store_all image m.state pdu payload m.tx).state j)) z
        (fold_goes (store_of image m.state pdu payload) Stored (destinations image) 0 (sending m.state m.tx) (λ i y a b p. one-row i y p)
        (good.sixteen, h)).1

    sent : Reads (steps_with image j m (on_whole (transmit pdu payload)) steps) (record_at (after_event image (on_whole (transmit pdu payload)) m).state j)
    unfolding after_event after_whole send_of transmit_of
    sent =
        subst (λ (g : Result Unit Refusal). Reads (steps_with image j m (on_whole (transmit pdu payload)) steps)
        (record_at (through g (not_sent m.state) (transmitted_of image m.state pdu payload m.tx)).state j)) (sym (passed_gate (lent_to image m)
        good.passed))
        (go (is_stored (check_of image m.state pdu (length payload))))
      where
        go : (b : Bool) → Reads (cond b (appends_to image j m.state pdu payload (destinations image) steps) steps)
            (record_at (cond b (store_all image m.state pdu payload m.tx) (sending m.state m.tx)).state j)
        go true = all-rows
        go false = h

  -- ANY EVENT
  event-reads : (e : Event) → EventBytes e → (steps : List BufferStep) → Reads steps c → Reads (steps_after image j m e steps) (record_at
      (after_event image e m).state j)
  event-reads (on k e) bytes steps h =
      judged (on k e) bytes steps (λ q. either-reads (on k e) bytes steps (own-either k e bytes) (kept_used (on k e) bytes q no_frames) h)
  event-reads (on_whole (datagram group source)) bytes steps h = judged (on_whole (datagram group source)) bytes steps (λ q. whole-reads
      (datagram group source) refl steps h)
  event-reads (on_whole (accept group source)) bytes steps h = judged (on_whole (accept group source)) bytes steps (λ q. whole-reads
      (accept group source) refl steps h)
  event-reads (on_whole tick) bytes steps h = judged (on_whole tick) bytes steps (λ q. ticked steps q h)
  event-reads (on_whole (transmit pdu payload)) bytes steps h = judged (on_whole (transmit pdu payload)) bytes steps (λ q. sent pdu payload steps h)
  event-reads (on_whole (switch_all n b)) bytes steps h = judged (on_whole (switch_all n b)) bytes steps (λ q. whole-reads (switch_all n b) refl steps h)
  event-reads (on_whole (read_count p)) bytes steps h = judged (on_whole (read_count p)) bytes steps (λ q. whole-reads (read_count p) refl steps h)
  event-reads (on_whole (clear_count p)) bytes steps h = judged (on_whole (clear_count p)) bytes steps (λ q. whole-reads (clear_count p) refl steps h)

-- ANY RUN, from steps that timer and due mark speak of
module _ (image : List ℕ) (j : ℕ) (there : j < rows_of image Connections) where
  pub run-reads : (m : Machine) → Good image m → (es : List Event) → RunBytes es → (steps : List BufferStep)
      → TimerReads steps (record_at m.state j).timer (record_at m.state j).due
      → TimerReads (steps_in image j m es steps) (record_at (after_run image m es).state j).timer (record_at (after_run image m es).state j).due
  unfolding after_run steps_in
  run-reads m good [] bytes steps h = h
  run-reads m good (e ∷ es) (b, bytes) steps h =
      run-reads (after_event image e m) (event_good image m good e b) es bytes (steps_after image j m e steps) (event-reads image j there m good e b steps h)

  -- .. so from a machine where nothing waits on it
  pub timer_in_runs : (m : Machine) → Good image m → (record_at m.state j).used ≡ 0 → (es : List Event) → RunBytes es
      → TimerReads (steps_in image j m es []) (record_at (after_run image m es).state j).timer (record_at (after_run image m es).state j).due
  timer_in_runs m good none es bytes = run-reads m good es bytes [] (none_reads image j there m good m good none)
