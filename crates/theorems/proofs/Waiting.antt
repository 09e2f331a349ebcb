-- SEND BUFFERS OVER RUNS: what waits on a connection is what waited at the start and the frames stored since, or only the frames stored
-- since the last loss, closing tick, expiry or non-empty take. So from nothing waiting it is the frames of the PDUs that were stored, by name.
use Rattle.std.proofs.Common.{Result, Ok, Err}
use Prim.Native.Nat.{ℕ, zero, suc, ◌*◌, ◌≤◌}
use mathlib.Core.Path.{◌≡◌, refl, sym, ap, ap₂, ◌∙◌, subst}
use mathlib.Core.Bool.{Bool, true, false, cond, ◌&&◌}
use mathlib.Core.List.{List, [], ◌∷◌, ◌++◌, append-nil, append_assoc}
use native.Mathlib.Omega.{arith}
use lib.Dec.{eqb, ltb}
use lib.ListN.{length, take as front, drop}
use Rattle.table_layout.specs.Layout.{rows_of}
use Rattle.table_layout.specs.declared.Kind.TheVariants.{Connection as Connections}
use Rattle.table_rows.specs.Rows.{destination_of}
use Rattle.table.proofs.Facts.{accepted_facts}
use Rattle.connection.specs.declared.Connection.{Connection}
use Rattle.state.specs.declared.State.{State}
use Rattle.state.specs.State.{record_at}
use Rattle.state.specs.Fresh.{config_of}
use Rattle.gate.specs.Gate.{through}
use Rattle.gate.proofs.Pass.{passed_gate}
use Rattle.frame.specs.Frame.{frame, Sent, frames}
use Rattle.send.specs.Verdict.{is_stored}
use Rattle.send.specs.Send.{destinations, check_of}
use Rattle.entry_ticks.specs.declared.Ticked.{Ticked}
use Rattle.entry_ticks.specs.Tick.{ticked_to, unticked, ticked_from, tick_event}
use Rattle.entry_receive.specs.Answer.{is_done}
use Rattle.send_waiting.specs.Waiting.{waiting_of}
use Rattle.law_waits.specs.Waits.{waits, goes_to, frames_from, added_to, turned, after_all, any_empties, since}
use Rattle.law_waits.specs.Waits.{emptied_at_tick, Emptied, not_emptied, emptied, is_emptied, only_if, turn_by}
use Rattle.law_waits.proofs.Since.{waits-since}
use Rattle.law_turns.proofs.Entries.{transmit-turn}
use Rattle.model.specs.World.{World, held_at}
use Rattle.model.specs.Events.{Own, change, segment, walk, take_waiting, Whole, datagram, accept}
use Rattle.model.specs.Events.{tick, transmit, switch_all, read_count, clear_count, Event, on, on_whole}
use Rattle.model.specs.Step.{step}
use Rattle.model.proofs.View.{view_record, view_length}
use Rattle.model_runs.specs.Streams.{EventBytes, RunBytes}
use Rattle.model_refines.specs.Table.{table_of}
use Rattle.model_refines.specs.Whole.{whole_of}
use Rattle.model_refines.specs.Machine.{Machine, lent_to, loan_to, seen, taken, after_one, rest_of, goes_on, after_takes}
use Rattle.model_refines.specs.Run.{after_own, after_whole, after_event, after_run, Good}
use Rattle.model_refines.proofs.Steps.{event_view}
use Rattle.model_refines.proofs.Good.{event_good}
use Rattle.model_refines.proofs.Modules.{past}
use Rattle.theorems.specs.Waits.{sent_from, sent_to, own_empties, empties_by, adds_by, turn_of, turns_of, sent_in}
use Rattle.theorems.proofs.Empties.{ticked-used, own-used, leaves_all, whole-used}
use Rattle.law_waits.proofs.Turns.{only-emptied}
use Rattle.connection.specs.declared.Refusal.{Refusal}

-- FRAMES: what a transmit adds is the frames of what it sends
frames-append : (a b : List Sent) → frames (a ++ b) ≡ frames a ++ frames b
unfolding frames
frames-append [] b = refl
frames-append (x ∷ a) b =
    ap (λ (l : List ℕ). frame x.id x.body ++ l) (frames-append a b) ∙ sym (append_assoc (frame x.id x.body) (frames a) (frames b))

no_frames : frames [] ≡ []
unfolding frames
no_frames = refl

module _ (image : List ℕ) (s : State) (pdu : ℕ) (payload : List ℕ) (k : ℕ) where
  rows-sent : (n i : ℕ) → frames_from image s pdu payload k n i ≡ frames (sent_from image s pdu payload k n i)
  unfolding frames_from sent_from frames
  rows-sent zero i = refl
  rows-sent (suc n) i =
      ap₂ ◌++◌ (go (goes_to image s pdu payload k i)) (rows-sent n (suc i))
      ∙ sym (frames-append (cond (goes_to image s pdu payload k i) (record { id = (destination_of image i).id; body = payload } ∷ []) [])
      (sent_from image s pdu payload k n (suc i)))
    where
      go : (b : Bool) → cond b (frame (destination_of image i).id payload) []
          ≡ frames (cond b (record { id = (destination_of image i).id; body = payload } ∷ []) [])
      go true = sym (append-nil (frame (destination_of image i).id payload))
      go false = refl

  pub added_sent : added_to image s pdu payload k ≡ frames (sent_to image s pdu payload k)
  unfolding added_to sent_to
  added_sent = go (is_stored (check_of image s pdu (length payload)))
    where
      go : (b : Bool) → cond b (frames_from image s pdu payload k (destinations image) 0) []
          ≡ frames (cond b (sent_from image s pdu payload k (destinations image) 0) [])
      go true = rows-sent (destinations image) 0
      go false = sym no_frames

-- takes leave send memory
takes-tx : (image : List ℕ) (k f : ℕ) (m : Machine) (bs : List ℕ) → (after_takes image k f m bs).tx ≡ m.tx
unfolding after_takes
takes-tx image k zero m bs = refl
takes-tx image k (suc f) m bs =
    go (goes_on image k (is_done (taken image k m bs).answer) (rest_of image k m bs)) (takes-tx image k f (after_one image k m bs) (rest_of image k m bs))
  where
    go : (b : Bool) → (after_takes image k f (after_one image k m bs) (rest_of image k m bs)).tx ≡ m.tx
        → (cond b (after_takes image k f (after_one image k m bs) (rest_of image k m bs)) (after_one image k m bs)).tx ≡ m.tx
    go true e = e
    go false e = refl

pub own-tx : (image : List ℕ) (k : ℕ) (e : Own) (m : Machine) → (after_own image k e m).tx ≡ m.tx
unfolding after_own
own-tx image k (change e) m = refl
own-tx image k (segment bs) m = takes-tx image k (suc (length bs)) m bs
own-tx image k (walk d p) m = refl
own-tx image k (take_waiting room) m = refl

module _ (image : List ℕ) (j : ℕ) (m : Machine) (good : Good image m) where
  abbrev c : Connection
  c = record_at m.state j

  seen_c : (held_at (seen m) j).connection ≡ c
  seen_c = view_record m.state m.rx m.tx j

  rows_fit : rows_of image Connections ≤ length m.state.connections
  rows_fit = omega (arith, good.sixteen, (accepted_facts image good.passed.table).most Connections)

  -- HOW MANY BYTES WAIT: by the world's step
  after-used : (e : Event) → EventBytes e
      → (record_at (after_event image e m).state j).used ≡ (held_at (step (table_of image) (whole_of image) (seen m) e) j).connection.used
  after-used e b =
      ap (λ (d : Connection). d.used) (sym (view_record (after_event image e m).state (after_event image e m).rx (after_event image e m).tx j))
      ∙ ap (λ (w : World). (held_at w j).connection.used) (event_view image m good e b)

  own-after : (k : ℕ) (e : Own) → EventBytes (on k e)
      → (record_at (after_event image (on k e) m).state j).used ≡ cond (is_emptied (empties_by image j m (on k e))) 0 c.used
  own-after k e b =
      after-used (on k e) b
      ∙ subst (λ (d : Connection). (held_at (step (table_of image) (whole_of image) (seen m) (on k e)) j).connection.used
      ≡ cond (is_emptied (only_if (eqb k j && ltb j (rows_of image Connections)) (own_empties e (config_of image j) d))) 0 d.used) seen_c
      (own-used image (seen m) j k e (omega (arith, rows_fit, view_length m.rx m.tx 0 m.state.connections)))

  whole-after : (e : Whole) → leaves_all e ≡ true → (record_at (after_event image (on_whole e) m).state j).used ≡ c.used
  whole-after e l = after-used (on_whole e) tt ∙ whole-used image (seen m) j e l ∙ ap (λ (d : Connection). d.used) seen_c

  tick-after : (record_at (after_event image (on_whole tick) m).state j).used ≡ cond (is_emptied (empties_by image j m (on_whole tick))) 0 c.used
  unfolding after_event after_whole tick_event
  tick-after =
      ap (λ (t : Ticked). (record_at t.state j).used)
      (past (loan_to image m) (unticked m.state)
      (ticked_from (rows_of image Connections) m.state (ticked_to image (rows_of image Connections) m.state)) good.passed)
      ∙ ticked-used image m.state j rows_fit
      ∙ ap (λ (b : Bool). cond b 0 c.used) (sym (only-emptied (ltb j (rows_of image Connections)) (emptied_at_tick (config_of image j) c)))

  -- AN EVENT THAT ADDS NOTHING, and the bytes themselves
  kept_waits : (e : Event) → adds_by image j m e ≡ [] → (after_event image e m).tx ≡ m.tx
      → (record_at (after_event image e m).state j).used ≡ cond (is_emptied (empties_by image j m e)) 0 c.used
      → waits (after_event image e m).state (after_event image e m).tx j ≡ turned (turn_of image j m e) (waits m.state m.tx j)
  unfolding waiting_of
  kept_waits e none tx used = go (empties_by image j m e) used
    where
      go : (x : Emptied) → (record_at (after_event image e m).state j).used ≡ cond (is_emptied x) 0 c.used
          → waits (after_event image e m).state (after_event image e m).tx j ≡ turned (turn_by x (frames (adds_by image j m e))) (waits m.state m.tx j)
      go (emptied why) p = ap (λ (i : ℕ). front i (drop (j * 1472) (after_event image e m).tx)) p
      go not_emptied p =
          ap₂ (λ (i : ℕ) (l : List ℕ). front i (drop (j * 1472) l)) p tx
          ∙ sym (append-nil (waits m.state m.tx j))
          ∙ ap (λ (l : List ℕ). waits m.state m.tx j ++ l) (sym (ap frames none ∙ no_frames))

  -- A TRANSMIT
  transmit-waits : (pdu : ℕ) (payload : List ℕ)
      → waits (after_event image (on_whole (transmit pdu payload)) m).state (after_event image (on_whole (transmit pdu payload)) m).tx j
      ≡ turned (turn_of image j m (on_whole (transmit pdu payload))) (waits m.state m.tx j)
  unfolding after_event after_whole
  transmit-waits pdu payload =
      transmit-turn (loan_to image m) pdu payload good.sixteen good.passed.sound j
      ∙ ap (λ (g : Result Unit Refusal). waits m.state m.tx j ++ through g (λ r. []) (added_to image m.state pdu payload j))
      (passed_gate (lent_to image m) good.passed)
      ∙ ap (λ (l : List ℕ). waits m.state m.tx j ++ l) (added_sent image m.state pdu payload j)

  -- ANY EVENT
  pub event-waits : (e : Event) → EventBytes e
      → waits (after_event image e m).state (after_event image e m).tx j ≡ turned (turn_of image j m e) (waits m.state m.tx j)
  unfolding after_event after_whole
  event-waits (on k e) b = kept_waits (on k e) refl (own-tx image k e m) (own-after k e b)
  event-waits (on_whole (datagram group source)) b = kept_waits (on_whole (datagram group source)) refl refl (whole-after (datagram group source) refl)
  event-waits (on_whole (accept group source)) b = kept_waits (on_whole (accept group source)) refl refl (whole-after (accept group source) refl)
  event-waits (on_whole tick) b = kept_waits (on_whole tick) refl refl tick-after
  event-waits (on_whole (transmit pdu payload)) b = transmit-waits pdu payload
  event-waits (on_whole (switch_all n x)) b = kept_waits (on_whole (switch_all n x)) refl refl (whole-after (switch_all n x) refl)
  event-waits (on_whole (read_count p)) b = kept_waits (on_whole (read_count p)) refl refl (whole-after (read_count p) refl)
  event-waits (on_whole (clear_count p)) b = kept_waits (on_whole (clear_count p)) refl refl (whole-after (clear_count p) refl)

-- ANY RUN
turns_waits : (image : List ℕ) (j : ℕ) (m : Machine) (es : List Event) → RunBytes es → Good image m
    → waits (after_run image m es).state (after_run image m es).tx j ≡ after_all (turns_of image j m es) (waits m.state m.tx j)
unfolding after_run turns_of
turns_waits image j m [] b g = refl
turns_waits image j m (e ∷ es) (b, bs) g =
    turns_waits image j (after_event image e m) es bs (event_good image m g e b)
    ∙ ap (after_all (turns_of image j (after_event image e m) es)) (event-waits image j m g e b)

pub run-waits : (image : List ℕ) (j : ℕ) (m : Machine) (es : List Event) → RunBytes es → Good image m
    → waits (after_run image m es).state (after_run image m es).tx j
    ≡ cond (any_empties (turns_of image j m es)) (since (turns_of image j m es)) (waits m.state m.tx j ++ since (turns_of image j m es))
run-waits image j m es b g = turns_waits image j m es b g ∙ waits-since (turns_of image j m es) (waits m.state m.tx j)

-- BY NAME: where the frames of ss wait at the start, those of `sent_in` wait after the run
turned-sent : (image : List ℕ) (j : ℕ) (m : Machine) (e : Event) (ss : List Sent)
    → turned (turn_of image j m e) (frames ss) ≡ frames (cond (is_emptied (empties_by image j m e)) [] (ss ++ adds_by image j m e))
turned-sent image j m e ss = go (empties_by image j m e)
  where
    go : (x : Emptied) → turned (turn_by x (frames (adds_by image j m e))) (frames ss) ≡ frames (cond (is_emptied x) [] (ss ++ adds_by image j m e))
    go (emptied why) = sym no_frames
    go not_emptied = sym (frames-append ss (adds_by image j m e))

turns_sent : (image : List ℕ) (j : ℕ) (m : Machine) (es : List Event) (ss : List Sent)
    → after_all (turns_of image j m es) (frames ss) ≡ frames (sent_in image j m es ss)
unfolding turns_of sent_in
turns_sent image j m [] ss = refl
turns_sent image j m (e ∷ es) ss =
    ap (after_all (turns_of image j (after_event image e m) es)) (turned-sent image j m e ss)
    ∙ turns_sent image j (after_event image e m) es (cond (is_emptied (empties_by image j m e)) [] (ss ++ adds_by image j m e))

pub run-frames : (image : List ℕ) (j : ℕ) (m : Machine) (es : List Event) (ss : List Sent) → RunBytes es → Good image m → waits m.state m.tx j ≡ frames ss
    → waits (after_run image m es).state (after_run image m es).tx j ≡ frames (sent_in image j m es ss)
run-frames image j m es ss b g e = turns_waits image j m es b g ∙ ap (after_all (turns_of image j m es)) e ∙ turns_sent image j m es ss
