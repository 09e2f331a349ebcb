-- EVERY EVENT LEAVES A GOOD MACHINE GOOD: the state sound, of sixteen records, and the memories as long as they were.
use Rattle.std.proofs.Common.{Ok}
use Prim.Native.Nat.{ℕ}
use mathlib.Core.Path.{◌≡◌, refl, sym, ap, ◌∙◌}
use mathlib.Core.Bool.{Bool, true, false, cond}
use mathlib.Core.List.{List}
use lib.Dec.{ltb}
use lib.ListN.{length, replicate, length-set}
use Rattle.lists.proofs.Fold.{fold_keeps}
use Rattle.table_rows.specs.Rows.{destination_of}
use Rattle.state.specs.declared.State.{State}
use Rattle.gate.specs.Lent.{next}
use Rattle.gate.specs.Gate.{gate_of, Passed}
use Rattle.gate.proofs.Pass.{passed-sent}
use Rattle.law_keeps.proofs.Keeps.{event-passed, switch_all-passed, read-passed, clear_passed, tick-passed}
use Rattle.law_keeps.proofs.Past.{past_or}
use Rattle.law_keeps.proofs.Arrived.{arrival_passed}
use Rattle.law_keeps.proofs.Taken.{taken-passed}
use Rattle.law_keeps.proofs.Transmitted.{transmit_keeps}
use Rattle.entry_receive.proofs.Keeps.{walk-passed}
use Rattle.send.specs.Verdict.{is_stored}
use Rattle.send.specs.Send.{destinations, Sending, sending, append_of, check_of, wanted_at, store_of, store_all, transmit_of, transmitted_of}
use Rattle.entry_send.specs.Sending.{not_sent, send_of, sent_memory}
use Rattle.entry_arrivals.specs.Arrivals.{arrival_of}
use Rattle.table_layout.specs.Layout.{rows_of}
use Rattle.table_layout.specs.declared.Kind.TheVariants.{Connection as Connections}
use Rattle.lists.proofs.Each.{each-length}
use Rattle.connection.specs.declared.Remote.{Remote}
use Rattle.connection.specs.declared.Refusal.TheVariants.{Missing}
use Rattle.select.specs.declared.Arrived.{Arrived}
use Rattle.select.specs.Choose.{arrival_refused, arrive_of}
use Rattle.entry_events.specs.declared.Told.{Told}
use Rattle.entry_events.specs.declared.Counted.{Counted}
use Rattle.entry_events.specs.Change.{refused_told as not_told}
use Rattle.entry_events.specs.Module.{switch_at, switched_all, switch_all_of}
use Rattle.entry_events.specs.Count.{uncounted, read_past, clear_past, read_of, clear_of}
use Rattle.entry_events.proofs.Counts.{read-state, clear_records}
use Rattle.entry_ticks.specs.declared.Ticked.{Ticked}
use Rattle.entry_ticks.specs.Tick.{tick_at, ticked_to, unticked, ticked_from, tick_event}
use Rattle.law_waits.proofs.Append.{append-sixteen, append-long}
use Rattle.send.specs.declared.Transmitted.{Transmitted}
use Rattle.model_refines.proofs.Arrivals.{arrive_is, meeting_length}
use Rattle.model.specs.World.{World}
use Rattle.model.specs.Events.{Own, change, segment, walk, take_waiting, Whole, datagram, accept}
use Rattle.model.specs.Events.{tick, transmit, switch_all, read_count, clear_count, Event, on, on_whole}
use Rattle.model.specs.Step.{acts_at, step}
use Rattle.model.proofs.View.{view_length}
use Rattle.model_runs.specs.Streams.{EventBytes}
use Rattle.model_refines.specs.Table.{table_of}
use Rattle.model_refines.specs.Whole.{whole_of}
use Rattle.model_refines.specs.Machine.{Machine, machine, lent_to, loan_to, seen}
use Rattle.model_refines.specs.Run.{after_own, after_whole, after_event, Good}
use Rattle.model_refines.proofs.Segments.{segment-event-passed}
use Rattle.model_refines.proofs.Steps.{own_view}

-- SIXTEEN RECORDS: an event of a connection replaces one
records-left : (image : List ℕ) (m m' : Machine) (k : ℕ) (e : Own)
    → seen m' ≡ step (table_of image) (whole_of image) (seen m) (on k e) → length m'.state.connections ≡ length m.state.connections
unfolding step
records-left image m m' k e h =
    sym (view_length m'.rx m'.tx 0 m'.state.connections)
    ∙ ap (λ (w : World). length w.held) h
    ∙ length-set (seen m).held k (acts_at (table_of image) (seen m) k e).to
    ∙ view_length m.rx m.tx 0 m.state.connections

own-passed : (image : List ℕ) (m : Machine) (k : ℕ) (e : Own) → EventBytes (on k e) → Good image m
    → Passed (lent_to image (after_own image k e m))
unfolding after_own
own-passed image m k (change e) b g = event-passed (lent_to image m) g.passed k e
own-passed image m k (segment bytes) b g = segment-event-passed image k m bytes g.passed b (whole_of image)
own-passed image m k (walk d p) b g = walk-passed (lent_to image m) k d p g.passed
own-passed image m k (take_waiting room) b g = taken-passed (loan_to image m) k (replicate room 0) g.passed

own_good : (image : List ℕ) (m : Machine) (k : ℕ) (e : Own) → EventBytes (on k e) → Good image m → Good image (after_own image k e m)
own_good image m k e b g =
    record { passed = own-passed image m k e b g; sixteen = records-left image m (after_own image k e m) k e (own_view image m g k e b) ∙ g.sixteen }

-- events of a whole group or module: refused at the gate, or past it
module _ (image : List ℕ) (m : Machine) (g : Good image m) where
  abbrev s : State
  s = m.state

  abbrev Sixteen : State → Type 0
  Sixteen t = length t.connections ≡ 16

  -- a machine with the same memories
  with-state : (t : State) → Passed (next (lent_to image m) t) → Sixteen t → Good image (machine t m.rx m.tx)
  with-state t p n = record { passed = p; sixteen = n }

  arrival_good : (a : Bool) (group : ℕ) (source : Remote) → Good image (machine (arrival_of (lent_to image m) a group source).state m.rx m.tx)
  unfolding arrival_of
  arrival_good a group source =
      with-state (arrival_of (lent_to image m) a group source).state
      (arrival_passed (lent_to image m) a group source g.passed)
      (past_or (λ (t : Arrived). Sixteen t.state) (gate_of (lent_to image m)) (arrival_refused s) (arrive_of image s a group source) (λ r. g.sixteen)
      (λ _. meeting_length image s source (arrive_of image s a group source).state (arrive_is image s a group source) ∙ g.sixteen))

  tick_good : Good image (machine (tick_event (lent_to image m)).state m.rx m.tx)
  unfolding tick_event ticked_to
  tick_good =
      with-state (tick_event (lent_to image m)).state (tick-passed (lent_to image m) g.passed)
      (past_or (λ (t : Ticked). Sixteen t.state) (gate_of (lent_to image m)) (unticked s)
      (ticked_from (rows_of image Connections) s (ticked_to image (rows_of image Connections) s)) (λ r. g.sixteen)
      (λ _. each-length (tick_at image) 0 (rows_of image Connections) s.connections ∙ g.sixteen))

  switches_good : (n : ℕ) (b : Bool) → Good image (machine (switch_all_of (lent_to image m) n b).state m.rx m.tx)
  unfolding switch_all_of switched_all
  switches_good n b =
      with-state (switch_all_of (lent_to image m) n b).state (switch_all-passed (lent_to image m) g.passed n b)
      (past_or (λ (t : Told). Sixteen t.state) (gate_of (lent_to image m)) (not_told s)
      (cond (ltb n 32) (record { answer = Ok tt; state = switched_all (rows_of image Connections) n b s }) (not_told s Missing))
      (λ r. g.sixteen) (λ _. go (ltb n 32)))
    where
      go : (x : Bool) → Sixteen (cond x (record { answer = Ok tt; state = switched_all (rows_of image Connections) n b s }) (not_told s Missing)).state
      go true = each-length (switch_at n b) 0 (rows_of image Connections) s.connections ∙ g.sixteen
      go false = g.sixteen

  read_good : (p : ℕ) → Good image (machine (read_of (lent_to image m) p).state m.rx m.tx)
  unfolding read_of
  read_good p =
      with-state (read_of (lent_to image m) p).state (read-passed (lent_to image m) g.passed p)
      (past_or (λ (t : Counted). Sixteen t.state) (gate_of (lent_to image m)) (uncounted s) (read_past s p)
      (λ r. g.sixteen) (λ _. ap (λ (t : State). length t.connections) (read-state s p) ∙ g.sixteen))

  clear_good : (p : ℕ) → Good image (machine (clear_of (lent_to image m) p).state m.rx m.tx)
  unfolding clear_of
  clear_good p =
      with-state (clear_of (lent_to image m) p).state (clear_passed (lent_to image m) g.passed p)
      (past_or (λ (t : Counted). Sixteen t.state) (gate_of (lent_to image m)) (uncounted s)
      (clear_past s p) (λ r. g.sixteen) (λ _. ap length (clear_records s p) ∙ g.sixteen))

  -- a transmit: as many records, and send memory as long as it was
  abbrev Sized : Sending → Type 0
  Sized x = Sixteen x.state × (length x.memory ≡ length m.tx)

  store_sized : (pdu : ℕ) (payload : List ℕ) (i : ℕ) (x : Sending) → Sized x → Sized (store_of image s pdu payload x i)
  unfolding store_of
  store_sized pdu payload i x (n, l) = go (wanted_at image s pdu payload i)
    where
      go : (b : Bool) → Sized (cond b (append_of (destination_of image i) payload x) x)
      go true = (append-sixteen (destination_of image i) payload x n, append-long (destination_of image i) payload x ∙ l)
      go false = (n, l)

  sent-sized : (pdu : ℕ) (payload : List ℕ) → Sized (transmit_of image s pdu payload m.tx)
  unfolding transmit_of store_all
  sent-sized pdu payload = go (is_stored (check_of image s pdu (length payload)))
    where
      go : (b : Bool) → Sized (cond b (store_all image s pdu payload m.tx) (sending s m.tx))
      go true =
          fold_keeps (store_of image s pdu payload) Sized (destinations image) 0
          (sending s m.tx) (λ i x low high p. store_sized pdu payload i x p) (g.sixteen, refl)
      go false = (g.sixteen, refl)

  send-sized : (pdu : ℕ) (payload : List ℕ) → Sixteen (send_of (loan_to image m) pdu payload).state
      × (length (sent_memory (loan_to image m) pdu payload) ≡ length m.tx)
  unfolding send_of sent_memory
  send-sized pdu payload = (
    past_or (λ (t : Transmitted). Sixteen t.state) (gate_of (lent_to image m)) (not_sent s)
        (transmitted_of image s pdu payload m.tx) (λ r. g.sixteen) (λ _. (sent-sized pdu payload).0),
    past_or (λ (l : List ℕ). length l ≡ length m.tx) (gate_of (lent_to image m)) (λ r. m.tx)
        (transmit_of image s pdu payload m.tx).memory (λ r. refl) (λ _. (sent-sized pdu payload).1),
  )

  transmit_good : (pdu : ℕ) (payload : List ℕ)
      → Good image (machine (send_of (loan_to image m) pdu payload).state m.rx (sent_memory (loan_to image m) pdu payload))
  transmit_good pdu payload =
      record {
        passed =
            passed-sent (loan_to image m) (send_of (loan_to image m) pdu payload).state g.passed
            (transmit_keeps (loan_to image m) pdu payload g.sixteen g.passed.sound)
            (sent_memory (loan_to image m) pdu payload) (send-sized pdu payload).1;
        sixteen = (send-sized pdu payload).0;
      }

  -- ANY OF THEM
  whole_good : (e : Whole) → Good image (after_whole image e m)
  unfolding after_whole
  whole_good (datagram group source) = arrival_good false group source
  whole_good (accept group source) = arrival_good true group source
  whole_good tick = tick_good
  whole_good (transmit pdu payload) = transmit_good pdu payload
  whole_good (switch_all n b) = switches_good n b
  whole_good (read_count p) = read_good p
  whole_good (clear_count p) = clear_good p

  pub event_good : (e : Event) → EventBytes e → Good image (after_event image e m)
  unfolding after_event
  event_good (on k e) b = own_good image m k e b g
  event_good (on_whole e) b = whole_good e
