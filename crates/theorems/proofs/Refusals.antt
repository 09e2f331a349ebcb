-- R4.7, a refusal changes neither state nor lent memory: of every event, and of many ticks under one check,
-- from any table, state and memory.
use Rattle.std.proofs.Common.{Result, Ok, Err, Option, ℕ, Some, None}
use Prim.Native.Nat.{ℕ}
use mathlib.Core.Path.{◌≡◌, refl, ap, ◌∙◌}
use mathlib.Core.Bool.{Bool, true, false, cond, or-true}
use mathlib.Core.List.{List}
use lib.Dec.{eqb, leb, ltb}
use lib.ListN.{length, replicate}
use Rattle.table_layout.specs.Layout.{rows_of}
use Rattle.table_layout.specs.declared.Kind.TheVariants.{Connection as Connections, Group}
use Rattle.connection.specs.declared.Connection.{Connection}
use Rattle.connection.specs.declared.Remote.{Remote}
use Rattle.connection.specs.declared.Refusal.TheVariants.{Missing, Denied}
use Rattle.connection.specs.declared.Event.{Event as Change}
use Rattle.connection.specs.Event.{answer_number, step_of}
use Rattle.state.specs.declared.State.{State}
use Rattle.state.specs.State.{record_at}
use Rattle.state.specs.Fresh.{config_of}
use Rattle.gate.specs.Gate.{gate_of, gate_at, through}
use Rattle.entry_events.specs.declared.Told.{Told}
use Rattle.entry_events.specs.declared.Counted.{Counted}
use Rattle.entry_events.specs.Change.{refused_told, told_of, change_of, event_of}
use Rattle.entry_events.specs.Module.{switched_all, switch_all_of}
use Rattle.entry_events.specs.Count.{count_number, of_protocol, read_from, clear_from, uncounted, read_past, clear_past, read_of, clear_of}
use Rattle.entry_ticks.specs.declared.Ticked.{Ticked}
use Rattle.entry_ticks.specs.Tick.{ticked_to, ticks_to, unticked, ticked_from, tick_event, ticks_event}
use Rattle.select.specs.declared.Arrived.{Arrived}
use Rattle.select.specs.Choose.{arrival_number, meet, arrival_refused as not_met, denied_of, chosen_in, arrive_of}
use Rattle.entry_arrivals.specs.Arrivals.{arrival_of}
use Rattle.entry_receive.specs.Answer.{receive_number, is_done}
use Rattle.entry_receive.specs.Segment.{take_on, segment_answer, segment_of}
use Rattle.entry_receive.specs.Walk.{walk_on, none_walked, walk_answer, walk_of}
use Rattle.send.specs.declared.NotSent.TheVariants as Sent
use Rattle.send.specs.Verdict.{transmission_number, is_stored}
use Rattle.send.specs.Send.{Sending, sending, check_of, transmit_of, transmitted_of}
use Rattle.send_waiting.specs.Waiting.{taking_number, taking_of, take_of}
use Rattle.entry_send.specs.declared.Taken.{Taken}
use Rattle.entry_send.specs.Sending.{not_sent, send_of, sent_memory, not_taken, take_past, taken_waiting}
use Rattle.model.specs.Events.{change, segment, walk, take_waiting, datagram, accept, tick, transmit, switch_all, read_count, clear_count, Event, on, on_whole}
use Rattle.model_refines.specs.Machine.{Machine, lent_to, loan_to, machine, taken, after_segment}
use Rattle.model_refines.specs.Run.{after_own, after_whole, after_event}
use Rattle.theorems.specs.Numbers.{number_of}
use Rattle.state.proofs.Records.{put_back}
use Rattle.law_keeps.proofs.Past.{past_or}
use Rattle.model_refines.proofs.Segments.{no_segment}
use Rattle.connection.specs.declared.Refusal.{Refusal}
use Rattle.send.specs.declared.NotSent.{NotSent}

module _ (image : List ℕ) (m : Machine) where
  abbrev s : State
  s = m.state

  -- an answer that refuses comes with the state as it was
  abbrev StaysTold : Told → Type 0
  StaysTold a = (answer_number a.answer ≡ 0 → ⊥) → a.state ≡ s

  abbrev StaysTaken : Taken → Type 0
  StaysTaken a = (taking_number a.answer ≡ 0 → ⊥) → a.state ≡ s

  abbrev StaysArrived : Arrived → Type 0
  StaysArrived a = (arrival_number a.answer ≡ 0 → ⊥) → a.state ≡ s

  abbrev StaysTicked : Ticked → Type 0
  StaysTicked a = (answer_number a.answer ≡ 0 → ⊥) → a.state ≡ s

  abbrev StaysCounted : Counted → Type 0
  StaysCounted a = (count_number a.answer ≡ 0 → ⊥) → a.state ≡ s

  told_stays : (k : ℕ) (a : Result Unit Refusal) (c : Connection) → (answer_number a ≡ 0 → ⊥) → (told_of s k a c).state ≡ s
  unfolding told_of
  told_stays k (Ok tt) c no_zero = absurd (no_zero refl)
  told_stays k (Err r) c no_zero = refl

  told_answer : (k : ℕ) (a : Result Unit Refusal) (c : Connection) → (told_of s k a c).answer ≡ a
  unfolding told_of
  told_answer k (Ok tt) c = refl
  told_answer k (Err r) c = refl

  change-stays : (k : ℕ) (e : Change) → StaysTold (event_of (lent_to image m) k e)
  unfolding event_of change_of
  change-stays k e =
      past_or StaysTold (gate_at (lent_to image m) k) (refused_told s) (change_of image s k e) (λ r no_zero. refl)
      (λ _ no_zero. told_stays k a c (λ z. no_zero (ap answer_number (told_answer k a c) ∙ z)))
    where
      a : Result Unit Refusal
      a = (step_of e (config_of image k) (record_at s k)).answer

      c : Connection
      c = (step_of e (config_of image k) (record_at s k)).connection

  -- a take, a walk: nothing is made that is refused
  refused-take : (k : ℕ) (bs : List ℕ) → (receive_number (taken image k m bs).answer ≡ 0 → ⊥) → is_done (segment_answer (lent_to image m) k) ≡ false
  unfolding segment_of take_on
  refused-take k bs no_zero = go (is_done (segment_answer (lent_to image m) k)) refl
    where
      go : (b : Bool) → is_done (segment_answer (lent_to image m) k) ≡ b → is_done (segment_answer (lent_to image m) k) ≡ false
      go true e = absurd (no_zero (rw e))
      go false e = e

  segment-stays : (k : ℕ) (bs : List ℕ) → (receive_number (taken image k m bs).answer ≡ 0 → ⊥) → after_segment image k m bs ≡ m
  segment-stays k bs no_zero = no_segment image m k bs (refused-take k bs no_zero)

  walk-stays : (k : ℕ) (d : List ℕ) (p : ℕ) → (receive_number (walk_of (lent_to image m) k d p).answer ≡ 0 → ⊥) → (walk_of (lent_to image m) k d p).state ≡ s
  unfolding walk_of walk_on
  walk-stays k d p = go (is_done (walk_answer (lent_to image m) k d p))
    where
      go : (b : Bool) → (receive_number (cond b (walk_on image s k d p) (none_walked s p (walk_answer (lent_to image m) k d p))).answer ≡ 0 → ⊥)
          → (cond b (walk_on image s k d p) (none_walked s p (walk_answer (lent_to image m) k d p))).state ≡ s
      go true no_zero = absurd (no_zero refl)
      go false no_zero = refl

  -- the waiting bytes: an out buffer that is too short
  take-stays : (k room : ℕ) → StaysTaken (take_past image s k room)
  unfolding taking_of take_of
  take-stays k room = go (ltb room (record_at s k).used) refl
    where
      go : (b : Bool) → ltb room (record_at s k).used ≡ b → StaysTaken (take_past image s k room)
      go true e no_zero = rw (e, or-true (eqb (record_at s k).used 0)) (put_back s k)
      go false e no_zero = absurd (no_zero (rw e))

  taken-stays : (k : ℕ) (out : List ℕ) → StaysTaken (taken_waiting (loan_to image m) k out)
  unfolding taken_waiting
  taken-stays k out =
      past_or StaysTaken (gate_at (lent_to image m) k) (not_taken s) (take_past image s k (length out)) (λ r no_zero. refl)
      (λ _. take-stays k (length out))

  -- a datagram, an accept
  arrive_stays : (a : Bool) (group : ℕ) (source : Remote) → StaysArrived (arrive_of image s a group source)
  unfolding arrive_of
  arrive_stays a group source = go (leb (rows_of image Group) group) (denied_of image a group source) (chosen_in image s a group source)
    where
      go : (x y : Bool) (c : Option ℕ) → StaysArrived (cond x (not_met s Missing) (cond y (not_met s Denied) (meet image s source c)))
      go true y c no_zero = refl
      go false true c no_zero = refl
      go false false None no_zero = refl
      go false false (Some k) no_zero = absurd (no_zero refl)

  arrival_stays : (a : Bool) (group : ℕ) (source : Remote) → StaysArrived (arrival_of (lent_to image m) a group source)
  unfolding arrival_of
  arrival_stays a group source =
      past_or StaysArrived (gate_of (lent_to image m)) (not_met s) (arrive_of image s a group source) (λ r no_zero. refl) (λ _. arrive_stays a group source)

  tick-stays : StaysTicked (tick_event (lent_to image m))
  unfolding tick_event
  tick-stays =
      past_or StaysTicked (gate_of (lent_to image m)) (unticked s) (ticked_from (rows_of image Connections) s (ticked_to image (rows_of image Connections) s))
      (λ r no_zero. refl) (λ _ no_zero. absurd (no_zero refl))

  -- many under one check, which are no event of a run: they write no lent memory
  pub ticks-stays : (count : ℕ) → (answer_number (ticks_event (lent_to image m) count).answer ≡ 0 → ⊥)
      → (ticks_event (lent_to image m) count).state ≡ m.state
  unfolding ticks_event
  ticks-stays count =
      past_or StaysTicked (gate_of (lent_to image m)) (unticked s)
      (ticked_from (rows_of image Connections) s (ticks_to image (rows_of image Connections) count s))
      (λ r no_zero. refl) (λ _ no_zero. absurd (no_zero refl))

  switches_stay : (n : ℕ) (b : Bool) → StaysTold (switch_all_of (lent_to image m) n b)
  unfolding switch_all_of
  switches_stay n b =
      past_or StaysTold (gate_of (lent_to image m)) (refused_told s)
      (cond (ltb n 32) (record { answer = Ok tt; state = switched_all (rows_of image Connections) n b s }) (refused_told s Missing))
      (λ r no_zero. refl) (λ _. go (ltb n 32))
    where
      go : (x : Bool) → StaysTold (cond x (record { answer = Ok tt; state = switched_all (rows_of image Connections) n b s }) (refused_told s Missing))
      go true no_zero = absurd (no_zero refl)
      go false no_zero = refl

  -- a count: read it never changes the state; cleared it does, where it is not refused
  count-stays : (f : Bool → Counted) → ((b : Bool) → count_number (f b).answer ≡ 0) → (p : ℕ)
      → StaysCounted (through (gate_of (lent_to image m)) (uncounted s) (of_protocol f (uncounted s Denied) p))
  unfolding of_protocol
  count-stays f zero p =
      past_or StaysCounted (gate_of (lent_to image m)) (uncounted s) (of_protocol f (uncounted s Denied) p) (λ r no_zero. refl) (λ _. go (eqb p 1) (eqb p 2))
    where
      go : (x y : Bool) → StaysCounted (cond x (f false) (cond y (f true) (uncounted s Denied)))
      go true y no_zero = absurd (no_zero (zero false))
      go false true no_zero = absurd (no_zero (zero true))
      go false false no_zero = refl

  read_stays : (p : ℕ) → StaysCounted (read_of (lent_to image m) p)
  unfolding read_of read_past
  read_stays p = count-stays (read_from s) (λ b. refl) p

  clear_stays : (p : ℕ) → StaysCounted (clear_of (lent_to image m) p)
  unfolding clear_of clear_past
  clear_stays p = count-stays (clear_from s) (λ b. refl) p

  -- a transmit: nothing is stored anywhere
  not_stored : (a : Result Unit NotSent) → (transmission_number a ≡ 0 → ⊥) → is_stored a ≡ false
  not_stored (Ok tt) no_zero = absurd (no_zero refl)
  not_stored (Err (Sent.Refused r)) no_zero = refl
  not_stored (Err Sent.NoDestination) no_zero = refl
  not_stored (Err Sent.SwitchedOff) no_zero = refl
  not_stored (Err (Sent.RefusedAt n d)) no_zero = refl

  nothing-sent : (pdu : ℕ) (payload : List ℕ) → (transmission_number (check_of image s pdu (length payload)) ≡ 0 → ⊥)
      → transmit_of image s pdu payload m.tx ≡ sending s m.tx
  unfolding transmit_of
  nothing-sent pdu payload no_zero = rw (not_stored (check_of image s pdu (length payload)) no_zero)

  transmit-stays : (pdu : ℕ) (payload : List ℕ) → (transmission_number (send_of (loan_to image m) pdu payload).answer ≡ 0 → ⊥)
      → machine (send_of (loan_to image m) pdu payload).state m.rx (sent_memory (loan_to image m) pdu payload) ≡ m
  unfolding send_of sent_memory
  transmit-stays pdu payload = go (gate_of (lent_to image m))
    where
      go : (g : Result Unit Refusal) → (transmission_number (through g (not_sent s) (transmitted_of image s pdu payload m.tx)).answer ≡ 0 → ⊥)
          → machine (through g (not_sent s) (transmitted_of image s pdu payload m.tx)).state
          m.rx (through g (λ r. m.tx) (transmit_of image s pdu payload m.tx).memory) ≡ m
      go (Ok tt) no_zero = ap (λ (x : Sending). machine x.state m.rx x.memory) (nothing-sent pdu payload no_zero)
      go (Err r) no_zero = refl

  -- EVERY EVENT
  pub refusal-stays : (e : Event) → (number_of image m e ≡ 0 → ⊥) → after_event image e m ≡ m
  unfolding after_event after_own after_whole
  refusal-stays (on k (change e)) no_zero = ap (λ (t : State). machine t m.rx m.tx) (change-stays k e no_zero)
  refusal-stays (on k (segment bs)) no_zero = segment-stays k bs no_zero
  refusal-stays (on k (walk d p)) no_zero = ap (λ (t : State). machine t m.rx m.tx) (walk-stays k d p no_zero)
  refusal-stays (on k (take_waiting room)) no_zero = ap (λ (t : State). machine t m.rx m.tx) (taken-stays k (replicate room 0) no_zero)
  refusal-stays (on_whole (datagram group source)) no_zero = ap (λ (t : State). machine t m.rx m.tx) (arrival_stays false group source no_zero)
  refusal-stays (on_whole (accept group source)) no_zero = ap (λ (t : State). machine t m.rx m.tx) (arrival_stays true group source no_zero)
  refusal-stays (on_whole tick) no_zero = ap (λ (t : State). machine t m.rx m.tx) (tick-stays no_zero)
  refusal-stays (on_whole (transmit pdu payload)) no_zero = transmit-stays pdu payload no_zero
  refusal-stays (on_whole (switch_all n b)) no_zero = ap (λ (t : State). machine t m.rx m.tx) (switches_stay n b no_zero)
  refusal-stays (on_whole (read_count p)) no_zero = ap (λ (t : State). machine t m.rx m.tx) (read_stays p no_zero)
  refusal-stays (on_whole (clear_count p)) no_zero = ap (λ (t : State). machine t m.rx m.tx) (clear_stays p no_zero)
