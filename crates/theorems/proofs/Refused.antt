-- DEMAND 1, of any table, state and memory: where the gate refuses, it is by 11 or 12 as R4.3 says; every event of a run is answered
-- that number, and leaves state and lent memory as they were. So from any machine of sixteen records a run passes the gate and keeps it
-- good, or is refused throughout and leaves it as it is.
use Rattle.std.proofs.Common.{Result, Ok, Err}
use Prim.Native.Nat.{ℕ}
use mathlib.Core.Path.{◌≡◌, refl, sym, ap, ap₂, ◌∙◌, subst}
use mathlib.Core.Bool.{Bool, true, false, cond, not, ◌||◌, false≢true}
use mathlib.Core.List.{List, [], ◌∷◌, map}
use lib.Dec.{eqb}
use lib.ListN.{length}
use borrow.Author.Tests.{eqb-true, eqb-false}
use Rattle.connection.specs.declared.Refusal.{Refusal}
use Rattle.connection.specs.declared.Refusal.TheVariants.{Memory, Unsound}
use Rattle.connection.specs.Event.{refusal_number}
use Rattle.state.specs.declared.State.{State}
use Rattle.state.specs.Fresh.{config_of}
use Rattle.gate.specs.Gate.{gate_of, gate_at}
use Rattle.gate.specs.Sound.{sound_state}
use Rattle.gate.proofs.Pass.{gate_passed}
use Rattle.entry_events.specs.Change.{event_of}
use Rattle.entry_events.specs.Module.{switch_all_of}
use Rattle.entry_events.specs.Count.{read_of, clear_of}
use Rattle.entry_ticks.specs.Tick.{tick_event}
use Rattle.entry_arrivals.specs.Arrivals.{arrival_of}
use Rattle.entry_receive.specs.Answer.{is_done, judged_answer}
use Rattle.entry_receive.specs.Segment.{segment_of}
use Rattle.entry_receive.specs.Walk.{walk_allowed, walk_of}
use Rattle.entry_send.specs.Sending.{send_of, sent_memory, taken_waiting}
use Rattle.model.specs.Events.{Own, change, segment, walk, take_waiting, Whole, datagram, accept}
use Rattle.model.specs.Events.{tick, transmit, switch_all, read_count, clear_count, Event, on, on_whole}
use Rattle.model_runs.specs.Streams.{RunBytes}
use Rattle.model_refines.specs.Machine.{Machine, lent_to}
use Rattle.model_refines.specs.Run.{after_own, after_whole, after_event, after_run}
use Rattle.model_refines.proofs.Segments.{no_segment}
use Rattle.theorems.specs.Numbers.{number_of, numbers_in}
use Rattle.theorems.specs.Refused.{gate_here, Shut, other_length, not_sound, Run, keeps_good, leaves_all}
use Rattle.theorems.proofs.Runs.{run_good}

module _ (image : List ℕ) (m : Machine) (r : Refusal) (shut : gate_here image m ≡ Err r) where
  abbrev s : State
  s = m.state

  abbrev rx : ℕ
  rx = length m.rx

  abbrev tx : ℕ
  tx = length m.tx

  -- at the gate with a connection's number
  shut_at : (k : ℕ) → gate_at (lent_to image m) k ≡ Err r
  unfolding gate_at
  shut_at k = rw shut

  not_done : (k : ℕ) (allowed : Bool) → is_done (judged_answer (lent_to image m) k allowed) ≡ false
  unfolding judged_answer
  not_done k allowed = rw (shut_at k)

  own-stays : (k : ℕ) (e : Own) → after_own image k e m ≡ m
  unfolding after_own event_of walk_of taken_waiting
  own-stays k (change e) = rw (shut_at k)
  own-stays k (segment bs) = no_segment image m k bs (not_done k (config_of image k).tcp)
  own-stays k (walk d p) = rw (not_done k (walk_allowed image k d p))
  own-stays k (take_waiting room) = rw (shut_at k)

  whole-stays : (e : Whole) → after_whole image e m ≡ m
  unfolding after_whole arrival_of tick_event send_of sent_memory switch_all_of read_of clear_of
  whole-stays (datagram group source) = rw shut
  whole-stays (accept group source) = rw shut
  whole-stays tick = rw shut
  whole-stays (transmit pdu payload) = rw shut
  whole-stays (switch_all n b) = rw shut
  whole-stays (read_count p) = rw shut
  whole-stays (clear_count p) = rw shut

  -- ANY EVENT
  pub event-stays : (e : Event) → after_event image e m ≡ m
  unfolding after_event
  event-stays (on k e) = own-stays k e
  event-stays (on_whole e) = whole-stays e

  -- ANY RUN
  pub run-stays : (es : List Event) → after_run image m es ≡ m
  unfolding after_run
  run-stays [] = refl
  run-stays (e ∷ es) = ap (λ (n : Machine). after_run image n es) (event-stays e) ∙ run-stays es

  -- ITS ANSWER: the gate's
  own-refused : (k : ℕ) (e : Own) → number_of image m (on k e) ≡ refusal_number r
  unfolding event_of segment_of walk_of taken_waiting judged_answer
  own-refused k (change e) = rw (shut_at k)
  own-refused k (segment bs) = rw (shut_at k)
  own-refused k (walk d p) = rw (shut_at k)
  own-refused k (take_waiting room) = rw (shut_at k)

  whole-refused : (e : Whole) → number_of image m (on_whole e) ≡ refusal_number r
  unfolding arrival_of tick_event send_of switch_all_of read_of clear_of
  whole-refused (datagram group source) = rw shut
  whole-refused (accept group source) = rw shut
  whole-refused tick = rw shut
  whole-refused (transmit pdu payload) = rw shut
  whole-refused (switch_all n b) = rw shut
  whole-refused (read_count p) = rw shut
  whole-refused (clear_count p) = rw shut

  pub event-refused : (e : Event) → number_of image m e ≡ refusal_number r
  event-refused (on k e) = own-refused k e
  event-refused (on_whole e) = whole-refused e

  pub run-refused : (es : List Event) → numbers_in image m es ≡ map (λ (e : Event). refusal_number r) es
  unfolding numbers_in
  run-refused [] = refl
  run-refused (e ∷ es) =
      ap₂ (λ (n : ℕ) (ns : List ℕ). n ∷ ns) (event-refused e) (ap (λ (n : Machine). numbers_in image n es) (event-stays e) ∙ run-refused es)

  -- WHICH NUMBER: 11 where a memory has another length, else 12
  abbrev number_at : Result Unit Refusal → ℕ
  number_at (Ok tt) = 0
  number_at (Err q) = refusal_number q

  abbrev passing : Result Unit Refusal → Bool
  passing (Ok tt) = true
  passing (Err q) = false

  pub shut_by : Shut image m (refusal_number r)
  unfolding gate_of
  shut_by = go (eqb rx 23424) refl (eqb tx 23552) refl (sound_state image s) refl shut
    where
      go : (a : Bool) → eqb rx 23424 ≡ a → (b : Bool) → eqb tx 23552 ≡ b → (d : Bool) → sound_state image s ≡ d
          → ◌≡◌ {A = Result Unit Refusal} (cond (not a || not b) (Err Memory) (cond d (Ok tt) (Err Unsound))) (Err r) → Shut image m (refusal_number r)
      go false p b q d o e = subst (Shut image m) (ap number_at e) (other_length (λ h. eqb-false rx 23424 p h.0))
      go true p false q d o e = subst (Shut image m) (ap number_at e) (other_length (λ h. eqb-false tx 23552 q h.1))
      go true p true q true o e = absurd (false≢true (sym (ap passing e)))
      go true p true q false o e = subst (Shut image m) (ap number_at e) (not_sound (eqb-true rx 23424 p) (eqb-true tx 23552 q) o)

-- FROM ANY TABLE, STATE AND MEMORY
pub any_run : (image : List ℕ) (m : Machine) (es : List Event) → RunBytes es → length m.state.connections ≡ 16 → Run image m es
any_run image m es b n = go (gate_here image m) refl
  where
    go : (g : Result Unit Refusal) → gate_here image m ≡ g → Run image m es
    go (Ok tt) e = keeps_good e (run_good image m es b (record { passed = gate_passed (lent_to image m) e; sixteen = n }))
    go (Err r) e = leaves_all r e (run-refused image m r e es) (run-stays image m r e es)
