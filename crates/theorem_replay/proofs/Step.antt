-- A STEP (R17.3): of an entry that is cut or has a fault nothing is run; of any other its ticks and then its event, with today's answer at
-- the front of the out buffer, beside the recorded one.
use Rattle.std.proofs.Common.{Result, Ok, Err}
use Prim.Native.Nat.{ℕ, ◌<◌, ◌≤◌}
use mathlib.Core.Path.{◌≡◌, refl, sym, ap, ap₂, ◌∙◌, subst}
use mathlib.Core.Bool.{Bool, true, false, cond, not, false≢true}
use mathlib.Core.List.{List, [], ◌∷◌, ◌++◌}
use native.Mathlib.Omega.{arith}
use borrow.Author.Tests.{le-ltb, lt-ltb, ltb-false}
use lib.Dec.{eqb, ltb}
use lib.ListN.{length, take, drop}
use lib.Seq.{take-append_seam}
use Rattle.lists.proofs.Both.{and_left, impossible}
use Rattle.event_decode.specs.declared.Call.{Call}
use Rattle.event_decode.specs.declared.BadCall.{BadCall}
use Rattle.event_decode.specs.declared.BadCall.TheVariants.{Unknown, Unfit}
use Rattle.event_decode.specs.Calls.{call_of}
use Rattle.event_answer.specs.declared.NoAnswer.TheVariants as Said
use Rattle.event_answer.specs.Answers.{room}
use Rattle.dispatch.specs.Dispatch.{dispatch_of}
use Rattle.dispatch.specs.Whole.{StandsWhole, answer, unknown, unfit, small}
use Rattle.dispatch.proofs.Whole.{answer-whole}
use Rattle.recording.specs.declared.Fault.{Fault}
use Rattle.recording.specs.declared.Fault.TheVariants.{FarStamp, NoEvent, ZeroField, Misfit}
use Rattle.recording.specs.Recording.{stamp_in, number_in, zero_in, body_long, distance_in, stamps}
use Rattle.recording.specs.Entry.{is_recorded, arguments_in, answer_in, is_spelt, answer_fits, body_fits, fault_of}
use Rattle.replay_step.specs.declared.Unplayed.{Unplayed}
use Rattle.replay_step.specs.declared.Unplayed.TheVariants.{Small, Cut, Refused}
use Rattle.replay_step.specs.declared.Compared.TheVariants.{Same, Differs}
use Rattle.replay_step.specs.Step.{same_bytes, Stepped, played_by, told_beside, unplayed, then_happens, unless_fault, entered, entry_step}
use Rattle.model.specs.Events.{Event}
use Rattle.model_refines.specs.Machine.{Machine, loan_to}
use Rattle.model_refines.specs.Run.{after_event, after_run}
use Rattle.dispatch_refines.specs.Spelt.{events_of, Spoken, spelt_by}
use Rattle.dispatch_refines.specs.Answer.{answer_of, answer_by}
use Rattle.dispatch_refines.proofs.Ticks.{ticks-run}
use Rattle.dispatch_refines.proofs.Event.{dispatched_events}
use Rattle.dispatch_refines.proofs.Answer.{answer-named, event-answered}
use Rattle.theorem_replay.specs.Entries.{is_nothing, tick_events}
use Rattle.theorem_replay.specs.Runs.{machine_stepped, compared_to, StepRuns}
use Rattle.event_answer.specs.Answers.{Verdict}

-- AN ENTRY WITHOUT A FAULT has a distance of 65,535 at most, and a body that fits
pub no_fault-is : (distance : ℕ) (row body : List ℕ) → fault_of distance row body ≡ Ok tt → (distance ≤ 65535) × (body_fits (number_in row) body ≡ true)
unfolding fault_of is_nothing
no_fault-is distance row body e =
    go (ltb 65535 distance) refl (not (is_recorded (number_in row))) (not (eqb (zero_in row) 0)) (body_fits (number_in row) body) e
  where
    go : (a : Bool) → ltb 65535 distance ≡ a → (b c d : Bool)
        → cond a (Err FarStamp) (cond b (Err NoEvent) (cond c (Err ZeroField) (cond (not d) (Err Misfit) (Ok (tt {0}))))) ≡ Ok (tt {0})
        → (distance ≤ 65535) × (d ≡ true)
    go true f b c d h = impossible (ap is_nothing h)
    go false f true c d h = impossible (ap is_nothing h)
    go false f false true d h = impossible (ap is_nothing h)
    go false f false false true h = (ltb-false 65535 distance f, refl)
    go false f false false false h = impossible (ap is_nothing h)

no_fault-spells : (distance : ℕ) (row body : List ℕ) → fault_of distance row body ≡ Ok tt
    → is_spelt (call_of (number_in row) (arguments_in (number_in row) body)) ≡ true
unfolding body_fits
no_fault-spells distance row body e =
    and_left (is_spelt (call_of (number_in row) (arguments_in (number_in row) body))) (answer_fits (number_in row) (answer_in (number_in row) body))
    (no_fault-is distance row body e).1

spelt-known : (c : Result Call BadCall) → is_spelt c ≡ true → c ≡ Err Unknown → ⊥
unfolding is_spelt
spelt-known c s e = false≢true (ap is_spelt (sym e) ∙ s)

spelt-fits : (c : Result Call BadCall) → is_spelt c ≡ true → c ≡ Err Unfit → ⊥
unfolding is_spelt
spelt-fits c s e = false≢true (ap is_spelt (sym e) ∙ s)

pub run-append : (image : List ℕ) (m : Machine) (es fs : List Event) → after_run image m (es ++ fs) ≡ after_run image (after_run image m es) fs
unfolding after_run
run-append image m [] fs = refl
run-append image m (e ∷ es) fs = run-append image (after_event image e m) es fs

abbrev written : Verdict → ℕ
written (Ok n) = n
written (Err Said.Unknown) = 0
written (Err Said.Unfit) = 0
written (Err Said.Small) = 0

answer-fits : {out : List ℕ} {v : Verdict} {after : List ℕ} → StandsWhole out v after → (n : ℕ) → v ≡ Ok n → n ≤ room
answer-fits (answer bytes h) n e = omega (arith, h, ap written e)
answer-fits unknown n e = omega (arith, ap written e)
answer-fits unfit n e = omega (arith, ap written e)
answer-fits small n e = omega (arith, ap written e)

module _ (image : List ℕ) (m : Machine) (out : List ℕ) (long : room ≤ length out) where
  -- an event that is spelt is answered
  module _ (number : ℕ) (arguments : List ℕ) (spelt : is_spelt (call_of number arguments) ≡ true) where
    abbrev said : Spoken
    said = record { number = number; body = arguments; out = out }

    abbrev today : List ℕ
    today = answer_by image m said

    spelt-answers : (dispatch_of (loan_to image m) out number arguments).verdict ≡ Ok (length today)
    spelt-answers =
        event-answered image m said long (spelt-known (call_of number arguments) spelt) (spelt-fits (call_of number arguments) spelt)

    answers-front : (dispatch_of (loan_to image m) out number arguments).out ≡ today ++ drop (length today) out
    answers-front = (answer-named image m said (length today) spelt-answers).1

    answers-fit : length today ≤ room
    answers-fit = answer-fits (answer-whole (loan_to image m) out number arguments) (length today) spelt-answers

    -- today's answer, beside a recorded one
    module _ (recorded : List ℕ) where
      abbrev beside : Stepped
      beside = told_beside recorded (dispatch_of (loan_to image m) out number arguments)

      event-compared : beside.played ≡ compared_to recorded today
      unfolding played_by compared_to
      event-compared =
          ap₂ (λ (v : Verdict) (o : List ℕ). played_by v o recorded) spelt-answers answers-front
          ∙ ap (λ (a : List ℕ). cond (same_bytes a recorded) (Ok (Same (length today))) (Ok (Differs (length today))))
          (take-append_seam today (drop (length today) out))

      event-left : machine_stepped beside ≡ after_run image m (events_of arguments (call_of number arguments))
      unfolding spelt_by
      event-left =
          dispatched_events image m said
          ∙ ap (λ (b : Bool). after_run image m (cond b [] (events_of arguments (call_of number arguments)))) (le-ltb (length out) room long)

-- AN ENTRY WITHOUT A FAULT IS ANSWERED, into an out buffer that has the room: neither Unknown nor Unfit nor Small comes of it
pub step-answers : (image : List ℕ) (m : Machine) (out : List ℕ) → room ≤ length out → (distance : ℕ) (row body : List ℕ) → fault_of distance row body ≡ Ok tt
    → (dispatch_of (loan_to image m) out (number_in row) (arguments_in (number_in row) body)).verdict
    ≡ Ok (length (answer_of (loan_to image m) (arguments_in (number_in row) body) (call_of (number_in row) (arguments_in (number_in row) body))))
step-answers image m out long distance row body e =
    spelt-answers image m out long (number_in row) (arguments_in (number_in row) body) (no_fault-spells distance row body e)

module _ (image : List ℕ) (m : Machine) (out : List ℕ) where
  abbrev none : Unplayed → Stepped
  none = unplayed (loan_to image m) out

  -- a refused entry leaves everything
  entered-refused : (distance : ℕ) (row body : List ℕ) (fault : Fault) → fault_of distance row body ≡ Err fault
      → entered (loan_to image m) out distance row body ≡ none (Refused fault)
  unfolding entered unless_fault
  entered-refused distance row body fault e =
      ap (λ (f : Result Unit Fault). unless_fault (loan_to image m) out f distance (number_in row) body) e

  -- any other runs its ticks and then its event
  module _ (long : room ≤ length out) where
    step-happens : (ticks number : ℕ) (body : List ℕ) → is_spelt (call_of number (arguments_in number body)) ≡ true
        → StepRuns image m out ticks number body (then_happens (loan_to image m) out ticks number body)
    step-happens ticks number body spelt =
        record {
          left =
              ap machine_stepped same ∙ event-left image later out long number arguments spelt recorded
              ∙ sym (run-append image m (tick_events ticks) (events_of arguments (call_of number arguments)));
          front = ap (λ (s : Stepped). s.out) same ∙ answers-front image later out long number arguments spelt;
          fits = answers-fit image later out long number arguments spelt;
          played = ap (λ (s : Stepped). s.played) same ∙ event-compared image later out long number arguments spelt recorded;
        }
      where
        arguments : List ℕ
        arguments = arguments_in number body

        recorded : List ℕ
        recorded = answer_in number body

        later : Machine
        later = after_run image m (tick_events ticks)

        same : then_happens (loan_to image m) out ticks number body ≡ told_beside recorded (dispatch_of (loan_to image later) out number arguments)
        same =
            ap (λ (n : Machine). told_beside recorded (dispatch_of (loan_to image n) out number arguments)) (ticks-run image m.rx m.tx m.state ticks)

    entered_runs : (distance : ℕ) (row body : List ℕ) → fault_of distance row body ≡ Ok tt
        → StepRuns image m out distance (number_in row) body (entered (loan_to image m) out distance row body)
    unfolding entered unless_fault
    entered_runs distance row body e =
        subst (λ (f : Result Unit Fault). StepRuns image m out distance (number_in row) body
        (unless_fault (loan_to image m) out f distance (number_in row) body))
        (sym e) (step-happens distance (number_in row) body (no_fault-spells distance row body e))

  -- THE TESTS OF A STEP: an out buffer that is too short; cut; refused; else run
  module _ (before : ℕ) (row rest : List ℕ) where
    abbrev step : Stepped
    step = entry_step (loan_to image m) out before row rest

    abbrev distance : ℕ
    distance = distance_in stamps before (stamp_in row)

    abbrev body : List ℕ
    body = take (body_long row) rest

    abbrev tested : Bool → Bool → Stepped
    tested short cut = cond short (none Small) (cond cut (none Cut) (entered (loan_to image m) out distance row body))

    pub step_small : length out < room → step ≡ none Small
    unfolding entry_step
    step_small short = ap (λ (b : Bool). tested b (ltb (length rest) (body_long row))) (lt-ltb (length out) room short)

    module _ (long : room ≤ length out) where
      past : (cut : Bool) → ltb (length rest) (body_long row) ≡ cut → step ≡ tested false cut
      unfolding entry_step
      past cut e = ap₂ tested (le-ltb (length out) room long) e

      pub step_cut : ltb (length rest) (body_long row) ≡ true → step ≡ none Cut
      step_cut c = past true c

      pub step-refused : ltb (length rest) (body_long row) ≡ false → (fault : Fault) → fault_of distance row body ≡ Err fault
          → step ≡ none (Refused fault)
      step-refused c fault e = past false c ∙ entered-refused distance row body fault e

      pub step_runs : ltb (length rest) (body_long row) ≡ false → fault_of distance row body ≡ Ok tt
          → StepRuns image m out distance (number_in row) body step
      step_runs c e = subst (StepRuns image m out distance (number_in row) body) (sym (past false c)) (entered_runs long distance row body e)
