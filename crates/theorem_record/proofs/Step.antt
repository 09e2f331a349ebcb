-- ONE ENTRY REPLAYED: of an entry that was recorded so, the ticks and the event are run, and today's answer is the recorded one.
use Rattle.std.proofs.Common.{Result, Ok}
use Prim.Native.Nat.{ℕ, ◌≤◌}
use mathlib.Core.Path.{◌≡◌, refl, sym, ap, ap₂, ◌∙◌}
use mathlib.Core.Bool.{Bool, true, false, cond, false≢true}
use mathlib.Core.List.{List, [], ◌++◌}
use native.Mathlib.Omega.{arith}
use borrow.Author.Tests.{le-ltb}
use lib.Dec.{ltb}
use lib.ListN.{length, take, drop, length-append}
use lib.Seq.{take-append_seam}
use Rattle.lists.proofs.Both.{and_both}
use Rattle.gate.specs.Lent.{Loan}
use Rattle.event_decode.specs.Calls.{call_of}
use Rattle.event_answer.specs.declared.NoAnswer.TheVariants as Said
use Rattle.event_answer.specs.Answers.{Effect, room}
use Rattle.dispatch.specs.Dispatch.{dispatch_of}
use Rattle.model_refines.specs.Machine.{Machine, loan_to}
use Rattle.model_refines.specs.Run.{after_run}
use Rattle.dispatch_refines.specs.Spelt.{events_of, Spoken, spelt_by, machine_of}
use Rattle.dispatch_refines.proofs.Event.{dispatched_events}
use Rattle.dispatch_refines.proofs.Ticks.{ticks-run}
use Rattle.dispatch_refines.proofs.Answer.{event-answered, answer-named}
use Rattle.recording.specs.declared.Fault.{Fault}
use Rattle.recording.specs.Recording.{number_in, body_long, distance_in, stamps}
use Rattle.recording.specs.Entry.{is_spelt, answer_fits, body_fits, fault_of}
use Rattle.replay_step.specs.declared.Unplayed.{Unplayed}
use Rattle.replay_step.specs.declared.Compared.{Compared}
use Rattle.replay_step.specs.declared.Compared.TheVariants.{Same}
use Rattle.replay_step.proofs.Same.{same_self}
use Rattle.replay_step.specs.Step.{Stepped, played_by, told_beside, ticked_by, then_happens, unless_fault, entered, entry_step}
use Rattle.theorem_record.specs.Record.{Noted, note_body, note_row, Notable}
use Rattle.theorem_record.specs.Again.{after_ticks, after_note, answer_to}
use Rattle.theorem_record.proofs.Numbers.{arguments-in, answer-in}
use Rattle.theorem_record.proofs.Answers.{answer-fits}
use Rattle.theorem_record.proofs.Back.{stamp_back, number_back, zero_back, long_back}
use Rattle.event_answer.specs.Answers.{Verdict}

-- what a step leaves
abbrev pub stepped_to : Result Compared Unplayed → Machine → List ℕ → Stepped
stepped_to p m out = record { played = p; state = m.state; rx = m.rx; tx = m.tx; out = out }

-- the recorded answer at the front of the out buffer
played-same : (a behind : List ℕ) → played_by (Ok (length a)) (a ++ behind) a ≡ Ok (Same (length a))
unfolding played_by
played-same a behind = rw (take-append_seam a behind, same_self a) refl

module _ (image : List ℕ) (m : Machine) (out : List ℕ) (long : room ≤ length out) (e : Noted) (n : Notable e) where
  -- THE EVENT, beside its answer
  module _ (is : e.answer ≡ answer_to image e.number e.arguments m) where
    abbrev spoken : Spoken
    spoken = record { number = e.number; body = e.arguments; out = out }

    abbrev happened : Effect
    happened = dispatch_of (loan_to image m) out e.number e.arguments

    verdict-is : happened.verdict ≡ Ok (length e.answer)
    unfolding is_spelt
    verdict-is =
        event-answered image m spoken long (λ u. false≢true (sym (ap is_spelt u) ∙ n.spells)) (λ u. false≢true (sym (ap is_spelt u) ∙ n.spells))
        ∙ ap (λ (l : List ℕ). Ok (length l)) (sym is)

    out-is : happened.out ≡ e.answer ++ drop (length e.answer) out
    out-is = (answer-named image m spoken (length e.answer) verdict-is).1 ∙ ap (λ (l : List ℕ). l ++ drop (length e.answer) out) (sym is)

    machine-is : machine_of happened ≡ after_note image e.number e.arguments m
    unfolding spelt_by
    machine-is =
        dispatched_events image m spoken
        ∙ ap (λ (b : Bool). after_run image m (cond b [] (events_of e.arguments (call_of e.number e.arguments)))) (le-ltb (length out) room long)

    told_same : told_beside e.answer happened
        ≡ stepped_to (Ok (Same (length e.answer))) (after_note image e.number e.arguments m) (e.answer ++ drop (length e.answer) out)
    told_same =
        ap (λ (v : Verdict). stepped_to (played_by v happened.out e.answer) (machine_of happened) happened.out) verdict-is
        ∙ ap₂ (λ (x : Machine) (o : List ℕ). stepped_to (played_by (Ok (length e.answer)) o e.answer) x o) machine-is out-is
        ∙ ap (λ (p : Result Compared Unplayed). stepped_to p (after_note image e.number e.arguments m) (e.answer ++ drop (length e.answer) out))
        (played-same e.answer (drop (length e.answer) out))

-- AN ENTRY of a recording
module _ (image : List ℕ) (m : Machine) (out : List ℕ) (long : room ≤ length out) (before : ℕ) (e : Noted) (n : Notable e)
    (near : distance_in stamps before e.stamp ≤ 65535) where
  abbrev ticks : ℕ
  ticks = distance_in stamps before e.stamp

  abbrev later : Machine
  later = after_ticks image ticks m

  later_lent : ticked_by (loan_to image m) out ticks ≡ loan_to image later
  later_lent = ap (loan_to image) (ticks-run image m.rx m.tx m.state ticks)

  module _ (is : e.answer ≡ answer_to image e.number e.arguments later) where
    body-fits : body_fits e.number (note_body e) ≡ true
    unfolding body_fits
    body-fits =
        and_both
        (ap (λ (l : List ℕ). is_spelt (call_of e.number l)) (arguments-in e.number e.arguments e.answer n.event n.spells) ∙ n.spells)
        (ap (answer_fits e.number) (answer-in e.number e.arguments e.answer n.event n.spells ∙ is)
        ∙ answer-fits e.number n.event (loan_to image later) e.arguments n.bytes n.spells)

    -- no fault
    fault_none : fault_of ticks (note_row e) (note_body e) ≡ Ok tt
    unfolding fault_of
    fault_none =
        rw (le-ltb 65535 ticks near, number_back e n, n.event, zero_back e, body-fits) refl

    happens-same : then_happens (loan_to image m) out ticks e.number (note_body e)
        ≡ stepped_to (Ok (Same (length e.answer))) (after_note image e.number e.arguments later) (e.answer ++ drop (length e.answer) out)
    happens-same =
        ap₂ (λ (a g : List ℕ). told_beside a (dispatch_of (ticked_by (loan_to image m) out ticks) out e.number g))
        (answer-in e.number e.arguments e.answer n.event n.spells) (arguments-in e.number e.arguments e.answer n.event n.spells)
        ∙ ap (λ (l : Loan). told_beside e.answer (dispatch_of l out e.number e.arguments)) later_lent
        ∙ told_same image later out long e n is

    entered-same : entered (loan_to image m) out ticks (note_row e) (note_body e)
        ≡ stepped_to (Ok (Same (length e.answer))) (after_note image e.number e.arguments later) (e.answer ++ drop (length e.answer) out)
    unfolding entered unless_fault
    entered-same =
        ap (λ (f : Result Unit Fault). unless_fault (loan_to image m) out f ticks (number_in (note_row e)) (note_body e)) fault_none
        ∙ ap (λ (k : ℕ). then_happens (loan_to image m) out ticks k (note_body e)) (number_back e n)
        ∙ happens-same

    pub step_same : (rest : List ℕ) → entry_step (loan_to image m) out before (note_row e) (note_body e ++ rest)
        ≡ stepped_to (Ok (Same (length e.answer))) (after_note image e.number e.arguments later) (e.answer ++ drop (length e.answer) out)
    unfolding entry_step
    step_same rest =
        let there : ltb (length (note_body e ++ rest)) (body_long (note_row e)) ≡ false =
        le-ltb (length (note_body e ++ rest)) (body_long (note_row e)) (omega (arith, long_back e n, length-append (note_body e) rest)) in
        let body : take (body_long (note_row e)) (note_body e ++ rest) ≡ note_body e =
        ap (λ (k : ℕ). take k (note_body e ++ rest)) (long_back e n) ∙ take-append_seam (note_body e) rest in
        rw (le-ltb (length out) room long, there)
        (ap₂ (λ (s : ℕ) (b : List ℕ). entered (loan_to image m) out (distance_in stamps before s) (note_row e) b) (stamp_back e n) body ∙ entered-same)
