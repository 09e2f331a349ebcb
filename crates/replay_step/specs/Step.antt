-- ONE ENTRY REPLAYED (R17.3): the tests in their order, then the ticks since the stamp before, then the event, whose answer is compared
-- with the recorded one, all bytes.
use Rattle.std.specs.Prelude.{ℕ, Bool, true, false, cond, ◌&&◌, List, [], ◌∷◌, eqb, ltb, length, take, Result, Ok, Err}
use Rattle.state.specs.declared.State.{State}
use Rattle.gate.specs.Lent.{Loan, loan, sizes}
use Rattle.entry_ticks.specs.Tick.{ticks_event}
use Rattle.event_answer.specs.declared.NoAnswer.{NoAnswer}
use Rattle.event_answer.specs.declared.NoAnswer.TheVariants as Said
use Rattle.event_answer.specs.Answers.{Verdict, Effect, room}
use Rattle.dispatch.specs.Dispatch.{dispatch_of}
use Rattle.recording.specs.declared.Fault.{Fault}
use Rattle.recording.specs.declared.Fault.TheVariants.{NoEvent, Misfit}
use Rattle.recording.specs.Recording.{stamp_in, number_in, body_long, distance_in, stamps}
use Rattle.recording.specs.Entry.{arguments_in, answer_in, fault_of}
use Rattle.replay_step.specs.declared.Unplayed.{Unplayed}
use Rattle.replay_step.specs.declared.Unplayed.TheVariants.{Small, Cut, Refused}
use Rattle.replay_step.specs.declared.Compared.{Compared}
use Rattle.replay_step.specs.declared.Compared.TheVariants.{Same, Differs}
use Rattle.replay_step.specs.declared.Step.{Step}

-- two answers, byte by byte
unfoldable pub same_bytes : List ℕ → List ℕ → Bool
same_bytes [] [] = true
same_bytes [] (y ∷ ys) = false
same_bytes (x ∷ xs) [] = false
same_bytes (x ∷ xs) (y ∷ ys) = eqb x y && same_bytes xs ys

-- WHAT A STEP LEAVES: what became of the entry, the state, both lent memories, and the out buffer
pub record Stepped : Type 0 where
  pub played : Result Compared Unplayed
  pub state : State
  pub rx : List ℕ
  pub tx : List ℕ
  pub out : List ℕ

-- what is handed back by value
abbrev pub step_given : Stepped → Step
step_given s = record { played = s.played; state = s.state }

-- an event that has no answer; these do not come, for the entry fits and the out buffer has the room (theorem_replay/proofs/Step `step-answers`)
abbrev pub unanswered : NoAnswer → Unplayed
unanswered Said.Unknown = Refused NoEvent
unanswered Said.Unfit = Refused Misfit
unanswered Said.Small = Small

-- today's answer, n bytes at the front of the out buffer, beside the recorded one
unfoldable pub played_by : Verdict → List ℕ → List ℕ → Result Compared Unplayed
played_by (Ok n) out answer = cond (same_bytes (take n out) answer) (Ok (Same n)) (Ok (Differs n))
played_by (Err why) out answer = Err (unanswered why)

-- an event of the dispatcher, beside its recorded answer
abbrev pub told_beside : List ℕ → Effect → Stepped
told_beside answer e =
    record { played = played_by e.verdict e.out answer; state = e.state; rx = e.rx; tx = e.tx; out = e.out }

module _ (l : Loan) (out : List ℕ) where
  -- nothing of the entry is run
  abbrev pub unplayed : Unplayed → Stepped
  unplayed why = record { played = Err why; state = l.state; rx = l.rx; tx = l.tx; out = out }

  -- "that many ticks are run between entries"
  abbrev pub ticked_by : ℕ → Loan
  ticked_by n = loan l.image (ticks_event (sizes l) n).state l.rx l.tx

  -- so many ticks, and the event that the number and the body's arguments spell
  abbrev pub then_happens : ℕ → ℕ → List ℕ → Stepped
  then_happens ticks number body = told_beside (answer_in number body) (dispatch_of (ticked_by ticks) out number (arguments_in number body))

  -- "its ticks not": a refused entry leaves everything
  unfoldable pub unless_fault : Result Unit Fault → ℕ → ℕ → List ℕ → Stepped
  unless_fault (Ok tt) ticks number body = then_happens ticks number body
  unless_fault (Err fault) ticks number body = unplayed (Refused fault)

  -- an entry whose body is there whole
  unfoldable pub entered : ℕ → List ℕ → List ℕ → Stepped
  entered distance row body = unless_fault (fault_of distance row body) distance (number_in row) body

  -- A STEP over a contents row and the bytes that are left, with the stamp before: "cut off inside a body, tested before that entry's
  -- refusals"
  unfoldable pub entry_step : ℕ → List ℕ → List ℕ → Stepped
  entry_step before row rest =
      cond (ltb (length out) room) (unplayed Small)
      (cond (ltb (length rest) (body_long row)) (unplayed Cut)
      (entered (distance_in stamps before (stamp_in row)) row (take (body_long row) rest)))
