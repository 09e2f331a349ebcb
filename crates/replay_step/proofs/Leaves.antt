-- WHAT A STEP LEAVES, as the functions that make it find it: by value, in both memories and in the out buffer.
use Prim.Native.Nat.{ℕ, ◌≤◌}
use mathlib.Core.Path.{◌≡◌, sym, ap, ap₂, subst, ◌∙◌}
use mathlib.Core.Bool.{Bool, cond}
use mathlib.Core.List.{List}
use borrow.Author.Tests.{le-ltb}
use lib.Dec.{ltb}
use lib.ListN.{length, take}
use Rattle.state.specs.declared.State.{State}
use Rattle.gate.specs.Lent.{Loan, loan, lent_by}
use Rattle.entry_ticks.specs.declared.Ticked.{Ticked}
use Rattle.entry_ticks.specs.Tick.{ticks_event}
use Rattle.event_answer.specs.Answers.{Effect, Verdict, room}
use Rattle.dispatch.specs.Dispatch.{dispatch_of}
use Rattle.recording.specs.declared.Fault.{Fault}
use Rattle.recording.specs.Recording.{stamp_in, number_in, body_long, distance_in, stamps}
use Rattle.recording.specs.Entry.{arguments_in, answer_in, fault_of}
use Rattle.std.proofs.Common.{Result}
use Rattle.replay_step.specs.declared.Unplayed.{Unplayed}
use Rattle.replay_step.specs.declared.Unplayed.TheVariants.{Small, Cut}
use Rattle.replay_step.specs.declared.Compared.{Compared}
use Rattle.replay_step.specs.declared.Step.{Step}
use Rattle.replay_step.specs.Step.{Stepped, step_given, played_by, unplayed, then_happens, unless_fault, entered, entry_step}

abbrev pub Leaves : Step → List ℕ → List ℕ → List ℕ → Stepped → Type 0
Leaves r rx tx out s = (r ≡ step_given s) × ((rx ≡ s.rx) × ((tx ≡ s.tx) × (out ≡ s.out)))

pub leaves_by : (r : Step) (rx tx out : List ℕ) (s t : Stepped) → s ≡ t → Leaves r rx tx out s → Leaves r rx tx out t
leaves_by r rx tx out s t e p = subst (Leaves r rx tx out) e p

-- the ticks, then the event
module _ (image : List ℕ) (s : State) (rx tx out : List ℕ) (count number : ℕ) (body : List ℕ) where
  abbrev lent : Loan
  lent = loan image s rx tx

  abbrev did_by : Effect
  did_by = dispatch_of (loan image (ticks_event (lent_by image s rx tx) count).state rx tx) out number (arguments_in number body)

  pub happens_so : (t : Ticked) (given answer rx' tx' out' : List ℕ) {st : State} {v : Verdict} {p : Result Compared Unplayed}
      → t ≡ ticks_event (lent_by image s rx tx) count
      → given ≡ arguments_in number body
      → st ≡ (dispatch_of (loan image t.state rx tx) out number given).state
      → v ≡ (dispatch_of (loan image t.state rx tx) out number given).verdict
      → rx' ≡ (dispatch_of (loan image t.state rx tx) out number given).rx
      → tx' ≡ (dispatch_of (loan image t.state rx tx) out number given).tx
      → out' ≡ (dispatch_of (loan image t.state rx tx) out number given).out
      → answer ≡ answer_in number body
      → p ≡ played_by v out' answer
      → Leaves (record { played = p; state = st }) rx' tx' out' (then_happens lent out count number body)
  happens_so t given answer rx' tx' out' {st} {v} {p} ticks arguments becomes says left sent told recorded compared =
      let e : dispatch_of (loan image t.state rx tx) out number given ≡ did_by =
      ap₂ (λ (x : Ticked) (g : List ℕ). dispatch_of (loan image x.state rx tx) out number g) ticks arguments in
      let o : out' ≡ did_by.out = told ∙ ap (λ (x : Effect). x.out) e in
      let q : p ≡ played_by did_by.verdict did_by.out (answer_in number body) =
      compared ∙ ap₂ (λ (x : Verdict) (y : List ℕ). played_by x y answer) (says ∙ ap (λ (x : Effect). x.verdict) e) o
      ∙ ap (λ (y : List ℕ). played_by did_by.verdict did_by.out y) recorded in (
        ap₂ (λ (x : Result Compared Unplayed) (y : State). record { played = x; state = y }) q (becomes ∙ ap (λ (x : Effect). x.state) e),
        (left ∙ ap (λ (x : Effect). x.rx) e, (sent ∙ ap (λ (x : Effect). x.tx) e, o)),
      )

-- the tests before them
module _ (l : Loan) (out : List ℕ) (before : ℕ) (row rest : List ℕ) where
  -- an entry that is there
  pub step-entered : (long stamp distance number : ℕ) (body : List ℕ) (fault : Result Unit Fault)
      → room ≤ length out → long ≡ body_long row → long ≤ length rest
      → body ≡ take long rest → stamp ≡ stamp_in row → distance ≡ distance_in stamps before stamp → fault ≡ fault_of distance row body → number ≡ number_in row
      → unless_fault l out fault distance number body ≡ entry_step l out before row rest
  unfolding entry_step entered
  step-entered long stamp distance number body fault roomy n there b s d f k =
      let db : distance ≡ distance_in stamps before (stamp_in row) = d ∙ ap (distance_in stamps before) s in
      let bb : body ≡ take (body_long row) rest = b ∙ ap (λ (x : ℕ). take x rest) n in
      let fb : fault ≡ fault_of (distance_in stamps before (stamp_in row)) row (take (body_long row) rest) =
      f ∙ ap₂ (λ (x : ℕ) (y : List ℕ). fault_of x row y) db bb in
      ap₂ (λ (x : Result Unit Fault) (y : ℕ). unless_fault l out x y number body) fb db
      ∙ ap₂ (λ (x : ℕ) (y : List ℕ). unless_fault l out (fault_of (distance_in stamps before (stamp_in row)) row (take (body_long row) rest))
      (distance_in stamps before (stamp_in row)) x y) k bb
      ∙ sym
      (ap
      (λ (t : Bool).
      cond t (unplayed l out Small)
      (cond (ltb (length rest) (body_long row)) (unplayed l out Cut)
      (entered l out (distance_in stamps before (stamp_in row)) row (take (body_long row) rest))))
      (le-ltb _ _ roomy)
      ∙ ap
      (λ (t : Bool). cond t (unplayed l out Cut) (entered l out (distance_in stamps before (stamp_in row)) row (take (body_long row) rest)))
      (le-ltb (length rest) (body_long row) (subst (λ (x : ℕ). x ≤ length rest) n there)))
