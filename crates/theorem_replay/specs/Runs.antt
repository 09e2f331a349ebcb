-- THE RUN OF THE EVENTS THAT A RECORDING SPELLS (R17.4), from a fresh state under the table: the machine after its first n entries, and
-- the answer that this run gives to the event of an entry.
use Rattle.std.specs.Prelude.{ℕ, zero, suc, ◌<◌, ◌≤◌, ◌≡◌, true, false, cond, List, ◌++◌, length, drop, Result, Ok}
use Rattle.state.specs.Fresh.{fresh_state}
use Rattle.event_decode.specs.declared.Call.{Call}
use Rattle.event_decode.specs.declared.BadCall.{BadCall}
use Rattle.event_decode.specs.Calls.{call_of}
use Rattle.event_answer.specs.Answers.{room}
use Rattle.recording.specs.Recording.{entries_in}
use Rattle.recording.specs.Entry.{arguments_in, answer_in}
use Rattle.replay_step.specs.declared.Unplayed.{Unplayed}
use Rattle.replay_step.specs.declared.Compared.{Compared}
use Rattle.replay_step.specs.declared.Compared.TheVariants.{Same, Differs}
use Rattle.replay_step.specs.Step.{same_bytes, Stepped}
use Rattle.replay_whole.specs.Replay.{Going, Left, step_at, ongoing, before_first}
use Rattle.model_refines.specs.Machine.{Machine, machine, loan_to}
use Rattle.model_refines.specs.Run.{after_run}
use Rattle.dispatch_refines.specs.Spelt.{events_of}
use Rattle.dispatch_refines.specs.Answer.{answer_of}
use Rattle.theorem_replay.specs.Entries.{tick_events, entry_body, ticks_before, ticks_up_to, entry_number}
use Rattle.theorem_replay.specs.Entries.{entry_arguments, entry_call, recorded_answer, events_up_to, is_fine}

-- the machine that a step leaves, and that a replay leaves
abbrev pub machine_stepped : Stepped → Machine
machine_stepped s = machine s.state s.rx s.tx

abbrev pub machine_left : Left → Machine
machine_left l = machine l.replayed.state l.rx l.tx

-- the entry was run: today's answer, all bytes, is the recorded one, or it differs
unfoldable pub compared_to : List ℕ → List ℕ → Result Compared Unplayed
compared_to recorded today = cond (same_bytes today recorded) (Ok (Same (length today))) (Ok (Differs (length today)))

-- A STEP THAT IS RUN, of so many ticks and the event that a number and a body's arguments spell: the machine after these events; all bytes of the
-- event's answer at the front of the out buffer, behind them the buffer as it was; and this answer is what the body's recorded one is compared with
module _ (image : List ℕ) (m : Machine) (out : List ℕ) (ticks number : ℕ) (body : List ℕ) where
  abbrev pub call_stepped : Result Call BadCall
  call_stepped = call_of number (arguments_in number body)

  abbrev pub answer_stepped : List ℕ
  answer_stepped = answer_of (loan_to image (after_run image m (tick_events ticks))) (arguments_in number body) call_stepped

  pub record StepRuns (s : Stepped) : Type 0 where
    pub left : machine_stepped s ≡ after_run image m (tick_events ticks ++ events_of (arguments_in number body) call_stepped)
    pub front : s.out ≡ answer_stepped ++ drop (length answer_stepped) out
    pub fits : length answer_stepped ≤ room
    pub played : s.played ≡ compared_to (answer_in number body) answer_stepped

-- "starts fresh under a given table image"
abbrev pub fresh_machine : List ℕ → List ℕ → List ℕ → Machine
fresh_machine image rx tx = machine (fresh_state image) rx tx

module _ (image r rx tx : List ℕ) where
  -- after the first n entries
  abbrev pub machine_after : ℕ → Machine
  machine_after n = after_run image (fresh_machine image rx tx) (events_up_to r n)

  -- .. and the ticks before the next
  abbrev pub machine_before : ℕ → Machine
  machine_before i = after_run image (machine_after i) (tick_events (ticks_before r i))

  -- the answer of this run to the event of an entry
  abbrev pub today_answer : ℕ → List ℕ
  today_answer i = answer_of (loan_to image (machine_before i)) (entry_arguments r i) (entry_call r i)

  -- the recorded answer is that of this run
  abbrev pub Alike : ℕ → Type 0
  Alike i = recorded_answer r i ≡ today_answer i

  -- R17.7: the first of so many entries that are run whose recorded answer is not the answer of this run
  abbrev pub FirstUnlike : ℕ → ℕ → Type 0
  FirstUnlike run i = (i < run) × (Alike i → ⊥) × ((j : ℕ) → j < i → Alike j)

  -- so many entries have been run, with their ticks, and nothing else
  abbrev pub RanTo : ℕ → Left → Type 0
  RanTo n l = (l.replayed.run ≡ n) × (l.replayed.ticks ≡ ticks_up_to r n) × (machine_left l ≡ machine_after n)

  -- a step that is the run of entry i, after those before it
  abbrev pub EntryRuns : ℕ → List ℕ → Stepped → Type 0
  EntryRuns i out = StepRuns image (machine_after i) out (ticks_before r i) (entry_number r i) (entry_body r i)

  -- HOW FAR THE REPLAY IS before entry i: the steps of the entries before it
  module _ (out : List ℕ) where
    unfoldable pub going_at : ℕ → Going
    going_at zero = before_first image r rx tx out (fresh_state image)
    going_at (suc i) = ongoing image r i (going_at i) (step_at image r i (going_at i))

-- R17.3: the first entry that is cut or has a fault: those before it have none
abbrev pub FirstNotFine : List ℕ → ℕ → Type 0
FirstNotFine r i = (i < entries_in r) × ((j : ℕ) → j < i → is_fine r j ≡ true) × (is_fine r i ≡ false)
