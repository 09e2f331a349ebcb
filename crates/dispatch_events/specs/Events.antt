-- The answers of the events that write no memory, as bytes (R16.2; docs/EVENTS.md, "The answer").
use Rattle.std.specs.Prelude.{ℕ, Bool, cond, List, Result, Ok, Err}
use Rattle.connection.specs.declared.Event.{Event}
use Rattle.entry_events.specs.declared.Told.{Told}
use Rattle.entry_events.specs.declared.Loss.{Loss}
use Rattle.entry_events.specs.declared.Counted.{Counted}
use Rattle.entry_events.specs.Change.{event_of, loss_of}
use Rattle.entry_events.specs.Module.{switch_all_of}
use Rattle.entry_events.specs.Count.{read_of, clear_of}
use Rattle.entry_ticks.specs.declared.Ticked.{Ticked}
use Rattle.entry_ticks.specs.Tick.{ticks_event}
use Rattle.gate.specs.Lent.{Loan, sizes}
use Rattle.event_answer.specs.Answers.{Effect, answers, if_room, refusal, done_alone, done_with}
use Rattle.connection.specs.declared.Refusal.{Refusal}

-- "any other: nothing"
abbrev pub told_bytes : Result Unit Refusal → List ℕ
told_bytes (Ok tt) = done_alone
told_bytes (Err r) = refusal r

-- "lost: failed (1), 0 or 1"
abbrev pub failed_byte : Bool → ℕ
failed_byte failed = cond failed 1 0

abbrev pub loss_bytes : Result Unit Refusal → Bool → List ℕ
loss_bytes (Ok tt) failed = done_with 1 (failed_byte failed)
loss_bytes (Err r) failed = refusal r

-- "n ticks: failed connections (2), bit k (worth 2 to the k) for connection k"
abbrev pub ticks_bytes : Result Unit Refusal → ℕ → List ℕ
ticks_bytes (Ok tt) failed = done_with 2 failed
ticks_bytes (Err r) failed = refusal r

-- "counts: value (4)"
abbrev pub count_bytes : Result ℕ Refusal → List ℕ
count_bytes (Ok v) = done_with 4 v
count_bytes (Err r) = refusal r

-- what each leaves where there is room: the state that its entry point gives, both memories as they were
abbrev pub told_effect : Told → List ℕ → List ℕ → List ℕ → Effect
told_effect t rx tx out = answers (told_bytes t.answer) t.state rx tx out

abbrev pub loss_effect : Loss → List ℕ → List ℕ → List ℕ → Effect
loss_effect t rx tx out = answers (loss_bytes t.answer t.failed) t.state rx tx out

abbrev pub ticked : Ticked → List ℕ → List ℕ → List ℕ → Effect
ticked t rx tx out = answers (ticks_bytes t.answer t.failed) t.state rx tx out

abbrev pub counted_effect : Counted → List ℕ → List ℕ → List ℕ → Effect
counted_effect t rx tx out = answers (count_bytes t.answer) t.state rx tx out

-- WHAT EACH LEAVES: an out buffer that is too short is refused
module _ (l : Loan) (out : List ℕ) where
  -- open, close, connected, set remote, switch, cancel
  unfoldable pub own_effect : ℕ → Event → Effect
  own_effect connection event = if_room l.state l.rx l.tx out (told_effect (event_of (sizes l) connection event) l.rx l.tx out)

  unfoldable pub lost_effect : ℕ → Effect
  lost_effect connection = if_room l.state l.rx l.tx out (loss_effect (loss_of (sizes l) connection) l.rx l.tx out)

  unfoldable pub ticks_effect : ℕ → Effect
  ticks_effect count = if_room l.state l.rx l.tx out (ticked (ticks_event (sizes l) count) l.rx l.tx out)

  unfoldable pub switch_all_effect : ℕ → Bool → Effect
  switch_all_effect number on = if_room l.state l.rx l.tx out (told_effect (switch_all_of (sizes l) number on) l.rx l.tx out)

  unfoldable pub read_effect : ℕ → Effect
  read_effect protocol = if_room l.state l.rx l.tx out (counted_effect (read_of (sizes l) protocol) l.rx l.tx out)

  unfoldable pub clear_effect : ℕ → Effect
  clear_effect protocol = if_room l.state l.rx l.tx out (counted_effect (clear_of (sizes l) protocol) l.rx l.tx out)
