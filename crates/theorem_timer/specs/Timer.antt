-- TIMER AND DUE MARK BY THE PDUS THAT WAIT (R9.5, R10.4): each by its destination's trigger and timeout, and by its age, the ticks since it was stored.
use Rattle.std.specs.Prelude.{ℕ, suc, ◌+◌, ◌<◌, ◌≤◌, ◌≡◌, Bool, true, false, List, [], ◌∷◌}
use Rattle.table_rows.specs.declared.DestinationRow.{DestinationRow}
use Rattle.connection.specs.declared.Config.{Config}
use Rattle.connection.specs.declared.Connection.{Connection}
use Rattle.connection.specs.Connection.{expires, tick_of}
use Rattle.send_destination.specs.Destination.{sent_of}

-- what happens to a connection's buffer: a destination appends, with so many bytes used then; or a tick passes
pub data BufferStep : Type 0 where
  stores : DestinationRow → ℕ → BufferStep
  ticks : BufferStep

-- the record after such steps, the latest first
unfoldable pub buffer_after : Config → Connection → List BufferStep → Connection
buffer_after g c [] = c
buffer_after g c (stores d used ∷ steps) = sent_of d used (buffer_after g c steps)
buffer_after g c (ticks ∷ steps) = tick_of g (buffer_after g c steps)

-- no tick of these lets the peer go (R20.4): that would drop all that waits
unfoldable pub KeepsPeer : Config → Connection → List BufferStep → Type 0
KeepsPeer g c [] = Unit
KeepsPeer g c (stores d used ∷ steps) = KeepsPeer g c steps
KeepsPeer g c (ticks ∷ steps) = (expires g (buffer_after g c steps) ≡ false) × KeepsPeer g c steps

-- A PDU THAT WAITS: with this trigger and timeout, stored so many ticks ago
pub data WaitsSince : List BufferStep → Bool → ℕ → ℕ → Type 0 where
  just_stored : (d : DestinationRow) (used : ℕ) (steps : List BufferStep) → WaitsSince (stores d used ∷ steps) d.trigger d.timeout 0
  stored_before : (d : DestinationRow) (used : ℕ) {steps : List BufferStep} {trigger : Bool} {timeout age : ℕ} → WaitsSince steps trigger timeout age
      → WaitsSince (stores d used ∷ steps) trigger timeout age
  one_tick_more : {steps : List BufferStep} {trigger : Bool} {timeout age : ℕ}
      → WaitsSince steps trigger timeout age → WaitsSince (ticks ∷ steps) trigger timeout (suc age)

-- it makes the buffer due: by its trigger, or its timeout has passed
pub data Overdue : Bool → ℕ → ℕ → Type 0 where
  by_trigger : (timeout age : ℕ) → Overdue true timeout age
  by_timeout : (trigger : Bool) (timeout age : ℕ) → 0 < timeout → timeout ≤ age → Overdue trigger timeout age

pub record OneOverdue (steps : List BufferStep) : Type 0 where
  pub trigger : Bool
  pub timeout : ℕ
  pub age : ℕ
  pub waits : WaitsSince steps trigger timeout age
  pub over : Overdue trigger timeout age

-- it allows so many ticks more
pub record AllowsStill (steps : List BufferStep) (more : ℕ) : Type 0 where
  pub trigger : Bool
  pub timeout : ℕ
  pub age : ℕ
  pub waits : WaitsSince steps trigger timeout age
  pub left : timeout ≡ age + more

-- WHAT TIMER AND DUE MARK SAY of the PDUs that wait
pub record TimerReads (steps : List BufferStep) (timer : ℕ) (due : Bool) : Type 0 where
  -- due exactly when one is overdue
  pub due_by : due ≡ true → OneOverdue steps
  pub over_due : (trigger : Bool) (timeout age : ℕ) → WaitsSince steps trigger timeout age → Overdue trigger timeout age → due ≡ true
  -- then the timer is stopped
  pub stopped : due ≡ true → timer ≡ 0
  -- else, where one has a timeout, the timer is the least of what they still allow: each allows as much, and one no more
  pub each_allows : due ≡ false → (trigger : Bool) (timeout age : ℕ) → WaitsSince steps trigger timeout age
      → 0 < timeout → (0 < timer) × (age + timer ≤ timeout)
  pub one_allows : 0 < timer → AllowsStill steps timer
