-- A SETPOINT FOR TWO VALVES: both get it or none does (R10.2, R10.3), of the entry point itself.
use Rattle.std.specs.Prelude.{ℕ, ◌+◌, ◌<◌, ◌≤◌, ◌≡◌, false, List, ◌++◌, length, Result, Ok, Err}
use Rattle.connection.specs.declared.Mode.TheVariants.{Online}
use Rattle.state.specs.declared.State.{State}
use Rattle.state.specs.State.{record_at}
use Rattle.frame.specs.Frame.{frame}
use Rattle.gate.specs.Lent.{Loan, loan, sizes}
use Rattle.gate.specs.Gate.{Passed}
use Rattle.send.specs.declared.NotSent.TheVariants.{RefusedAt}
use Rattle.entry_send.specs.Sending.{send_of, sent_memory}
use Rattle.law_waits.specs.Waits.{waits}
use Rattle.example_sending.specs.Valves.{valves}
use Rattle.send.specs.declared.NotSent.{NotSent}

-- what a call over the valves' table is lent
abbrev pub valves_with : State → List ℕ → List ℕ → Loan
valves_with s rx tx = loan valves s rx tx

-- a sound state over the valves' table, memory of the right lengths, both valves online and not closing, a payload of at most 2 bytes
pub record TwoValves (s : State) (rx tx payload : List ℕ) : Type 0 where
  pub passed : Passed (sizes (valves_with s rx tx))
  pub sixteen : length s.connections ≡ 16
  pub online : (k : ℕ) → k < 2 → (record_at s k).mode ≡ Online
  pub stays : (k : ℕ) → k < 2 → (record_at s k).close_wanted ≡ false
  pub short : length payload ≤ 2

module _ (s : State) (rx tx payload : List ℕ) where
  -- valve k has room: used + 8 + length does not exceed the send size; or it has none
  abbrev pub Room : ℕ → Type 0
  Room k = (record_at s k).used + 8 + length payload ≤ 1472

  abbrev pub Full : ℕ → Type 0
  Full k = 1472 < (record_at s k).used + 8 + length payload

  -- after the transmit of PDU 9: the answer, and the bytes that wait on valve k
  abbrev pub setpoint_answer : Result Unit NotSent
  setpoint_answer = (send_of (valves_with s rx tx) 9 payload).answer

  abbrev pub waits_then : ℕ → List ℕ
  waits_then k = waits (send_of (valves_with s rx tx) 9 payload).state (sent_memory (valves_with s rx tx) 9 payload) k

  -- room at both: each has its own frame behind what waited
  pub record Both : Type 0 where
    pub answer : setpoint_answer ≡ Ok tt
    pub first : waits_then 0 ≡ waits s tx 0 ++ frame 0x101 payload
    pub second : waits_then 1 ≡ waits s tx 1 ++ frame 0x102 payload

  -- destination d refuses with 8: the whole state and all of send memory stay
  pub record Neither (d : ℕ) : Type 0 where
    pub answer : setpoint_answer ≡ Err (RefusedAt 8 d)
    pub state : (send_of (valves_with s rx tx) 9 payload).state ≡ s
    pub memory : sent_memory (valves_with s rx tx) 9 payload ≡ tx

  -- THE STATEMENT: room at both; the second full; the first full
  pub record AllOrNone : Type 0 where
    pub both : Room 0 → Room 1 → Both
    pub second_full : Room 0 → Full 1 → Neither 1
    pub first_full : Full 0 → Neither 0
