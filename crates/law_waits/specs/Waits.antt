-- WHAT WAITS ON A CONNECTION, and what a transmit adds to it.
use Rattle.std.specs.Prelude.{ℕ, zero, suc, Bool, true, false, cond, ◌&&◌, List, [], ◌∷◌, ◌++◌, eqb, length}
use Rattle.connection.specs.declared.Config.{Config}
use Rattle.connection.specs.declared.Connection.{Connection}
use Rattle.connection.specs.declared.Event.{Event}
use Rattle.connection.specs.Connection.{expires}
use Rattle.connection.specs.Event.{known, allowed, empties as drops}
use Rattle.frame.specs.Frame.{frame}
use Rattle.table_rows.specs.Rows.{destination_of}
use Rattle.state.specs.declared.State.{State}
use Rattle.state.specs.State.{record_at}
use Rattle.send.specs.Verdict.{is_stored}
use Rattle.send.specs.Send.{destinations, wanted_at, check_of}
use Rattle.send_waiting.specs.Waiting.{waiting_of}

-- the bytes that connection k has waiting
abbrev pub waits : State → List ℕ → ℕ → List ℕ
waits s tx k = waiting_of tx k (record_at s k).used

-- a transmit of a payload for a PDU, seen from connection k
module _ (image : List ℕ) (s : State) (pdu : ℕ) (payload : List ℕ) (k : ℕ) where
  -- row i is a switched-on destination of this PDU on connection k
  abbrev pub goes_to : ℕ → Bool
  goes_to i = wanted_at image s pdu payload i && eqb (destination_of image i).connection k

  -- the frames for connection k, of n rows from i on, in table order
  unfoldable pub frames_from : ℕ → ℕ → List ℕ
  frames_from zero i = []
  frames_from (suc n) i = cond (goes_to i) (frame (destination_of image i).id payload) [] ++ frames_from n (suc i)

  -- all of them, where the check refuses nothing
  unfoldable pub added_to : List ℕ
  added_to = cond (is_stored (check_of image s pdu (length payload))) (frames_from (destinations image) 0) []

-- WHY the waiting bytes are gone: a non-empty take has given them out; a closing tick has dropped them, or a loss, or the tick that lets a
-- silent peer go
pub data Cause : Type 0 where
  was_taken : Cause
  was_closed : Cause
  was_lost : Cause
  was_let_go : Cause

-- whether an event empties them, and why
pub data Emptied : Type 0 where
  not_emptied : Emptied
  emptied : Cause → Emptied

abbrev pub is_emptied : Emptied → Bool
is_emptied not_emptied = false
is_emptied (emptied why) = true

-- an event that empties where a test holds; one that may empty only where a test holds
abbrev pub emptied_if : Bool → Cause → Emptied
emptied_if b why = cond b (emptied why) not_emptied

abbrev pub only_if : Bool → Emptied → Emptied
only_if b x = cond b x not_emptied

-- what an event makes of the waiting bytes: it adds some, or none; or it empties them, for a cause
pub data Turn : Type 0 where
  adds : List ℕ → Turn
  empties : Cause → Turn

abbrev pub turn_by : Emptied → List ℕ → Turn
turn_by not_emptied bytes = adds bytes
turn_by (emptied why) bytes = empties why

abbrev pub turned : Turn → List ℕ → List ℕ
turned (adds bytes) w = w ++ bytes
turned (empties why) w = []

-- one event after the other
abbrev pub after_all : List Turn → List ℕ → List ℕ
after_all [] w = w
after_all (t ∷ ts) w = after_all ts (turned t w)

-- whether any of them empties
abbrev pub any_empties : List Turn → Bool
any_empties [] = false
any_empties (adds bytes ∷ ts) = any_empties ts
any_empties (empties why ∷ ts) = true

-- all that they add since the last that empties
abbrev pub since : List Turn → List ℕ
since [] = []
since (adds bytes ∷ ts) = cond (any_empties ts) (since ts) (bytes ++ since ts)
since (empties why ∷ ts) = since ts

-- which ticks empty the waiting bytes, and why: one that closes; R20.4, one that lets go
abbrev pub emptied_at_tick : Config → Connection → Emptied
emptied_at_tick g c = cond c.close_wanted (emptied was_closed) (emptied_if (expires g c) was_let_go)

-- which connection events empty the waiting bytes: a loss that is allowed
abbrev pub emptied_by : Event → Config → Connection → Bool
emptied_by e g c = drops e && (known e && allowed e g c)
