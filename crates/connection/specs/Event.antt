-- The connection events that concern the record alone: when each is allowed (R4.5), what it leaves (section 8 of the rules), and the
-- numbers of answers (R4.1).
use Rattle.std.specs.Prelude.{ℕ, ltb, Bool, true, false, cond, not, ◌&&◌, ◌||◌, Result, Ok, Err}
use Rattle.receive_part.specs.Part.{transferring}
use Rattle.connection.specs.declared.Connection.{Connection}
use Rattle.connection.specs.declared.Config.{Config}
use Rattle.connection.specs.declared.Refusal.{Refusal}
use Rattle.connection.specs.declared.Refusal.TheVariants.{Memory, Unsound, Missing, Denied}
use Rattle.connection.specs.declared.Stepped.{Stepped}
use Rattle.connection.specs.declared.Event.{Event}
use Rattle.connection.specs.declared.Event.TheVariants.{Open, Close, Connected, Lost, SetRemote, Switch, Cancel}
use Rattle.connection.specs.Connection.{is_offline, is_reconnect, is_online, wildcard, open_of, close_of, connected_of, lost_of, remote_of, switched_of}

-- R4.1: the numbers
abbrev pub refusal_number : Refusal → ℕ
refusal_number Memory = 11
refusal_number Unsound = 12
refusal_number Missing = 2
refusal_number Denied = 3

abbrev pub answer_number : Result Unit Refusal → ℕ
answer_number (Ok tt) = 0
answer_number (Err r) = refusal_number r

-- R4.5, open: non-automatic, offline, no close wanted
abbrev pub open_allowed : Config → Connection → Bool
open_allowed g c = not g.automatic && is_offline c.mode && not c.close_wanted

-- R4.5, close: non-automatic, and open wanted or not offline
abbrev pub close_allowed : Config → Connection → Bool
close_allowed g c = not g.automatic && (c.open_wanted || not (is_offline c.mode))

-- R4.5, connected: TCP, reconnect, no close wanted, remote without wildcard
abbrev pub connected_allowed : Config → Connection → Bool
connected_allowed g c = g.tcp && is_reconnect c.mode && not c.close_wanted && not (wildcard c.remote)

-- R4.5, lost: TCP online
abbrev pub lost_allowed : Config → Connection → Bool
lost_allowed g c = g.tcp && is_online c.mode

-- R4.5, set remote: not online
abbrev pub remote_allowed : Connection → Bool
remote_allowed c = not (is_online c.mode)

-- R19.6, cancel: a transfer runs; also with close wanted already, and on an automatic connection
abbrev pub cancel_allowed : Connection → Bool
cancel_allowed c = transferring c.part

-- online without close wanted: 4 otherwise, where bytes come in
abbrev pub receiving : Connection → Bool
receiving c = is_online c.mode && not c.close_wanted

-- a switch number above 31 is not there: 2
abbrev pub known : Event → Bool
known Open = true
known Close = true
known Connected = true
known Lost = true
known (SetRemote r) = true
known (Switch n on) = ltb n 32
known Cancel = true

abbrev pub allowed : Event → Config → Connection → Bool
allowed Open g c = open_allowed g c
allowed Close g c = close_allowed g c
allowed Connected g c = connected_allowed g c
allowed Lost g c = lost_allowed g c
allowed (SetRemote r) g c = remote_allowed c
allowed (Switch n on) g c = true
allowed Cancel g c = cancel_allowed c

-- R19.6: a cancel leaves what a close leaves: the transfer ends at the tick, not here
abbrev pub record_after : Event → Config → Connection → Connection
record_after Open g c = open_of c
record_after Close g c = close_of c
record_after Connected g c = connected_of c
record_after Lost g c = lost_of g c
record_after (SetRemote r) g c = remote_of r c
record_after (Switch n on) g c = switched_of n on c
record_after Cancel g c = close_of c

-- which of them, done, drops the bytes held: a loss
abbrev pub empties : Event → Bool
empties Open = false
empties Close = false
empties Connected = false
empties Lost = true
empties (SetRemote r) = false
empties (Switch n on) = false
empties Cancel = false

-- which can be denied: all but a switch
abbrev pub deniable : Event → Bool
deniable Open = true
deniable Close = true
deniable Connected = true
deniable Lost = true
deniable (SetRemote r) = true
deniable (Switch n on) = false
deniable Cancel = true

abbrev pub refused_by : Refusal → Connection → Stepped
refused_by r c = record { answer = Err r; connection = c }

-- one event: 2, then 3, else done; a refusal leaves the record
unfoldable pub step_of : Event → Config → Connection → Stepped
step_of e g c =
    cond (not (known e)) (refused_by Missing c)
    (cond (not (allowed e g c)) (refused_by Denied c)
    (record { answer = Ok tt; connection = record_after e g c }))
