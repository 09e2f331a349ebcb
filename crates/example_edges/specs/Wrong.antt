-- WRONG PROGRAMS (R13.3, R19.6, R20.3 to R20.5) that concern the state and the send bytes: each as a property of a function with an entry point's arguments and
-- result; no function has it and meets the contract's definition.
use Rattle.std.specs.Prelude.{ℕ, ◌<◌, ◌≡◌, true, false, List, Ok}
use Rattle.receive_part.specs.Part.{transferring}
use Rattle.connection.specs.declared.Remote.{Remote}
use Rattle.connection.specs.declared.Event.{Event}
use Rattle.connection.specs.declared.Event.TheVariants.{Cancel}
use Rattle.connection.specs.Connection.{is_online, wildcard}
use Rattle.state.specs.State.{record_at}
use Rattle.state.specs.Fresh.{config_of}
use Rattle.entry_events.specs.declared.Told.{Told}
use Rattle.entry_events.specs.Change.{event_of}
use Rattle.gate.specs.Lent.{Lent, Loan}
use Rattle.entry_ticks.specs.declared.Ticked.{Ticked}
use Rattle.entry_ticks.specs.Tick.{tick_event}
use Rattle.select.specs.declared.Arrived.{Arrived}
use Rattle.entry_arrivals.specs.Arrivals.{datagram_of}
use Rattle.entry_receive.specs.declared.DatagramWalked.{DatagramWalked}
use Rattle.entry_receive.specs.Walk.{walk_of}
use Rattle.entry_send.specs.Sending.{sent_memory}

-- a connection event: what it is lent, connection, event
abbrev pub Happen : Type 0
Happen = Lent → ℕ → Event → Told

abbrev pub IsHappen : Happen → Type 0
IsHappen f = (l : Lent) (n : ℕ) (e : Event) → f l n e ≡ event_of l n e

-- events that leave the state as it was
abbrev pub LeavesState : Happen → Type 0
LeavesState f = (l : Lent) (n : ℕ) (e : Event) → (f l n e).state ≡ l.state

-- R19.6: a cancel that ends the transfer itself
abbrev pub CancelEnds : Happen → Type 0
CancelEnds f = (l : Lent) (n : ℕ) → transferring (record_at (f l n Cancel).state n).part ≡ false

-- send memory after a transmit: what it is lent, PDU, payload
abbrev pub Send : Type 0
Send = Loan → ℕ → List ℕ → List ℕ

abbrev pub IsSend : Send → Type 0
IsSend f = (l : Loan) (pdu : ℕ) (payload : List ℕ) → f l pdu payload ≡ sent_memory l pdu payload

-- a transmit that stores nothing
abbrev pub StoresNothing : Send → Type 0
StoresNothing f = (l : Loan) (pdu : ℕ) (payload : List ℕ) → f l pdu payload ≡ l.tx

-- a tick: what it is lent
abbrev pub Ticking : Type 0
Ticking = Lent → Ticked

abbrev pub IsTicking : Ticking → Type 0
IsTicking f = (l : Lent) → f l ≡ tick_event l

-- R20.4: a tick that keeps the bytes that wait, where no close is wanted
abbrev pub KeepsBytes : Ticking → Type 0
KeepsBytes f = (l : Lent) (n : ℕ) → (record_at l.state n).close_wanted ≡ false → (record_at (f l).state n).used ≡ (record_at l.state n).used

-- R20.4: a tick after which an online connection whose configured remote has no wildcard is online, where no close is wanted
abbrev pub StaysUp : Ticking → Type 0
StaysUp f =
    (l : Lent) (n : ℕ) → (record_at l.state n).close_wanted ≡ false → wildcard (config_of l.image n).remote ≡ false
    → is_online (record_at l.state n).mode ≡ true → is_online (record_at (f l).state n).mode ≡ true

-- a datagram: what it is lent, group, source
abbrev pub Hearing : Type 0
Hearing = Lent → ℕ → Remote → Arrived

abbrev pub IsHearing : Hearing → Type 0
IsHearing f = (l : Lent) (group : ℕ) (source : Remote) → f l group source ≡ datagram_of l group source

-- R20.3: any datagram starts the alive timer of the connection that it is for
abbrev pub AnyStarts : Hearing → Type 0
AnyStarts f =
    (l : Lent) (group : ℕ) (source : Remote) (k : ℕ) → (f l group source).answer ≡ Ok k
    → (record_at (f l group source).state k).watch.alive ≡ (config_of l.image k).alive

-- R20.5: it clears the mark that the upper layer set the remote
abbrev pub ClearsMark : Hearing → Type 0
ClearsMark f =
    (l : Lent) (group : ℕ) (source : Remote) (k : ℕ) → (f l group source).answer ≡ Ok k
    → (record_at (f l group source).state k).watch.remote_set ≡ false

-- a step of a walk: what it is lent, connection, datagram, place
abbrev pub Walking : Type 0
Walking = Lent → ℕ → List ℕ → ℕ → DatagramWalked

abbrev pub IsWalking : Walking → Type 0
IsWalking f = (l : Lent) (n : ℕ) (d : List ℕ) (p : ℕ) → f l n d p ≡ walk_of l n d p

-- R20.3: a step of a walk starts a running alive timer again
abbrev pub WalkStarts : Walking → Type 0
WalkStarts f =
    (l : Lent) (n : ℕ) (d : List ℕ) (p : ℕ) → 0 < (record_at l.state n).watch.alive
    → (record_at (f l n d p).state n).watch.alive ≡ (config_of l.image n).alive
