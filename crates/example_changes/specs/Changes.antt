-- WHAT EACH EVENT CHANGES, as one table: a state that is sound over the edges' image, an event, and a number of the state before
-- and after it. One statement says all of it: `EveryChange` of the table.
-- Every entry that can change the state is in it; reading a count is not, for it changes nothing.
use Rattle.std.specs.Prelude.{ℕ, Bool, true, false, not, ◌&&◌, ◌≡◌, List, [], ◌∷◌, eqb, replicate, take}
use Rattle.receive_part.specs.declared.Part.{Part}
use Rattle.receive_part.specs.declared.Part.TheVariants.{Header, Payload, Skip, Transfer}
use Rattle.connection.specs.declared.Mode.{Mode}
use Rattle.connection.specs.declared.Mode.TheVariants.{Offline, Reconnect, Online}
use Rattle.connection.specs.declared.Remote.{Remote}
use Rattle.connection.specs.declared.Connection.{Connection}
use Rattle.connection.specs.declared.Event.{Event}
use Rattle.connection.specs.declared.Event.TheVariants.{Open, Close, Connected, SetRemote, Switch, Cancel}
use Rattle.connection.specs.Connection.{with_mode, with_part, with_remote, with_switches, with_send, unwatched, mark_set, with_watch, become}
use Rattle.state.specs.declared.State.{State}
use Rattle.state.specs.State.{record_at, with_record, with_count}
use Rattle.gate.specs.Sound.{sound_state}
use Rattle.entry_events.specs.Change.{event_of, loss_of}
use Rattle.entry_events.specs.Module.{switch_all_of}
use Rattle.entry_events.specs.Count.{clear_of}
use Rattle.entry_ticks.specs.Tick.{tick_event, ticks_event}
use Rattle.select.specs.Choose.{one_of}
use Rattle.entry_arrivals.specs.Arrivals.{datagram_of, accept_of}
use Rattle.entry_receive.specs.Segment.{segment_of}
use Rattle.entry_receive.specs.Walk.{walk_of}
use Rattle.entry_send.specs.Sending.{send_of, taken_waiting}
use Rattle.law_transitions.specs.Table.{mode_number}
use Rattle.example_edges.specs.Table.{image, fresh, waiting_for, used, moving, exact, anybody, watching, lends, loans}
use Rattle.example_edges.specs.Edges.{framed}

pub record Change : Type 0 where
  pub before : State
  pub event : State → State
  pub field : State → ℕ
  pub was : ℕ
  pub becomes : ℕ

abbrev pub changing : State → (State → State) → (State → ℕ) → ℕ → ℕ → Change
changing s e f n m = record { before = s; event = e; field = f; was = n; becomes = m }

-- The numbers of connection k's record: its mode (0 offline, 1 reconnect, 2 online), its wishes and due mark (1 where they
-- stand), and the others as they are.
abbrev pub mode : ℕ → State → ℕ
mode k s = mode_number (record_at s k).mode

abbrev pub open_wanted : ℕ → State → ℕ
open_wanted k s = one_of (record_at s k).open_wanted

abbrev pub close_wanted : ℕ → State → ℕ
close_wanted k s = one_of (record_at s k).close_wanted

abbrev pub port : ℕ → State → ℕ
port k s = (record_at s k).remote.port

abbrev pub switch_word : ℕ → State → ℕ
switch_word k s = (record_at s k).switches

abbrev pub used_bytes : ℕ → State → ℕ
used_bytes k s = (record_at s k).used

abbrev pub timer : ℕ → State → ℕ
timer k s = (record_at s k).timer

abbrev pub due : ℕ → State → ℕ
due k s = one_of (record_at s k).due

abbrev pub alive : ℕ → State → ℕ
alive k s = (record_at s k).watch.alive

abbrev pub remote_set : ℕ → State → ℕ
remote_set k s = one_of (record_at s k).watch.remote_set

-- the header bytes that a part holds
abbrev pub header_bytes : Part → ℕ
header_bytes (Header held value) = held
header_bytes (Payload route length held) = 0
header_bytes (Skip bytes) = 0
header_bytes (Transfer route left) = 0

abbrev pub header_held : ℕ → State → ℕ
header_held k s = header_bytes (record_at s k).part

-- the bytes of a transfer still to come
abbrev pub part_left : Part → ℕ
part_left (Header held value) = 0
part_left (Payload route length held) = 0
part_left (Skip bytes) = 0
part_left (Transfer route left) = left

abbrev pub to_come : ℕ → State → ℕ
to_come k s = part_left (record_at s k).part

-- the drop counts
abbrev pub udp_drops : State → ℕ
udp_drops s = s.udp_drops

abbrev pub tcp_drops : State → ℕ
tcp_drops s = s.tcp_drops

-- Sound states beside the edges' own (fresh; both UDP connections in reconnect; TCP connection 2 online with bytes waiting).

-- the fresh state with another record k
abbrev pub with : ℕ → (Connection → Connection) → State
with k f = with_record k (f (record_at fresh k)) fresh

-- connection k in a mode, with wishes (open, close)
abbrev pub stands : ℕ → Mode → Bool → Bool → State
stands k m o c = with k (with_mode m o c)

-- connection 2 online with ten bytes waiting, and a timer that runs
abbrev pub running : ℕ → State
running t = with 2 (λ c. with_send 10 t false (become Online c))

-- connection 2 online with a transfer, and close wanted
abbrev pub cancelled : State
cancelled = with 2 (λ c. with_part (Transfer 3 5) (with_mode Online false true c))

-- connection 0, whose remote the table leaves open, online with one
abbrev pub met : State
met = with 0 (λ c. become Online (with_remote exact c))

-- the remote of connection 2
abbrev pub peer : Remote
peer = record { address = 3232235527; port = 1000 }

-- The events: the state that each entry leaves, lent both memories in their lengths.
abbrev pub happens : ℕ → Event → State → State
happens k e s = (event_of (lends s) k e).state

abbrev pub loss_leaves : ℕ → State → State
loss_leaves k s = (loss_of (lends s) k).state

abbrev pub tick_leaves : State → State
tick_leaves s = (tick_event (lends s)).state

abbrev pub ticks_leave : ℕ → State → State
ticks_leave count s = (ticks_event (lends s) count).state

abbrev pub datagram_leaves : ℕ → Remote → State → State
datagram_leaves group source s = (datagram_of (lends s) group source).state

abbrev pub accept_leaves : ℕ → Remote → State → State
accept_leaves group source s = (accept_of (lends s) group source).state

abbrev pub segment_leaves : ℕ → List ℕ → State → State
segment_leaves k bytes s = (segment_of (loans s) k bytes).state

abbrev pub walk_leaves : ℕ → List ℕ → State → State
walk_leaves k bytes s = (walk_of (lends s) k bytes 0).state

abbrev pub transmit_leaves : ℕ → List ℕ → State → State
transmit_leaves pdu payload s = (send_of (loans s) pdu payload).state

abbrev pub taking_leaves : ℕ → ℕ → State → State
taking_leaves k room s = (taken_waiting (loans s) k (replicate room 0)).state

abbrev pub switch_all_leaves : ℕ → Bool → State → State
switch_all_leaves number on s = (switch_all_of (lends s) number on).state

abbrev pub clear_leaves : ℕ → State → State
clear_leaves protocol s = (clear_of (lends s) protocol).state

abbrev pub changes : List Change
changes =
    -- open, close, connected, lost
    changing fresh (happens 0 Open) (open_wanted 0) 0 1
    ∷ changing (stands 0 Offline true false) (happens 0 Close) (open_wanted 0) 1 0
    ∷ changing (stands 2 Online false false) (happens 2 Close) (close_wanted 2) 0 1
    ∷ changing (stands 2 Reconnect false false) (happens 2 Connected) (mode 2) 1 2
    ∷ changing (used 10) (loss_leaves 2) (used_bytes 2) 10 0
    ∷ changing (used 10) (loss_leaves 2) (mode 2) 2 1
    -- set remote; one routing group of one connection on, and off
    ∷ changing fresh (happens 0 (SetRemote exact)) (port 0) 0 1000
    ∷ changing fresh (happens 2 (Switch 31 true)) (switch_word 2) 0 2147483648
    ∷ changing (with 2 (with_switches 3)) (happens 2 (Switch 1 false)) (switch_word 2) 3 1
    -- a tick: close wanted, open wanted, UDP without wildcard, a running timer, and one that ends; many ticks
    ∷ changing (stands 2 Online false true) tick_leaves (mode 2) 2 0
    ∷ changing (stands 0 Offline true false) tick_leaves (mode 0) 0 1
    ∷ changing (stands 1 Reconnect false false) tick_leaves (mode 1) 1 2
    ∷ changing (running 5) tick_leaves (timer 2) 5 4
    ∷ changing (running 1) tick_leaves (due 2) 0 1
    ∷ changing (running 5) (ticks_leave 5) (due 2) 0 1
    -- a tick lets a silent peer go, and drops the bytes that wait; one whose remote the upper layer set only stops; many ticks; set remote and
    -- its mark, which a loss clears
    ∷ changing (watching 1 false) tick_leaves (mode 0) 2 1
    ∷ changing (watching 1 false) tick_leaves (used_bytes 0) 10 0
    ∷ changing (watching 1 false) tick_leaves (port 0) 1000 0
    ∷ changing (watching 1 true) tick_leaves (alive 0) 1 0
    ∷ changing (watching 2 false) (ticks_leave 2) (mode 0) 2 1
    ∷ changing fresh (happens 0 (SetRemote exact)) (remote_set 0) 0 1
    ∷ changing (with 2 (λ c. with_watch (mark_set unwatched) (become Online c))) (loss_leaves 2) (remote_set 2) 1 0
    -- a datagram that replaces a wildcard starts the alive timer, and starts it again
    ∷ changing anybody (datagram_leaves 0 exact) (alive 0) 0 2
    ∷ changing (watching 1 false) (datagram_leaves 0 exact) (alive 0) 1 2
    -- a datagram, an accept
    ∷ changing waiting_for (datagram_leaves 0 exact) (mode 1) 1 2
    ∷ changing (stands 2 Reconnect false false) (accept_leaves 1 peer) (mode 2) 1 2
    -- a take of half a header; of a header that is dropped; a step of a walk that drops
    ∷ changing (stands 2 Online false false) (segment_leaves 2 (take 3 (framed 1 0 []))) (header_held 2) 0 3
    ∷ changing (stands 2 Online false false) (segment_leaves 2 (framed 9 0 [])) tcp_drops 0 1
    ∷ changing met (walk_leaves 0 (take 7 (framed 1 0 []))) udp_drops 0 1
    -- a transfer's start, and a piece of it; a cancel; a loss and a closing tick that end it
    ∷ changing (stands 2 Online false false) (segment_leaves 2 (framed 4 3 (7 ∷ []))) (to_come 2) 0 3
    ∷ changing (moving 5) (segment_leaves 2 (7 ∷ 8 ∷ [])) (to_come 2) 5 3
    ∷ changing (moving 5) (happens 2 Cancel) (close_wanted 2) 0 1
    ∷ changing (moving 5) (loss_leaves 2) (to_come 2) 5 0
    ∷ changing cancelled tick_leaves (to_come 2) 5 0
    -- a transmit, and taking the waiting bytes
    ∷ changing (used 10) (transmit_leaves 9 (1 ∷ 2 ∷ [])) (used_bytes 2) 10 20
    ∷ changing (used 10) (taking_leaves 2 10) (used_bytes 2) 10 0
    -- one routing group of all connections; reading and clearing a count of each protocol
    ∷ changing fresh (switch_all_leaves 4 true) (switch_word 1) 0 16
    ∷ changing (with_count false 7 fresh) (clear_leaves 1) udp_drops 7 0
    ∷ changing (with_count true 7 fresh) (clear_leaves 2) tcp_drops 7 0
    ∷ []

-- past the last row: an event that leaves every state as it was
abbrev pub idle_change : Change
idle_change = changing fresh (λ s. s) tcp_drops 0 0

-- the state is sound, over an accepted table; its field is one number before the event, another one after it
abbrev pub is_was : Change → Bool
is_was c = eqb (c.field c.before) c.was

abbrev pub is_becomes : Change → Bool
is_becomes c = eqb (c.field (c.event c.before)) c.becomes

abbrev pub change_holds : Change → Bool
change_holds c = sound_state image c.before && is_was c && is_becomes c && not (eqb c.was c.becomes)

abbrev pub changes_hold : List Change → Bool
changes_hold [] = true
changes_hold (c ∷ cs) = change_holds c && changes_hold cs

-- THE ONE STATEMENT
abbrev pub EveryChange : List Change → Type 0
EveryChange cs = changes_hold cs ≡ true

-- what it gives of a row: a sound state that the event changes
pub record Changes (c : Change) : Type 0 where
  pub sound : sound_state image c.before ≡ true
  pub moves : c.event c.before ≡ c.before → ⊥
