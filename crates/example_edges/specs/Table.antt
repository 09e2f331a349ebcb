-- The image of the starred edges (R12.1), and states over it.
use Rattle.std.specs.Prelude.{ℕ, Bool, true, false, List, [], ◌∷◌, replicate, set}
use Rattle.receive_part.specs.declared.Part.TheVariants.{Transfer}
use Rattle.connection.specs.declared.Remote.{Remote}
use Rattle.connection.specs.declared.Mode.TheVariants.{Reconnect, Online}
use Rattle.connection.specs.Connection.{become, with_mode, with_remote, with_part, with_send, unwatched, alive_at, with_watch}
use Rattle.state.specs.declared.State.{State}
use Rattle.state.specs.State.{record_at, with_record}
use Rattle.state.specs.Fresh.{fresh_state}
use Rattle.gate.specs.Lent.{Lent, lent, Loan, loan}

-- two groups (UDP, TCP), three connections, four routes, one destination
unfoldable pub image : List ℕ
image =
    0 ∷ 1 ∷ 0 ∷ 4
    ∷ 0 ∷ 1 ∷ 0 ∷ 2 ∷ 0 ∷ 0 ∷ 0 ∷ 36 ∷ 0 ∷ 2 ∷ 0 ∷ 3 ∷ 0 ∷ 0 ∷ 0 ∷ 40
    ∷ 0 ∷ 3 ∷ 0 ∷ 4 ∷ 0 ∷ 0 ∷ 0 ∷ 88 ∷ 0 ∷ 4 ∷ 0 ∷ 1 ∷ 0 ∷ 0 ∷ 0 ∷ 152
    ∷ 1 ∷ 0 ∷ 2 ∷ 0
    -- 0: UDP, remote 0:0, alive limit 2 ticks; 1: UDP, 192.168.0.5 port 1,000; 2: TCP, 192.168.0.7 port 1,000; each with all switches off
    ∷ 0 ∷ 0 ∷ 0 ∷ 0 ∷ 0 ∷ 0 ∷ 0 ∷ 0 ∷ 5 ∷ 0xC0 ∷ 0 ∷ 2 ∷ 0 ∷ 0 ∷ 0 ∷ 0
    ∷ 0 ∷ 0 ∷ 192 ∷ 168 ∷ 0 ∷ 5 ∷ 3 ∷ 0xE8 ∷ 5 ∷ 0xC0 ∷ 0 ∷ 0 ∷ 0 ∷ 0 ∷ 0 ∷ 0
    ∷ 1 ∷ 0 ∷ 192 ∷ 168 ∷ 0 ∷ 7 ∷ 3 ∷ 0xE8 ∷ 5 ∷ 0xC0 ∷ 0 ∷ 0 ∷ 0 ∷ 0 ∷ 0 ∷ 0
    -- connection 2: 0x101 to 2 bytes under switch 0; 0x102 to 2 bytes with groups 0; connection 0: 0x101; connection 2: 0x104, marked, with
    -- longest payload 0 and groups 0
    ∷ 2 ∷ 0 ∷ 0 ∷ 2 ∷ 0 ∷ 0 ∷ 1 ∷ 1 ∷ 0 ∷ 7 ∷ 0 ∷ 0 ∷ 0 ∷ 0 ∷ 0 ∷ 1
    ∷ 2 ∷ 0 ∷ 0 ∷ 2 ∷ 0 ∷ 0 ∷ 1 ∷ 2 ∷ 0 ∷ 8 ∷ 0 ∷ 0 ∷ 0 ∷ 0 ∷ 0 ∷ 0
    ∷ 0 ∷ 0 ∷ 0 ∷ 2 ∷ 0 ∷ 0 ∷ 1 ∷ 1 ∷ 0 ∷ 7 ∷ 0 ∷ 0 ∷ 0 ∷ 0 ∷ 0 ∷ 0
    ∷ 2 ∷ 1 ∷ 0 ∷ 0 ∷ 0 ∷ 0 ∷ 1 ∷ 4 ∷ 0 ∷ 10 ∷ 0 ∷ 0 ∷ 0 ∷ 0 ∷ 0 ∷ 0
    -- PDU 9 to connection 2, id 0x202, to 1,464 bytes, groups 0
    ∷ 2 ∷ 0 ∷ 5 ∷ 0xB8 ∷ 0 ∷ 0 ∷ 2 ∷ 2 ∷ 0 ∷ 9 ∷ 0 ∷ 0 ∷ 0 ∷ 0 ∷ 0 ∷ 0 ∷ []

-- R19.1, the mark, a row's second byte: 1 on route 2, whose connection is UDP; 2 on route 0
abbrev pub marked_udp : List ℕ
marked_udp = set image 121 1

abbrev pub marked_twice : List ℕ
marked_twice = set image 89 2

-- R20.1, the alive limit, a row's bytes 10 and 11: 1 on connection 2, which is TCP; and connection 0 with 1 for its 2
abbrev pub limited_tcp : List ℕ
limited_tcp = set image 83 1

abbrev pub limit_one : List ℕ
limit_one = set image 51 1

-- and connection 1, whose remote has no wildcard, with 1 for none
abbrev pub limited_exact : List ℕ
limited_exact = set image 67 1

abbrev pub fresh : State
fresh = fresh_state image

-- both UDP connections in reconnect: they wait for a datagram
abbrev pub waiting_for : State
waiting_for = with_record 0 (become Reconnect (record_at fresh 0)) (with_record 1 (become Reconnect (record_at fresh 1)) fresh)

-- the TCP connection online with so many bytes waiting, and due
abbrev pub used : ℕ → State
used n = with_record 2 (with_send n 0 true (become Online (record_at fresh 2))) fresh

-- the TCP connection online, with a transfer of which so many bytes are to come
abbrev pub moving : ℕ → State
moving n = with_record 2 (with_part (Transfer 3 n) (become Online (record_at fresh 2))) fresh

-- the remote of connection 1
abbrev pub exact : Remote
exact = record { address = 3232235525; port = 1000 }

-- connection 0 alone in reconnect: it waits for anybody
abbrev pub anybody : State
anybody = with_record 0 (become Reconnect (record_at fresh 0)) fresh

-- connection 0 online with a peer, ten bytes waiting and a timer that runs; its alive timer, and whether the upper layer set its remote
abbrev pub watching : ℕ → Bool → State
watching a set =
    with_record 0 (with_watch (record { alive = a; remote_set = set }) (with_send 10 5 false (become Online (with_remote exact (record_at fresh 0))))) fresh

-- connection 1 online, with one tick left of its alive timer
abbrev pub last_tick : State
last_tick = with_record 1 (with_watch (alive_at 1 unwatched) (become Online (record_at fresh 1))) fresh

-- connection 0 as in `watching`, with close wanted
abbrev pub closing : ℕ → State
closing a = with_record 0 (with_mode Online false true (record_at (watching a false) 0)) fresh

-- WHAT A CALL OVER THE IMAGE IS LENT: both memories in their lengths, all zero
abbrev pub receive_memory : List ℕ
receive_memory = replicate 23424 0

abbrev pub send_memory : List ℕ
send_memory = replicate 23552 0

abbrev pub lends : State → Lent
lends s = lent image s 23424 23552

abbrev pub loans : State → Loan
loans s = loan image s receive_memory send_memory
