-- A TABLE WITH ONE UDP AND ONE TCP CONNECTION (R5.17, R15.1), states over it that are online, and what is sent and read there.
use Rattle.std.specs.Prelude.{ℕ, List, [], ◌∷◌, replicate}
use Rattle.receive_part.specs.declared.Part.TheVariants.{Header}
use Rattle.connection.specs.declared.Mode.TheVariants.{Online}
use Rattle.connection.specs.Connection.{become, with_part}
use Rattle.state.specs.declared.State.{State}
use Rattle.state.specs.State.{record_at, with_record}
use Rattle.state.specs.Fresh.{fresh_state}
use Rattle.frame.specs.Frame.{Sent}
use Rattle.model.specs.Events.{transmit, Event, on_whole}
use Rattle.model_refines.specs.Machine.{Machine, machine}

-- two groups (UDP, TCP), a connection of each, and on each connection a route for id 0x101 to 2 bytes and a destination of PDU 9 with that id
unfoldable pub gauges : List ℕ
gauges =
    0 ∷ 1 ∷ 0 ∷ 4
    ∷ 0 ∷ 1 ∷ 0 ∷ 2 ∷ 0 ∷ 0 ∷ 0 ∷ 36 ∷ 0 ∷ 2 ∷ 0 ∷ 2 ∷ 0 ∷ 0 ∷ 0 ∷ 40
    ∷ 0 ∷ 3 ∷ 0 ∷ 2 ∷ 0 ∷ 0 ∷ 0 ∷ 72 ∷ 0 ∷ 4 ∷ 0 ∷ 2 ∷ 0 ∷ 0 ∷ 0 ∷ 104
    ∷ 1 ∷ 0 ∷ 2 ∷ 0
    -- 0: UDP, 192.168.0.5 port 1,000; 1: TCP, 192.168.0.7 port 1,000
    ∷ 0 ∷ 0 ∷ 192 ∷ 168 ∷ 0 ∷ 5 ∷ 3 ∷ 0xE8 ∷ 5 ∷ 0xC0 ∷ 0 ∷ 0 ∷ 0 ∷ 0 ∷ 0 ∷ 0
    ∷ 1 ∷ 0 ∷ 192 ∷ 168 ∷ 0 ∷ 7 ∷ 3 ∷ 0xE8 ∷ 5 ∷ 0xC0 ∷ 0 ∷ 0 ∷ 0 ∷ 0 ∷ 0 ∷ 0
    ∷ 0 ∷ 0 ∷ 0 ∷ 2 ∷ 0 ∷ 0 ∷ 1 ∷ 1 ∷ 0 ∷ 7 ∷ 0 ∷ 0 ∷ 0 ∷ 0 ∷ 0 ∷ 0
    ∷ 1 ∷ 0 ∷ 0 ∷ 2 ∷ 0 ∷ 0 ∷ 1 ∷ 1 ∷ 0 ∷ 7 ∷ 0 ∷ 0 ∷ 0 ∷ 0 ∷ 0 ∷ 0
    ∷ 0 ∷ 0 ∷ 0 ∷ 2 ∷ 0 ∷ 0 ∷ 1 ∷ 1 ∷ 0 ∷ 9 ∷ 0 ∷ 0 ∷ 0 ∷ 0 ∷ 0 ∷ 0
    ∷ 1 ∷ 0 ∷ 0 ∷ 2 ∷ 0 ∷ 0 ∷ 1 ∷ 1 ∷ 0 ∷ 9 ∷ 0 ∷ 0 ∷ 0 ∷ 0 ∷ 0 ∷ 0 ∷ []

-- both connections online, nothing held
abbrev pub gauges_up : State
gauges_up =
    with_record 0 (become Online (record_at (fresh_state gauges) 0)) (with_record 1 (become Online (record_at (fresh_state gauges) 1)) (fresh_state gauges))

-- the TCP connection has taken `00 00 01`: a header is half read
abbrev pub half_read : State
half_read = with_record 1 (with_part (Header 3 1) (record_at gauges_up 1)) gauges_up

-- a pressure of 180, and the rest of its bytes behind `00 00 01`
abbrev pub pressure : List ℕ
pressure = 0 ∷ 180 ∷ []

abbrev pub rest_read : List ℕ
rest_read = 1 ∷ 0 ∷ 0 ∷ 0 ∷ 2 ∷ 0 ∷ 180 ∷ []

-- it is sent to both
abbrev pub send_pressure : List Event
send_pressure = on_whole (transmit 9 pressure) ∷ []

abbrev pub sent_pressure : Sent
sent_pressure = record { id = 0x101; body = pressure }

-- a machine in such a state; and with memory that is all zero
abbrev pub zeroed_at : State → Machine
zeroed_at s = machine s (replicate 23424 0) (replicate 23552 0)
