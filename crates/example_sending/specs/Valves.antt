-- Two valves on one UDP group, and a setpoint for both: a table image, records, and a payload.
use Rattle.std.specs.Prelude.{ℕ, Bool, true, false, List, [], ◌∷◌, ◌++◌, replicate}
use Rattle.connection.specs.declared.Mode.{Mode}
use Rattle.connection.specs.declared.Mode.TheVariants.{Online}
use Rattle.connection.specs.declared.Remote.{Remote}
use Rattle.connection.specs.declared.Config.{Config}
use Rattle.connection.specs.declared.Connection.{Connection}
use Rattle.connection.specs.Connection.{with_mode, with_remote, with_send, zero_remote, zero_record}
use Rattle.table_rows.specs.declared.DestinationRow.{DestinationRow}
use Rattle.state.specs.declared.State.{State}

-- one group (UDP), two connections, no route, two destinations of PDU 9 with header ids 0x101 and 0x102 and at most 2 bytes
abbrev pub contents : List ℕ
contents =
    0 ∷ 1 ∷ 0 ∷ 4 ∷ 0 ∷ 1 ∷ 0 ∷ 1 ∷ 0 ∷ 0 ∷ 0 ∷ 36 ∷ 0 ∷ 2 ∷ 0 ∷ 2 ∷ 0 ∷ 0 ∷ 0 ∷ 38 ∷ 0 ∷ 3 ∷ 0 ∷ 0 ∷ 0 ∷ 0 ∷ 0 ∷ 70 ∷ 0 ∷ 4 ∷ 0 ∷ 2 ∷ 0 ∷ 0 ∷ 0 ∷ 70 ∷ []

abbrev pub connections : List ℕ
connections =
    0 ∷ 1 ∷ 10 ∷ 0 ∷ 0 ∷ 5 ∷ 19 ∷ 136 ∷ 5 ∷ 192 ∷ 0 ∷ 0 ∷ 0 ∷ 0 ∷ 0 ∷ 0 ∷ 0 ∷ 1 ∷ 10 ∷ 0 ∷ 0 ∷ 6 ∷ 19 ∷ 136 ∷ 5 ∷ 192 ∷ 0 ∷ 0 ∷ 0 ∷ 0 ∷ 0 ∷ 0 ∷ []

abbrev pub destination_rows : List ℕ
destination_rows =
    0 ∷ 0 ∷ 0 ∷ 2 ∷ 0 ∷ 0 ∷ 1 ∷ 1 ∷ 0 ∷ 9 ∷ 0 ∷ 0 ∷ 0 ∷ 0 ∷ 0 ∷ 0 ∷ 1 ∷ 0 ∷ 0 ∷ 2 ∷ 0 ∷ 0 ∷ 1 ∷ 2 ∷ 0 ∷ 9 ∷ 0 ∷ 0 ∷ 0 ∷ 0 ∷ 0 ∷ 0 ∷ []

unfoldable pub valves : List ℕ
valves = contents ++ (1 ∷ 0 ∷ (connections ++ destination_rows))

-- payload 180
abbrev pub setpoint : List ℕ
setpoint = 0 ∷ 180 ∷ []

abbrev pub remote : ℕ → ℕ → Remote
remote a p = record { address = a; port = p }

-- a record of a mode, wishing to close or not, with a remote and so many bytes used
abbrev pub record_of : Mode → Bool → Remote → ℕ → Connection
record_of m k r used = with_send used 0 false (with_mode m false k (with_remote r zero_record))

-- online, with so many bytes used
abbrev pub holding : ℕ → Connection
holding used = record_of Online false (remote 1 1) used

-- both valves online, with so many bytes used, and nothing else
abbrev pub both_valves : ℕ → ℕ → State
both_valves a b = record { connections = holding a ∷ holding b ∷ replicate 14 zero_record; udp_drops = 0; tcp_drops = 0 }

-- a destination of so long a payload, with its groups
abbrev pub valve_destination : ℕ → ℕ → DestinationRow
valve_destination longest groups = record { connection = 0; trigger = false; longest = longest; id = 257; pdu = 9; timeout = 0; groups = groups }

-- an automatic connection whose configured remote has a wildcard
abbrev pub service : Bool → Config
service tcp = record { tcp = tcp; automatic = true; remote = zero_remote; size = 1472; alive = 0; switches = 0 }
