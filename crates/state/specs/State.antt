-- The state: a record by its number, the drop counts, and the state with some of them replaced.
use Rattle.std.specs.Prelude.{ℕ, ◌+◌, ltb, get_or, set, Bool, true, false, cond, List}
use Rattle.connection.specs.declared.Connection.{Connection}
use Rattle.connection.specs.Connection.{zero_record}
use Rattle.state.specs.declared.State.{State}

-- record i; one past the sixteenth is the zero record
abbrev pub record_at : State → ℕ → Connection
record_at s i = get_or s.connections i zero_record

-- the state with other records
abbrev pub with_records : List Connection → State → State
with_records l s = record { connections = l; udp_drops = s.udp_drops; tcp_drops = s.tcp_drops }

-- the state with another record i
abbrev pub with_record : ℕ → Connection → State → State
with_record i c s = with_records (set s.connections i c) s

-- the drop count of a protocol: TCP's or UDP's
abbrev pub count_of : Bool → State → ℕ
count_of true s = s.tcp_drops
count_of false s = s.udp_drops

-- the state with another drop count of a protocol
abbrev pub with_count : Bool → ℕ → State → State
with_count true n s = record { connections = s.connections; udp_drops = s.udp_drops; tcp_drops = n }
with_count false n s = record { connections = s.connections; udp_drops = n; tcp_drops = s.tcp_drops }

-- R2.6: a count stops at 4,294,967,295
unfoldable pub counted : ℕ → ℕ
counted n = cond (ltb n 4294967295) (n + 1) n

-- R2.6: a drop adds 1 to its protocol's count
abbrev pub dropped_of : Bool → State → State
dropped_of tcp s = with_count tcp (counted (count_of tcp s)) s
