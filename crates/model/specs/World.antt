-- THE WORLD: the connections with the bytes they hold, and the two drop counts. Unused room of the lent memory is no part of
-- it, so "same state" (R2.10: same numbers and same held bytes; unused room may differ) is plain equality of worlds.
use Rattle.std.specs.Prelude.{ℕ, suc, List, [], ◌∷◌, map, get_or, take}
use Rattle.receive_part.specs.declared.Part.{Part}
use Rattle.receive_part.specs.declared.Part.TheVariants.{Header, Payload, Skip, Transfer}
use Rattle.connection.specs.declared.Connection.{Connection}
use Rattle.connection.specs.Connection.{zero_record, with_part}
use Rattle.state.specs.declared.State.{State}
use Rattle.state.specs.Memory.{stretch}
use Rattle.reading.specs.Feed.{Cell}
use Rattle.receive_stream.specs.Stream.{cell_of, part_from, held_in}

-- a record, the bytes it holds of an unfinished payload, and those waiting in its send buffer
pub record Held : Type 0 where
  pub connection : Connection
  pub received : List ℕ
  pub waiting : List ℕ

pub record World : Type 0 where
  pub held : List Held
  pub udp : ℕ
  pub tcp : ℕ

-- what stands past the last record: all zero
abbrev pub blank : Held
blank = record { connection = zero_record; received = []; waiting = [] }

-- connection k of a world
abbrev pub held_at : World → ℕ → Held
held_at w k = get_or w.held k blank

-- how many bytes of receive memory a part holds (header bytes are kept in the record; a transfer holds none)
abbrev pub held_by : Part → ℕ
held_by (Header held value) = 0
held_by (Payload route length held) = held
held_by (Skip bytes) = 0
held_by (Transfer route left) = 0

-- R2.7: connection k with the bytes it holds in the two lent memories
abbrev pub held_of : List ℕ → List ℕ → ℕ → Connection → Held
held_of rx tx k c =
    record { connection = c; received = take (held_by c.part) (stretch 1464 k rx); waiting = take c.used (stretch 1472 k tx) }

-- the connections from number k on
abbrev pub view_from : List ℕ → List ℕ → ℕ → List Connection → List Held
view_from rx tx k [] = []
view_from rx tx k (c ∷ cs) = held_of rx tx k c ∷ view_from rx tx (suc k) cs

-- THE VIEW: what a state and the two lent memories hold
abbrev pub view_of : State → List ℕ → List ℕ → World
view_of s rx tx = record { held = view_from rx tx 0 s.connections; udp = s.udp_drops; tcp = s.tcp_drops }

-- another record: of the held bytes stay, from the front, as many as it holds
abbrev pub follow : Connection → Held → Held
follow c h = record { connection = c; received = take (held_by c.part) h.received; waiting = take c.used h.waiting }

-- the state of a world
abbrev pub state_of : World → State
state_of w = record { connections = map (λ (h : Held). h.connection) w.held; udp_drops = w.udp; tcp_drops = w.tcp }

-- a world after an event that writes no lent memory: the state that it leaves, and of the held bytes those that this still holds
abbrev pub follow_all : List Connection → List Held → List Held
follow_all [] hs = []
follow_all (c ∷ cs) [] = []
follow_all (c ∷ cs) (h ∷ hs) = follow c h ∷ follow_all cs hs

abbrev pub leaves : State → World → World
leaves s w = record { held = follow_all s.connections w.held; udp = s.udp_drops; tcp = s.tcp_drops }

-- what a connection is to the reader of its stream
abbrev pub cell_at : Held → Cell
cell_at h = cell_of h.connection.part h.received

-- the connection with another cell
abbrev pub with_cell : Cell → Held → Held
with_cell c h = record { connection = with_part (part_from c) h.connection; received = held_in c; waiting = h.waiting }
