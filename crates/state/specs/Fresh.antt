-- What the table says of a connection, and the fresh state.
use Rattle.std.specs.Prelude.{ℕ, eqb, replicate, List}
use Rattle.lists.specs.Each.{each}
use Rattle.table_rows.specs.declared.ConnectionRow.{ConnectionRow}
use Rattle.table_rows.specs.declared.GroupRow.{GroupRow}
use Rattle.table_rows.specs.Rows.{group_in, connection_in, connection_of, group_of}
use Rattle.connection.specs.declared.Connection.{Connection}
use Rattle.connection.specs.declared.Config.{Config}
use Rattle.connection.specs.Connection.{fresh_of, zero_record}
use Rattle.state.specs.declared.State.{State}

-- a connection row and its group's: protocol 2 is TCP
abbrev pub config_from : ConnectionRow → GroupRow → Config
config_from row group =
    record {
      tcp = eqb group.protocol 2;
      automatic = row.automatic;
      remote = record { address = row.address; port = row.port };
      size = row.size;
      alive = row.alive;
      switches = row.switches;
    }

-- what the bodies of connections and groups say of connection i
abbrev pub config_in : List ℕ → List ℕ → ℕ → Config
config_in connections groups i = config_from (connection_in connections i) (group_in groups (connection_in connections i).group)

-- what the table says of connection i
unfoldable pub config_of : List ℕ → ℕ → Config
config_of image i = config_from (connection_of image i) (group_of image (connection_of image i).group)

-- the state of the empty table: sixteen records that are all zero, counts 0
abbrev pub empty_state : State
empty_state = record { connections = replicate 16 zero_record; udp_drops = 0; tcp_drops = 0 }

abbrev pub fresh_at : List ℕ → ℕ → Connection → Connection
fresh_at image i c = fresh_of (config_of image i)

-- R2.12: fresh records, counts 0
unfoldable pub fresh_state : List ℕ → State
fresh_state image =
    record { connections = each (fresh_at image) 0 (replicate 16 zero_record); udp_drops = 0; tcp_drops = 0 }
