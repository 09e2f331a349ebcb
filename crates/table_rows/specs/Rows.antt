-- Each kind's row (R1.5) as a value, by its bytes and by its number: the fields in their order. A row that is not there is the zero row.
-- The offsets stand here and nowhere else.
use Rattle.std.specs.Prelude.{ℕ, List, eqb}
use Rattle.wire.specs.Be.{be}
use Rattle.table_layout.specs.Layout.{row_width, row_in, row_of}
use Rattle.table_layout.specs.declared.Kind.TheVariants.{Group, Connection, Route, Destination}
use Rattle.table_rows.specs.declared.GroupRow.{GroupRow}
use Rattle.table_rows.specs.declared.ConnectionRow.{ConnectionRow}
use Rattle.table_rows.specs.declared.ConnectionBrief.{ConnectionBrief}
use Rattle.table_rows.specs.declared.RouteRow.{RouteRow}
use Rattle.table_rows.specs.declared.DestinationRow.{DestinationRow}

-- what the rules ask of bytes that no field shows: zero bytes, with where they stand, and those that must be 0 or 1
abbrev pub group_zero_at : ℕ
group_zero_at = 1

abbrev pub group_zero : List ℕ → ℕ
group_zero row = be 1 row group_zero_at

abbrev pub automatic_byte : List ℕ → ℕ
automatic_byte row = be 1 row 1

abbrev pub transfer_byte : List ℕ → ℕ
transfer_byte row = be 1 row 1

abbrev pub route_zero_at : ℕ
route_zero_at = 10

abbrev pub route_zero : List ℕ → ℕ
route_zero row = be 2 row route_zero_at

abbrev pub trigger_byte : List ℕ → ℕ
trigger_byte row = be 1 row 1

-- protocol 1 (1 UDP, 2 TCP), zero 1
unfoldable pub group_row : List ℕ → GroupRow
group_row row = record { protocol = be 1 row 0 }

-- group 1, automatic 1 (0 or 1), IPv4 4, port 2, send size 2 (8..1,472), alive limit 2 (in ticks), start switches 4
unfoldable pub connection_row : List ℕ → ConnectionRow
connection_row row =
    record {
      group = be 1 row 0;
      automatic = eqb (automatic_byte row) 1;
      address = be 4 row 2;
      port = be 2 row 6;
      size = be 2 row 8;
      alive = be 2 row 10;
      switches = be 4 row 12;
    }

-- where a route's header id stands, for the lookup, which reads it the other way round
abbrev pub route_id_at : ℕ
route_id_at = 4

-- connection 1, transfer 1 (0 or 1, R19.1), longest payload 2, header id 4, upper PDU 2, zero 2, groups 4
unfoldable pub route_row : List ℕ → RouteRow
route_row row =
    record {
      connection = be 1 row 0;
      transfer = eqb (transfer_byte row) 1;
      longest = be 2 row 2;
      id = be 4 row route_id_at;
      pdu = be 2 row 8;
      groups = be 4 row 12;
    }

-- connection 1, trigger 1 (0 or 1), longest payload 2, header id 4, PDU 2, timeout ticks 2, groups 4
unfoldable pub destination_row : List ℕ → DestinationRow
destination_row row =
    record {
      connection = be 1 row 0;
      trigger = eqb (trigger_byte row) 1;
      longest = be 2 row 2;
      id = be 4 row 4;
      pdu = be 2 row 8;
      timeout = be 2 row 10;
      groups = be 4 row 12;
    }

-- row i of a body of groups, and of a body of connections
abbrev pub group_in : List ℕ → ℕ → GroupRow
group_in body i = group_row (row_in (row_width Group) body i)

abbrev pub connection_in : List ℕ → ℕ → ConnectionRow
connection_in body i = connection_row (row_in (row_width Connection) body i)

-- of row i of a body of connections: group, automatic, send size, alive limit
abbrev pub brief_in : List ℕ → ℕ → ConnectionBrief
brief_in body i =
    record {
      group = (connection_in body i).group;
      automatic = (connection_in body i).automatic;
      size = (connection_in body i).size;
      alive = (connection_in body i).alive;
    }

-- row i of an image
abbrev pub group_of : List ℕ → ℕ → GroupRow
group_of s i = group_row (row_of s Group i)

abbrev pub connection_of : List ℕ → ℕ → ConnectionRow
connection_of s i = connection_row (row_of s Connection i)

-- row i of a body of routes, and of an image
abbrev pub route_in : List ℕ → ℕ → RouteRow
route_in body i = route_row (row_in (row_width Route) body i)

abbrev pub route_of : List ℕ → ℕ → RouteRow
route_of s i = route_row (row_of s Route i)

-- row i of a body of destinations, and of an image
abbrev pub destination_in : List ℕ → ℕ → DestinationRow
destination_in body i = destination_row (row_in (row_width Destination) body i)

abbrev pub destination_of : List ℕ → ℕ → DestinationRow
destination_of s i = destination_row (row_of s Destination i)
