-- When a row is good (R1.6): values in their ranges, zero bytes 0, and R1.7, R1.8, R1.9. Its fields are read as Rows reads them.
use Rattle.std.specs.Prelude.{ℕ, ◌+◌, ◌/◌, ◌<◌, ◌≤◌, Bool, not, ◌&&◌, ◌||◌, List, leb, ltb, eqb, length}
use Rattle.table_layout.specs.Layout.{row_width, row_in}
use Rattle.table_layout.specs.declared.Kind.TheVariants.{Group, Connection}
use Rattle.table_rows.specs.Rows.{
  group_row,
  connection_row,
  route_row,
  destination_row,
  group_zero,
  automatic_byte,
  transfer_byte,
  route_zero,
  trigger_byte,
}

-- protocol 1 or 2, zero byte 0
unfoldable pub group_good : List ℕ → Bool
group_good row =
    leb 1 (group_row row).protocol && leb (group_row row).protocol 2
    && eqb (group_zero row) 0

-- R2.11: group g is TCP, out of the body of groups, whose rows have m bytes: protocol 2
unfoldable pub group_tcp : ℕ → List ℕ → ℕ → Bool
group_tcp m groups g = eqb (group_row (row_in m groups g)).protocol 2

-- R1.7, the group exists; automatic 0 or 1; send size 8..1,472; R20.1, an alive limit only where the group is not TCP
unfoldable pub connection_good : ℕ → (ℕ → Bool) → List ℕ → Bool
connection_good groups tcp row =
    ltb (connection_row row).group groups
    && leb (automatic_byte row) 1
    && leb 8 (connection_row row).size && leb (connection_row row).size 1472
    && (eqb (connection_row row).alive 0 || not (tcp (connection_row row).group))

-- R2.11: connection c is TCP, out of the bodies of groups and connections, whose rows have m and n bytes
unfoldable pub tcp_in : ℕ → List ℕ → ℕ → List ℕ → ℕ → Bool
tcp_in m groups n connections c = group_tcp m groups (connection_row (row_in n connections c)).group

-- R1.7, the connection exists; R19.1, transfer 0 or 1, and 1 only on a TCP connection; R1.8, longest payload 0..1,464; zero bytes 0
unfoldable pub route_good : ℕ → (ℕ → Bool) → List ℕ → Bool
route_good connections tcp row =
    ltb (route_row row).connection connections
    && leb (transfer_byte row) 1
    && (not (route_row row).transfer || tcp (route_row row).connection)
    && leb (route_row row).longest 1464
    && eqb (route_zero row) 0

-- the send size of connection c, out of the body of connections whose rows have n bytes
unfoldable pub size_in : ℕ → List ℕ → ℕ → ℕ
size_in n connections c = (connection_row (row_in n connections c)).size

-- R1.7, the connection exists; trigger 0 or 1; R1.8, longest payload 0..1,464, and 8 more than it fit the send size of the connection
unfoldable pub destination_good : ℕ → (ℕ → ℕ) → List ℕ → Bool
destination_good connections size row =
    ltb (destination_row row).connection connections
    && leb (trigger_byte row) 1
    && leb (destination_row row).longest 1464
    && leb ((destination_row row).longest + 8) (size (destination_row row).connection)

-- R1.9: two receive routes share connection and id
unfoldable pub routes_share : List ℕ → List ℕ → Bool
routes_share a b = eqb (route_row a).connection (route_row b).connection && eqb (route_row a).id (route_row b).id

-- R1.9: two destinations share PDU and connection
unfoldable pub destinations_share : List ℕ → List ℕ → Bool
destinations_share a b = eqb (destination_row a).pdu (destination_row b).pdu && eqb (destination_row a).connection (destination_row b).connection

-- a connection by itself, under the body of groups
abbrev pub connection_rule : List ℕ → List ℕ → Bool
connection_rule groups = connection_good (length groups / row_width Group) (group_tcp (row_width Group) groups)

-- a route by itself, under the bodies of connections and groups
abbrev pub route_rule : List ℕ → List ℕ → List ℕ → Bool
route_rule connections groups =
    route_good (length connections / row_width Connection) (tcp_in (row_width Group) groups (row_width Connection) connections)

-- a destination by itself, under a body of connections
abbrev pub destination_rule : List ℕ → List ℕ → Bool
destination_rule connections = destination_good (length connections / row_width Connection) (size_in (row_width Connection) connections)

-- each connection of a body has a send size of at most 1,472, as one has that is good by itself
abbrev pub Sized : List ℕ → Type 0
Sized connections = (c : ℕ) → c < length connections / row_width Connection → size_in (row_width Connection) connections c ≤ 1472
