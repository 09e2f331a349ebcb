-- Rules of the table (R1.4 to R1.9) as facts of its rows, for those who have an accepted image (zero bytes, contents and bytes 0..3 are not among them).
use Rattle.std.specs.Prelude.{ℕ, ◌+◌, ◌<◌, ◌≤◌, ◌≡◌, true, List}
use Rattle.table_layout.specs.Layout.{most_rows, rows_of, row_of, Laid}
use Rattle.table_layout.specs.declared.Kind.{Kind}
use Rattle.table_layout.specs.declared.Kind.TheVariants.{Group, Connection, Route, Destination}
use Rattle.table_rows.specs.Rows.{group_of, connection_of, route_of, destination_of, automatic_byte, transfer_byte, trigger_byte}

pub record Accepts (s : List ℕ) : Type 0 where
  -- the bodies are all there and nothing else; no kind has too many rows
  pub laid : Laid s
  pub most : (k : Kind) → rows_of s k ≤ most_rows k
  -- groups: protocol 1 or 2
  pub protocol : (i : ℕ) → i < rows_of s Group → (1 ≤ (group_of s i).protocol) × ((group_of s i).protocol ≤ 2)
  -- connections: the group exists; automatic 0 or 1; send size 8..1,472; R20.1, no alive limit on a TCP connection
  pub owned : (i : ℕ) → i < rows_of s Connection → (connection_of s i).group < rows_of s Group
  pub automatic : (i : ℕ) → i < rows_of s Connection → automatic_byte (row_of s Connection i) ≤ 1
  pub sized : (i : ℕ) → i < rows_of s Connection → (8 ≤ (connection_of s i).size) × ((connection_of s i).size ≤ 1472)
  pub unlimited : (i : ℕ) → i < rows_of s Connection → (group_of s (connection_of s i).group).protocol ≡ 2 → (connection_of s i).alive ≡ 0
  -- routes: the connection exists; transfer 0 or 1, and a marked route's connection is TCP; longest payload 0..1,464; no two share
  -- connection and id
  pub routed : (i : ℕ) → i < rows_of s Route → (route_of s i).connection < rows_of s Connection
  pub transfer : (i : ℕ) → i < rows_of s Route → transfer_byte (row_of s Route i) ≤ 1
  pub marked : (i : ℕ) → i < rows_of s Route → (route_of s i).transfer ≡ true
      → (group_of s (connection_of s (route_of s i).connection).group).protocol ≡ 2
  pub longest : (i : ℕ) → i < rows_of s Route → (route_of s i).longest ≤ 1464
  pub routes_apart : (i j : ℕ) → i < j → j < rows_of s Route
      → (route_of s i).connection ≡ (route_of s j).connection → (route_of s i).id ≡ (route_of s j).id → ⊥
  -- destinations: the connection exists; trigger 0 or 1; longest payload 0..1,464, and 8 more fit the send size;
  -- no two share PDU and connection
  pub there : (i : ℕ) → i < rows_of s Destination → (destination_of s i).connection < rows_of s Connection
  pub trigger : (i : ℕ) → i < rows_of s Destination → trigger_byte (row_of s Destination i) ≤ 1
  pub most_sent : (i : ℕ) → i < rows_of s Destination → (destination_of s i).longest ≤ 1464
  pub fits : (i : ℕ) → i < rows_of s Destination
      → (destination_of s i).longest + 8 ≤ (connection_of s (destination_of s i).connection).size
  pub destinations_apart : (i j : ℕ) → i < j → j < rows_of s Destination
      → (destination_of s i).pdu ≡ (destination_of s j).pdu → (destination_of s i).connection ≡ (destination_of s j).connection → ⊥
