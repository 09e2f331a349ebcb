-- The first test that fails at a spot, in the order of R1.11; None where none does.
use Rattle.std.specs.Prelude.{ℕ, ◌+◌, Option, None, Some, Bool, false, cond, not, ◌&&◌, ◌||◌, List, leb, ltb, eqb, length}
use Rattle.wire.specs.Be.{be}
use Rattle.lists.specs.Search.{first_bad, every}
use Rattle.table_layout.specs.Layout.{number, most_rows, entry_at, row_bytes, rows_of, start_of, end_of, body_of, row_of}
use Rattle.table_layout.specs.declared.Kind.{Kind}
use Rattle.table_layout.specs.declared.Kind.TheVariants.{Group, Connection, Route, Destination}
use Rattle.table_rows.specs.Rows.{
  group_row,
  connection_row,
  route_row,
  destination_row,
  group_zero_at,
  group_zero,
  automatic_byte,
  transfer_byte,
  route_zero_at,
  route_zero,
  trigger_byte,
  group_of,
  connection_of,
  route_of,
  destination_of,
}
use Rattle.table_scan.specs.Scan.{share, clear_in}
use Rattle.table.specs.Table.{tcp_of, size_of}
use Rattle.table_fault.specs.Spots.{spot_of}
use Rattle.table_fault.specs.declared.Spot.{Spot}
use Rattle.table_fault.specs.declared.Spot.TheVariants.{Head, Entry, Total, Row}
use Rattle.table_fault.specs.declared.Fault.{Fault}
use Rattle.table_fault.specs.declared.Fault.TheVariants.{
  Short,
  Edition,
  Number,
  WrongKind,
  TooMany,
  Offset,
  Length,
  Protocol,
  Zero,
  NoGroup,
  Automatic,
  SendSize,
  NoConnection,
  Longest,
  Trigger,
  Room,
  Shared,
  Transfer,
  NotTcp,
  NotUdp,
}
use Rattle.table_fault.specs.declared.Told.{Told}
use Rattle.table_fault.specs.declared.Reason.{Reason}

-- a fault, the number found and the number asked
unfoldable pub fault_told : Fault → ℕ → ℕ → Told
fault_told fault found asked = record { fault = fault; found = found; asked = asked }

abbrev pub no_fault : Option Told
no_fault = None

-- the test that a fault names, of the number found and the number asked; `Shared` is told only where it fails
unfoldable pub passes_test : Fault → ℕ → ℕ → Bool
passes_test Short found asked = leb asked found
passes_test Edition found asked = eqb found asked
passes_test Number found asked = eqb found asked
passes_test WrongKind found asked = eqb found asked
passes_test TooMany found asked = leb found asked
passes_test Offset found asked = eqb found asked
passes_test Length found asked = eqb found asked
passes_test Protocol found asked = leb 1 found && leb found asked
passes_test Zero found asked = eqb found 0
passes_test NoGroup found asked = ltb found asked
passes_test Automatic found asked = leb found asked
passes_test SendSize found asked = leb 8 found && leb found asked
passes_test NoConnection found asked = ltb found asked
passes_test Longest found asked = leb found asked
passes_test Trigger found asked = leb found asked
passes_test Room found asked = leb (found + 8) asked
passes_test Shared found asked = false
passes_test Transfer found asked = leb found asked
passes_test NotTcp found asked = leb found asked
passes_test NotUdp found asked = eqb found 0 || not (eqb asked 2)

-- a fault with its numbers, where they fail its test
unfoldable pub failed : Fault → ℕ → ℕ → Option Told
failed fault found asked = cond (passes_test fault found asked) None (Some (fault_told fault found asked))

-- a fault with its numbers unless they pass its test; else the rest
unfoldable pub unless : Fault → ℕ → ℕ → Option Told → Option Told
unless fault found asked rest = cond (passes_test fault found asked) rest (Some (fault_told fault found asked))

-- at place 0: length, edition, number of kinds
unfoldable pub head_fault : List ℕ → Option Told
head_fault s =
    unless Short (length s) 36
    (unless Edition (be 2 s 0) 1
    (unless Number (be 2 s 2) 4 no_fault))

-- at a contents entry: kind, row count, offset
unfoldable pub entry_fault : List ℕ → Kind → Option Told
entry_fault s k =
    unless WrongKind (be 2 s (entry_at k)) (number k)
    (unless TooMany (rows_of s k) (most_rows k)
    (unless Offset (be 4 s (entry_at k + 4)) (start_of s k) no_fault))

-- at place 2: the total length
unfoldable pub total_fault : List ℕ → Option Told
total_fault s = unless Length (length s) (end_of s) no_fault

unfoldable pub group_fault : List ℕ → Option Told
group_fault row =
    unless Protocol (group_row row).protocol 2
    (unless Zero (group_zero row) group_zero_at no_fault)

-- `protocol` is its group's: R20.1, no alive limit where it is 2 (TCP)
unfoldable pub connection_fault : ℕ → ℕ → List ℕ → Option Told
connection_fault groups protocol row =
    unless NoGroup (connection_row row).group groups
    (unless Automatic (automatic_byte row) 1
    (unless SendSize (connection_row row).size 1472
    (unless NotUdp (connection_row row).alive protocol no_fault)))

-- R19.1: the highest transfer mark that a route may have, on a connection that is TCP or is not
abbrev pub most_mark : Bool → ℕ
most_mark tcp = cond tcp 1 0

-- `most` is the highest mark of its connection; `shared` is told of a row whose fields are right
unfoldable pub route_fault : ℕ → ℕ → Option Told → List ℕ → Option Told
route_fault connections most shared row =
    unless NoConnection (route_row row).connection connections
    (unless Transfer (transfer_byte row) 1
    (unless NotTcp (transfer_byte row) most
    (unless Longest (route_row row).longest 1464
    (unless Zero (route_zero row) route_zero_at shared))))

unfoldable pub destination_fault : ℕ → ℕ → Option Told → List ℕ → Option Told
destination_fault connections size shared row =
    unless NoConnection (destination_row row).connection connections
    (unless Trigger (trigger_byte row) 1
    (unless Longest (destination_row row).longest 1464
    (unless Room (destination_row row).longest size shared)))

-- row i shares with row j nothing that it may not
abbrev pub shares_nothing : List ℕ → Kind → ℕ → ℕ → Bool
shares_nothing s k i j = clear_in (share k) (row_bytes s k) (body_of s k) i j

-- the first earlier row with which row i shares what it may not; nothing where there is none
unfoldable pub shared_fault : List ℕ → Kind → ℕ → Option Told
shared_fault s k i = cond (every (shares_nothing s k i) i) no_fault (Some (fault_told Shared (first_bad (shares_nothing s k i) i) 0))

unfoldable pub row_fault : List ℕ → Kind → ℕ → Option Told
row_fault s Group i = group_fault (row_of s Group i)
row_fault s Connection i =
    connection_fault (rows_of s Group) (group_of s (connection_of s i).group).protocol (row_of s Connection i)
row_fault s Route i =
    route_fault (rows_of s Connection) (most_mark (tcp_of s (route_of s i).connection))
    (shared_fault s Route i) (row_of s Route i)
row_fault s Destination i =
    destination_fault (rows_of s Connection) (size_of s (destination_of s i).connection)
    (shared_fault s Destination i) (row_of s Destination i)

unfoldable pub fault_at : List ℕ → Spot → Option Told
fault_at s Head = head_fault s
fault_at s (Entry k) = entry_fault s k
fault_at s Total = total_fault s
fault_at s (Row k i) = row_fault s k i

-- the reason of a refusal at a place
unfoldable pub reason_at : List ℕ → ℕ → Reason
reason_at s place = record { spot = spot_of s place; told = fault_at s (spot_of s place) }
