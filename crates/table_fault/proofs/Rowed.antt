-- What is told of a row, by values that are its bytes and the numbers it is held against.
use Prim.Native.Nat.{ℕ}
use mathlib.Core.Path.{◌≡◌, ◌∙◌}
use mathlib.Core.List.{List}
use Rattle.std.proofs.Common.{Option}
use Rattle.wire.specs.Be.{be}
use Rattle.table_layout.specs.Layout.{row_bytes, rows_of, body_of, row_of}
use Rattle.table_layout.specs.declared.Kind.{Kind}
use Rattle.table_layout.specs.declared.Kind.TheVariants.{Group, Connection, Route, Destination}
use Rattle.table_rows.specs.declared.GroupRow.{GroupRow}
use Rattle.table_rows.specs.Rows.{connection_row, route_row, destination_row, group_of}
use Rattle.table_rows.specs.Rules.{size_in}
use Rattle.table.specs.Table.{tcp_of}
use Rattle.table_fault.specs.Faults.{group_fault, connection_fault, most_mark, route_fault, destination_fault, shared_fault, row_fault}
use Rattle.table_fault.specs.declared.Told.{Told}

module _ (s : List ℕ) (k : Kind) (i : ℕ) {r : Option Told} {row : List ℕ} where
  pub group_told : k ≡ Group → row ≡ row_of s k i → r ≡ group_fault row → r ≡ row_fault s k i
  unfolding row_fault
  group_told e p q = q ∙ rw (p, e)

  pub connection_told : {groups g protocol : ℕ} {group : GroupRow} → k ≡ Connection → row ≡ row_of s k i → g ≡ be 1 row 0 → group ≡ group_of s g
      → protocol ≡ group.protocol → groups ≡ rows_of s Group → r ≡ connection_fault groups protocol row → r ≡ row_fault s k i
  unfolding row_fault connection_row
  connection_told e p g t v n q = q ∙ rw (v, t, g, p, e, n)

  pub route_told : {shared : Option Told} {connections c most : ℕ} → k ≡ Route → row ≡ row_of s k i → shared ≡ shared_fault s Route i
      → c ≡ be 1 row 0 → most ≡ most_mark (tcp_of s c) → connections ≡ rows_of s Connection
      → r ≡ route_fault connections most shared row → r ≡ row_fault s k i
  unfolding row_fault route_row
  route_told e p f c m n q = q ∙ rw (m, c, p, e, f, n)

  pub destination_told : {shared : Option Told} {connections c size : ℕ} {body : List ℕ} → k ≡ Destination → row ≡ row_of s k i
      → shared ≡ shared_fault s Destination i → body ≡ body_of s Connection → c ≡ be 1 row 0
      → size ≡ size_in (row_bytes s Connection) body c → connections ≡ rows_of s Connection
      → r ≡ destination_fault connections size shared row → r ≡ row_fault s k i
  unfolding row_fault destination_row
  destination_told e p f b c z n q = q ∙ rw (z, c, b, p, e, f, n)
