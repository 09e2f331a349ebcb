-- When table and state are sound together (R3.1). The rules of a record by itself are crate connection's.
use Rattle.std.specs.Prelude.{ℕ, ◌/◌, Bool, true, false, cond, not, ◌&&◌, List, eqb, leb, ltb, length, Result, Ok, Err}
use Rattle.table_layout.specs.Layout.{row_width, rows_of, body_of}
use Rattle.table_layout.specs.declared.Kind.TheVariants.{Connection as Connections, Route as Routes}
use Rattle.table_rows.specs.Rows.{route_in}
use Rattle.table.specs.Table.{check_table}
use Rattle.receive_part.specs.declared.Part.{Part}
use Rattle.receive_part.specs.declared.Part.TheVariants.{Header, Payload, Skip, Transfer}
use Rattle.connection.specs.declared.Connection.{Connection}
use Rattle.connection.specs.Sound.{sound_of, zero_of}
use Rattle.lists.specs.Each.{all_from}
use Rattle.state.specs.declared.State.{State}
use Rattle.state.specs.Fresh.{config_of}
use Rattle.table.specs.declared.BadTable.{BadTable}

-- R3.4: the route of an unfinished payload is there, belongs to the connection, allows the length and is not marked; R19.8: the route of a
-- transfer is there, belongs to the connection and is marked (over the body of the routes)
abbrev pub routed : List ℕ → ℕ → Part → Bool
routed routes n (Header held value) = true
routed routes n (Payload route len held) =
    ltb route (length routes / row_width Routes)
    && eqb (route_in routes route).connection n
    && leb len (route_in routes route).longest
    && not (route_in routes route).transfer
routed routes n (Skip bytes) = true
routed routes n (Transfer route left) =
    ltb route (length routes / row_width Routes) && eqb (route_in routes route).connection n && (route_in routes route).transfer

-- R3.1: a row's record meets the rules, and records past the row count are all zero
unfoldable pub sound_at : List ℕ → ℕ → Connection → Bool
sound_at image n c =
    cond (ltb n (rows_of image Connections))
    (sound_of (config_of image n) c && routed (body_of image Routes) n c.part)
    (zero_of c)

-- every record, by its number
unfoldable pub records_sound : List ℕ → List Connection → Bool
records_sound image cs = all_from (sound_at image) 0 cs

-- R3.1: the table is accepted
abbrev pub is_accepted : Result Unit BadTable → Bool
is_accepted (Ok tt) = true
is_accepted (Err e) = false

-- state and table are sound
unfoldable pub sound_state : List ℕ → State → Bool
sound_state image s = is_accepted (check_table image) && records_sound image s.connections
