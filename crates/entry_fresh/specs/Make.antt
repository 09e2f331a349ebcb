-- Making a state from a table image.
use Rattle.std.specs.Prelude.{ℕ, List, Result, Ok, Err}
use Rattle.table.specs.declared.BadTable.TheVariants.{At}
use Rattle.table.specs.Table.{check_table}
use Rattle.state.specs.Fresh.{fresh_state, empty_state}
use Rattle.entry_fresh.specs.declared.Made.{Made}
use Rattle.table.specs.declared.BadTable.{BadTable}

-- R2.13: of a refused table its place, and the state of the empty table
unfoldable pub made_of : Result Unit BadTable → List ℕ → Made
made_of (Ok tt) image = record { answer = Ok tt; state = fresh_state image }
made_of (Err (At place)) image = record { answer = Err (At place); state = empty_state }

unfoldable pub make_of : List ℕ → Made
make_of image = made_of (check_table image) image
