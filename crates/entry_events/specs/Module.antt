-- A switch on all connections. A refusal carries its number, and the state stays.
use Rattle.std.specs.Prelude.{ℕ, Bool, cond, ltb, Ok}
use Rattle.table_layout.specs.Layout.{rows_of}
use Rattle.table_layout.specs.declared.Kind.TheVariants.{Connection as Connections}
use Rattle.connection.specs.declared.Connection.{Connection}
use Rattle.connection.specs.declared.Refusal.TheVariants.{Missing}
use Rattle.connection.specs.Connection.{switched_of}
use Rattle.lists.specs.Each.{each_to}
use Rattle.state.specs.declared.State.{State}
use Rattle.state.specs.State.{with_records}
use Rattle.gate.specs.Lent.{Lent}
use Rattle.gate.specs.Gate.{gate_of, through}
use Rattle.entry_events.specs.declared.Told.{Told}
use Rattle.entry_events.specs.Change.{refused_told}

abbrev pub switch_at : ℕ → Bool → ℕ → Connection → Connection
switch_at number on i c = switched_of number on c

-- one switch of each of the first `rows` records; the records past them stay
unfoldable pub switched_all : ℕ → ℕ → Bool → State → State
switched_all rows number on s = with_records (each_to (switch_at number on) 0 rows s.connections) s

-- R8.9: a switch on all connections: 11, 12, then 2 for a switch number above 31
unfoldable pub switch_all_of : Lent → ℕ → Bool → Told
switch_all_of l number on =
    through (gate_of l) (refused_told l.state)
    (cond (ltb number 32) (record { answer = Ok tt; state = switched_all (rows_of l.image Connections) number on l.state }) (refused_told l.state Missing))
