-- WORDS APPLIED TO A STATE (R18.6), as a caller sees it: the gate (11, 12), then 3 for words with a bit in both, then every row's switches forced.
-- A refusal carries its number, and the state stays.
use Rattle.std.specs.Prelude.{ℕ, cond, Ok}
use Rattle.table_layout.specs.Layout.{rows_of}
use Rattle.table_layout.specs.declared.Kind.TheVariants.{Connection as Connections}
use Rattle.connection.specs.declared.Connection.{Connection}
use Rattle.connection.specs.declared.Refusal.TheVariants.{Denied}
use Rattle.connection.specs.Connection.{with_switches}
use Rattle.lists.specs.Each.{each_to}
use Rattle.state.specs.declared.State.{State}
use Rattle.state.specs.State.{with_records}
use Rattle.gate.specs.Lent.{Lent}
use Rattle.gate.specs.Gate.{gate_of, through}
use Rattle.entry_events.specs.declared.Told.{Told}
use Rattle.entry_events.specs.Change.{refused_told}
use Rattle.sheet.specs.declared.Pair.{Pair}
use Rattle.sheet.specs.declared.Words.{Words}
use Rattle.sheet.specs.Force.{force_of, pair_at, agreeing}

-- a record with its switches forced
abbrev pub forced_of : Pair → Connection → Connection
forced_of p c = with_switches (force_of p c.switches) c

abbrev pub force_at : Words → ℕ → Connection → Connection
force_at ws i c = forced_of (pair_at ws i) c

-- each of the first `rows` records by its own pair; the records past them stay
unfoldable pub forced_rows : ℕ → Words → State → State
forced_rows rows ws s = with_records (each_to (force_at ws) 0 rows s.connections) s

-- R18.6: words applied: 11, 12, then 3 for a bit in both
unfoldable pub apply_of : Lent → Words → Told
apply_of l ws =
    through (gate_of l) (refused_told l.state)
    (cond (agreeing ws) (record { answer = Ok tt; state = forced_rows (rows_of l.image Connections) ws l.state }) (refused_told l.state Denied))
