-- THE SWITCHES OF A SHEET, CALLED ONE BY ONE through the entry point (R8.8), each lent what the last one left (R18.8, R18.9). A switch that
-- is refused leaves the state as it was, so refused ones are left out.
use Rattle.std.specs.Prelude.{ℕ, ◌<◌, ◌≤◌, ◌^◌, ◌≡◌, true, List, [], ◌∷◌, length}
use Rattle.table_layout.specs.Layout.{rows_of}
use Rattle.table_layout.specs.declared.Kind.TheVariants.{Connection as Connections}
use Rattle.connection.specs.declared.Event.TheVariants.{Switch}
use Rattle.state.specs.declared.State.{State}
use Rattle.state.specs.State.{record_at}
use Rattle.gate.specs.Lent.{Lent, next}
use Rattle.gate.specs.Gate.{Passed}
use Rattle.entry_events.specs.Change.{event_of}
use Rattle.sheet.specs.declared.Words.{Words}
use Rattle.sheet.specs.declared.Switching.{Switching}
use Rattle.sheet.specs.Force.{force_none, pair_at, agreeing}

-- how many connections the table has
abbrev pub table_rows : Lent → ℕ
table_rows l = rows_of l.image Connections

-- the state after one switch
unfoldable pub after_switch : Lent → Switching → State
after_switch l s = (event_of l s.connection (Switch s.number s.on)).state

-- the state after all of them
unfoldable pub after_switches : Lent → List Switching → State
after_switches l [] = l.state
after_switches l (s ∷ ss) = after_switches (next l (after_switch l s)) ss

-- a start: an accepted table, a sound state of sixteen records with switches of 32 bits, memory of the right lengths
pub record Start (l : Lent) : Type 0 where
  pub passed : Passed l
  pub sixteen : length l.state.connections ≡ 16
  pub wide : (i : ℕ) → (record_at l.state i).switches < 2 ^ 32

-- R18.9: words that force a bit within 32, none twice, and none past the table's rows
pub record Proper (rows : ℕ) (ws : Words) : Type 0 where
  pub full : length ws.pairs ≡ 16
  pub agree : agreeing ws ≡ true
  pub narrow : (i : ℕ) → (pair_at ws i).off < 2 ^ 32
  pub past : (i : ℕ) → rows ≤ i → pair_at ws i ≡ force_none
