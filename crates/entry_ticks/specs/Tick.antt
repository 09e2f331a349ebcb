-- A tick, and many, and which transfers they end. A refusal carries its number, and the state stays.
use Rattle.std.specs.Prelude.{ℕ, ◌^◌, Bool, cond, List, Result, Ok, Err}
use Rattle.std.specs.Int.Bits.{bit_or}
use Rattle.table_layout.specs.Layout.{rows_of}
use Rattle.table_layout.specs.declared.Kind.TheVariants.{Connection as Connections}
use Rattle.connection.specs.declared.Connection.{Connection}
use Rattle.connection.specs.declared.Refusal.{Refusal}
use Rattle.connection.specs.Connection.{tick_of, failed_of}
use Rattle.lists.specs.Each.{each_to}
use Rattle.lists.specs.Fold.{fold_from}
use Rattle.state.specs.declared.State.{State}
use Rattle.state.specs.State.{record_at, with_records}
use Rattle.state.specs.Fresh.{config_of}
use Rattle.gate.specs.Lent.{Lent}
use Rattle.gate.specs.Gate.{gate_of, through}
use Rattle.entry_ticks.specs.declared.Ticked.{Ticked}

-- what a tick makes of connection i
abbrev pub tick_at : List ℕ → ℕ → Connection → Connection
tick_at image i c = tick_of (config_of image i) c

-- R9.1: each connection in order, of the first `rows` records; the records past them stay
unfoldable pub ticked_to : List ℕ → ℕ → State → State
ticked_to image rows s = with_records (each_to (tick_at image) 0 rows s.connections) s

-- one tick, whatever its number
abbrev pub tick_once : List ℕ → ℕ → State → ℕ → State
tick_once image rows s k = ticked_to image rows s

-- `count` ticks, one after the other
unfoldable pub ticks_to : List ℕ → ℕ → ℕ → State → State
ticks_to image rows count s = fold_from (tick_once image rows) count 0 s

-- R19.7: a word with bit k, worth 2 to the k, set as well
unfoldable pub marked_of : ℕ → Bool → ℕ → ℕ
marked_of k on word = cond on (bit_or word (2 ^ k)) word

-- a transfer of connection k ran in the state s, and none runs in the state t
abbrev pub fails_at : State → State → ℕ → Bool
fails_at s t k = failed_of (record_at s k) (record_at t k)

abbrev pub failed_bit : State → State → ℕ → ℕ → ℕ
failed_bit s t word k = marked_of k (fails_at s t k) word

-- R19.7: which of the first `rows` connections have failed, between the states s and t, as a word with bit k for connection k
unfoldable pub failed_to : ℕ → State → State → ℕ
failed_to rows s t = fold_from (failed_bit s t) rows 0 0

abbrev pub unticked : State → Refusal → Ticked
unticked s r = record { answer = Err r; state = s; failed = 0 }

-- done, from the state s to the state t
abbrev pub ticked_from : ℕ → State → State → Ticked
ticked_from rows s t = record { answer = Ok tt; state = t; failed = failed_to rows s t }

-- the rows that tick: none where the gate refuses
abbrev pub rows_past : Result Unit Refusal → List ℕ → ℕ
rows_past asked image = through asked (λ (r : Refusal). 0) (rows_of image Connections)

-- what ticks answer
abbrev pub ticks_answer : Result Unit Refusal → Result Unit Refusal
ticks_answer asked = through asked Err (Ok tt)

-- a tick: 11, 12, else done
unfoldable pub tick_event : Lent → Ticked
tick_event l =
    through (gate_of l) (unticked l.state)
    (ticked_from (rows_of l.image Connections) l.state (ticked_to l.image (rows_of l.image Connections) l.state))

-- `count` ticks under one check
unfoldable pub ticks_event : Lent → ℕ → Ticked
ticks_event l count =
    through (gate_of l) (unticked l.state)
    (ticked_from (rows_of l.image Connections) l.state (ticks_to l.image (rows_of l.image Connections) count l.state))
