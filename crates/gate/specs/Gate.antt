-- What is asked before an event, in the order 11, 12, 2 (R4.2); what is known past it.
use Rattle.std.specs.Prelude.{ℕ, ◌≡◌, Bool, true, cond, not, ◌||◌, List, eqb, ltb, Ok, Result, Err}
use Rattle.table_layout.specs.Layout.{rows_of}
use Rattle.table_layout.specs.declared.Kind.TheVariants.{Connection as Connections}
use Rattle.table.specs.Table.{check_table}
use Rattle.connection.specs.declared.Refusal.{Refusal}
use Rattle.connection.specs.declared.Refusal.TheVariants.{Memory, Unsound, Missing}
use Rattle.state.specs.declared.State.{State}
use Rattle.gate.specs.Lent.{Lent}
use Rattle.gate.specs.Sound.{records_sound, sound_state}

-- R4.3: lent memory of another length, 11; state or table not sound, 12
unfoldable pub gate_of : Lent → Result Unit Refusal
gate_of l =
    cond (not (eqb l.rx 23424) || not (eqb l.tx 23552)) (Err Memory)
    (cond (sound_state l.image l.state) (Ok tt) (Err Unsound))

-- R4.4: then a connection that is not there, 2
abbrev pub then_there : Bool → Result Unit Refusal → Result Unit Refusal
then_there there (Ok tt) = cond there (Ok tt) (Err Missing)
then_there there (Err r) = Err r

unfoldable pub gate_at : Lent → ℕ → Result Unit Refusal
gate_at l n = then_there (ltb n (rows_of l.image Connections)) (gate_of l)

-- what follows a gate: the refusal, or the event
abbrev pub through : {A : Type 0} → Result Unit Refusal → (Refusal → A) → A → A
through (Ok tt) refused event = event
through (Err r) refused event = refused r

-- WHAT IS KNOWN PAST THE GATE, of what one call leaves to the next: it says nothing of what varies from call to call
pub record Known (image : List ℕ) (s : State) (rx tx : ℕ) : Type 0 where
  pub receive : rx ≡ 23424
  pub send : tx ≡ 23552
  pub table : check_table image ≡ Ok tt
  pub sound : records_sound image s.connections ≡ true

abbrev pub Passed : Lent → Type 0
Passed l = Known l.image l.state l.rx l.tx
