-- An event of one record, as its entry has it: the gate's refusal, or past the gate the record put back.
use Rattle.std.proofs.Common.{Result, Ok, Err}
use Prim.Native.Nat.{ℕ}
use mathlib.Core.Path.{◌≡◌, refl, sym, ap, ◌∙◌}
use mathlib.Core.Bool.{Bool}
use Rattle.connection.specs.declared.Config.{Config}
use Rattle.connection.specs.declared.Event.{Event}
use Rattle.connection.specs.declared.Event.TheVariants.{Lost}
use Rattle.connection.specs.declared.Refusal.{Refusal}
use Rattle.connection.specs.declared.Stepped.{Stepped}
use Rattle.connection.specs.Connection.{failed_of}
use Rattle.connection.specs.Event.{step_of}
use Rattle.state.specs.State.{record_at}
use Rattle.state.specs.Fresh.{config_of}
use Rattle.gate.specs.Lent.{Lent}
use Rattle.gate.specs.Gate.{gate_at, through}
use Rattle.entry_events.specs.Change.{refused_told, change_of, event_of, loss_of}
use Rattle.entry_events.proofs.Changes.{told, change-is}
use Rattle.entry_events.proofs.Fails.{loss_told}

module _ (l : Lent) (n : ℕ) (e : Event) {asked : Result Unit Refusal} (is : asked ≡ gate_at l n) where
  at_gate : (g : Result Unit Refusal) → asked ≡ g → through g (refused_told l.state) (change_of l.image l.state n e) ≡ event_of l n e
  unfolding event_of
  at_gate g p = ap (λ (x : Result Unit Refusal). through x (refused_told l.state) (change_of l.image l.state n e)) (sym p ∙ is)

  -- THE EVENT: refused at the gate
  pub own-refused : {r : Refusal} → asked ≡ Err r → refused_told l.state r ≡ event_of l n e
  own-refused {r} p = at_gate (Err r) p

  -- and past it
  pub own-past : {g : Config} {t : Stepped} → asked ≡ Ok tt → g ≡ config_of l.image n → t ≡ step_of e g (record_at l.state n)
      → told l.state n t ≡ event_of l n e
  own-past {g} {t} p config stepped = change-is l.image l.state n e g t config stepped ∙ at_gate (Ok tt) p

-- THE LOSS
module _ (l : Lent) (n : ℕ) {asked : Result Unit Refusal} (is : asked ≡ gate_at l n) where
  pub loss_refused : {r : Refusal} → asked ≡ Err r
      → record { answer = (refused_told l.state r).answer; state = l.state; failed = failed_of (record_at l.state n) (record_at l.state n) } ≡ loss_of l n
  loss_refused {r} p = loss_told l n (refused_told l.state r) (own-refused l n Lost is p) refl

  pub loss_past : {g : Config} {t : Stepped} {f : Bool} → asked ≡ Ok tt → g ≡ config_of l.image n → t ≡ step_of Lost g (record_at l.state n)
      → f ≡ failed_of (record_at l.state n) (record_at (told l.state n t).state n)
      → record { answer = t.answer; state = (told l.state n t).state; failed = f } ≡ loss_of l n
  loss_past {g} {t} p config stepped = loss_told l n (told l.state n t) (own-past l n Lost is p config stepped)
