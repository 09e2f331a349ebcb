-- R19.7: what a loss says of a transfer.
use Prim.Native.Nat.{ℕ, ◌≤◌}
use mathlib.Core.Path.{◌≡◌, sym, ap, ◌∙◌}
use mathlib.Core.Bool.{Bool, false}
use lib.ListN.{length, get_or-eq_default}
use Rattle.connection.specs.declared.Connection.{Connection}
use Rattle.connection.specs.declared.Event.TheVariants.{Lost}
use Rattle.connection.specs.Connection.{zero_record, failed_of}
use Rattle.state.specs.State.{record_at}
use Rattle.gate.specs.Lent.{Lent}
use Rattle.entry_events.specs.declared.Told.{Told}
use Rattle.entry_events.specs.Change.{loss_from, event_of, loss_of}

module _ (l : Lent) (n : ℕ) (t : Told) (is : t ≡ event_of l n Lost) where
  pub loss_told : {f : Bool} → f ≡ failed_of (record_at l.state n) (record_at t.state n)
      → record { answer = t.answer; state = t.state; failed = f } ≡ loss_of l n
  unfolding loss_of
  loss_told e = ap (λ (b : Bool). record { answer = t.answer; state = t.state; failed = b }) e ∙ ap (loss_from l.state n) is

  -- past the sixteenth there is no record, and no transfer
  pub loss_past : length l.state.connections ≤ n → record { answer = t.answer; state = t.state; failed = false } ≡ loss_of l n
  loss_past h = loss_told (sym (ap (λ (c : Connection). failed_of c (record_at t.state n)) (get_or-eq_default l.state.connections zero_record h)))
