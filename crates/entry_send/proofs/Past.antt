-- What the gate hands on to a transmit and to a take.
use Rattle.std.proofs.Common.{Result, Ok, Err}
use Prim.Native.Nat.{ℕ, ◌<◌}
use mathlib.Core.Path.{◌≡◌, sym, ap, subst, ◌∙◌}
use mathlib.Core.List.{List}
use native.Mathlib.Omega.{arith}
use Rattle.connection.specs.declared.Config.{Config}
use Rattle.table_layout.specs.Layout.{rows_of}
use Rattle.table_layout.specs.declared.Kind.TheVariants.{Connection as Connections, Destination}
use Rattle.table_layout.proofs.Parts.{body-rows}
use Rattle.table.specs.Accepts.{Accepts}
use Rattle.table.proofs.Facts.{accepted_facts}
use Rattle.connection.specs.declared.Refusal.{Refusal}
use Rattle.gate.specs.Lent.{Lent, Loan, sizes}
use Rattle.gate.specs.Gate.{gate_of, gate_at}
use Rattle.gate.proofs.Pass.{gate_passed}
use Rattle.table_rows.specs.Rows.{destination_of}
use Rattle.send.specs.Send.{destinations, Ready}
use Rattle.state.specs.declared.State.{State}
use Rattle.state.specs.State.{record_at, with_record}
use Rattle.state.specs.Fresh.{config_of}
use Rattle.send_waiting.specs.declared.Drained.{Drained}
use Rattle.send_waiting.specs.Waiting.{taking_of, take_of}
use Rattle.entry_send.specs.declared.Taken.{Taken}
use Rattle.entry_send.specs.Sending.{take_past, not_taken, taken_waiting, taken_out}

counted : (image : List ℕ) → Accepts image → (i : ℕ) → i < destinations image → i < rows_of image Destination
counted image a i h = subst (λ (n : ℕ). i < n) (body-rows image a.laid Destination) h

-- an accepted table's destinations have a connection's row
pub connection-there : (image : List ℕ) → Accepts image → (i : ℕ) → i < destinations image → (destination_of image i).connection < rows_of image Connections
connection-there image a i h = a.there i (counted image a i h)

-- and are ready for a store
pub ready_from : (image : List ℕ) → Accepts image → Ready image
ready_from image a =
    record {
      laid = a.laid;
      there = λ i h. omega (arith, connection-there image a i h, a.most Connections);
      sized = λ i h. (a.sized (destination_of image i).connection (connection-there image a i h)).1;
      apart = λ i j l h. a.destinations_apart i j l (counted image a j h);
    }

pub past_gate : (l : Lent) (g : Result Unit Refusal) → g ≡ gate_of l → g ≡ Ok tt → Ready l.image × (l.tx ≡ 23552)
past_gate l g e p = let q = gate_passed l (sym e ∙ p) in (ready_from l.image (accepted_facts l.image q.table), q.send)

-- past the gate, what the code makes of one record is the definition's
module _ (image : List ℕ) (s : State) (n room : ℕ) where
  abbrev from : Drained → Taken
  from d = record { answer = d.answer; state = with_record n d.connection s }

  pub taken_is : (config : Config) (d : Drained) → config ≡ config_of image n
      → d ≡ record { answer = taking_of room (record_at s n); connection = take_of config room (record_at s n) }
      → from d ≡ take_past image s n room
  taken_is config d p q =
      ap from q ∙ ap (λ (g : Config). from (record { answer = taking_of room (record_at s n); connection = take_of g room (record_at s n) })) p

-- where the gate refuses, nothing is taken: the state and the out buffer stay
pub not_taken_lem : (l : Loan) (n : ℕ) (out : List ℕ) (g : Result Unit Refusal) (r : Refusal) → g ≡ gate_at (sizes l) n → g ≡ Err r
    → (not_taken l.state r ≡ taken_waiting l n out) × (out ≡ taken_out l n out)
unfolding taken_waiting taken_out
not_taken_lem l n out g r e f = (rw (← e, f), rw (← e, f))
