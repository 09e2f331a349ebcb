-- Past the gate a take or a walk is made exactly when the connection is there, the event is allowed on it, and it receives.
use Rattle.std.proofs.Common.{Result, Ok, Err}
use Prim.Native.Nat.{ℕ}
use mathlib.Core.Path.{◌≡◌, refl, ap, ◌∙◌}
use mathlib.Core.Bool.{Bool, true, false, cond, ◌&&◌}
use lib.Dec.{ltb}
use Rattle.table_layout.specs.Layout.{rows_of}
use Rattle.table_layout.specs.declared.Kind.TheVariants.{Connection as Connections}
use Rattle.connection.specs.declared.Refusal.TheVariants.{Denied}
use Rattle.state.specs.State.{record_at}
use Rattle.gate.specs.Lent.{Lent}
use Rattle.gate.specs.Gate.{gate_at, then_there, through, Passed}
use Rattle.gate.proofs.Pass.{passed_gate}
use Rattle.entry_receive.specs.declared.NotReceived.TheVariants.{Refused, NotReceiving}
use Rattle.entry_receive.specs.Answer.{is_done, judged_of, judged_answer}
use Rattle.connection.specs.Event.{receiving}
use Rattle.connection.specs.declared.Refusal.{Refusal}

pub done_is : (l : Lent) (k : ℕ) (allowed : Bool) → Passed l
    → is_done (judged_answer l k allowed) ≡ (ltb k (rows_of l.image Connections) && (allowed && receiving (record_at l.state k)))
unfolding judged_answer judged_of gate_at
done_is l k allowed p =
    ap
    (λ (g : Result Unit Refusal).
    is_done (through (then_there (ltb k (rows_of l.image Connections)) g) (λ x. Err (Refused x))
    (cond allowed (cond (receiving (record_at l.state k)) (Ok tt) (Err NotReceiving)) (Err (Refused Denied)))))
    (passed_gate l p)
    ∙ go (ltb k (rows_of l.image Connections)) allowed (receiving (record_at l.state k))
  where
    go : (t a r : Bool) → is_done (through (then_there t (Ok tt)) (λ x. Err (Refused x)) (cond a (cond r (Ok tt) (Err NotReceiving)) (Err
        (Refused Denied)))) ≡ (t && (a && r))
    go true true true = refl
    go true true false = refl
    go true false r = refl
    go false a r = refl
