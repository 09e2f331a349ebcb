-- What passes the gate passes it again after the waiting bytes are taken.
use Prim.Native.Nat.{ℕ}
use mathlib.Core.List.{List}
use lib.ListN.{length}
use Rattle.gate.specs.Lent.{next, Loan, sizes}
use Rattle.gate.specs.Gate.{gate_at, Passed}
use Rattle.gate.proofs.Pass.{gate_at-passed, passed-next}
use Rattle.state.specs.State.{record_at}
use Rattle.state.specs.Fresh.{config_of}
use Rattle.send_waiting.specs.Waiting.{take_of}
use Rattle.send_waiting.proofs.Taken.{take_part}
use Rattle.entry_send.specs.declared.Taken.{Taken}
use Rattle.entry_send.specs.Sending.{not_taken, take_past, taken_waiting}
use Rattle.law_keeps.proofs.Past.{past_or}
use Rattle.law_keeps.proofs.Rows.{stays_same, row-set}
use Rattle.law_keeps.proofs.Records.{take_keeps}

pub taken-passed : (l : Loan) (n : ℕ) (out : List ℕ) → Passed (sizes l) → Passed (next (sizes l) (taken_waiting l n out).state)
unfolding taken_waiting
taken-passed l n out p =
    past_or (λ (t : Taken). Passed (next (sizes l) t.state)) (gate_at (sizes l) n)
    (not_taken l.state) (take_past l.image l.state n (length out)) (λ r. p)
    (λ e.
    passed-next (sizes l) _ p
    (row-set l.image l.state n (take_of (config_of l.image n) (length out) (record_at l.state n)) p.sound (gate_at-passed (sizes l) n e).1
    (take_keeps (config_of l.image n) (length out) (record_at l.state n))
    (stays_same (take_part (config_of l.image n) (length out) (record_at l.state n)))))
