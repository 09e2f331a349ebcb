-- Many ticks under one check are single ticks, one call after the other.
use Rattle.std.proofs.Common.{Result}
use Prim.Native.Nat.{ℕ, zero, suc}
use mathlib.Core.Path.{◌≡◌, refl, sym, ap, ◌∙◌}
use mathlib.Core.List.{List}
use Rattle.table_layout.specs.Layout.{rows_of}
use Rattle.table_layout.specs.declared.Kind.TheVariants.{Connection as Connections}
use Rattle.lists.specs.Fold.{fold_from}
use Rattle.state.specs.declared.State.{State}
use Rattle.gate.specs.Lent.{Lent, next}
use Rattle.gate.specs.Gate.{through, Passed}
use Rattle.gate.proofs.Pass.{passed_gate}
use Rattle.entry_ticks.specs.Tick.{ticked_to, tick_once, ticks_to, unticked, ticked_from, tick_event, ticks_event}
use Rattle.law_keeps.specs.Calls.{calls}
use Rattle.law_keeps.proofs.Keeps.{tick-passed}
use Rattle.connection.specs.declared.Refusal.{Refusal}

-- from which number on ticks are counted is no matter
from : (image : List ℕ) (rows n k j : ℕ) (s : State) → fold_from (tick_once image rows) n k s ≡ fold_from (tick_once image rows) n j s
unfolding fold_from
from image rows zero k j s = refl
from image rows (suc n) k j s = from image rows n (suc k) (suc j) (ticked_to image rows s)

one : (l : Lent) → Passed l → (tick_event l).state ≡ ticked_to l.image (rows_of l.image Connections) l.state
unfolding tick_event
one l p = rw (passed_gate l p)

many : (n : ℕ) (l : Lent) → Passed l → ticks_to l.image (rows_of l.image Connections) n l.state ≡ calls n l
unfolding ticks_to fold_from calls
many zero l p = refl
many (suc n) l p =
    from l.image (rows_of l.image Connections) n 1 0 (ticked_to l.image (rows_of l.image Connections) l.state)
    ∙ ap (fold_from (tick_once l.image (rows_of l.image Connections)) n 0) (sym (one l p))
    ∙ many n (next l (tick_event l).state) (tick-passed l p)

pub ticks-single : (l : Lent) (n : ℕ) → Passed l → ticks_event l n ≡ ticked_from (rows_of l.image Connections) l.state (calls n l)
unfolding ticks_event
ticks-single l n p =
    ap (λ (g : Result Unit Refusal). through g (unticked l.state)
    (ticked_from (rows_of l.image Connections) l.state (ticks_to l.image (rows_of l.image Connections) n l.state))) (passed_gate l p)
    ∙ ap (ticked_from (rows_of l.image Connections) l.state) (many n l p)
