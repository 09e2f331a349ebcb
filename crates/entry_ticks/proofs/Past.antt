-- Ticks behind the gate, as the code has them: in a refusal no row ticks, so that one loop and one way out serve both.
use Rattle.std.proofs.Common.{Result, Ok, Err}
use Prim.Native.Nat.{ℕ, ◌<◌, ◌≤◌}
use mathlib.Core.Path.{◌≡◌, refl, sym, ap, ◌∙◌}
use native.Mathlib.Omega.{arith}
use Rattle.table_layout.specs.Layout.{rows_of, Laid}
use Rattle.table_layout.specs.declared.Kind.TheVariants.{Connection as Connections}
use Rattle.lists.specs.Fold.{fold_from}
use Rattle.state.specs.declared.State.{State}
use Rattle.gate.specs.Lent.{Lent}
use Rattle.gate.specs.Gate.{gate_of, through}
use Rattle.gate.proofs.Pass.{gate_laid, rows_in-sixteen}
use Rattle.entry_ticks.specs.declared.Ticked.{Ticked}
use Rattle.entry_ticks.specs.Tick.{ticks_to, failed_to, unticked, ticked_from, rows_past, ticks_answer, tick_event, ticks_event}
use Rattle.entry_ticks.proofs.Many.{ticks-each, ticks-one}
use Rattle.entry_ticks.proofs.Marks.{Marked, marks_whole}
use Rattle.connection.specs.declared.Refusal.{Refusal}

module _ (l : Lent) where
  -- a row ticks only past the gate
  row-past : (g : Result Unit Refusal) (i : ℕ) → i < rows_past g l.image → g ≡ Ok tt
  row-past (Ok tt) i h = refl
  row-past (Err r) i h = absurd (omega arith)

  past-sixteen : (g : Result Unit Refusal) → g ≡ gate_of l → rows_past g l.image ≤ 16
  past-sixteen (Ok tt) e = rows_in-sixteen l (sym e)
  past-sixteen (Err r) e = omega arith

  -- ticks of no row leave the state, and end no transfer
  no_row : (count : ℕ) → ticks_to l.image 0 count l.state ≡ l.state
  no_row count = ticks-each l.image 0 count l.state

  none_fails : (s t : State) → failed_to 0 s t ≡ 0
  unfolding failed_to fold_from
  none_fails s t = refl

  -- `count` ticks of so many rows, with an answer
  abbrev ticked-by : Result Unit Refusal → ℕ → ℕ → Ticked
  ticked-by answer rows count =
      let t = ticks_to l.image rows count l.state in
      record { answer = answer; state = t; failed = failed_to rows l.state t }

  at_gate : (g : Result Unit Refusal) (count : ℕ) → ticked-by (ticks_answer g) (rows_past g l.image) count
      ≡ through g (unticked l.state)
      (ticked_from (rows_of l.image Connections) l.state (ticks_to l.image (rows_of l.image Connections) count l.state))
  at_gate (Ok tt) count = refl
  at_gate (Err r) count =
      ap (λ (t : State). record { answer = Err r; state = t; failed = failed_to 0 l.state t }) (no_row count)
      ∙ ap (λ (w : ℕ). record { answer = Err r; state = l.state; failed = w }) (none_fails l.state l.state)

  module _ (asked : Result Unit Refusal) (eg : asked ≡ gate_of l) (rows : ℕ) (er : rows ≡ rows_past asked l.image) where
    pub past-most : rows ≤ 16
    past-most = rw er (past-sixteen asked eg)

    pub past-laid : (i : ℕ) → i < rows → Laid l.image
    past-laid i h = gate_laid l (sym eg ∙ row-past asked i (rw er at h))

    -- THE EVENT, once every row is passed
    pub past-whole : (count : ℕ) (n : State) (i w : ℕ) → rows ≤ i → Marked l.image rows count l.state i w
        → n ≡ ticks_to l.image rows count l.state → (answer : Result Unit Refusal) → answer ≡ ticks_answer asked
        → ◌≡◌ {A = Ticked} (record { answer = answer; state = n; failed = w }) (ticks_event l count)
    unfolding ticks_event
    past-whole count n i w over so is answer ea =
        marks_whole l.image rows count l.state n i w answer over so is
        ∙ ap (λ (a : Result Unit Refusal). ticked-by a rows count) ea
        ∙ ap (λ (k : ℕ). ticked-by (ticks_answer asked) k count) er
        ∙ ap (λ (g : Result Unit Refusal). ticked-by (ticks_answer g) (rows_past g l.image) count) eg
        ∙ at_gate (gate_of l) count

-- and one tick is `count` 1
pub ticks-once : (l : Lent) → ticks_event l 1 ≡ tick_event l
unfolding ticks_event tick_event
ticks-once l =
    ap (λ (t : State). through (gate_of l) (unticked l.state) (ticked_from (rows_of l.image Connections) l.state t))
    (ticks-one l.image (rows_of l.image Connections) l.state)
