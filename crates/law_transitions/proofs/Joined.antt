-- WHAT n TICKS SAY of transfers is what the first of n single ticks says, and what all of them say joined.
use Prim.Native.Nat.{ℕ, zero, suc, ◌<◌}
use mathlib.Core.Path.{◌≡◌, refl, sym, ap, ◌∙◌}
use mathlib.Core.Bool.{false}
use lib.Bits.{bit_or, or_zero_r}
use Rattle.table_layout.specs.Layout.{rows_of}
use Rattle.table_layout.specs.declared.Kind.TheVariants.{Connection as Connections}
use Rattle.lists.specs.Fold.{fold_from}
use Rattle.state.specs.State.{record_at}
use Rattle.gate.specs.Lent.{Lent, next}
use Rattle.gate.specs.Gate.{Passed}
use Rattle.gate.proofs.Pass.{passed_gate}
use Rattle.entry_ticks.specs.declared.Ticked.{Ticked}
use Rattle.entry_ticks.specs.Tick.{ticked_to, ticks_to, failed_to, ticked_from, tick_event, ticks_event}
use Rattle.entry_ticks.proofs.Many.{ticks-one}
use Rattle.entry_ticks.proofs.Fails.{quiet-after, quiet-fails, failed_first, failed_still}
use Rattle.law_keeps.proofs.Keeps.{tick-passed}
use Rattle.law_transitions.specs.Transfers.{failed_calls}

module _ (l : Lent) (p : Passed l) where
  abbrev rows : ℕ
  rows = rows_of l.image Connections

  tick_is : tick_event l ≡ ticked_from rows l.state (ticked_to l.image rows l.state)
  unfolding tick_event
  tick_is = rw (passed_gate l p)

  ticks_are : (n : ℕ) → ticks_event l n ≡ ticked_from rows l.state (ticks_to l.image rows n l.state)
  unfolding ticks_event
  ticks_are n = rw (passed_gate l p)

  -- n + 1 ticks say what the first says; none say nothing
  pub ticks-first : (n : ℕ) → (ticks_event l (suc n)).failed ≡ (tick_event l).failed
  ticks-first n =
      ap (λ (t : Ticked). t.failed) (ticks_are (suc n)) ∙ failed_first l.image rows l.state n ∙ sym (ap (λ (t : Ticked). t.failed) tick_is)

  pub ticks_none : (ticks_event l 0).failed ≡ 0
  unfolding ticks_to fold_from
  ticks_none = ap (λ (t : Ticked). t.failed) (ticks_are 0) ∙ failed_still l.image rows l.state

-- no close is wanted of any row
abbrev Quiet : Lent → Type 0
Quiet l = (k : ℕ) → k < rows_of l.image Connections → (record_at l.state k).close_wanted ≡ false

after-quiet : (l : Lent) → Passed l → Quiet (next l (tick_event l).state)
after-quiet l p k h =
    ap (λ (t : Ticked). (record_at t.state k).close_wanted) (tick_is l p) ∙ quiet-after l.image (rows_of l.image Connections) l.state k h

-- then single ticks say nothing
later : (n : ℕ) (l : Lent) → Passed l → Quiet l → failed_calls n l ≡ 0
unfolding failed_calls
later zero l p q = refl
later (suc n) l p q =
    let first : (tick_event l).failed ≡ 0 =
    ap (λ (t : Ticked). t.failed) (tick_is l p)
    ∙ ap (failed_to (rows_of l.image Connections) l.state) (sym (ticks-one l.image (rows_of l.image Connections) l.state))
    ∙ quiet-fails l.image (rows_of l.image Connections) l.state 1 q in
    ap (λ (w : ℕ). bit_or w (failed_calls n (next l (tick_event l).state))) first
    ∙ later n (next l (tick_event l).state) (tick-passed l p) (after-quiet l p)

-- n TICKS SAY WHAT n SINGLE TICKS SAY, joined
pub ticks-joined : (l : Lent) (n : ℕ) → Passed l → (ticks_event l n).failed ≡ failed_calls n l
unfolding failed_calls
ticks-joined l zero p = ticks_none l p
ticks-joined l (suc n) p =
    ticks-first l p n
    ∙ sym (or_zero_r (tick_event l).failed)
    ∙ sym (ap (bit_or (tick_event l).failed) (later n (next l (tick_event l).state) (tick-passed l p) (after-quiet l p)))
