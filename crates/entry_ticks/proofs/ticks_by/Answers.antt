use Prim.Native.Nat.{◌<◌}
use mathlib.Core.Path.{◌≡◌, refl, sym, ◌∙◌}
use lib.ListN.{length}
use native.Mathlib.Omega.{arith}
use borrow.Author.Rules.{rules}
use Rattle.table_layout.specs.Layout.{Laid}
use Rattle.lists.proofs.Fold.{fold_start}
use Rattle.gate.specs.Lent.{Lent, lent}
use Rattle.gate.proofs.Pass.{gate_laid}
use Rattle.entry_ticks.proofs.Many.{ticks-each}
use Rattle.entry_ticks.proofs.Marks.{many_mark, up_mark}
use Rattle.entry_ticks.proofs.Past.{past-most, past-laid, past-whole}
use Rattle.entry_ticks.proofs.Turns.{many_turn, still-turn, stays-turn, up_turn}
use Rattle.entry_ticks.proofs.ticks_by.Goals as goal

pub rows_past-rows-requires : goal.rows_past-rows-requires
rows_past-rows-requires c =
    let by : Lent = let a = c.args in lent a.image.now a.state a.rx a.tx in
    λ p. gate_laid by (sym c.ask-asked.ensures ∙ p)

pub loop-i-init : goal.loop-i-init
loop-i-init c =
    let by : Lent = let a = c.args in lent a.image.now a.state a.rx a.tx in (
      search rules,
      past-most by c.ask-asked.result c.ask-asked.ensures _ c.rows_past-rows.ensures,
      c.well_formed.1.0.1.1.0.1.0.1,
      refl,
      fold_start _ _ _,
    )

pub config_laid-requires : goal.config_laid-requires
config_laid-requires c =
    let by : Lent = let a = c.args in lent a.image.now a.state a.rx a.tx in
    let laid : Laid by.image =
    past-laid by c.ask-asked.result c.ask-asked.ensures c.rows_past-rows.result c.rows_past-rows.ensures c.loop-i.i c.loop-i-test.true in
    laid

pub marked-failed-requires : goal.marked-failed-requires
marked-failed-requires c = omega (arith, c.loop-i-test.true)

pub loop-i-preserved-then-not-is_up : goal.loop-i-preserved-then-not-is_up
loop-i-preserved-then-not-is_up c =
    let h : c.loop-i.i < length c.args.state.connections = omega (arith, c.loop-i-test.true) in
    let config = c.config_laid.ensures in (
      omega (arith, c.loop-i-test.true),
      c.loop-i.invariant.1,
      c.loop-i.invariant.2,
      many_turn _ _ _ _ _ h c.loop-i.invariant.3 _ _ config c.tick_many-next.ensures,
      many_mark _ _ _ _ _ _ _ c.loop-i-test.true h c.loop-i.invariant.3 c.loop-i.invariant.4 _ _ _ _ config c.tick_many-next.ensures
          c.failed.ensures c.marked-failed.ensures,
    )

pub loop-i-preserved-then-is_still : goal.loop-i-preserved-then-is_still
loop-i-preserved-then-is_still c =
    let h : c.loop-i.i < length c.args.state.connections = omega (arith, c.loop-i-test.true) in
    let up = sym c.is_up.ensures ∙ c.if-not-is_up.false in (
      omega (arith, c.loop-i-test.true),
      c.loop-i.invariant.1,
      c.loop-i.invariant.2,
      still-turn _ _ _ _ _ h c.loop-i.invariant.3 up (sym c.is_still.ensures ∙ c.if-is_still.true),
      up_mark _ _ _ _ _ _ _ c.loop-i-test.true h c.loop-i.invariant.3 c.loop-i.invariant.4 up,
    )

pub loop-i-preserved-then-stays : goal.loop-i-preserved-then-stays
loop-i-preserved-then-stays c =
    let h : c.loop-i.i < length c.args.state.connections = omega (arith, c.loop-i-test.true) in
    let up = sym c.is_up.ensures ∙ c.if-not-is_up.false in (
      omega (arith, c.loop-i-test.true),
      c.loop-i.invariant.1,
      c.loop-i.invariant.2,
      stays-turn _ _ _ _ _ h c.loop-i.invariant.3 _ up (sym c.stays.ensures ∙ c.if-stays.true) c.later-next.ensures,
      up_mark _ _ _ _ _ _ _ c.loop-i-test.true h c.loop-i.invariant.3 c.loop-i.invariant.4 up,
    )

pub config_laid-requires-in-loop-i : goal.config_laid-requires-in-loop-i
config_laid-requires-in-loop-i c =
    let by : Lent = let a = c.args in lent a.image.now a.state a.rx a.tx in
    let laid : Laid by.image =
    past-laid by c.ask-asked.result c.ask-asked.ensures c.rows_past-rows.result c.rows_past-rows.ensures c.loop-i.i c.loop-i-test.true in
    laid

pub loop-i-preserved : goal.loop-i-preserved
loop-i-preserved c =
    let h : c.loop-i.i < length c.args.state.connections = omega (arith, c.loop-i-test.true) in
    let up = sym c.is_up.ensures ∙ c.if-not-is_up.false in (
      omega (arith, c.loop-i-test.true),
      c.loop-i.invariant.1,
      c.loop-i.invariant.2,
      up_turn _ _ _ _ _ h c.loop-i.invariant.3 _ _ up c.config_laid-in-loop-i.ensures c.settled-next.ensures,
      up_mark _ _ _ _ _ _ _ c.loop-i-test.true h c.loop-i.invariant.3 c.loop-i.invariant.4 up,
    )

pub returns : goal.returns
returns c =
    let by : Lent = let a = c.args in lent a.image.now a.state a.rx a.tx in
    let a = c.args in
    let rows = c.rows_past-rows.result in
    let e : c.loop-i.i ≡ rows = omega arith in
    past-whole by c.ask-asked.result c.ask-asked.ensures rows c.rows_past-rows.ensures a.count c.loop-i.after c.loop-i.i c.loop-i.failed
    (omega arith) c.loop-i.invariant.4 ((rw e at c.loop-i.invariant.3) ∙ sym (ticks-each a.image.now rows a.count a.state))
    c.answer_past-answer.result c.answer_past-answer.ensures
