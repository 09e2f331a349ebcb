use Rattle.table_scan.proofs.Marks.{struck_bad, struck_met, struck_end, come-on}
use Rattle.table_scan.proofs.Rows.{place-first, place-next, place_range}
use mathlib.Core.Path.{refl}
use lib.ListN.{length-set}
use borrow.Author.Rules.{rules}
use native.Mathlib.Omega.{arith}
use Rattle.table_scan.proofs.next_struck.Goals as goal

pub overflow_mul-at : goal.overflow_mul-at
overflow_mul-at g c = omega (arith, c.requires.come.low)

pub loop-at-init : goal.loop-at-init
loop-at-init g c = rw (place-first _) (search rules, refl, c.requires.come, refl)

pub returns-then-not-is_good : goal.returns-then-not-is_good
returns-then-not-is_good g c =
    let s = c.args.body.now in
    let row = place_range s c.loop-at.at c.loop-at.invariant.3 c.loop-at-test.true in (
      c.loop-at.invariant.0,
      struck_bad _ _ _ _ s _ _ _ row
          c.loop-at.invariant.2 c.is_good.ensures c.if-not-is_good.true,
    )

pub bounds-seen-mark : goal.bounds-seen-mark
bounds-seen-mark g c = rw c.mark-mark.ensures (c.loop-at.invariant.2.room _)

pub returns-then-seen-mark : goal.returns-then-seen-mark
returns-then-seen-mark g c =
    let s = c.args.body.now in
    let row = place_range s c.loop-at.at c.loop-at.invariant.3 c.loop-at-test.true in (
      c.loop-at.invariant.0,
      struck_met _ _ _ _ s _ _ _ row _ c.mark-mark.ensures c.loop-at.invariant.2 c.if-seen-mark.true,
    )

pub bounds-seen-mark-in-loop-at : goal.bounds-seen-mark-in-loop-at
bounds-seen-mark-in-loop-at g c = rw c.mark-mark.ensures (c.loop-at.invariant.2.room _)

pub loop-at-preserved : goal.loop-at-preserved
loop-at-preserved g c =
    let s = c.args.body.now in
    let row = place_range s c.loop-at.at c.loop-at.invariant.3 c.loop-at-test.true in (
      search rules,
      simp length-set c.loop-at.invariant.1,
      rw (place-next _) (
          come-on _ _ _ _ s _ _ _ row _ c.mark-mark.ensures c.requires.agree c.loop-at.invariant.2
          (omega arith) c.is_good.ensures c.if-not-is_good.false c.if-seen-mark.false
          ),
      omega arith,
    )

pub returns : goal.returns
returns g c = (c.loop-at.invariant.0, struck_end _ _ _ _ _ _ _ c.loop-at.invariant.2 (omega arith))
