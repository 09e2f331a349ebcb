use Rattle.table_scan.proofs.Marks.{come-start, found-bad, found_shared, found_none, come-past}
use Rattle.table_layout.proofs.Parts.{row_range}
use mathlib.Core.Path.{refl}
use borrow.Author.Rules.{rules}
use native.Mathlib.Omega.{arith}
use Rattle.table_scan.proofs.first_bad.Goals as goal

pub loop-i-init : goal.loop-i-init
loop-i-init g c = (refl, come-start _ _ _ _ _ _ c.requires.room)

pub returns-then-n-i : goal.returns-then-n-i
returns-then-n-i g c = let k = c.next_struck-i.ensures.1 in found_none _ _ _ _ _ _ _ k c.if-n-i.true

pub returns-then-not-is_good : goal.returns-then-not-is_good
returns-then-not-is_good g c =
    let s = c.args.body.now in
    let k = c.next_struck-i in
    found-bad _ _ _ _ s _ _ _ (row_range 16 s k.result c.if-n-i.false) k.ensures.1 c.if-n-i.false c.is_good.ensures c.if-not-is_good.true

pub returns-then-not-is_fresh : goal.returns-then-not-is_fresh
returns-then-not-is_fresh g c =
    let s = c.args.body.now in
    let k = c.next_struck-i in
    found_shared _ _ _ _ s _ _ _ (row_range 16 s k.result c.if-n-i.false) k.ensures.1 c.if-n-i.false c.is_fresh.ensures c.if-not-is_fresh.true

pub loop-i-smaller : goal.loop-i-smaller
loop-i-smaller g c =
    let k = c.next_struck-i in
    omega (arith, k.ensures.0, k.ensures.1.come.low)

pub loop-i-preserved : goal.loop-i-preserved
loop-i-preserved g c =
    let s = c.args.body.now in
    let k = c.next_struck-i in (
      search rules,
      come-past _ _ _ _ s _ _ _ (row_range 16 s k.result c.if-n-i.false) k.ensures.1 c.if-n-i.false
          c.is_good.ensures c.if-not-is_good.false
          c.is_fresh.ensures c.if-not-is_fresh.false,
    )
