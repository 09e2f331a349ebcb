use Rattle.table_scan.proofs.Rows.{bad-row, good_row, free, groups_free}
use Rattle.table_layout.proofs.Parts.{row_range}
use Rattle.table_layout.specs.declared.Kind.TheVariants.{Group}
use Rattle.lists.proofs.Search.{search_start, search_ended}
use mathlib.Core.Path.{◌≡◌, refl, ◌∙◌}
use lib.ListN.{length}
use Prim.Native.Nat.{◌/◌}
use native.Mathlib.Omega.{arith}
use Rattle.table_scan.proofs.first_bad_group.Goals as goal

pub loop-i-init : goal.loop-i-init
loop-i-init c = search_start _ _

pub returns-then-not-group_good : goal.returns-then-not-group_good
returns-then-not-group_good c =
    let b = c.args.body.now in
    bad-row _ _ 2 b c.loop-i.i _ c.loop-i.invariant c.loop-i-test.true
    (row_range 2 b c.loop-i.i c.loop-i-test.true) c.group_good.ensures c.if-not-group_good.true

pub loop-i-preserved : goal.loop-i-preserved
loop-i-preserved c =
    let b = c.args.body.now in
    good_row _ _ 2 b c.loop-i.i _ c.loop-i.invariant c.loop-i-test.true (row_range 2 b c.loop-i.i c.loop-i-test.true)
    c.group_good.ensures c.if-not-group_good.false (free Group 2 b c.loop-i.i groups_free) refl

pub returns : goal.returns
returns c =
    let b = c.args.body.now in
    let e : length b / 2 ≡ c.loop-i.i = omega arith in
    e ∙ search_ended _ _ _ c.loop-i.invariant c.loop-i-test.false
