use Rattle.table_scan.proofs.Rows.{bad-row, good_row, free, connections_free}
use Rattle.table_layout.proofs.Parts.{row_range}
use Rattle.table_layout.specs.declared.Kind.TheVariants.{Connection}
use Rattle.lists.proofs.Search.{search_start, search_ended}
use mathlib.Core.Path.{◌≡◌, refl, ◌∙◌}
use lib.ListN.{length}
use Prim.Native.Nat.{◌/◌}
use native.Mathlib.Omega.{arith}
use Rattle.table_scan.proofs.first_bad_connection.Goals as goal

pub loop-i-init : goal.loop-i-init
loop-i-init c = search_start _ _

pub returns-then-not-connection_good : goal.returns-then-not-connection_good
returns-then-not-connection_good c =
    let b = c.args.body.now in
    bad-row _ _ 16 b c.loop-i.i _ c.loop-i.invariant c.loop-i-test.true
    (row_range 16 b c.loop-i.i c.loop-i-test.true) c.connection_good.ensures c.if-not-connection_good.true

pub loop-i-preserved : goal.loop-i-preserved
loop-i-preserved c =
    let b = c.args.body.now in
    good_row _ _ 16 b c.loop-i.i _ c.loop-i.invariant c.loop-i-test.true (row_range 16 b c.loop-i.i c.loop-i-test.true)
    c.connection_good.ensures c.if-not-connection_good.false (free Connection 16 b c.loop-i.i connections_free) refl

pub returns : goal.returns
returns c =
    let b = c.args.body.now in
    let e : length b / 16 ≡ c.loop-i.i = omega arith in
    e ∙ search_ended _ _ _ c.loop-i.invariant c.loop-i-test.false
