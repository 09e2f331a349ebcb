use Rattle.table_scan.proofs.Rows.{clear_pair, shared_pair}
use Rattle.table_layout.proofs.Parts.{row_range}
use Rattle.lists.proofs.Search.{pass_start, pass_on, pass_failed, pass_ended}
use native.Mathlib.Nat.{lt_trans}
use Rattle.table_scan.proofs.is_fresh.Goals as goal

pub loop-j-init : goal.loop-j-init
loop-j-init g c = pass_start _ _

pub returns-then-share : goal.returns-then-share
returns-then-share g c =
    let s = c.args.body.now in
    pass_failed _ _ c.loop-j.j c.loop-j-test.true
    (shared_pair g.R.Marked.shares 16 s c.args.i c.loop-j.j _ _
    (row_range 16 s c.args.i c.requires) (row_range 16 s c.loop-j.j (lt_trans c.loop-j-test.true c.requires))
    c.share.ensures c.if-share.true)

pub loop-j-preserved : goal.loop-j-preserved
loop-j-preserved g c =
    let s = c.args.body.now in
    pass_on _ _ c.loop-j.j c.loop-j.invariant c.loop-j-test.true
    (clear_pair g.R.Marked.shares 16 s c.args.i c.loop-j.j _ _
    (row_range 16 s c.args.i c.requires) (row_range 16 s c.loop-j.j (lt_trans c.loop-j-test.true c.requires))
    c.share.ensures c.if-share.false)

pub returns : goal.returns
returns g c = pass_ended _ _ _ c.loop-j.invariant c.loop-j-test.false
