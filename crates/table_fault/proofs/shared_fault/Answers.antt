use Rattle.table_scan.proofs.Rows.{clear_pair, shared_pair}
use Rattle.table_scan.specs.Scan.{share}
use Rattle.table_layout.specs.Layout.{row_bytes, body_of}
use Rattle.lists.proofs.Search.{search_start, search_on, search_found, search_ended}
use Rattle.table_fault.proofs.Shares.{shares, shares_none}
use native.Mathlib.Omega.{arith}
use Rattle.table_fault.proofs.shared_fault.Goals as goal

pub loop-j-init : goal.loop-j-init
loop-j-init c = search_start _ _

pub returns-then-rows_share : goal.returns-then-rows_share
returns-then-rows_share c =
    let a = c.args in
    let s = a.image.now in
    shares s a.k a.i
    (search_found _ _ _ c.loop-j.invariant c.loop-j-test.true
    (shared_pair (share a.k) (row_bytes s a.k) (body_of s a.k) a.i c.loop-j.j _ _
    c.row_of-row.ensures c.row_of.ensures c.rows_share.ensures c.if-rows_share.true))
    c.loop-j-test.true

pub loop-j-preserved : goal.loop-j-preserved
loop-j-preserved c =
    let a = c.args in
    let s = a.image.now in
    search_on _ _ _ c.loop-j.invariant c.loop-j-test.true
    (clear_pair (share a.k) (row_bytes s a.k) (body_of s a.k) a.i c.loop-j.j _ _
    c.row_of-row.ensures c.row_of.ensures c.rows_share.ensures c.if-rows_share.false)

pub returns : goal.returns
returns c =
    let a = c.args in
    shares_none a.image.now a.k a.i (search_ended _ _ _ c.loop-j.invariant c.loop-j-test.false) (omega arith)
