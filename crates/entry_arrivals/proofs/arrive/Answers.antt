use Rattle.std.proofs.Common.{Err}
use Prim.Native.Nat.{◌+◌, ◌*◌, ◌<◌, ◌≤◌}
use mathlib.Core.Path.{◌≡◌, sym, ◌∙◌}
use native.Mathlib.Omega.{arith}
use lib.ListN.{length}
use Rattle.table_layout.specs.Layout.{Laid}
use Rattle.table_layout.proofs.Parts.{row-in, row_range}
use Rattle.gate.specs.Lent.{Lent, lent}
use Rattle.gate.proofs.Pass.{gate_laid}
use Rattle.select.specs.declared.NotMet.TheVariants.{Unmatched}
use Rattle.select.proofs.Pass.{search_start, search_small, search_on, search_ended}
use Rattle.entry_arrivals.proofs.Landed.{past, before-laid, before-most, answer-is, met-laid, arrival_is}
use Rattle.entry_arrivals.proofs.arrive.Goals as goal

pub past-before-requires : goal.past-before-requires
past-before-requires c =
    let by : Lent = let a = c.args in lent a.image.now a.state a.rx a.tx in
    λ p. gate_laid by (sym c.ask-asked.ensures ∙ p)

pub searched-body-requires : goal.searched-body-requires
searched-body-requires c =
    let by : Lent = let a = c.args in lent a.image.now a.state a.rx a.tx in
    let laid : c.past-before.result ≡ Err Unmatched → Laid by.image = let a = c.args in
    before-laid by a.accept a.group a.source c.ask-asked.result c.ask-asked.ensures c.past-before.result c.past-before.ensures in
    laid

pub loop-i-init : goal.loop-i-init
loop-i-init c = search_start _ _ _ _ _ _

pub overflow_mul-start : goal.overflow_mul-start
overflow_mul-start c =
    let by : Lent = let a = c.args in lent a.image.now a.state a.rx a.tx in
    let laid : c.past-before.result ≡ Err Unmatched → Laid by.image = let a = c.args in
    before-laid by a.accept a.group a.source c.ask-asked.result c.ask-asked.ensures c.past-before.result c.past-before.ensures in
    let row_small : c.loop-i.i < 16 = let a = c.args in
    search_small a.image.now a.state a.accept a.group a.source c.past-before.result laid _ c.searched-body.ensures.bytes c.loop-i.i
    c.loop-i-test.true
    (before-most by a.accept a.group a.source c.ask-asked.result c.ask-asked.ensures c.past-before.result c.past-before.ensures) in
    omega (arith, row_small)

pub overflow_add-row : goal.overflow_add-row
overflow_add-row c =
    let by : Lent = let a = c.args in lent a.image.now a.state a.rx a.tx in
    let laid : c.past-before.result ≡ Err Unmatched → Laid by.image = let a = c.args in
    before-laid by a.accept a.group a.source c.ask-asked.result c.ask-asked.ensures c.past-before.result c.past-before.ensures in
    let row_small : c.loop-i.i < 16 = let a = c.args in
    search_small a.image.now a.state a.accept a.group a.source c.past-before.result laid _ c.searched-body.ensures.bytes c.loop-i.i
    c.loop-i-test.true
    (before-most by a.accept a.group a.source c.ask-asked.result c.ask-asked.ensures c.past-before.result c.past-before.ensures) in
    omega (arith, row_small)

pub slice_bounds-row-end : goal.slice_bounds-row-end
slice_bounds-row-end c =
    let row_ends : c.loop-i.i * 16 + 16 ≤ length c.searched-body.result.now = row-in 16 c.searched-body.result.now c.loop-i.i c.loop-i-test.true in
    omega (arith, row_ends)

pub offset_bounds-after-i : goal.offset_bounds-after-i
offset_bounds-after-i c =
    let by : Lent = let a = c.args in lent a.image.now a.state a.rx a.tx in
    let laid : c.past-before.result ≡ Err Unmatched → Laid by.image = let a = c.args in
    before-laid by a.accept a.group a.source c.ask-asked.result c.ask-asked.ensures c.past-before.result c.past-before.ensures in
    let row_small : c.loop-i.i < 16 = let a = c.args in
    search_small a.image.now a.state a.accept a.group a.source c.past-before.result laid _ c.searched-body.ensures.bytes c.loop-i.i
    c.loop-i-test.true
    (before-most by a.accept a.group a.source c.ask-asked.result c.ask-asked.ensures c.past-before.result c.past-before.ensures) in
    omega (arith, row_small)

pub bounds-after-i : goal.bounds-after-i
bounds-after-i c =
    let by : Lent = let a = c.args in lent a.image.now a.state a.rx a.tx in
    let laid : c.past-before.result ≡ Err Unmatched → Laid by.image = let a = c.args in
    before-laid by a.accept a.group a.source c.ask-asked.result c.ask-asked.ensures c.past-before.result c.past-before.ensures in
    let row_small : c.loop-i.i < 16 = let a = c.args in
    search_small a.image.now a.state a.accept a.group a.source c.past-before.result laid _ c.searched-body.ensures.bytes c.loop-i.i
    c.loop-i-test.true
    (before-most by a.accept a.group a.source c.ask-asked.result c.ask-asked.ensures c.past-before.result c.past-before.ensures) in
    row_small

pub loop-i-preserved : goal.loop-i-preserved
loop-i-preserved c =
    let by : Lent = let a = c.args in lent a.image.now a.state a.rx a.tx in
    let laid : c.past-before.result ≡ Err Unmatched → Laid by.image = let a = c.args in
    before-laid by a.accept a.group a.source c.ask-asked.result c.ask-asked.ensures c.past-before.result c.past-before.ensures in
    let row_small : c.loop-i.i < 16 = let a = c.args in
    search_small a.image.now a.state a.accept a.group a.source c.past-before.result laid _ c.searched-body.ensures.bytes c.loop-i.i
    c.loop-i-test.true
    (before-most by a.accept a.group a.source c.ask-asked.result c.ask-asked.ensures c.past-before.result c.past-before.ensures) in
    let i = c.loop-i.i in
    let a = c.args in
    search_on a.image.now a.state a.accept a.group a.source c.past-before.result laid _ c.searched-body.ensures.bytes i c.loop-i-test.true
    row_small _ c.loop-i.invariant _ (row_range 16 _ i c.loop-i-test.true) _ c.better-best.ensures

pub answer_after-answer-requires : goal.answer_after-answer-requires
answer_after-answer-requires c = c.loop-i.invariant.small

pub next_of-next-requires : goal.next_of-next-requires
next_of-next-requires c =
    let by : Lent = let a = c.args in lent a.image.now a.state a.rx a.tx in
    let laid : c.past-before.result ≡ Err Unmatched → Laid by.image = let a = c.args in
    before-laid by a.accept a.group a.source c.ask-asked.result c.ask-asked.ensures c.past-before.result c.past-before.ensures in
    let answered : (let a = c.args in
    c.answer_after-answer.result ≡ past by a.accept a.group a.source c.ask-asked.result) = let a = c.args in
    answer-is by a.accept a.group a.source c.ask-asked.result c.ask-asked.ensures c.past-before.result c.past-before.ensures c.loop-i.best
    (search_ended a.image.now a.state a.accept a.group a.source c.past-before.result laid _ c.searched-body.ensures.bytes c.loop-i.i
    c.loop-i-test.false c.loop-i.best c.loop-i.invariant)
    c.loop-i.invariant.idle _ c.answer_after-answer.ensures in
    let a = c.args in
    met-laid by a.accept a.group a.source c.ask-asked.result c.ask-asked.ensures c.answer_after-answer.result answered

pub returns : goal.returns
returns c =
    let by : Lent = let a = c.args in lent a.image.now a.state a.rx a.tx in
    let laid : c.past-before.result ≡ Err Unmatched → Laid by.image = let a = c.args in
    before-laid by a.accept a.group a.source c.ask-asked.result c.ask-asked.ensures c.past-before.result c.past-before.ensures in
    let answered : (let a = c.args in
    c.answer_after-answer.result ≡ past by a.accept a.group a.source c.ask-asked.result) = let a = c.args in
    answer-is by a.accept a.group a.source c.ask-asked.result c.ask-asked.ensures c.past-before.result c.past-before.ensures c.loop-i.best
    (search_ended a.image.now a.state a.accept a.group a.source c.past-before.result laid _ c.searched-body.ensures.bytes c.loop-i.i
    c.loop-i-test.false c.loop-i.best c.loop-i.invariant)
    c.loop-i.invariant.idle _ c.answer_after-answer.ensures in
    let a = c.args in
    arrival_is by a.accept a.group a.source c.ask-asked.result c.ask-asked.ensures c.answer_after-answer.result answered c.place_of-k.result
    c.place_of-k.ensures.0 c.next_of-next.result c.next_of-next.ensures
