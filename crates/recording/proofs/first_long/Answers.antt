use Rattle.std.proofs.Common.{◌≡◌, sym, ◌∙◌, arith}
use Rattle.lists.proofs.Search.{search_on, search_found, search_ended}
use Rattle.recording.specs.Recording.{first_long}
use Rattle.recording.proofs.first_long.Goals as goal

pub returns-then-not-is_short : goal.returns-then-not-is_short
returns-then-not-is_short c =
    (c.loop-i-test.true, search_found _ _ _ c.loop-i.invariant c.loop-i-test.true (sym c.is_short.ensures ∙ c.if-not-is_short.true))

pub loop-i-preserved : goal.loop-i-preserved
loop-i-preserved c =
    search_on _ _ _ c.loop-i.invariant c.loop-i-test.true (sym c.is_short.ensures ∙ c.if-not-is_short.false)

pub returns : goal.returns
returns c = let e : c.loop-i.i ≡ first_long c.args.recording.now c.args.entries = search_ended _ _ _ c.loop-i.invariant c.loop-i-test.false in omega arith
