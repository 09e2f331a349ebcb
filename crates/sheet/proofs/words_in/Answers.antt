use Rattle.std.proofs.Common.{ap, ◌∙◌, rules}
use Rattle.sheet.specs.Sheet.{add_switch}
use Rattle.sheet.proofs.Turns.{add-on, add-ended}
use Rattle.sheet.proofs.words_in.Goals as goal

pub loop-k-preserved : goal.loop-k-preserved
loop-k-preserved c =
    add-on _ _ _ _ _ c.loop-k.invariant (search rules) (c.add-words.ensures ∙ ap (add_switch _ _) c.switching_at.ensures)

pub returns : goal.returns
returns c = add-ended c.args.sheet.now c.args.rows c.loop-k.k c.loop-k.words c.loop-k.invariant (search rules)
