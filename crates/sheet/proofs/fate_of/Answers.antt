-- `sheet::fate_of` meets its contract.
use mathlib.Core.Path.{sym, ◌∙◌}
use Rattle.sheet.proofs.Turns.{fate_past, fate_missing, fate_counts, fate_overridden}
use borrow.Author.Rules.{rules}
use Rattle.sheet.proofs.fate_of.Goals as goal

pub returns-then-sheet-k : goal.returns-then-sheet-k
returns-then-sheet-k c = fate_past _ _ _ c.if-sheet-k.true

pub returns-then-not-is_there : goal.returns-then-not-is_there
returns-then-not-is_there c =
    fate_missing _ _ _ (search rules) _ c.switching_at-switching.ensures (sym c.is_there.ensures ∙ c.if-not-is_there.true)

pub returns-then-last-k : goal.returns-then-last-k
returns-then-last-k c =
    fate_counts _ _ _ (search rules) _ c.switching_at-switching.ensures (sym c.is_there.ensures ∙ c.if-not-is_there.false) _
    c.last_alike-last.ensures c.if-last-k.true

pub returns : goal.returns
returns c =
    fate_overridden _ _ _ (search rules) _ c.switching_at-switching.ensures (sym c.is_there.ensures ∙ c.if-not-is_there.false) _
    c.last_alike-last.ensures c.if-last-k.false
