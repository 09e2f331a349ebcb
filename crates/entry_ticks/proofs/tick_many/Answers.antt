use Rattle.std.proofs.Common.{sym, ap, ◌∙◌, arith, ◌≡◌, ◌-◌, ◌+◌, ℕ}
use Rattle.entry_ticks.specs.Many.{many_of}
use Rattle.entry_ticks.proofs.Many.{settled_many, none_left, ticked}
use Rattle.entry_ticks.proofs.tick_many.Goals as goal

pub returns-then-not-turns_next : goal.returns-then-not-turns_next
returns-then-not-turns_next c =
    c.settled.ensures ∙ settled_many _ _ (sym c.turns_next.ensures ∙ c.if-not-turns_next.true) _ ∙ c.loop-done.invariant

pub loop-done-preserved : goal.loop-done-preserved
loop-done-preserved c =
    let one_less : c.args.count - (c.loop-done.done + 1) ≡ c.args.count - c.loop-done.done - 1 = omega arith in
    ap (λ (k : ℕ). many_of c.args.config k c.tick-next.result) one_less ∙ ap (many_of _ _) c.tick-next.ensures
    ∙ ticked _ _ _ (λ z. absurd (omega (arith, z, c.loop-done-test.true))) ∙ c.loop-done.invariant

pub returns : goal.returns
returns c = none_left _ _ _ (omega arith) ∙ c.loop-done.invariant
