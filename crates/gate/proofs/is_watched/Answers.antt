-- `gate::is_watched` meets its contract.
use mathlib.Core.Path.{refl}
use borrow.Author.Tests.{eq-eqb, ne_eqb}
use Rattle.gate.proofs.is_watched.Goals as goal

pub returns-then-c-eq0 : goal.returns-then-c-eq0
returns-then-c-eq0 c = rw (eq-eqb _ 0 c.if-c-eq0.true) refl

pub returns : goal.returns
returns c =
    rw (ne_eqb _ 0 c.if-c-eq0.false, c.is_online.ensures, c.rules_in-rules.ensures) refl
