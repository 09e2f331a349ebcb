-- `gate::ask_at` meets its contract.
use Rattle.std.proofs.Common.{rules, Ok, ◌≡◌}
use borrow.Author.Tests.{lt-ltb, le-ltb}
use Rattle.table_layout.specs.declared.Kind.TheVariants.{Connection}
use Rattle.table_layout.proofs.Parts.{body-rows}
use Rattle.gate.specs.Lent.{lent}
use Rattle.gate.specs.Gate.{gate_at, gate_of}
use Rattle.gate.proofs.Pass.{gate_laid}
use Rattle.gate.proofs.ask_at.Goals as goal

pub body_laid-connections-requires : goal.body_laid-connections-requires
body_laid-connections-requires c =
    let a = c.args in
    let passed : gate_of (lent a.image.now a.state.now a.rx a.tx) ≡ Ok tt = search rules in
    gate_laid (lent a.image.now a.state.now a.rx a.tx) passed

pub returns-then-n-connections : goal.returns-then-n-connections
unfolding gate_at
returns-then-n-connections c =
    let a = c.args in
    let passed : gate_of (lent a.image.now a.state.now a.rx a.tx) ≡ Ok tt = search rules in
    rw (
      passed,
      ← body-rows _ (gate_laid (lent a.image.now a.state.now a.rx a.tx) passed) Connection,
      ← c.body_laid-connections.ensures.bytes,
      lt-ltb _ _ c.if-n-connections.true,
    )

pub returns : goal.returns
unfolding gate_at
returns c =
    let a = c.args in
    let passed : gate_of (lent a.image.now a.state.now a.rx a.tx) ≡ Ok tt = search rules in
    rw (
      passed,
      ← body-rows _ (gate_laid (lent a.image.now a.state.now a.rx a.tx) passed) Connection,
      ← c.body_laid-connections.ensures.bytes,
      le-ltb _ _ c.if-n-connections.false,
    )
