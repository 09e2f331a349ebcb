-- `gate::ask` meets its contract.
use Rattle.std.proofs.Common.{rules, Ok, ◌≡◌}
use Rattle.table.proofs.Facts.{accepted_facts, accepted-laid}
use Rattle.table.specs.Table.{check_table}
use Rattle.table_layout.specs.declared.Kind.TheVariants.{Connection as Connections}
use Rattle.gate.proofs.Pass.{gate_memory}
use Rattle.gate.proofs.ask.Goals as goal

pub returns-then-rx-tx : goal.returns-then-rx-tx
returns-then-rx-tx c = gate_memory _ _ _ _ c.if-rx-tx.true

pub are_sound-requires : goal.are_sound-requires
are_sound-requires c =
    let accepted : check_table c.args.image.now ≡ Ok tt = search rules in
    (accepted-laid _ accepted, (accepted_facts _ accepted).most Connections)
