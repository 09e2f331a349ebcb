-- `table::after_groups` meets its contract.
use Rattle.std.proofs.Common.{rules, ◌≡◌, Ok}
use Rattle.table.proofs.Places.{connections-place, connections-passed}
use Rattle.table.specs.Table.{rows_place, then_check}
use Rattle.table_layout.proofs.Parts.{laid-rows}
use Rattle.table_layout.specs.declared.Kind.TheVariants.{Connection}
use Rattle.table.proofs.after_groups.Goals as goal

pub place_of-requires : goal.place_of-requires
place_of-requires c = laid-rows _ c.requires Connection _ c.body_laid-connections.ensures.bytes

pub after_connections-requires : goal.after_connections-requires
after_connections-requires c =
    let accepted : c.place_of.result ≡ Ok tt = search rules in
    record {
      laid = c.requires;
      passed = connections-passed c.args.image.now c.requires _ _ _ _ c.body_laid-connections.ensures.bytes c.body_laid-groups.ensures.bytes
          c.first_bad_connection-bad.ensures c.place_of.ensures accepted;
    }

pub returns-in_err-place_of : goal.returns-in_err-place_of
unfolding then_check
returns-in_err-place_of c =
    let s = c.args.image.now in
    let e : c.place_of.result ≡ rows_place s Connection =
    connections-place s c.requires _ _ _ _ c.body_laid-connections.ensures.bytes c.body_laid-groups.ensures.bytes
    c.first_bad_connection-bad.ensures c.place_of.ensures in
    rw (← e) search rules

pub returns : goal.returns
unfolding then_check
returns c =
    let s = c.args.image.now in
    let e : c.place_of.result ≡ rows_place s Connection =
    connections-place s c.requires _ _ _ _ c.body_laid-connections.ensures.bytes c.body_laid-groups.ensures.bytes
    c.first_bad_connection-bad.ensures c.place_of.ensures in
    rw (← e) search rules
