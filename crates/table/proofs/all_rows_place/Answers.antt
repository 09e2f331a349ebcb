-- `table::all_rows_place` meets its contract.
use Rattle.std.proofs.Common.{rules, ◌≡◌}
use Rattle.table.proofs.Places.{groups-place}
use Rattle.table.specs.Table.{rows_place, all_rows_place, then_check}
use Rattle.table_layout.proofs.Parts.{laid-rows}
use Rattle.table_layout.specs.declared.Kind.TheVariants.{Group}
use Rattle.table.proofs.all_rows_place.Goals as goal

pub place_of-requires : goal.place_of-requires
place_of-requires c = laid-rows _ c.requires Group _ c.body_laid-groups.ensures.bytes

pub returns-in_err-place_of : goal.returns-in_err-place_of
unfolding all_rows_place then_check
returns-in_err-place_of c =
    let s = c.args.image.now in
    let e : c.place_of.result ≡ rows_place s Group = groups-place s c.requires _ _ _ c.body_laid-groups.ensures.bytes c.first_bad_group-bad.ensures
    c.place_of.ensures in
    rw (← e) search rules

pub returns : goal.returns
unfolding all_rows_place then_check
returns c =
    let s = c.args.image.now in
    let e : c.place_of.result ≡ rows_place s Group = groups-place s c.requires _ _ _ c.body_laid-groups.ensures.bytes c.first_bad_group-bad.ensures
    c.place_of.ensures in
    rw (← e) search rules
