-- `table::after_connections` meets its contract.
use Rattle.std.proofs.Common.{rules, ◌≡◌}
use Rattle.table.proofs.Places.{last_route, last_destination, none_placed}
use Rattle.table.specs.Table.{rows_place, then_check}
use Rattle.table_layout.proofs.Parts.{laid-rows}
use Rattle.table_layout.specs.declared.Kind.TheVariants.{Route, Destination}
use Rattle.table.proofs.after_connections.Goals as goal

pub returns-then-routes-destinations : goal.returns-then-routes-destinations
returns-then-routes-destinations c =
    none_placed c.args.image.now c.requires.laid _ _ c.body_laid-routes.ensures.bytes c.body_laid-destinations.ensures.bytes c.if-routes-destinations.true

pub first_bad_rows-bad-requires : goal.first_bad_rows-bad-requires
first_bad_rows-bad-requires c =
    rw (c.body_laid-connections.ensures.bytes, c.body_laid-groups.ensures.bytes) c.requires.passed

pub place_of-requires : goal.place_of-requires
place_of-requires c = laid-rows _ c.requires.laid Route _ c.body_laid-routes.ensures.bytes

pub place_of-requires-2 : goal.place_of-requires-2
place_of-requires-2 c = laid-rows _ c.requires.laid Destination _ c.body_laid-destinations.ensures.bytes

pub returns-in_err-place_of : goal.returns-in_err-place_of
unfolding then_check
returns-in_err-place_of c =
    let s = c.args.image.now in
    let e : c.place_of.result ≡ rows_place s Route =
    last_route s c.requires.laid _ _ _ _ _ _ c.body_laid-routes.ensures.bytes c.body_laid-connections.ensures.bytes c.body_laid-groups.ensures.bytes
    c.first_bad_rows-bad.ensures c.place_of.ensures in
    rw (← e) search rules

pub returns : goal.returns
unfolding then_check
returns c =
    let s = c.args.image.now in
    let e : c.place_of.result ≡ rows_place s Route =
    last_route s c.requires.laid _ _ _ _ _ _ c.body_laid-routes.ensures.bytes c.body_laid-connections.ensures.bytes c.body_laid-groups.ensures.bytes
    c.first_bad_rows-bad.ensures c.place_of.ensures in
    let f : c.place_of-2.result ≡ rows_place s Destination =
    last_destination s c.requires.laid _ _ _ _ _ _ c.body_laid-destinations.ensures.bytes c.body_laid-connections.ensures.bytes
    c.first_bad_rows-bad.ensures c.place_of-2.ensures in
    rw (← e, ← f) search rules
