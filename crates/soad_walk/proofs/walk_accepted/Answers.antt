-- `soad_walk::walk_accepted` meets its contract.
use native.Mathlib.Omega.{arith}
use Rattle.soad_walk.proofs.Laws.{tcp-is, not_there, a_tcp, past_the_end, a_step}
use Rattle.table_layout.specs.declared.Kind.TheVariants.{Connection}
use Rattle.soad_walk.proofs.walk_accepted.Goals as goal

pub returns-then-rows_of-connection : goal.returns-then-rows_of-connection
returns-then-rows_of-connection c =
    let a = c.args in
    not_there a.image.now a.connection a.switches a.datagram.now a.place _ c.rows_of.ensures.0 c.if-rows_of-connection.true

pub body_laid-connections-requires : goal.body_laid-connections-requires
body_laid-connections-requires c = c.requires.laid

pub body_laid-groups-requires : goal.body_laid-groups-requires
body_laid-groups-requires c = c.requires.laid

pub returns-then-is_tcp : goal.returns-then-is_tcp
returns-then-is_tcp c =
    let a = c.args in
    a_tcp a.image.now a.connection a.switches a.datagram.now a.place _ c.rows_of.ensures.0 c.if-rows_of-connection.false _
    (tcp-is _ _ _ _ _ c.body_laid-connections.ensures.bytes c.body_laid-groups.ensures.bytes c.is_tcp.ensures) c.if-is_tcp.true

pub returns-then-datagram-place : goal.returns-then-datagram-place
returns-then-datagram-place c =
    let a = c.args in
    past_the_end a.image.now a.connection a.switches a.datagram.now a.place _ c.rows_of.ensures.0 c.if-rows_of-connection.false _
    (tcp-is _ _ _ _ _ c.body_laid-connections.ensures.bytes c.body_laid-groups.ensures.bytes c.is_tcp.ensures)
    c.if-is_tcp.false c.if-datagram-place.true

pub body_laid-routes-requires : goal.body_laid-routes-requires
body_laid-routes-requires c = c.requires.laid

pub overflow_cast-connection : goal.overflow_cast-connection
overflow_cast-connection c =
    omega (arith, c.requires.most Connection, c.rows_of.ensures.0, c.if-rows_of-connection.false)

pub returns : goal.returns
returns c =
    let a = c.args in
    a_step a.image.now a.connection a.switches a.datagram.now a.place _ c.rows_of.ensures.0 c.if-rows_of-connection.false _
    (tcp-is _ _ _ _ _ c.body_laid-connections.ensures.bytes c.body_laid-groups.ensures.bytes c.is_tcp.ensures)
    c.if-is_tcp.false c.if-datagram-place.false _ _ c.body_laid-routes.ensures.bytes c.walk.ensures
