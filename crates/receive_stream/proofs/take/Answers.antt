-- `receive_stream::take` meets its contract.
use Rattle.receive_stream.proofs.Takes.{at_part}
use Rattle.receive_route.specs.Route.{lookup_of}
use Rattle.wire.proofs.Clauses.{answer_memory}
use Rattle.receive_stream.proofs.take.Goals as goal

pub returns-in-Payload : goal.returns-in-Payload
returns-in-Payload c =
    let a = c.args in
    answer_memory (at_part a.routes.now a.connection a.switches a.rx.now a.segment.now _ _ c.in-Payload.is
    (c.take_payload.ensures (lookup_of a.routes.now a.connection a.switches)))

pub returns-in-Skip : goal.returns-in-Skip
returns-in-Skip c =
    let a = c.args in
    answer_memory (at_part a.routes.now a.connection a.switches a.rx.now a.segment.now _ _ c.in-Skip.is c.take_skip.ensures)

pub returns-in-Transfer : goal.returns-in-Transfer
returns-in-Transfer c =
    let a = c.args in
    answer_memory (at_part a.routes.now a.connection a.switches a.rx.now a.segment.now _ _ c.in-Transfer.is
    (c.take_piece.ensures (lookup_of a.routes.now a.connection a.switches) a.rx.now))

pub returns-in-Header : goal.returns-in-Header
returns-in-Header c =
    let a = c.args in
    answer_memory (at_part a.routes.now a.connection a.switches a.rx.now a.segment.now _ _ c.in-Header.is c.take_header.ensures)
