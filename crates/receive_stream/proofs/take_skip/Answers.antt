-- `receive_stream::take_skip` meets its contract.
use Rattle.receive_route.specs.Route.{lookup_of}
use Rattle.receive_stream.specs.Stream.{id_of}
use Rattle.receive_stream.proofs.Takes.{skip-part, skip-over}
use Rattle.receive_stream.proofs.take_skip.Goals as goal

pub returns-then-here-left : goal.returns-then-here-left
returns-then-here-left c =
    let a = c.args in
    skip-part (id_of a.routes.now) (lookup_of a.routes.now a.connection a.switches) a.n a.rx.now a.segment.now c.if-here-left.true

pub returns : goal.returns
returns c =
    let a = c.args in
    skip-over (id_of a.routes.now) (lookup_of a.routes.now a.connection a.switches)
    a.n a.rx.now a.segment.now _ _ c.requires.2 c.if-here-left.false c.take_header.ensures
