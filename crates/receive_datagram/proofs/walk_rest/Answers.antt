-- `receive_datagram::walk_rest` meets its contract.
use lib.ListN.{length}
use Prim.Native.Nat.{◌+◌}
use Rattle.receive_datagram.proofs.Laws.{stands_at_front}
use Rattle.receive_route.specs.Route.{lookup_of}
use Rattle.reading_lengths.proofs.Heads.{head-short, head-beyond}
use Rattle.reading_lengths.specs.Head.{short, beyond}
use Rattle.receive_datagram.proofs.walk_rest.Goals as goal

pub returns-then-n-lt8 : goal.returns-then-n-lt8
returns-then-n-lt8 c =
    let a = c.args in
    stands_at_front (lookup_of a.routes.now a.connection a.switches) (a.place + length a.rest.now)
    a.place a.rest.now short (head-short a.rest.now c.requires.0 c.if-n-lt8.true)

pub returns-then-n-size : goal.returns-then-n-size
returns-then-n-size c =
    let a = c.args in
    stands_at_front (lookup_of a.routes.now a.connection a.switches) (a.place + length a.rest.now)
    a.place a.rest.now (beyond c.be32-id.result c.be32-size.result)
    (head-beyond a.rest.now _ _ c.if-n-lt8.false c.be32-id.ensures.is c.be32-size.ensures.is c.if-n-size.true)
