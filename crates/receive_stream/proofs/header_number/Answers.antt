-- `receive_stream::header_number` meets its contract.
use Rattle.receive_stream.proofs.Takes.{at_once}
use Rattle.receive_stream.proofs.header_number.Goals as goal

pub returns-then-bytes-eq8 : goal.returns-then-bytes-eq8
returns-then-bytes-eq8 c =
    at_once c.args.value c.args.held _ _ c.args.bytes.now c.requires.0
    c.requires.1 c.if-bytes-eq8.true c.be32-id.ensures c.be32-size.ensures
