-- `event_decode::bytes_from` meets its contract.
use Rattle.std.proofs.Common.{arith}
use Rattle.wire.proofs.Place.{from_there, from_past}
use Rattle.event_decode.proofs.bytes_from.Goals as goal

pub returns-then-body-at-clause-place : goal.returns-then-body-at-clause-place
returns-then-body-at-clause-place c = let a = c.args in from_past a.body.ref_ptr a.body.now a.at (omega arith)

pub returns-else-body-at-clause-place : goal.returns-else-body-at-clause-place
returns-else-body-at-clause-place c = let a = c.args in from_there a.body.ref_ptr a.body.now a.at (omega arith)
