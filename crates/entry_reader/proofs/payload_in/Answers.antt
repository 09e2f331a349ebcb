-- `entry_reader::payload_in` meets its contract.
use mathlib.Core.Path.{refl}
use Rattle.entry_reader.specs.Reader.{payload_in, payload_in_at}
use Rattle.wire.proofs.Place.{at_front}
use Rattle.entry_reader.proofs.payload_in.Goals as goal

pub returns-in-End : goal.returns-in-End
unfolding payload_in payload_in_at
returns-in-End c = rw c.in-End.is (refl, at_front _)

pub returns-in-Pdu : goal.returns-in-Pdu
unfolding payload_in payload_in_at
returns-in-Pdu c = rw c.in-Pdu.is (c.part_of.ensures.bytes, c.part_of.ensures.place)

pub returns-in-Drop : goal.returns-in-Drop
unfolding payload_in payload_in_at
returns-in-Drop c = rw c.in-Drop.is (refl, at_front _)
