-- `entry_receive::segment_payload` meets its contract.
use mathlib.Core.Path.{refl}
use Rattle.entry_receive.specs.Segment.{payload_of, payload_stands}
use Rattle.entry_receive.proofs.Taking.{payload-pdu, payload-there}
use Rattle.entry_receive.proofs.segment_payload.Goals as goal

pub returns-in-More : goal.returns-in-More
unfolding payload_of payload_stands
returns-in-More c = rw c.in-More.is record {
  bytes = refl;
  place = refl;
}

pub returns-in-Pdu : goal.returns-in-Pdu
returns-in-Pdu c =
    let e = c.in-Pdu.is in record {
      bytes = payload-pdu _ _ _ _ _ _ _ _ _ e _ c.stretch_of-own.ensures.bytes _ c.payload_of.ensures.bytes;
      place = payload-there _ _ _ _ _ _ _ _ _ _ _ e _ c.stretch_of-own.ensures.bytes _ c.stretch_of-own.ensures.place _ c.payload_of.ensures.place;
    }

pub returns-in-Drop : goal.returns-in-Drop
unfolding payload_of payload_stands
returns-in-Drop c = rw c.in-Drop.is record {
  bytes = refl;
  place = refl;
}

pub returns-in-Start : goal.returns-in-Start
unfolding payload_of payload_stands
returns-in-Start c = rw c.in-Start.is record {
  bytes = refl;
  place = refl;
}

pub returns-in-Piece : goal.returns-in-Piece
unfolding payload_of payload_stands
returns-in-Piece c = rw c.in-Piece.is record {
  bytes = c.part_of.ensures.bytes;
  place = c.part_of.ensures.place;
}
