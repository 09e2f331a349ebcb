-- `send::transmit` meets its contract. The first loop: the rows below i do not refuse, and what is seen of them is the definition's. The second:
-- the rows below j are stored as the definition has it, and each wanted row from j on still has its record of the call.
use Rattle.std.proofs.Common.{None}
use mathlib.Core.Path.{◌≡◌}
use lib.ListN.{length}
use Rattle.send.specs.Inner.{seen_number}
use Rattle.send.specs.Send.{destinations, look_at}
use Rattle.send.proofs.Scan.{Scanned}
use Rattle.send.proofs.Store.{Storing}
use Rattle.send.proofs.transmit.Given as goal

abbrev pub invariant-loop-i : goal.invariant-loop-i
invariant-loop-i l =
    Scanned (look_at l.image l.next l.pdu (length l.payload)) (destinations l.image) l.i (seen_number l.seen) × (l.refused ≡ None)

abbrev pub invariant-loop-j : goal.invariant-loop-j
invariant-loop-j l = Storing l.image l.initial.next l.pdu l.payload l.initial.tx l.tx l.next l.j
