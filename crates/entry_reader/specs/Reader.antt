-- The datagram reader (R7.13): it holds a datagram and its place.
use Rattle.std.specs.Prelude.{ℕ, zero, suc, ◌≡◌, List, [], ◌∷◌}
use Rattle.std.specs.Borrow.{Bor}
use Rattle.wire.specs.Place.{behind}
use Rattle.reading.specs.Feed.{Out, pdu, dropped}
use Rattle.table_layout.specs.Layout.{part_of, part_at}
use Rattle.receive_datagram.specs.declared.Outcome.{Outcome}
use Rattle.receive_datagram.specs.declared.Outcome.TheVariants.{End, Pdu, Drop}
use Rattle.entry_receive.specs.declared.DatagramWalked.{DatagramWalked}
use Rattle.entry_receive.specs.Walk.{walk_of}
use Rattle.gate.specs.Lent.{Lent, next}
use Rattle.entry_reader.specs.declared.DatagramReader.{DatagramReader}

-- R7.13: the first place is 0
abbrev pub opened : Bor (List ℕ) → DatagramReader
opened datagram = record { datagram = datagram; place = 0 }

-- the reader's datagram at another place
abbrev pub moved_to : DatagramReader → ℕ → DatagramReader
moved_to r place = record { datagram = r.datagram; place = place }

-- R7.13: the walk's answer for the reader's datagram at its place
abbrev pub answer_at : DatagramReader → Lent → ℕ → DatagramWalked
answer_at r l connection = walk_of l connection r.datagram.now r.place

-- the payload of the PDU that was found: the part of the datagram where it stands; where none was found there is none
unfoldable pub payload_in : List ℕ → Outcome → List ℕ
payload_in datagram End = []
payload_in datagram (Pdu route id at n) = part_of datagram at n
payload_in datagram (Drop reason id n) = []

-- and how far from the datagram's front it stands; an empty part at the front
unfoldable pub payload_in_at : List ℕ → Outcome → ℕ
payload_in_at datagram End = 0
payload_in_at datagram (Pdu route id at n) = part_at datagram at n
payload_in_at datagram (Drop reason id n) = 0

-- a part of a lent datagram: these bytes of it, at this place
abbrev pub PayloadFound : Bor (List ℕ) → Outcome → Bor (List ℕ) → Type 0
PayloadFound datagram outcome r = (r.now ≡ payload_in datagram.now outcome) × (r.ref_ptr ≡ behind datagram.ref_ptr (payload_in_at datagram.now outcome))

-- what an answer tells, before what later answers tell: a PDU with its payload, a drop, or nothing any more
abbrev pub tell_of : List ℕ → Outcome → List Out → List Out
tell_of datagram End later = []
tell_of datagram (Pdu route id at n) later = pdu route (payload_in datagram (Pdu route id at n)) ∷ later
tell_of datagram (Drop reason id n) later = dropped reason id n ∷ later

-- ANSWER AFTER ANSWER until the end, f at most: the reader is moved each time to the next place, and the state handed on
unfoldable pub read_all : ℕ → DatagramReader → Lent → ℕ → List Out
read_all zero r l connection = []
read_all (suc f) r l connection =
    tell_of r.datagram.now (answer_at r l connection).outcome
    (read_all f (moved_to r (answer_at r l connection).next) (next l (answer_at r l connection).state) connection)
