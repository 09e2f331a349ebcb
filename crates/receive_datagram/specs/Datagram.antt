-- A step of the walk as its function answers it.
use Rattle.std.specs.Prelude.{ℕ, List}
use Rattle.receive_route.specs.Route.{lookup_of}
use Rattle.reading_walk.specs.Walk.{Found, the_end, a_pdu, a_drop, walk_at}
use Rattle.reading_walk.specs.Walk as reading
use Rattle.receive_datagram.specs.declared.Outcome.{Outcome}
use Rattle.receive_datagram.specs.declared.Outcome.TheVariants.{End, Pdu, Drop}
use Rattle.receive_datagram.specs.declared.Walked.{Walked}

-- R7.8, R7.10: the next PDU, a drop, or the end
abbrev pub walk_outcome : Found → Outcome
walk_outcome the_end = End
walk_outcome (a_pdu route place n id) = Pdu route id place n
walk_outcome (a_drop reason id n) = Drop reason id n

-- R7.8: with the next place
abbrev pub stepped : reading.Walked → Walked
stepped w = record { outcome = walk_outcome w.found; next = w.next }

-- a step of the walk on a connection with these routes and switches; a place beyond the end is the end (the entry points refuse
-- it with 3 before)
unfoldable pub walked_of : List ℕ → ℕ → List ℕ → ℕ → ℕ → Walked
walked_of datagram place routes connection switches = stepped (walk_at (lookup_of routes connection switches) datagram place)
