-- A datagram and an accept, as a caller sees them: the gate (11, 12), then 2, 3, and 10 or the chosen connection. A refusal
-- carries its number, and the state stays.
use Rattle.std.specs.Prelude.{ℕ, Bool, true, false}
use Rattle.connection.specs.declared.Remote.{Remote}
use Rattle.gate.specs.Lent.{Lent}
use Rattle.gate.specs.Gate.{gate_of, through}
use Rattle.select.specs.declared.Arrived.{Arrived}
use Rattle.select.specs.Choose.{arrival_refused, arrive_of}

unfoldable pub arrival_of : Lent → Bool → ℕ → Remote → Arrived
arrival_of l accept group source = through (gate_of l) (arrival_refused l.state) (arrive_of l.image l.state accept group source)

-- R7.1: a datagram event names a UDP group and a source
abbrev pub datagram_of : Lent → ℕ → Remote → Arrived
datagram_of l group source = arrival_of l false group source

-- R7.2: an accept event does the same for a TCP group
abbrev pub accept_of : Lent → ℕ → Remote → Arrived
accept_of l group source = arrival_of l true group source
