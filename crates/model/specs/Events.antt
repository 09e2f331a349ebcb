-- THE EVENTS, as data (R8.1): ten of one connection, and those of a whole group or of the whole module.
use Rattle.std.specs.Prelude.{ℕ, Bool, List}
use Rattle.connection.specs.declared.Remote.{Remote}
use Rattle.connection.specs.declared.Event.{Event as Change}

-- R8.1, the ten connection events: seven that concern the record alone (open, close, connected, lost, set remote, switch, cancel); a segment's
-- bytes; a walk over a datagram from a place; taking the waiting bytes into an out buffer of so much room
pub data Own : Type 0 where
  change : Change → Own
  segment : List ℕ → Own
  walk : List ℕ → ℕ → Own
  take_waiting : ℕ → Own

-- R8.1, group and module events: datagram, accept, tick, transmit, a switch on all connections, reading or reading and clearing a count
pub data Whole : Type 0 where
  datagram : ℕ → Remote → Whole
  accept : ℕ → Remote → Whole
  tick : Whole
  transmit : ℕ → List ℕ → Whole
  switch_all : ℕ → Bool → Whole
  read_count : ℕ → Whole
  clear_count : ℕ → Whole

-- an event of connection k, or of a whole group or module
pub data Event : Type 0 where
  on : ℕ → Own → Event
  on_whole : Whole → Event
