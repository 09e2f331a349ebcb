-- WHICH CONNECTIONS A GROUP OR MODULE EVENT TOUCHES (R8.1), by the answers and the table that its rule speaks of; and what it may change there.
use Rattle.std.specs.Prelude.{ℕ, ◌<◌, ◌≡◌, Bool, true, List, Ok}
use Rattle.table_layout.specs.Layout.{rows_of}
use Rattle.table_layout.specs.declared.Kind.TheVariants.{Connection as Connections}
use Rattle.table_rows.specs.Rows.{destination_of}
use Rattle.switches.specs.Switches.{is_on}
use Rattle.connection.specs.declared.Connection.{Connection}
use Rattle.connection.specs.declared.Remote.{Remote}
use Rattle.connection.specs.Connection.{with_switches, with_send}
use Rattle.state.specs.State.{record_at}
use Rattle.entry_arrivals.specs.Arrivals.{datagram_of, accept_of}
use Rattle.send.specs.Send.{destinations}
use Rattle.model.specs.Events.{Whole, datagram, accept, tick, transmit, switch_all}
use Rattle.model_refines.specs.Machine.{Machine, lent_to}

-- a count event touches none
pub data Touches (image : List ℕ) (m : Machine) : Whole → ℕ → Type 0 where
  -- a datagram, an accept: the connection that it is answered with (R7.6)
  datagram_meets : (group : ℕ) (source : Remote) (k : ℕ) → (datagram_of (lent_to image m) group source).answer ≡ Ok k
      → Touches image m (datagram group source) k
  accept_meets : (group : ℕ) (source : Remote) (k : ℕ) → (accept_of (lent_to image m) group source).answer ≡ Ok k → Touches image m (accept group source) k
  -- a tick: each connection that is there (R9.1)
  tick_each : (k : ℕ) → k < rows_of image Connections → Touches image m tick k
  -- a transmit: the connection of a destination that has the PDU and is on (R10.3)
  transmit_stores : (pdu : ℕ) (payload : List ℕ) (d : ℕ) → d < destinations image → (destination_of image d).pdu ≡ pdu
      → is_on (destination_of image d).groups (record_at m.state (destination_of image d).connection).switches ≡ true
      → Touches image m (transmit pdu payload) (destination_of image d).connection
  -- a switch on all connections: each that is there (R8.9)
  switch_each : (number : ℕ) (position : Bool) (k : ℕ) → k < rows_of image Connections → Touches image m (switch_all number position) k

-- x is c with other switches, and nothing else
abbrev pub OnlySwitches : Connection → Connection → Type 0
OnlySwitches c x = x ≡ with_switches x.switches c

-- x is c with another number of bytes used, timer and due mark, and nothing else
abbrev pub OnlySend : Connection → Connection → Type 0
OnlySend c x = x ≡ with_send x.used x.timer x.due c
