-- R5.17, THE ROUND TRIP'S TWO SIDES: the bytes that a take of the waiting bytes gives out; and who reads them: a TCP connection that is there,
-- online without close wanted, and at a header's first byte, given them in segments; or a UDP connection that is there and online without
-- close wanted, given them as one datagram.
use Rattle.std.specs.Prelude.{ℕ, zero, suc, ◌<◌, ◌≡◌, true, false, List, [], ◌∷◌, take}
use Rattle.table_layout.specs.Layout.{rows_of}
use Rattle.table_layout.specs.declared.Kind.TheVariants.{Connection as Connections}
use Rattle.connection.specs.Event.{receiving}
use Rattle.reading.specs.Feed.{ready}
use Rattle.state.specs.State.{record_at}
use Rattle.state.specs.Fresh.{config_of}
use Rattle.entry_receive.specs.Walk.{walk_of}
use Rattle.entry_send.specs.Sending.{taken_out}
use Rattle.model.specs.World.{held_at, cell_at}
use Rattle.model.specs.Events.{walk, Event, on}
use Rattle.model_refines.specs.Machine.{Machine, lent_to, loan_to, seen}
use Rattle.model_refines.specs.Run.{after_event}

-- what taking the waiting bytes of connection j gives out: as many bytes as are used, at the front of the out buffer
abbrev pub outgoing : List ℕ → Machine → ℕ → List ℕ → List ℕ
outgoing image m j out = take (record_at m.state j).used (taken_out (loan_to image m) j out)

pub record Reader (image : List ℕ) (m : Machine) (k : ℕ) : Type 0 where
  pub there : k < rows_of image Connections
  pub tcp : (config_of image k).tcp ≡ true
  pub receives : receiving (record_at m.state k) ≡ true
  pub at_header : cell_at (held_at (seen m) k) ≡ ready

pub record Walker (image : List ℕ) (m : Machine) (k : ℕ) : Type 0 where
  pub there : k < rows_of image Connections
  pub udp : (config_of image k).tcp ≡ false
  pub receives : receiving (record_at m.state k) ≡ true

-- so many steps of a walk over a datagram, each at the place that the answer before it gave
module _ (image : List ℕ) (k : ℕ) (datagram : List ℕ) where
  unfoldable pub as_walks : ℕ → Machine → ℕ → List Event
  as_walks zero m place = []
  as_walks (suc steps) m place =
      on k (walk datagram place) ∷ as_walks steps (after_event image (on k (walk datagram place)) m) (walk_of (lent_to image m) k datagram place).next
