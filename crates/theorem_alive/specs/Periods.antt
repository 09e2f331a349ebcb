-- WHEN AN ONLINE PERIOD OF A UDP CONNECTION ENDS: at a tick where close is wanted, at the tick that ends its alive timer (R20.4), and at a take of its
-- waiting bytes where it is automatic and its configured remote has a wildcard (00582).
use Rattle.std.specs.Prelude.{ℕ, ◌<◌, ◌≤◌, ◌≡◌, true, false, List}
use Rattle.connection.specs.Connection.{wildcard, expires}
use Rattle.state.specs.State.{record_at}
use Rattle.state.specs.Fresh.{config_of}
use Rattle.model.specs.Events.{take_waiting, tick, Event, on, on_whole}
use Rattle.model_refines.specs.Machine.{Machine}

-- of connection k of a machine, which is online
pub data UdpEnds (image : List ℕ) (m : Machine) (k : ℕ) : Event → Type 0 where
  by_closing_tick : (record_at m.state k).close_wanted ≡ true → UdpEnds image m k (on_whole tick)
  by_expiry : (record_at m.state k).close_wanted ≡ false → expires (config_of image k) (record_at m.state k) ≡ true → UdpEnds image m k (on_whole tick)
  by_take : (room : ℕ) → 0 < (record_at m.state k).used → (record_at m.state k).used ≤ room → (config_of image k).automatic ≡ true
      → wildcard (config_of image k).remote ≡ true
      → UdpEnds image m k (on k (take_waiting room))
