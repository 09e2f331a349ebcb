-- WHEN AN ONLINE PERIOD ENDS (R15.6) of connection k of a machine: at a loss of its own that is allowed, and at a tick where it is online with close
-- wanted.
use Rattle.std.specs.Prelude.{ℕ, ◌≡◌, true, List}
use Rattle.connection.specs.declared.Event.TheVariants.{Lost}
use Rattle.connection.specs.Connection.{is_online}
use Rattle.connection.specs.Event.{lost_allowed}
use Rattle.state.specs.State.{record_at}
use Rattle.state.specs.Fresh.{config_of}
use Rattle.model.specs.Events.{change, tick, Event, on, on_whole}
use Rattle.model_refines.specs.Machine.{Machine}

pub data PeriodEnds (image : List ℕ) (m : Machine) (k : ℕ) : Event → Type 0 where
  allowed_loss : lost_allowed (config_of image k) (record_at m.state k) ≡ true → PeriodEnds image m k (on k (change Lost))
  closing_tick : is_online (record_at m.state k).mode ≡ true → (record_at m.state k).close_wanted ≡ true → PeriodEnds image m k (on_whole tick)
