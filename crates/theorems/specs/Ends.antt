-- WHAT ENDS AN ONLINE PERIOD (R15.6) of a TCP connection: a loss, or a tick with close wanted.
use Rattle.std.specs.Prelude.{ℕ, ◌≡◌, true}
use Rattle.connection.specs.declared.Connection.{Connection}
use Rattle.connection.specs.declared.Event.TheVariants.{Lost}
use Rattle.model.specs.Events.{change, tick, Event, on, on_whole}

-- of connection k, with this record before it
pub data EndsBy (k : ℕ) (c : Connection) : Event → Type 0 where
  by_loss : EndsBy k c (on k (change Lost))
  by_closing : c.close_wanted ≡ true → EndsBy k c (on_whole tick)
