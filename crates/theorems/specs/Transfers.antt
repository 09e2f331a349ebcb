-- WHAT ENDS A TRANSFER (R19.4, R19.7): its end mark, handed out; or a loss or a tick that says that it failed.
use Rattle.std.specs.Prelude.{ℕ, ◌≡◌, Bool, true, false, ◌||◌, List, [], ◌∷◌}
use Rattle.wire.specs.Bits.{bit_at}
use Rattle.receive_part.specs.Part.{transferring}
use Rattle.connection.specs.declared.Event.TheVariants.{Lost}
use Rattle.state.specs.State.{record_at}
use Rattle.reading.specs.Feed.{Out, nothing, pdu, dropped, start, piece}
use Rattle.entry_events.specs.Change.{loss_of}
use Rattle.entry_ticks.specs.Tick.{tick_event}
use Rattle.model.specs.Events.{change, segment, tick, Event, on, on_whole}
use Rattle.model_refines.specs.Machine.{Machine, lent_to}
use Rattle.model_refines.specs.Run.{given}

-- R19.4, R19.5: an outcome carries the end mark; one of these does
abbrev pub end_mark : Out → Bool
end_mark nothing = false
end_mark (pdu r p) = false
end_mark (dropped k i n) = false
end_mark (start r i n m) = m
end_mark (piece r p m) = m

unfoldable pub some_mark : List Out → Bool
some_mark [] = false
some_mark (o ∷ os) = end_mark o || some_mark os

-- a transfer of connection k runs
abbrev pub runs_at : ℕ → Machine → Bool
runs_at k m = transferring (record_at m.state k).part

-- R19.4, R19.7, of connection k: the end mark is among what the segment event hands out; or a loss or a tick says failed
pub data EndsTransfer (image : List ℕ) (k : ℕ) (m : Machine) : Event → Type 0 where
  by_end_mark : (bytes : List ℕ) → some_mark (given image k (on k (segment bytes)) m) ≡ true → EndsTransfer image k m (on k (segment bytes))
  by_failed_loss : (loss_of (lent_to image m) k).failed ≡ true → EndsTransfer image k m (on k (change Lost))
  by_failed_tick : bit_at k (tick_event (lent_to image m)).failed ≡ 1 → EndsTransfer image k m (on_whole tick)
