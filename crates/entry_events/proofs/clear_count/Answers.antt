-- `entry_events::clear_count` meets its contract.
use Rattle.entry_events.specs.Count.{clear_of}
use Rattle.entry_events.proofs.clear_count.Goals as goal

pub returns-in-Err : goal.returns-in-Err
unfolding clear_of
returns-in-Err c = rw (← c.ask-asked.ensures, c.in-Err.is)

pub returns-in-Ok : goal.returns-in-Ok
unfolding clear_of
returns-in-Ok c = rw (← c.ask-asked.ensures, c.in-Ok.is) c.clear_past.ensures
