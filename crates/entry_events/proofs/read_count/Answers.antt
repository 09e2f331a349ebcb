-- `entry_events::read_count` meets its contract.
use Rattle.entry_events.specs.Count.{read_of}
use Rattle.entry_events.proofs.read_count.Goals as goal

pub returns-in-Err : goal.returns-in-Err
unfolding read_of
returns-in-Err c = rw (← c.ask-asked.ensures, c.in-Err.is)

pub returns-in-Ok : goal.returns-in-Ok
unfolding read_of
returns-in-Ok c = rw (← c.ask-asked.ensures, c.in-Ok.is) c.read_past.ensures
