-- `entry_events::clear_past` meets its contract.
use Rattle.entry_events.specs.Count.{of_protocol, clear_past}
use borrow.Author.Tests.{eq-eqb, ne_eqb}
use Rattle.entry_events.proofs.clear_past.Goals as goal

pub returns-in-1 : goal.returns-in-1
unfolding clear_past of_protocol
returns-in-1 c = rw (eq-eqb _ _ c.in-1.is, c.count.ensures, c.with_count-cleared.ensures)

pub returns-in-2 : goal.returns-in-2
unfolding clear_past of_protocol
returns-in-2 c = rw (c.in-2.is, c.count-in-2.ensures, c.with_count-cleared-in-2.ensures)

pub returns-in_default : goal.returns-in_default
unfolding clear_past of_protocol
returns-in_default c = rw (ne_eqb _ _ c.in_default.in_default-own.rest.0.1, ne_eqb _ _ c.in_default.in_default-own.rest.1)
