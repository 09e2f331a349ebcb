-- `entry_events::read_past` meets its contract.
use Rattle.entry_events.specs.Count.{of_protocol, read_past}
use borrow.Author.Tests.{eq-eqb, ne_eqb}
use Rattle.entry_events.proofs.read_past.Goals as goal

pub returns-in-1 : goal.returns-in-1
unfolding read_past of_protocol
returns-in-1 c = rw (eq-eqb _ _ c.in-1.is, c.count.ensures)

pub returns-in-2 : goal.returns-in-2
unfolding read_past of_protocol
returns-in-2 c = rw (c.in-2.is, c.count-in-2.ensures)

pub returns-in_default : goal.returns-in_default
unfolding read_past of_protocol
returns-in_default c = rw (ne_eqb _ _ c.in_default.in_default-own.rest.0.1, ne_eqb _ _ c.in_default.in_default-own.rest.1)
