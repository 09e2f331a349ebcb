-- `report_count::count` meets its contract.
use mathlib.Core.Path.{sym}
use Rattle.report_count.proofs.Turns.{event_none, event-past, event-on}
use Rattle.report_count.proofs.count.Goals as goal

pub returns-then-n-eq0 : goal.returns-then-n-eq0
returns-then-n-eq0 c = sym (event_none _ _ _ _ _ c.takes_in-n.ensures c.if-n-eq0.true)

pub returns-then-connection-ge16 : goal.returns-then-connection-ge16
returns-then-connection-ge16 c = sym (event-past _ _ _ _ _ c.be8-connection.ensures.is c.if-connection-ge16.true)

pub returns : goal.returns
returns c =
    let a = c.args in
    event-on a.number a.arguments.now a.answer.now a.run _ c.be8-connection.ensures.is _ _ _ c.takes_counted-counted.result
    c.if-connection-ge16.false c.takes_at.ensures
    c.bytes_from-takes.ensures.bytes c.takes_in-n.ensures
    c.takes_counted-counted.ensures
