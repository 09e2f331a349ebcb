-- `gate::is_routed` meets its contract, one answer for each kind of part.
use Rattle.gate.proofs.is_routed.Goals as goal

pub returns-in-Payload : goal.returns-in-Payload
returns-in-Payload c = rw (c.in-Payload.is, c.row_at-row.ensures)

pub returns-in-Transfer : goal.returns-in-Transfer
returns-in-Transfer c = rw (c.in-Transfer.is, c.row_at-row-in-Transfer.ensures)
