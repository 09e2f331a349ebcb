-- `gate::rules_in` meets its contract.
use Rattle.gate.proofs.rules_in.Goals as goal

pub returns : goal.returns
returns c = rw (c.rules_from.ensures, c.row_at-group.ensures, c.brief_in-row.ensures)
