-- `state::config_in` meets its contract.
use Rattle.state.proofs.config_in.Goals as goal

pub returns : goal.returns
returns c = rw (c.config_from.ensures, c.row_at-group.ensures, c.row_at-row.ensures)
