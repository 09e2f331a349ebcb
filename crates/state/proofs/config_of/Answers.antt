-- `state::config_of` meets its contract.
use Rattle.state.specs.Fresh.{config_of}
use Rattle.state.proofs.config_of.Goals as goal

pub returns : goal.returns
unfolding config_of
returns c = rw (c.config_from.ensures, c.row_of-group.ensures, c.row_of-row.ensures)
