-- `state::config_laid` meets its contract.
use Rattle.state.specs.Fresh.{config_of}
use Rattle.state.proofs.config_laid.Goals as goal

pub row_laid-row-requires : goal.row_laid-row-requires
row_laid-row-requires c = c.requires

pub row_laid-group-requires : goal.row_laid-group-requires
row_laid-group-requires c = c.requires

pub returns : goal.returns
unfolding config_of
returns c = rw (c.config_from.ensures, c.row_laid-group.ensures, c.row_laid-row.ensures)
