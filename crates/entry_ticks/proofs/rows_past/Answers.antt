-- `entry_ticks::rows_past` meets its contract.
use Rattle.entry_ticks.proofs.rows_past.Goals as goal

pub rows_laid-requires : goal.rows_laid-requires
rows_laid-requires c = c.requires c.in-Ok.is

pub returns-in-Ok : goal.returns-in-Ok
returns-in-Ok c = rw c.in-Ok.is c.rows_laid.ensures.0
