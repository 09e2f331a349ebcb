-- `entry_arrivals::past` meets its contract.
use Rattle.entry_arrivals.proofs.past.Goals as goal

pub answer_before-requires : goal.answer_before-requires
answer_before-requires c = c.requires c.in-Ok.is

pub returns-in-Err : goal.returns-in-Err
returns-in-Err c = rw c.in-Err.is

pub returns-in-Ok : goal.returns-in-Ok
returns-in-Ok c = rw c.in-Ok.is c.answer_before.ensures
