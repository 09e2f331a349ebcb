-- `entry_receive::answer_past` meets its contract.
use Rattle.entry_receive.proofs.answer_past.Goals as goal

pub returns-in-Err : goal.returns-in-Err
returns-in-Err c = rw c.in-Err.is

pub returns-in-Ok : goal.returns-in-Ok
returns-in-Ok c = rw c.in-Ok.is c.judge.ensures
