-- `Connection::run` meets its contract.
use Rattle.connection.specs.Connection.{run_of}
use borrow.Author.Tests.{eq-eqb, ne_eqb}
use Rattle.connection.proofs.Connection.run.Goals as goal

pub returns-then-timer-eq0 : goal.returns-then-timer-eq0
unfolding run_of
returns-then-timer-eq0 c = rw (eq-eqb _ _ c.if-timer-eq0.true)

pub returns : goal.returns
unfolding run_of
returns c = rw (ne_eqb _ _ c.if-timer-eq0.false)
