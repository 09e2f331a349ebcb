-- `select::place_of` meets its contract.
use native.Mathlib.Omega.{arith}
use Rattle.select.proofs.place_of.Goals as goal

pub returns-in-Ok : goal.returns-in-Ok
returns-in-Ok c = (rw c.in-Ok.is, omega arith)
