-- `event_start_state::state_in` meets its contract.
use Rattle.state.specs.Fresh.{empty_state}
use Rattle.state.proofs.Upto.{Upto}
use Rattle.event_start_state.specs.Given.{given_at}
use Rattle.event_start_state.proofs.state_in.Given as goal

abbrev pub invariant-loop-i : goal.invariant-loop-i
invariant-loop-i l = Upto (given_at l.bytes) empty_state l.state l.i
