-- `gate::is_reached` meets its contract.
use Rattle.gate.proofs.is_reached.Goals as goal

pub returns : goal.returns
returns c = cc
