-- `gate::is_idle` meets its contract.
use Rattle.gate.proofs.is_idle.Goals as goal

pub returns : goal.returns
returns c = cc
