-- `wire::turned` meets its contract.
use mathlib.Core.Path.{refl}
use Rattle.wire.specs.Be.{turn}
use Rattle.wire.proofs.turned.Goals as goal

pub returns : goal.returns
unfolding turn
returns c = refl
