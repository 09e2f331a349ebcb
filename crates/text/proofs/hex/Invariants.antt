-- `text::hex` meets its contract.
use mathlib.Core.Path.{◌≡◌}
use lib.ListN.{take}
use Rattle.wire.specs.Lay.{lay}
use Rattle.text.specs.Text.{hex_of}
use Rattle.text.proofs.hex.Given as goal

abbrev pub invariant-loop-i : goal.invariant-loop-i
invariant-loop-i l = l.out ≡ lay l.initial.out l.at (hex_of (take l.i l.bytes))
