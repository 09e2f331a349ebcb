-- A reason's number is one byte, and the reason is had back from it.
use Prim.Native.Nat.{◌<◌}
use mathlib.Core.Path.{◌≡◌, refl}
use native.Mathlib.Omega.{arith}
use Rattle.std.proofs.Common.{Some}
use Rattle.reading.specs.declared.DropReason.{DropReason}
use Rattle.reading.specs.declared.DropReason.TheVariants.{NoRoute, SwitchedOff, TooLong, CutShort}
use Rattle.reading.specs.Reasons.{reason_number, reason_of_number}

pub reason_small : (r : DropReason) → reason_number r < 256
reason_small NoRoute = omega arith
reason_small SwitchedOff = omega arith
reason_small TooLong = omega arith
reason_small CutShort = omega arith

pub reason_back : (r : DropReason) → reason_of_number (reason_number r) ≡ Some r
unfolding reason_of_number
reason_back NoRoute = refl
reason_back SwitchedOff = refl
reason_back TooLong = refl
reason_back CutShort = refl
