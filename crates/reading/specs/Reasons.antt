-- THE REASONS OF DROPS BY THEIR NUMBERS (R5.5, R7.9).
use Rattle.std.specs.Prelude.{ℕ, cond, eqb, Option, Some, None}
use Rattle.reading.specs.declared.DropReason.{DropReason}
use Rattle.reading.specs.declared.DropReason.TheVariants.{NoRoute, SwitchedOff, TooLong, CutShort}

-- R5.5: 20 no route, 21 switched off, 22 longer than allowed; R7.9: 23 a datagram's last 1..7 bytes, or a length beyond its end
abbrev pub reason_number : DropReason → ℕ
reason_number NoRoute = 20
reason_number SwitchedOff = 21
reason_number TooLong = 22
reason_number CutShort = 23

-- .. and back: no other number is a reason's
unfoldable pub reason_of_number : ℕ → Option DropReason
reason_of_number k =
    cond (eqb k 20) (Some NoRoute) (cond (eqb k 21) (Some SwitchedOff) (cond (eqb k 22) (Some TooLong) (cond (eqb k 23) (Some CutShort) None)))
