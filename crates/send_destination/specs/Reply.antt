-- The numbers of what a destination says (R4.1), those of the answers; 0 where header and payload fit.
use Rattle.std.specs.Prelude.{ℕ}
use Rattle.send_destination.specs.declared.Reply.{Reply}
use Rattle.send_destination.specs.declared.Reply.TheVariants.{Fits, SwitchedOff, NotOnline, TooLong, NoRoom}

abbrev pub reply_number : Reply → ℕ
reply_number Fits = 0
reply_number SwitchedOff = 6
reply_number NotOnline = 4
reply_number TooLong = 7
reply_number NoRoom = 8
