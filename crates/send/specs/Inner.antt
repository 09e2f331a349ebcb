-- What a function inside the crate is said by.
use Rattle.std.specs.Prelude.{Option, Some, None, ℕ}
use Rattle.send_destination.specs.declared.Reply.{Reply}
use Rattle.send_destination.specs.Reply.{reply_number}

-- the number of what the rows so far said together: 5 where none is for the PDU
abbrev pub seen_number : Option Reply → ℕ
seen_number None = 5
seen_number (Some reply) = reply_number reply

-- the number of a refusal, and its row: 0 where there is none
abbrev pub refused_number : Option (Reply × ℕ) → ℕ
refused_number None = 0
refused_number (Some at) = reply_number at.0

abbrev pub refused_row : Option (Reply × ℕ) → ℕ
refused_row None = 0
refused_row (Some at) = at.1
