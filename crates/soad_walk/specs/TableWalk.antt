-- The bench computer's walk (R11.3): it takes image, connection and switches, gets 1 first for a bad image, has no 4 and changes no state.
use Rattle.std.specs.Prelude.{ℕ, cond, List, leb, ltb, length, Result, Ok, Err}
use Rattle.reading.specs.Reasons.{reason_number}
use Rattle.receive_datagram.specs.declared.Outcome.{Outcome}
use Rattle.receive_datagram.specs.declared.Outcome.TheVariants.{End, Pdu, Drop}
use Rattle.receive_datagram.specs.declared.Walked.{Walked}
use Rattle.receive_datagram.specs.Datagram.{walked_of}
use Rattle.table_layout.specs.declared.Kind.TheVariants.{Connection, Route}
use Rattle.table_layout.specs.Layout.{rows_of, body_of}
use Rattle.table.specs.Table.{tcp_of, check_table}
use Rattle.soad_walk.specs.declared.Numbers.{Numbers}
use Rattle.soad_walk.specs.declared.WalkRefusal.{WalkRefusal}
use Rattle.soad_walk.specs.declared.WalkRefusal.TheVariants.{BadImage, Missing, Denied}
use Rattle.table.specs.declared.BadTable.{BadTable}

-- R11.3: 2, the connection is not there; 3, a TCP connection or a place beyond the end; else the step by the image's routes
unfoldable pub accepted_walk : List ℕ → ℕ → ℕ → List ℕ → ℕ → Result Walked WalkRefusal
accepted_walk image connection switches datagram place =
    cond (leb (rows_of image Connection) connection) (Err Missing)
    (cond (tcp_of image connection) (Err Denied)
    (cond (ltb (length datagram) place) (Err Denied)
    (Ok (walked_of datagram place (body_of image Route) connection switches))))

-- R11.3: 1 first, for a bad image
abbrev pub after_check : Result Unit BadTable → Result Walked WalkRefusal → Result Walked WalkRefusal
after_check (Ok tt) later = later
after_check (Err e) later = Err BadImage

unfoldable pub table_walk_of : List ℕ → ℕ → ℕ → List ℕ → ℕ → Result Walked WalkRefusal
table_walk_of image connection switches datagram place = after_check (check_table image) (accepted_walk image connection switches datagram place)

-- an outcome as numbers: kind 0 the end, 1 a PDU, 2 a drop; route or reason; id; length; place of the payload
abbrev pub numbers_of : Outcome → Numbers
numbers_of End = record { kind = 0; number = 0; id = 0; length = 0; at = 0 }
numbers_of (Pdu route id at n) = record { kind = 1; number = route; id = id; length = n; at = at }
numbers_of (Drop reason id n) = record { kind = 2; number = reason_number reason; id = id; length = n; at = 0 }

-- the number of a refusal
abbrev pub walk_refusal_number : WalkRefusal → ℕ
walk_refusal_number BadImage = 1
walk_refusal_number Missing = 2
walk_refusal_number Denied = 3

-- the answer number of a walk, and an out value after it: a refusal leaves it as it was
abbrev pub walk_number : Result Walked WalkRefusal → ℕ
walk_number (Err r) = walk_refusal_number r
walk_number (Ok w) = 0

abbrev pub next_after : Result Walked WalkRefusal → ℕ → ℕ
next_after (Err r) before = before
next_after (Ok w) before = w.next

abbrev pub value_after : (Numbers → ℕ) → Result Walked WalkRefusal → ℕ → ℕ
value_after value (Err r) before = before
value_after value (Ok w) before = value (numbers_of w.outcome)
