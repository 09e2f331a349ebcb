-- ONE ENTRY OF A RECORDING (R17.2): where its event's arguments end and the recorded answer begins, and when its body fits its event
-- (docs/RECORDING.md, "A body"; docs/EVENTS.md, "The answer").
use Rattle.std.specs.Prelude.{ℕ, zero, suc, ◌+◌, Bool, true, false, cond, not, ◌&&◌, ◌||◌, List, length, take, drop, ◌==◌, nat_le, nat_lt, Result, Ok, Err}
use Rattle.wire.specs.Be.{be}
use Rattle.wire.specs.Place.{from_at}
use Rattle.event_decode.specs.declared.Call.{Call}
use Rattle.event_decode.specs.declared.BadCall.{BadCall}
use Rattle.event_decode.specs.Calls.{call_of}
use Rattle.recording.specs.declared.Fault.{Fault}
use Rattle.recording.specs.declared.Fault.TheVariants.{FarStamp, NoEvent, ZeroField, Misfit}
use Rattle.recording.specs.Recording.{number_in, zero_in}

-- the events of a recording: 1 to 16
abbrev pub is_recorded : ℕ → Bool
is_recorded n = nat_lt 0 n && nat_le n 16

-- "the event's arguments and bytes", so long by the event number; those with bytes of their own have a length of four bytes before them
unfoldable pub arguments_long : ℕ → List ℕ → ℕ
arguments_long n b =
    cond (n == 5) 21
    (cond (n == 6) 4
    (cond (n == 7) (be 4 b 2 + 6)
    (cond (n == 8) (be 4 b 6 + 10)
    (cond (n == 9) 6
    (cond (n == 10) 21
    (cond (n == 11) 21
    (cond (n == 12) (be 4 b 3 + 7)
    (cond (n == 13) 3
    2))))))))

abbrev pub arguments_in : ℕ → List ℕ → List ℕ
arguments_in n b = take (arguments_long n b) b

-- ".. then the answer the truck gave"
abbrev pub answer_in : ℕ → List ℕ → List ℕ
answer_in n b = drop (arguments_long n b) b

-- and where they stand, behind the body's front
abbrev pub answer_begins : ℕ → List ℕ → ℕ
answer_begins n b = from_at b (arguments_long n b)

-- arguments that fit spell an event
unfoldable pub is_spelt : Result Call BadCall → Bool
is_spelt (Ok call) = true
is_spelt (Err bad) = false

-- one take: "bytes read (4), kind (1: 0 more wanted, 1 PDU, 2 drop, 3 start, 4 piece, 5 last piece), route or reason (1), id (4), length
-- (4)": which kinds there are, and of a PDU which marks (R19.2, R19.3)
unfoldable pub take_fits : List ℕ → Bool
take_fits l = cond (be 1 l 4 == 1) (nat_le (be 1 l 14) 1) (nat_le (be 1 l 4) 5)

-- how many bytes a take has. Of a PDU then "0 (1) and the place in the segment (4), or 1 (1) and the payload's bytes"
unfoldable pub pdu_needs : List ℕ → ℕ
pdu_needs l = cond (be 1 l 14 == 0) 19 (be 4 l 10 + 15)

-- of a piece and a last piece then "its place in the event's whole segment (4)", of the others nothing
unfoldable pub other_needs : ℕ → ℕ
other_needs kind = cond (kind == 4 || kind == 5) 18 14

unfoldable pub take_needs : List ℕ → ℕ
take_needs l = cond (be 1 l 4 == 1) (pdu_needs l) (other_needs (be 1 l 4))

-- so many takes, and nothing behind them
unfoldable pub takes_fit : ℕ → List ℕ → Bool
takes_fit zero l = length l == 0
takes_fit (suc n) l = take_fits l && nat_le (take_needs l) (length l) && takes_fit n (drop (take_needs l) l)

-- segment: "number of takes (2), then for every take" its bytes
unfoldable pub segment_fits : List ℕ → Bool
segment_fits a = nat_le 4 (length a) && takes_fit (be 2 a 2) (drop 4 a)

-- walk: "next place (4), kind (1), route or reason (1), id (4), length (4)"; "for a PDU then the payload's place in the datagram (4)"
unfoldable pub step_fits : List ℕ → Bool
step_fits a = cond (be 1 a 6 == 1) (length a == 20) (nat_le (be 1 a 6) 2 && length a == 16)

-- take waiting: "count (4), address (19) .., bytes"
abbrev pub waiting_fits : List ℕ → Bool
waiting_fits a = be 4 a 2 + 25 == length a

-- any other: lost and what names a connection 1 byte, counts 4, else none, after the answer number
unfoldable pub done_long : ℕ → ℕ
done_long n =
    cond (n == 4) 3
    (cond (n == 10) 3
    (cond (n == 11) 3
    (cond (n == 14) 6
    (cond (n == 15) 6
    2))))

unfoldable pub done_fits : ℕ → List ℕ → Bool
done_fits n a =
    cond (n == 7) (segment_fits a)
    (cond (n == 8) (step_fits a)
    (cond (n == 9) (waiting_fits a)
    (done_long n == length a)))

-- a recorded answer that is laid out as its event's. Of its values only those that decide its length are judged; the others are compared
unfoldable pub answer_fits : ℕ → List ℕ → Bool
answer_fits n a = cond (be 2 a 0 == 0) (done_fits n a) (length a == 6)

unfoldable pub body_fits : ℕ → List ℕ → Bool
body_fits n b = is_spelt (call_of n (arguments_in n b)) && answer_fits n (answer_in n b)

-- WHY AN ENTRY IS REFUSED, in this order: "A distance above 65,535, .. an unknown event number, a zero field that isn't 0 or a body that
-- doesn't fit its event"
unfoldable pub fault_of : ℕ → List ℕ → List ℕ → Result Unit Fault
fault_of distance row body =
    cond (nat_lt 65535 distance) (Err FarStamp)
    (cond (not (is_recorded (number_in row))) (Err NoEvent)
    (cond (not (zero_in row == 0)) (Err ZeroField)
    (cond (not (body_fits (number_in row) body)) (Err Misfit)
    (Ok tt))))
