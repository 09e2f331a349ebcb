-- The call that an event number and a body spell, row by row as docs/EVENTS.md has them ("Event numbers and bodies"): R16.1.
use Rattle.std.specs.Prelude.{ℕ, ◌+◌, Bool, true, false, cond, ◌&&◌, List, eqb, leb, length, drop, Result, Ok, Err}
use Rattle.wire.specs.Be.{be}
use Rattle.connection.specs.declared.Remote.{Remote}
use Rattle.event_decode.specs.declared.Call.{Call}
use Rattle.event_decode.specs.declared.BadCall.{BadCall}
use Rattle.event_decode.specs.declared.BadCall.TheVariants.{Unknown, Unfit}
use Rattle.event_decode.specs.declared.Call.TheVariants.{Ticks, Own, Lost, Segment, Walk}
use Rattle.event_decode.specs.declared.Call.TheVariants.{TakeWaiting, Datagram, Accept, Transmit, SwitchAll, ReadCount, ClearCount}
use Rattle.connection.specs.declared.Event.TheVariants.{Open, Close, Connected, SetRemote, Switch, Cancel}

-- "a body that does not fit is refused"
abbrev pub fitted : Bool → Call → Result Call BadCall
fitted true call = Ok call
fitted false call = Err Unfit

-- a body of n bytes that starts with "a party (1), which is 0"
abbrev pub plain : List ℕ → ℕ → Bool
plain body n = eqb (length body) n && eqb (be 1 body 0) 0

-- a party, and at the place at a "length (4) .. of the bytes that follow it, which end the body"; 4,096 bytes at most
abbrev pub length_fits : List ℕ → ℕ → Bool
length_fits body at = eqb (be 4 body at + (at + 4)) (length body) && eqb (be 1 body 0) 0 && leb (length body) 4096

-- "An address is family (1), which is 4; sixteen bytes (16), of which the first twelve are 0"
abbrev pub address_fits : List ℕ → Bool
address_fits s = eqb (be 1 s 0) 4 && eqb (be 4 s 1) 0 && eqb (be 4 s 5) 0 && eqb (be 4 s 9) 0

-- ".. and the last four the IPv4 address; port (2)"
abbrev pub remote_in : List ℕ → Remote
remote_in s = record { address = be 4 s 13; port = be 2 s 17 }

-- party, connection or group (1), address (19)
abbrev pub addressed : List ℕ → Bool
addressed body = plain body 21 && address_fits (drop 2 body)

-- n bytes that end with a "switch position (1) .. 0 for off and 1 for on"
abbrev pub positioned : List ℕ → ℕ → ℕ → Bool
positioned body n at = plain body n && leb (be 1 body at) 1

-- THE CALL
unfoldable pub call_of : ℕ → List ℕ → Result Call BadCall
call_of n b =
    cond (eqb n 0) (fitted (eqb (length b) 4) (Ticks (be 4 b 0)))
    (cond (eqb n 1) (fitted (plain b 2) (Own (be 1 b 1) Open))
    (cond (eqb n 2) (fitted (plain b 2) (Own (be 1 b 1) Close))
    (cond (eqb n 3) (fitted (plain b 2) (Own (be 1 b 1) Connected))
    (cond (eqb n 4) (fitted (plain b 2) (Lost (be 1 b 1)))
    (cond (eqb n 5) (fitted (addressed b) (Own (be 1 b 1) (SetRemote (remote_in (drop 2 b)))))
    (cond (eqb n 6) (fitted (positioned b 4 3) (Own (be 1 b 1) (Switch (be 1 b 2) (eqb (be 1 b 3) 1))))
    (cond (eqb n 7) (fitted (length_fits b 2) (Segment (be 1 b 1) 6))
    (cond (eqb n 8) (fitted (length_fits b 6) (Walk (be 1 b 1) (be 4 b 2) 10))
    (cond (eqb n 9) (fitted (plain b 6) (TakeWaiting (be 1 b 1) (be 4 b 2)))
    (cond (eqb n 10) (fitted (addressed b) (Datagram (be 1 b 1) (remote_in (drop 2 b))))
    (cond (eqb n 11) (fitted (addressed b) (Accept (be 1 b 1) (remote_in (drop 2 b))))
    (cond (eqb n 12) (fitted (length_fits b 3) (Transmit (be 2 b 1) 7))
    (cond (eqb n 13) (fitted (positioned b 3 2) (SwitchAll (be 1 b 1) (eqb (be 1 b 2) 1)))
    (cond (eqb n 14) (fitted (plain b 2) (ReadCount (be 1 b 1)))
    (cond (eqb n 15) (fitted (plain b 2) (ClearCount (be 1 b 1)))
    (cond (eqb n 16) (fitted (plain b 2) (Own (be 1 b 1) Cancel))
    (Err Unknown)))))))))))))))))

-- the bytes that a call names: those of the body from the place at on
abbrev pub bytes_from : List ℕ → ℕ → List ℕ
bytes_from body at = drop at body
