-- The state that the bytes of a start state spell (R16.4; docs/EVENTS.md, "A start state").
use Rattle.std.specs.Prelude.{ℕ, ◌*◌, Bool, cond, ◌&&◌, List, eqb, leb, length, drop, Result, Ok, Err}
use Rattle.wire.specs.Be.{be}
use Rattle.lists.specs.Search.{every}
use Rattle.lists.specs.Each.{each}
use Rattle.receive_part.specs.declared.Part.{Part}
use Rattle.receive_part.specs.declared.Part.TheVariants.{Header, Payload, Skip, Transfer}
use Rattle.connection.specs.declared.Mode.{Mode}
use Rattle.connection.specs.declared.Mode.TheVariants.{Offline, Reconnect, Online}
use Rattle.connection.specs.declared.Watch.{Watch}
use Rattle.connection.specs.declared.Connection.{Connection}
use Rattle.state.specs.declared.State.{State}
use Rattle.state.specs.State.{with_records}
use Rattle.state.specs.Fresh.{empty_state}
use Rattle.event_decode.specs.Calls.{address_fits, remote_in}

-- "mode: 0 offline, 1 reconnect, 2 online"
abbrev pub mode_of : ℕ → Mode
mode_of n = cond (eqb n 0) Offline (cond (eqb n 1) Reconnect Online)

-- "receive part, kind: 0 header, 1 payload, 2 skip, 3 transfer"; route (1), held (2), number (8)
abbrev pub part_given : List ℕ → Part
part_given s =
    cond (eqb (be 1 s 26) 0) (Header (be 1 s 29) (be 8 s 30))
    (cond (eqb (be 1 s 26) 1) (Payload (be 1 s 27) (be 2 s 36) (be 2 s 28))
    (cond (eqb (be 1 s 26) 2) (Skip (be 4 s 34)) (Transfer (be 1 s 27) (be 4 s 34))))

-- "A value that its field cannot hold ..": the bytes above a header's held count; a route where there is none
abbrev pub header_fits : List ℕ → Bool
header_fits s = eqb (be 1 s 27) 0 && eqb (be 1 s 28) 0

-- "a payload's length above 65,535"
abbrev pub payload_fits : List ℕ → Bool
payload_fits s = eqb (be 4 s 30) 0 && eqb (be 2 s 34) 0

-- "bytes to skip above 4,294,967,295, a route or held bytes where the kind has none"
abbrev pub skip_fits : List ℕ → Bool
skip_fits s = eqb (be 1 s 27) 0 && eqb (be 2 s 28) 0 && eqb (be 4 s 30) 0

-- of a transfer likewise bytes to come above 4,294,967,295, and held bytes: it holds none (R19.8)
abbrev pub transfer_fits : List ℕ → Bool
transfer_fits s = eqb (be 2 s 28) 0 && eqb (be 4 s 30) 0

abbrev pub part_fits : List ℕ → Bool
part_fits s =
    cond (eqb (be 1 s 26) 0) (header_fits s)
    (cond (eqb (be 1 s 26) 1) (payload_fits s)
    (cond (eqb (be 1 s 26) 2) (skip_fits s) (eqb (be 1 s 26) 3 && transfer_fits s)))

-- "a mode above 2, a wish, due or remote set above 1", an address that does not fit
unfoldable pub record_fits : List ℕ → Bool
record_fits s =
    leb (be 1 s 0) 2 && leb (be 1 s 1) 1 && leb (be 1 s 2) 1 && address_fits (drop 3 s) && (leb (be 1 s 42) 1 && leb (be 1 s 45) 1) && part_fits s

-- "alive timer in ticks, 0 when stopped", "remote set by the upper layer: 0 or 1"
abbrev pub watch_in : List ℕ → Watch
watch_in s = record { alive = be 2 s 43; remote_set = eqb (be 1 s 45) 1 }

-- a record of 46 bytes
unfoldable pub record_in : List ℕ → Connection
record_in s =
    record {
      mode = mode_of (be 1 s 0);
      open_wanted = eqb (be 1 s 1) 1;
      close_wanted = eqb (be 1 s 2) 1;
      remote = remote_in (drop 3 s);
      switches = be 4 s 22;
      part = part_given s;
      used = be 2 s 38;
      timer = be 2 s 40;
      due = eqb (be 1 s 42) 1;
      watch = watch_in s;
    }

-- "Sixteen records of 46 bytes"
abbrev pub fits_at : List ℕ → ℕ → Bool
fits_at bytes i = record_fits (drop (i * 46) bytes)

abbrev pub given_at : List ℕ → ℕ → Connection → Connection
given_at bytes i c = record_in (drop (i * 46) bytes)

-- the records, counts 0
abbrev pub records_in : List ℕ → State
records_in bytes = with_records (each (given_at bytes) 0 empty_state.connections) empty_state

-- ".. the two drop counts, then both lent memories: 47,720 bytes in all"
unfoldable pub state_in : List ℕ → State
state_in bytes = record { connections = (records_in bytes).connections; udp_drops = be 4 bytes 736; tcp_drops = be 4 bytes 740 }

-- the state that the bytes spell, and whether they fit
unfoldable pub given_of : List ℕ → Result State State
given_of bytes = cond (eqb (length bytes) 47720 && every (fits_at bytes) 16) (Ok (state_in bytes)) (Err (state_in bytes))
