-- TAKING THE WAITING BYTES of one connection (R10.5 to R10.9).
use Rattle.std.specs.Prelude.{ℕ, ◌*◌, true, false, cond, ◌&&◌, ◌||◌, List, eqb, ltb, length, take, drop, Result, Ok, Err}
use Rattle.connection.specs.declared.Mode.TheVariants.{Reconnect}
use Rattle.connection.specs.declared.Config.{Config}
use Rattle.connection.specs.declared.Connection.{Connection}
use Rattle.connection.specs.Connection.{wildcard, with_mode, with_send, become, reset_of}
use Rattle.connection.specs.Event.{refusal_number}
use Rattle.wire.specs.Lay.{lay}
use Rattle.send_waiting.specs.declared.NotTaken.TheVariants.{Refused, Short}
use Rattle.send_waiting.specs.declared.NotTaken.{NotTaken}
use Rattle.connection.specs.declared.Remote.{Remote}

-- the bytes that connection k has waiting: from the front of its stretch of 1,472
unfoldable pub waiting_of : List ℕ → ℕ → ℕ → List ℕ
waiting_of tx k used = take used (drop (k * 1472) tx)

-- R10.5: 9, or count and remote before the call; an out buffer of so much room
unfoldable pub taking_of : ℕ → Connection → Result (ℕ × Remote) NotTaken
taking_of room c = cond (ltb room c.used) (Err Short) (Ok (c.used, c.remote))

-- R10.5: copied to the front of the out buffer, and the bytes past the count stay; on a refusal all of them
unfoldable pub out_of : Connection → List ℕ → List ℕ → List ℕ
out_of c waiting out = cond (ltb (length out) c.used) out (lay out 0 waiting)

-- R10.9, R20.6, an automatic connection whose configured remote has a wildcard: UDP becomes reconnect with that remote (00582); TCP gets
-- close wanted (00644)
abbrev pub after_take : Config → Connection → Connection
after_take g c =
    cond (g.automatic && wildcard g.remote)
    (cond g.tcp (with_mode c.mode c.open_wanted true c) (become Reconnect (reset_of g c)))
    c

-- R10.6: used, timer and due are cleared, and R10.9 follows; R10.7: nothing waiting changes nothing; nor does a refusal
unfoldable pub take_of : Config → ℕ → Connection → Connection
take_of g room c = cond (eqb c.used 0 || ltb room c.used) c (after_take g (with_send 0 0 false c))

-- R4.1: the number of an answer
abbrev pub taking_number : Result (ℕ × Remote) NotTaken → ℕ
taking_number (Ok (count, remote)) = 0
taking_number (Err (Refused r)) = refusal_number r
taking_number (Err Short) = 9
