-- THE EDGES of transfers (R19.1 to R19.7) and of silent peers (R20.1 to R20.6), as one table: what the definitions give, and what the rules
-- say, both as the rules' numbers. One statement says all of it: `Hold` of the table. The starred edges stand in example_entries, in the same numbers.
use Rattle.std.specs.Prelude.{ℕ, Bool, true, false, cond, ◌&&◌, ◌≡◌, List, [], ◌∷◌, eqb, length, Result, Ok, Err}
use Rattle.reading.specs.Reasons.{reason_number}
use Rattle.wire.specs.Be.{be}
use Rattle.table_layout.specs.Layout.{body_of}
use Rattle.table_layout.specs.declared.Kind.TheVariants.{Route}
use Rattle.table_rows.specs.Rows.{route_of}
use Rattle.reading.specs.Feed.{Routes, Out, nothing, pdu, dropped, start, piece, ready, segment_ran, segments}
use Rattle.receive_route.specs.Route.{lookup_of}
use Rattle.table.specs.Table.{check_table, table_number, answer_place}
use Rattle.connection.specs.declared.Connection.{Connection}
use Rattle.connection.specs.declared.Event.TheVariants.{SetRemote, Cancel}
use Rattle.connection.specs.Connection.{is_reconnect, is_online}
use Rattle.connection.specs.Event.{answer_number}
use Rattle.state.specs.declared.State.{State}
use Rattle.state.specs.State.{record_at}
use Rattle.gate.specs.Lent.{lent}
use Rattle.entry_events.specs.Change.{event_of, loss_of}
use Rattle.entry_ticks.specs.Tick.{ticks_event}
use Rattle.entry_receive.specs.Walk.{walk_of}
use Rattle.select.specs.declared.NotMet.TheVariants.{Refused, Unmatched}
use Rattle.select.specs.Choose.{one_of, arrive_of, arrival_number}
use Rattle.select.specs.declared.NotMet.{NotMet}
use Rattle.example_edges.specs.Table.{
  image,
  marked_udp,
  marked_twice,
  limited_tcp,
  limit_one,
  used,
  moving,
  exact,
  anybody,
  watching,
  closing,
  lends,
}

pub record Edge : Type 0 where
  pub is : List ℕ
  pub says : List ℕ

abbrev pub edge : List ℕ → List ℕ → Edge
edge a b = record { is = a; says = b }

-- outcomes as numbers: a PDU by 0, its route, the header id of that route's row, the number that its payload stands for, and its length; a
-- drop by reason, id, length; a transfer's start by 3, its route, id, length, and 1 where it carries the end mark; a piece by 4, the last one
-- by 5, and then as a PDU
abbrev pub numbers : List Out → List ℕ
numbers [] = []
numbers (nothing ∷ os) = numbers os
numbers (pdu r p ∷ os) = 0 ∷ r ∷ (route_of image r).id ∷ be (length p) p 0 ∷ length p ∷ numbers os
numbers (dropped k i n ∷ os) = reason_number k ∷ i ∷ n ∷ numbers os
numbers (start r i n m ∷ os) = 3 ∷ r ∷ i ∷ n ∷ one_of m ∷ numbers os
numbers (piece r p m ∷ os) = cond m 5 4 ∷ r ∷ (route_of image r).id ∷ be (length p) p 0 ∷ length p ∷ numbers os

-- an arrival by its number, and the connection that it names
abbrev pub arrived_numbers : Result ℕ NotMet → List ℕ
arrived_numbers (Ok k) = 0 ∷ k ∷ []
arrived_numbers (Err (Refused r)) = arrival_number (Err (Refused r)) ∷ []
arrived_numbers (Err Unmatched) = arrival_number (Err Unmatched) ∷ []

-- a table's answer by its number, and the place that it gives
abbrev pub table_numbers : List ℕ → List ℕ
table_numbers s = table_number (check_table s) ∷ answer_place (check_table s) 0 ∷ []

-- a cancel of connection 2 by its number, and whether close is wanted after it; a loss by 1 where a transfer failed
abbrev pub cancel_numbers : State → List ℕ
cancel_numbers s = answer_number (event_of (lends s) 2 Cancel).answer ∷ one_of (record_at (event_of (lends s) 2 Cancel).state 2).close_wanted ∷ []

abbrev pub loss_numbers : State → List ℕ
loss_numbers s = answer_number (loss_of (lends s) 2).answer ∷ one_of (loss_of (lends s) 2).failed ∷ []

-- connection 0: 1 where it is in reconnect, 1 where it is online, its remote's port, its bytes waiting and their timer, its alive timer, and
-- 1 where the upper layer set its remote
abbrev pub peer_numbers : Connection → List ℕ
peer_numbers c =
    one_of (is_reconnect c.mode) ∷ one_of (is_online c.mode) ∷ c.remote.port ∷ c.used ∷ c.timer ∷ c.watch.alive ∷ one_of c.watch.remote_set ∷ []

-- after a datagram, after so many ticks over a table, after a step of a walk
abbrev pub after_datagram : List ℕ → State → State
after_datagram table s = (arrive_of table s false 0 exact).state

abbrev pub ticks_passed : List ℕ → ℕ → State → State
ticks_passed table n s = (ticks_event (lent table s 23424 23552) n).state

abbrev pub after_walk : List ℕ → State → State
after_walk datagram s = (walk_of (lends s) 0 datagram 0).state

abbrev pub after_set : State → State
after_set s = (event_of (lends s) 0 (SetRemote exact)).state

abbrev pub peer_of : State → List ℕ
peer_of s = peer_numbers (record_at s 0)

-- what connection k's routes say, with these switches
abbrev pub routes : ℕ → ℕ → Routes
routes k w = lookup_of (body_of image Route) k w

-- a header of this id (its last byte) and length, and a payload
abbrev pub framed : ℕ → ℕ → List ℕ → List ℕ
framed i n payload = 0 ∷ 0 ∷ 1 ∷ i ∷ 0 ∷ 0 ∷ 0 ∷ n ∷ payload

-- `00 00 01 01 00 00 00 02 00 B4`
abbrev pub bar : List ℕ
bar = framed 1 2 (0 ∷ 0xB4 ∷ [])

-- a header of an id that no route has, and the longest length
abbrev pub skip_longest : List ℕ
skip_longest = 0 ∷ 0 ∷ 1 ∷ 3 ∷ 255 ∷ 255 ∷ 255 ∷ 255 ∷ []

abbrev pub edges : List Edge
edges =
    -- R19.1: the mark on a UDP connection's route, and a mark of 2, are refused at their rows
    edge (table_numbers marked_udp) (1 ∷ 120 ∷ [])
    ∷ edge (table_numbers marked_twice) (1 ∷ 88 ∷ [])
    -- R19.5: a start at length 0; R19.3, R19.4: a transfer of one byte, and of two bytes in two segments
    ∷ edge (numbers (segment_ran (routes 2 0) ready (framed 4 0 [])).list) (3 ∷ 3 ∷ 0x104 ∷ 0 ∷ 1 ∷ [])
    ∷ edge (numbers (segment_ran (routes 2 0) ready (framed 4 1 (7 ∷ []))).list) (3 ∷ 3 ∷ 0x104 ∷ 1 ∷ 0 ∷ 5 ∷ 3 ∷ 0x104 ∷ 7 ∷ 1 ∷ [])
    ∷ edge (numbers (segments (routes 2 0) ready (framed 4 2 (7 ∷ []) ∷ (8 ∷ []) ∷ [])).list)
    (3 ∷ 3 ∷ 0x104 ∷ 2 ∷ 0 ∷ 4 ∷ 3 ∷ 0x104 ∷ 7 ∷ 1 ∷ 5 ∷ 3 ∷ 0x104 ∷ 8 ∷ 1 ∷ [])
    -- R19.1, R19.2: the longest transfer begins, whatever the row's longest payload
    ∷ edge (numbers (segment_ran (routes 2 0) ready (0 ∷ 0 ∷ 1 ∷ 4 ∷ 255 ∷ 255 ∷ 255 ∷ 255 ∷ [])).list) (3 ∷ 3 ∷ 0x104 ∷ 4294967295 ∷ 0 ∷ [])
    -- R19.6: a cancel while a transfer runs, and without one
    ∷ edge (cancel_numbers (moving 5)) (0 ∷ 1 ∷ [])
    ∷ edge (cancel_numbers (used 10)) (3 ∷ 0 ∷ [])
    -- R19.7: a loss while a transfer runs, and without one
    ∷ edge (loss_numbers (moving 5)) (0 ∷ 1 ∷ [])
    ∷ edge (loss_numbers (used 10)) (0 ∷ 0 ∷ [])
    -- R20.1: an alive limit on a TCP connection is refused at its row
    ∷ edge (table_numbers limited_tcp) (1 ∷ 72 ∷ [])
    -- R20.3: a datagram that replaces a wildcard starts the alive timer at the limit, 2 or 1; a running one is started again; one that is
    -- stopped stays so; a step of a walk leaves it
    ∷ edge (peer_of (after_datagram image anybody)) (0 ∷ 1 ∷ 1000 ∷ 0 ∷ 0 ∷ 2 ∷ 0 ∷ [])
    ∷ edge (peer_of (after_datagram limit_one anybody)) (0 ∷ 1 ∷ 1000 ∷ 0 ∷ 0 ∷ 1 ∷ 0 ∷ [])
    ∷ edge (peer_of (after_datagram image (watching 1 false))) (0 ∷ 1 ∷ 1000 ∷ 10 ∷ 5 ∷ 2 ∷ 0 ∷ [])
    ∷ edge (peer_of (after_datagram image (watching 0 false))) (0 ∷ 1 ∷ 1000 ∷ 10 ∷ 5 ∷ 0 ∷ 0 ∷ [])
    ∷ edge (peer_of (after_walk bar (watching 1 false))) (0 ∷ 1 ∷ 1000 ∷ 10 ∷ 5 ∷ 1 ∷ 0 ∷ [])
    -- R20.4, limit 1: let go at the first tick; limit 2: at the second, and not before
    ∷ edge (peer_of (ticks_passed limit_one 1 (after_datagram limit_one anybody))) (1 ∷ 0 ∷ 0 ∷ 0 ∷ 0 ∷ 0 ∷ 0 ∷ [])
    ∷ edge (peer_of (ticks_passed image 1 (watching 2 false))) (0 ∷ 1 ∷ 1000 ∷ 10 ∷ 4 ∷ 1 ∷ 0 ∷ [])
    ∷ edge (peer_of (ticks_passed image 2 (watching 2 false))) (1 ∷ 0 ∷ 0 ∷ 0 ∷ 0 ∷ 0 ∷ 0 ∷ [])
    -- R20.4, the mark: at 0 it only stops, and the rest of the tick is done; R20.5: set remote sets it, and a datagram keeps it
    ∷ edge (peer_of (ticks_passed image 1 (watching 1 true))) (0 ∷ 1 ∷ 1000 ∷ 10 ∷ 4 ∷ 0 ∷ 1 ∷ [])
    ∷ edge (peer_of (after_set anybody)) (1 ∷ 0 ∷ 1000 ∷ 0 ∷ 0 ∷ 0 ∷ 1 ∷ [])
    ∷ edge (peer_of (after_datagram image (watching 1 true))) (0 ∷ 1 ∷ 1000 ∷ 10 ∷ 5 ∷ 2 ∷ 1 ∷ [])
    -- R20.4: a wanted close comes first
    ∷ edge (peer_of (ticks_passed image 1 (closing 1))) (0 ∷ 0 ∷ 0 ∷ 0 ∷ 0 ∷ 0 ∷ 0 ∷ [])
    ∷ []

-- two lists of numbers are the same; all rows are
abbrev pub same_numbers : List ℕ → List ℕ → Bool
same_numbers [] [] = true
same_numbers [] (y ∷ ys) = false
same_numbers (x ∷ xs) [] = false
same_numbers (x ∷ xs) (y ∷ ys) = eqb x y && same_numbers xs ys

abbrev pub hold : List Edge → Bool
hold [] = true
hold (e ∷ es) = same_numbers e.is e.says && hold es

-- THE ONE STATEMENT
abbrev pub Hold : List Edge → Type 0
Hold es = hold es ≡ true
