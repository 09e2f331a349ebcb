-- A take as the contracts cite it: the cell that a receive part and receive memory are, the answer that a take of the
-- stream is, and receive memory afterwards (R5.8 to R5.11, R2.8).
use Rattle.std.specs.Prelude.{ℕ, zero, suc, ◌+◌, ◌-◌, ◌≤◌, ◌<◌, ◌≡◌, Bool, true, false, cond, not, List, [], ◌∷◌, eqb, length, take}
use Rattle.reading.specs.Feed.{Cell, cell, transfer, header, payload, skip, Out, nothing, pdu, dropped, start, piece, Took, take_b}
use Rattle.wire.specs.Place.{behind}
use Rattle.table_layout.specs.Layout.{part_of, part_at}
use Rattle.receive_part.specs.declared.Part.{Part}
use Rattle.receive_part.specs.declared.Part.TheVariants.{Header, Payload, Skip, Transfer}
use Rattle.receive_part.specs.Part.{shaped}
use Rattle.receive_route.specs.Route.{lookup_of}
use Rattle.table_rows.specs.Rows.{route_in}
use Rattle.wire.specs.Lay.{lay}
use Rattle.receive_stream.specs.declared.Outcome.{Outcome}
use Rattle.receive_stream.specs.declared.Outcome.TheVariants.{More, Pdu, Drop, Start, Piece}
use Rattle.receive_stream.specs.declared.Taken.{Taken}

-- the cell that a part and the receive stretch, filled from its front, are
abbrev pub cell_of : Part → List ℕ → Cell
cell_of (Header held value) rx = cell (8 - held) (header value)
cell_of (Payload route n held) rx = cell (n - held) (payload route (take held rx))
cell_of (Skip n) rx = cell n skip
cell_of (Transfer route left) rx = transfer left route

-- the part of a cell
abbrev pub part_from : Cell → Part
part_from (cell n (header v)) = Header (8 - n) v
part_from (cell n (payload r h)) = Payload r (n + length h) (length h)
part_from (cell n skip) = Skip n
part_from (transfer n r) = Transfer r n

-- the payload bytes that a cell holds; a transfer holds none (R19.3)
abbrev pub held_in : Cell → List ℕ
held_in (cell n (header v)) = []
held_in (cell n (payload r h)) = h
held_in (cell n skip) = []
held_in (transfer n r) = []

-- R5.11: handed out from the segment itself when none of it is held before
abbrev pub none_held : List ℕ → Bool
none_held [] = true
none_held (b ∷ bs) = false

abbrev pub is_in_segment : Cell → Bool
is_in_segment c = none_held (held_in c)

-- the id that a PDU bears: its route's
abbrev pub id_of : List ℕ → ℕ → ℕ
id_of routes r = (route_in routes r).id

-- the outcome: a payload in the segment ends where the take has read to, one in receive memory stands at its front; a start is told with
-- its length, marked as the end or not (R19.2, R19.5); a piece is bytes of the segment that end where the take has read to (R19.3, R19.4)
abbrev pub take_outcome : (ℕ → ℕ) → Bool → ℕ → Out → Outcome
take_outcome ids s read nothing = More
take_outcome ids s read (pdu r p) = Pdu r (ids r) s (cond s (read - length p) 0) (length p)
take_outcome ids s read (dropped k i n) = Drop k i n
take_outcome ids s read (start r i n m) = Start r i n m
take_outcome ids s read (piece r p m) = Piece r (ids r) (read - length p) (length p) m

-- the answer that a take of a segment of n bytes is
abbrev pub answered : (ℕ → ℕ) → Bool → ℕ → Took → Taken
answered ids s n t = record { read = n - length t.rest; outcome = take_outcome ids s (n - length t.rest) t.out; part = part_from t.to }

-- R2.8, receive memory after a take: only the payload bytes that it adds to an unfinished payload are written, the last ones included but
-- none of a payload handed out from the segment, and none of a transfer
abbrev pub wrote : Bool → Out → Cell → List ℕ → List ℕ
wrote s nothing c rx = lay rx 0 (held_in c)
wrote true (pdu r p) c rx = rx
wrote false (pdu r p) c rx = lay rx 0 p
wrote s (dropped k i n) c rx = rx
wrote s (start r i n m) c rx = rx
wrote s (piece r p m) c rx = rx

-- both, of an inner step
pub record Answers (ids : ℕ → ℕ) (s : Bool) (n : ℕ) (t : Took) (rx : List ℕ) (r : Taken) (rx' : List ℕ) : Type 0 where
  pub answer : r ≡ answered ids s n t
  pub memory : rx' ≡ wrote s t.out t.to rx

-- THE TAKE of a segment on a connection with these routes and switches, and receive memory after it
unfoldable pub took_of : List ℕ → ℕ → ℕ → Part → List ℕ → List ℕ → Took
took_of routes connection switches part rx segment = take_b (lookup_of routes connection switches) (cell_of part rx) segment

unfoldable pub taken_of : List ℕ → ℕ → ℕ → Part → List ℕ → List ℕ → Taken
taken_of routes connection switches part rx segment =
    answered (id_of routes) (is_in_segment (cell_of part rx)) (length segment) (took_of routes connection switches part rx segment)

unfoldable pub rx_after : List ℕ → ℕ → ℕ → Part → List ℕ → List ℕ → List ℕ
rx_after routes connection switches part rx segment =
    wrote (is_in_segment (cell_of part rx)) (took_of routes connection switches part rx segment).out (took_of routes connection switches part rx segment).to rx

-- what a take asks: a shaped part whose length fits the stretch, a stretch of 1,464 bytes, and routes that allow no more
abbrev pub length_of : Part → ℕ
length_of (Header held value) = 0
length_of (Payload route n held) = n
length_of (Skip n) = 0
length_of (Transfer route left) = 0

abbrev pub Limits : List ℕ → Type 0
Limits routes = (i : ℕ) → (route_in routes i).longest ≤ 1464

pub record Fit (routes : List ℕ) (part : Part) (rx : List ℕ) : Type 0 where
  pub shape : shaped part ≡ true
  pub fits : length_of part ≤ 1464
  pub room : length rx ≡ 1464
  pub limits : Limits routes

-- the part after a dropped header: so many bytes to skip, which may be none
abbrev pub skip_part : ℕ → Part
skip_part zero = Header 0 0
skip_part (suc n) = Skip (suc n)

-- R19.2, R19.5: the part after a transfer's start, so many bytes to come, which may be none
abbrev pub move_part : ℕ → ℕ → Part
move_part zero r = Header 0 0
move_part (suc n) r = Transfer r (suc n)

-- R19.2, R19.5: the answer that is a start, with so many bytes of the segment read; at length 0 it carries the end mark
abbrev pub start_taken : ℕ → ℕ → ℕ → ℕ → Taken
start_taken read r i n = record { read = read; outcome = Start r i n (eqb n 0); part = move_part n r }

-- R19.3, R19.4: the answer that is a piece of n bytes at the segment's front, with so many to come; it is the last where there are none
abbrev pub piece_taken : ℕ → ℕ → ℕ → ℕ → Taken
piece_taken n r i left = record { read = n; outcome = Piece r i 0 n (eqb left 0); part = move_part left r }

-- R19.2, R19.4, R19.5: whether a transfer runs after an outcome, by whether one ran before: it does after a start or a piece without the
-- end mark and does not after one with it; no other outcome begins or ends one
abbrev pub runs_after : Bool → Outcome → Bool
runs_after ran More = ran
runs_after ran (Pdu route id inside at n) = ran
runs_after ran (Drop reason id n) = ran
runs_after ran (Start route id n last) = not last
runs_after ran (Piece route id at n last) = not last

-- R19.3: a piece of n bytes at a place of the segment, of which the take has read so many: it is all that was read, and one byte at least
pub record PieceStands (segment : List ℕ) (read at n : ℕ) : Type 0 where
  pub some : 0 < n
  pub front : at ≡ 0
  pub all : n ≡ read
  pub within : n ≤ length segment

-- the payload that an outcome names, of whichever of the two holds it
abbrev pub payload_at : List ℕ → List ℕ → Bool → ℕ → ℕ → List ℕ
payload_at segment rx true at n = part_of segment at n
payload_at segment rx false at n = part_of rx at n

-- and where it stands: in the segment, whose front is at the place p, or in receive memory, whose front is at q
abbrev pub payload_place : ℕ × ℕ → List ℕ → ℕ × ℕ → List ℕ → Bool → ℕ → ℕ → ℕ × ℕ
payload_place p segment q rx true at n = behind p (part_at segment at n)
payload_place p segment q rx false at n = behind q (part_at rx at n)
