-- READING A STREAM, a byte at a time (sections 5 and 19 of the rules).
-- A cell is what a TCP connection holds of its stream: how many bytes the present piece still wants (one at least), and
-- what the piece is. A byte ends its piece or shortens it, and has one outcome at most; each byte of a transfer has one.
use Rattle.std.specs.Prelude.{ℕ, zero, suc, ◌+◌, ◌-◌, ◌*◌, ◌/◌, ◌%◌, ◌^◌, ◌<◌, ◌≡◌, Bool, true, false, cond, List, [], ◌∷◌, ◌++◌, eqb, ltb, length, take, drop}
use Rattle.reading.specs.declared.DropReason.{DropReason}
use Rattle.reading.specs.declared.Decision.{Decision}
use Rattle.reading.specs.declared.Decision.TheVariants.{Accept, Refuse, Transfer}

-- R5.2, R5.5, R19.1: what the routes say to an id and a length, as the switches stand at that moment: take the payload on this route, drop
-- it for this reason, or hand it out in pieces on this route
abbrev pub Routes : Type 0
Routes = ℕ → ℕ → Decision

-- R2.4, the receive part: a header with the number that its bytes so far stand for; a payload with its route and its bytes so far; bytes
-- to skip
pub data PieceKind : Type 0 where
  header : ℕ → PieceKind
  payload : ℕ → List ℕ → PieceKind
  skip : PieceKind

-- the bytes that the piece still wants, and what it is; or, R19.3, a running transfer: its bytes to come, and its route
pub data Cell : Type 0 where
  cell : ℕ → PieceKind → Cell
  transfer : ℕ → ℕ → Cell

-- R5.9: more wanted, a PDU (route and payload), or a drop (reason, id, length). R19.2, R19.3, R19.4: a transfer's start (route, id, length)
-- and a piece of it (route, bytes), each with the end mark or without
pub data Out : Type 0 where
  nothing : Out
  pdu : ℕ → List ℕ → Out
  dropped : DropReason → ℕ → ℕ → Out
  start : ℕ → ℕ → ℕ → Bool → Out
  piece : ℕ → List ℕ → Bool → Out

-- after a byte: the cell and the outcome
pub record Fed : Type 0 where
  pub to : Cell
  pub out : Out

abbrev pub fed : Cell → Out → Fed
fed c o = record { to = c; out = o }

-- at a header's first byte
abbrev pub ready : Cell
ready = cell 8 (header 0)

-- a piece of n bytes begins, with the outcome `begun`; one of none is over at once, with `empty`
abbrev pub begin : ℕ → PieceKind → Out → Out → Fed
begin zero k empty begun = fed ready empty
begin (suc n) k empty begun = fed (cell (suc n) k) begun

-- R19.2, R19.5: a transfer begins; at length 0 its start carries the end mark
abbrev pub starts : ℕ → ℕ → ℕ → Fed
starts r i zero = fed ready (start r i 0 true)
starts r i (suc n) = fed (transfer (suc n) r) (start r i (suc n) false)

-- R5.4 to R5.7, the eighth header byte is taken: length 0 is a PDU with empty payload; of a drop the payload is skipped
abbrev pub decided : Decision → ℕ → ℕ → Fed
decided (Accept r) i n = begin n (payload r []) (pdu r []) nothing
decided (Refuse k) i n = begin n skip (dropped k i n) (dropped k i n)
decided (Transfer r) i n = starts r i n

-- the piece with one byte more
abbrev pub with_byte : PieceKind → ℕ → PieceKind
with_byte (header v) b = header (v * 256 + b)
with_byte (payload r h) b = payload r (h ++ b ∷ [])
with_byte skip b = skip

-- the piece is whole. R5.1: id 4 bytes, length 4 bytes, payload
unfoldable pub piece_done : Routes → PieceKind → Fed
piece_done R (header v) = decided (R (v / 2 ^ 32) (v % 2 ^ 32)) (v / 2 ^ 32) (v % 2 ^ 32)
piece_done R (payload r h) = fed ready (pdu r h)
piece_done R skip = fed ready nothing

-- the number that bytes stand for after those that stand for v, the first the highest
abbrev pub spelt : ℕ → List ℕ → ℕ
spelt v [] = v
spelt v (b ∷ bs) = spelt (v * 256 + b) bs

-- ONE BYTE (a cell that wants no byte is no sound part: it becomes ready)
unfoldable pub feed : Routes → Cell → ℕ → Fed
feed R (cell zero k) b = fed ready nothing
feed R (cell (suc zero) k) b = piece_done R (with_byte k b)
feed R (cell (suc (suc n)) k) b = fed (cell (suc n) (with_byte k b)) nothing
feed R (transfer zero r) b = fed ready nothing
feed R (transfer (suc zero) r) b = fed ready (piece r (b ∷ []) true)
feed R (transfer (suc (suc n)) r) b = fed (transfer (suc n) r) (piece r (b ∷ []) false)

-- MANY BYTES: the cell after them, and the outcomes that are not `nothing`, in order
unfoldable pub after : Routes → Cell → List ℕ → Cell
after R c [] = c
after R c (b ∷ bs) = after R (feed R c b).to bs

abbrev pub emit : Out → List Out → List Out
emit nothing os = os
emit (pdu r p) os = pdu r p ∷ os
emit (dropped k i n) os = dropped k i n ∷ os
emit (start r i n m) os = start r i n m ∷ os
emit (piece r p m) os = piece r p m ∷ os

unfoldable pub outs : Routes → Cell → List ℕ → List Out
outs R c [] = []
outs R c (b ∷ bs) = emit (feed R c b).out (outs R (feed R c b).to bs)

-- R5.8, R19.2, WHEN A TAKE STOPS RIGHT BEHIND A BYTE: at the end of the first complete PDU, dropped header or start. It does not stop at a
-- transfer's byte because that has an outcome: a piece is all that the segment has of it
abbrev pub stops : Out → Bool
stops nothing = false
stops (pdu r p) = true
stops (dropped k i n) = true
stops (start r i n m) = true
stops (piece r p m) = false

-- A TAKE: the cell after it, its outcome, and what it left of the segment
pub record Took : Type 0 where
  pub to : Cell
  pub out : Out
  pub rest : List ℕ

abbrev pub took : Cell → Out → List ℕ → Took
took c o bs = record { to = c; out = o; rest = bs }

-- R5.9, the bytes read: how many of the segment bs
abbrev pub bytes_read : List ℕ → Took → ℕ
bytes_read bs t = length bs - length t.rest

-- a byte was fed and bs stands behind it: the take ends here, or goes on
abbrev pub goes : Fed → List ℕ → Took → Took
goes f bs later = cond (stops f.out) (took f.to f.out bs) later

-- R19.3, R19.4, A PIECE: all the transfer's bytes that stand in the segment, where n are to come: they pass the segment, or end in it with
-- the mark
abbrev pub piece_by : Bool → ℕ → ℕ → List ℕ → Took
piece_by true n r bs = took (transfer (n - length bs) r) (piece r bs false) []
piece_by false n r bs = took ready (piece r (take n bs) true) (drop n bs)

abbrev pub piece_of : ℕ → ℕ → List ℕ → Took
piece_of n r bs = piece_by (ltb (length bs) n) n r bs

unfoldable pub take_b : Routes → Cell → List ℕ → Took
take_b R c [] = took c nothing []
take_b R (cell n k) (b ∷ bs) = goes (feed R (cell n k) b) bs (take_b R (feed R (cell n k) b).to bs)
take_b R (transfer zero r) (b ∷ bs) = take_b R ready bs
take_b R (transfer (suc n) r) (b ∷ bs) = piece_of (suc n) r (b ∷ bs)

-- R5.8, R19.3, where a take ends: either all is read and nothing came out; or nothing came out of the bytes a, the byte b after them has
-- an outcome, and the take ends right behind b; or a transfer runs, and its piece, of one byte at least, ends with the segment before the
-- transfer does, or with the transfer
pub data Ends (R : Routes) : Cell → List ℕ → Took → Type 0 where
  at_end : (c : Cell) (bs : List ℕ) → outs R c bs ≡ [] → Ends R c bs (took (after R c bs) nothing [])
  at_byte : (c : Cell) (a : List ℕ) (b : ℕ) (rest : List ℕ) (f : Fed) → outs R c a ≡ [] → feed R (after R c a) b ≡ f → stops f.out ≡ true
      → Ends R c (a ++ b ∷ rest) (took f.to f.out rest)
  at_seam : (n r : ℕ) (a : List ℕ) → 0 < length a → length a < n → Ends R (transfer n r) a (took (transfer (n - length a) r) (piece r a false) [])
  at_mark : (n r : ℕ) (a rest : List ℕ) → 0 < length a → length a ≡ n → Ends R (transfer n r) (a ++ rest) (took ready (piece r a true) rest)

-- the rest of a take, after a byte that ended a piece
abbrev pub resume : Routes → Fed → List ℕ → Took
resume R f bs = goes f bs (take_b R f.to bs)

-- R5.14, A SEGMENT EVENT: the caller's takes over one segment until all is read, one take at least; and their outcomes in order
pub record Ran : Type 0 where
  pub to : Cell
  pub list : List Out

abbrev pub ran : Cell → List Out → Ran
ran c os = record { to = c; list = os }

-- after a take: the end where nothing is left, and otherwise what the later takes give
abbrev pub joined : Cell → Out → List ℕ → Ran → Ran
joined c o [] r = ran c (emit o [])
joined c o (b ∷ bs) r = ran r.to (emit o r.list)

-- at most f takes
unfoldable pub takes : Routes → ℕ → Cell → List ℕ → Ran
takes R zero c bs = ran c []
takes R (suc f) c bs =
    joined (take_b R c bs).to (take_b R c bs).out (take_b R c bs).rest (takes R f (take_b R c bs).to (take_b R c bs).rest)

-- each take but that of an empty segment reads a byte, so this many are enough
unfoldable pub segment_ran : Routes → Cell → List ℕ → Ran
segment_ran R c bs = takes R (suc (length bs)) c bs

-- segments one after the other: the end, and all that they hand out
unfoldable pub segments : Routes → Cell → List (List ℕ) → Ran
segments R c [] = ran c []
segments R c (s ∷ ss) = ran (segments R (segment_ran R c s).to ss).to ((segment_ran R c s).list ++ (segments R (segment_ran R c s).to ss).list)

-- R19.9, PIECES FOLLOW THE SEGMENTS, so lists are the same up to the pieces when they are so byte by byte: each piece as its single bytes,
-- the last one with the piece's mark. A stream read a byte at a time has such a list
abbrev pub singles : ℕ → ℕ → List ℕ → Bool → List Out → List Out
singles r b [] m os = piece r (b ∷ []) m ∷ os
singles r b (c ∷ cs) m os = piece r (b ∷ []) false ∷ singles r c cs m os

abbrev pub single : Out → List Out → List Out
single nothing os = os
single (pdu r p) os = pdu r p ∷ os
single (dropped k i n) os = dropped k i n ∷ os
single (start r i n m) os = start r i n m ∷ os
single (piece r [] m) os = piece r [] m ∷ os
single (piece r (b ∷ bs) m) os = singles r b bs m os

unfoldable pub fine : List Out → List Out
fine [] = []
fine (o ∷ os) = single o (fine os)

-- R19.3: a piece has a byte at least
abbrev pub FullPiece : Out → Type 0
FullPiece nothing = Unit {0}
FullPiece (pdu r p) = Unit {0}
FullPiece (dropped k i n) = Unit {0}
FullPiece (start r i n m) = Unit {0}
FullPiece (piece r p m) = 0 < length p

abbrev pub FullPieces : List Out → Type 0
FullPieces [] = Unit {0}
FullPieces (o ∷ os) = FullPiece o × FullPieces os

-- a segment event's end, and its list byte by byte
abbrev pub finely : Ran → Ran
finely q = ran q.to (fine q.list)

-- R19.9, WHAT WAS HANDED OUT, as demand 3 compares it: PDUs (route, payload); of a transfer its start (route, id, length), its joined bytes
-- (one at least) and its end. A transfer without its end counts with its bytes so far
pub data Handed : Type 0 where
  complete : ℕ → List ℕ → Handed
  began : ℕ → ℕ → ℕ → Handed
  middle : ℕ → List ℕ → Handed
  finished : ℕ → Handed

-- a byte of a transfer in front of what came later: joined to bytes of the same route that come next
abbrev pub push : ℕ → ℕ → List Handed → List Handed
push r b [] = middle r (b ∷ []) ∷ []
push r b (complete s p ∷ hs) = middle r (b ∷ []) ∷ complete s p ∷ hs
push r b (began s i n ∷ hs) = middle r (b ∷ []) ∷ began s i n ∷ hs
push r b (middle s p ∷ hs) = cond (eqb r s) (middle r (b ∷ p) ∷ hs) (middle r (b ∷ []) ∷ middle s p ∷ hs)
push r b (finished s ∷ hs) = middle r (b ∷ []) ∷ finished s ∷ hs

abbrev pub push_all : ℕ → List ℕ → List Handed → List Handed
push_all r [] hs = hs
push_all r (b ∷ bs) hs = push r b (push_all r bs hs)

-- R19.4: the end, where the outcome carries the mark
abbrev pub marked : ℕ → Bool → List Handed → List Handed
marked r true hs = finished r ∷ hs
marked r false hs = hs

-- R19.9, THE ONE LIST THAT DEMAND 3 COMPARES, by all outcomes of a connection over a whole run
unfoldable pub compared : List Out → List Handed
compared [] = []
compared (nothing ∷ os) = compared os
compared (pdu r p ∷ os) = complete r p ∷ compared os
compared (dropped k i n ∷ os) = compared os
compared (start r i n m ∷ os) = began r i n ∷ marked r m (compared os)
compared (piece r p m ∷ os) = push_all r p (marked r m (compared os))

-- all bytes of a transfer so far, none too, in front of what came later
abbrev pub middle_of : ℕ → List ℕ → List Handed → List Handed
middle_of r [] hs = hs
middle_of r (b ∷ bs) hs = middle r (b ∷ bs) ∷ hs

-- the bytes of all pieces of a list, and of all transfers of a comparison
abbrev pub piece_bytes : List Out → List ℕ
piece_bytes [] = []
piece_bytes (nothing ∷ os) = piece_bytes os
piece_bytes (pdu r p ∷ os) = piece_bytes os
piece_bytes (dropped k i n ∷ os) = piece_bytes os
piece_bytes (start r i n m ∷ os) = piece_bytes os
piece_bytes (piece r p m ∷ os) = p ++ piece_bytes os

abbrev pub moved_bytes : List Handed → List ℕ
moved_bytes [] = []
moved_bytes (complete r p ∷ hs) = moved_bytes hs
moved_bytes (began r i n ∷ hs) = moved_bytes hs
moved_bytes (middle r p ∷ hs) = p ++ moved_bytes hs
moved_bytes (finished r ∷ hs) = moved_bytes hs

-- THE PDUS OF A LIST, as a datagram's walk gives them: whole, and no transfer
pub record Pdu : Type 0 where
  pub route : ℕ
  pub body : List ℕ

abbrev pub handed : ℕ → List ℕ → Pdu
handed r p = record { route = r; body = p }

-- a PDU that was handed out, as the outcome that it was
abbrev pub as_out : Pdu → Out
as_out p = pdu p.route p.body

unfoldable pub pdus : List Out → List Pdu
pdus [] = []
pdus (nothing ∷ os) = pdus os
pdus (pdu r p ∷ os) = handed r p ∷ pdus os
pdus (dropped k i n ∷ os) = pdus os
pdus (start r i n m ∷ os) = pdus os
pdus (piece r p m ∷ os) = pdus os

-- R5.6, a drop adds 1 to its protocol's count: how many
unfoldable pub drops : List Out → ℕ
drops [] = 0
drops (nothing ∷ os) = drops os
drops (pdu r p ∷ os) = drops os
drops (dropped k i n ∷ os) = suc (drops os)
drops (start r i n m ∷ os) = drops os
drops (piece r p m ∷ os) = drops os
