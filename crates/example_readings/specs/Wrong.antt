-- WRONG READINGS (R13.3, R12.11, R19.1 to R19.4): what each of them would do, of any function that answers as a take, a segment event or the list of a
-- stream. None of them meets the definition.
use Rattle.std.specs.Prelude.{ℕ, suc, ◌≤◌, ◌<◌, ◌≡◌, Bool, true, false, List, [], ◌∷◌, ◌++◌, map, length}
use Rattle.reading.specs.declared.DropReason.TheVariants.{NoRoute}
use Rattle.reading.specs.Feed.{Routes, Cell, transfer, Out, nothing, pdu, dropped, start, piece, ready, Took, take_b, bytes_read, Ran, segment_ran, Handed}
use Rattle.reading.specs.declared.DropReason.TheVariants.{NoRoute}
use Rattle.reading.specs.Feed.{compared}
use Rattle.reading_lengths.specs.Listed.{Marked, mark, read_out}

abbrev pub TakeReading : Type 0
TakeReading = Routes → Cell → List ℕ → Took

abbrev pub SegmentReading : Type 0
SegmentReading = Routes → Cell → List ℕ → Ran

abbrev pub StreamReading : Type 0
StreamReading = (ℕ → Routes) → List Marked → List Handed

-- the definition is met
abbrev pub IsTake : TakeReading → Type 0
IsTake t = (R : Routes) (c : Cell) (bs : List ℕ) → t R c bs ≡ take_b R c bs

abbrev pub IsSegment : SegmentReading → Type 0
IsSegment s = (R : Routes) (c : Cell) (bs : List ℕ) → s R c bs ≡ segment_ran R c bs

abbrev pub IsStream : StreamReading → Type 0
IsStream f = (Q : ℕ → Routes) (ms : List Marked) → f Q ms ≡ compared (read_out Q ready ms)

-- R13.3: a stream that always wants more
abbrev pub AlwaysMore : TakeReading → Type 0
AlwaysMore t = (R : Routes) (c : Cell) (bs : List ℕ) → (t R c bs).out ≡ nothing

-- R13.3: a take that always hands out the first route
abbrev pub FirstRoute : TakeReading → Type 0
FirstRoute t = (R : Routes) (c : Cell) (bs : List ℕ) (r : ℕ) (p : List ℕ) → (t R c bs).out ≡ pdu r p → r ≡ 0

-- R12.11: every read a fresh header, so that what the connection holds does not count
abbrev pub FreshHeader : TakeReading → Type 0
FreshHeader t = (R : Routes) (c : Cell) (bs : List ℕ) → t R c bs ≡ t R ready bs

-- R13.3: a made-up read count, here that of a take which says that it read all
abbrev pub ReadsAll : TakeReading → Type 0
ReadsAll t = (R : Routes) (c : Cell) (bs : List ℕ) → bytes_read bs (t R c bs) ≡ length bs

-- R19.3: a piece of no bytes, where the segment has none
abbrev pub EmptyPiece : TakeReading → Type 0
EmptyPiece t = (R : Routes) (n r : ℕ) → (t R (transfer (suc n) r) []).out ≡ piece r [] false

-- R19.4: the end mark one byte early
abbrev pub MarkEarly : TakeReading → Type 0
MarkEarly t = (R : Routes) (r : ℕ) (bs p : List ℕ) (m : Bool) → (t R (transfer (suc (length bs)) r) bs).out ≡ piece r p m → m ≡ true

-- R19.3: a piece that waits until the segment has all that is to come
abbrev pub WaitingPiece : TakeReading → Type 0
WaitingPiece t = (R : Routes) (n r : ℕ) (bs : List ℕ) → length bs < n → (t R (transfer n r) bs).out ≡ nothing

-- R19.1: a longest payload of 1,464 bytes applied on a marked route
abbrev pub LongestApplied : TakeReading → Type 0
LongestApplied t = (R : Routes) (bs : List ℕ) (r i n : ℕ) (m : Bool) → (t R ready bs).out ≡ start r i n m → n ≤ 1464

-- R13.3: a stream that reads the first PDU and skips later ones
abbrev pub FirstOnly : SegmentReading → Type 0
FirstOnly s = (R : Routes) (c : Cell) (bs : List ℕ) → length (compared (s R c bs).list) ≤ 1

-- R12.11: closing on an unknown id instead of skipping: nothing comes after a drop 20
abbrev pub Closing : SegmentReading → Type 0
Closing s = (R : Routes) (c : Cell) (bs : List ℕ) (i n : ℕ) (os : List Out) → (s R c bs).list ≡ dropped NoRoute i n ∷ os → os ≡ []

-- R12.11: the switch tested when the payload ends: the switches v at the payload decide, whatever those at the header were
abbrev pub TestedLate : StreamReading → Type 0
TestedLate f = (Q : ℕ → Routes) (w v : ℕ) (h p : List ℕ) → length h ≡ 8 → 1 ≤ length p
    → f Q (map (mark w) h ++ map (mark v) p) ≡ f Q (map (mark v) (h ++ p))
