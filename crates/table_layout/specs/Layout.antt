-- The table image (section 1 of the rules) as the list of its bytes: contents, bodies, and rows as parts of a body.
use Rattle.std.specs.Prelude.{ℕ, ◌+◌, ◌*◌, ◌/◌, ◌≤◌, ◌≡◌, cond, List, [], leb, ltb, length, take, drop}
use Rattle.wire.specs.Be.{be}
use Rattle.table_layout.specs.declared.Kind.{Kind}
use Rattle.table_layout.specs.declared.Kind.TheVariants.{Group, Connection, Route, Destination}

-- R1.3: kinds 1, 2, 3, 4 in that order
abbrev pub number : Kind → ℕ
number Group = 1
number Connection = 2
number Route = 3
number Destination = 4

-- R1.5: how many rows a kind may have
abbrev pub most_rows : Kind → ℕ
most_rows Group = 8
most_rows Connection = 16
most_rows Route = 64
most_rows Destination = 64

-- R1.3: four contents entries of 8 bytes, behind bytes 0..3
abbrev pub entry_at : Kind → ℕ
entry_at Group = 4
entry_at Connection = 12
entry_at Route = 20
entry_at Destination = 28

-- R1.5: the bytes of a row of edition 1. A body lent by itself is cut by it; no other place has these numbers for a width
abbrev pub row_width : Kind → ℕ
row_width Group = 2
row_width Connection = 16
row_width Route = 16
row_width Destination = 16

-- the bytes of a row of an image: the same for every image of edition 1; the image is named so that another edition may have other rows
abbrev pub row_bytes : List ℕ → Kind → ℕ
row_bytes s k = row_width k

-- R1.3: of a contents entry, kind (2), row count (2), offset (4), the row count
unfoldable pub rows_of : List ℕ → Kind → ℕ
rows_of s k = be 2 s (entry_at k + 2)

unfoldable pub body_bytes : List ℕ → Kind → ℕ
body_bytes s k = rows_of s k * row_bytes s k

-- R1.4: bodies start at 36, in order and without gaps
unfoldable pub start_of : List ℕ → Kind → ℕ
start_of s Group = 36
start_of s Connection = 36 + body_bytes s Group
start_of s Route = 36 + body_bytes s Group + body_bytes s Connection
start_of s Destination = 36 + body_bytes s Group + body_bytes s Connection + body_bytes s Route

-- where the last body ends
unfoldable pub end_of : List ℕ → ℕ
end_of s = start_of s Destination + body_bytes s Destination

-- where row i of a kind starts
unfoldable pub row_at : List ℕ → Kind → ℕ → ℕ
row_at s k i = start_of s k + i * row_bytes s k

-- n bytes of s from at on; nothing where they do not fit
unfoldable pub part_of : List ℕ → ℕ → ℕ → List ℕ
part_of s at n = cond (leb (at + n) (length s)) (take n (drop at s)) []

-- how far from the front of s it stands; an empty part, of bytes that do not fit, at the front
unfoldable pub part_at : List ℕ → ℕ → ℕ → ℕ
part_at s at n = cond (leb (at + n) (length s)) at 0

-- the body of a kind, as the part of the image that it occupies; nothing where it does not fit
unfoldable pub body_of : List ℕ → Kind → List ℕ
body_of s k = part_of s (start_of s k) (body_bytes s k)

unfoldable pub body_at : List ℕ → Kind → ℕ
body_at s k = part_at s (start_of s k) (body_bytes s k)

-- row i of a body whose rows have n bytes; nothing where there is no such row
unfoldable pub row_in : ℕ → List ℕ → ℕ → List ℕ
row_in n body i = cond (ltb i (length body / n)) (take n (drop (i * n) body)) []

unfoldable pub row_in_at : ℕ → List ℕ → ℕ → ℕ
row_in_at n body i = cond (ltb i (length body / n)) (i * n) 0

-- row i of a kind
abbrev pub row_of : List ℕ → Kind → ℕ → List ℕ
row_of s k i = row_in (row_bytes s k) (body_of s k) i

-- R1.4: an image of which the bodies are all there and nothing else, each where its contents entry says
pub record Laid (s : List ℕ) : Type 0 where
  pub head : 36 ≤ length s
  pub whole : length s ≡ end_of s
  pub starts : (k : Kind) → be 4 s (entry_at k + 4) ≡ start_of s k
