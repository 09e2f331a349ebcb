-- The table check (R1.10) as a function of the image's bytes.
use Rattle.std.specs.Prelude.{ℕ, ◌+◌, Bool, cond, ◌&&◌, List, [], length, leb, eqb, Result, Ok, Err}
use Rattle.wire.specs.Be.{be}
use Rattle.lists.specs.Search.{first_bad}
use Rattle.table_layout.specs.Layout.{number, most_rows, entry_at, row_bytes, rows_of, start_of, end_of, row_at, body_of, body_at}
use Rattle.table_layout.specs.declared.Kind.{Kind}
use Rattle.table_layout.specs.declared.Kind.TheVariants.{Group, Connection, Route, Destination}
use Rattle.table_rows.specs.Rules.{group_good, connection_good, route_good, destination_good, size_in, group_tcp, tcp_in}
use Rattle.table_scan.specs.Scan.{share, good_in}
use Rattle.table.specs.declared.BadTable.TheVariants.{At}
use Rattle.table.specs.declared.BadTable.{BadTable}

-- R1.2: bytes 0..1 are edition 1, bytes 2..3 the number 4
unfoldable pub head_good : List ℕ → Bool
head_good s = eqb (be 2 s 0) 1 && eqb (be 2 s 2) 4

-- R1.3, R1.4: a contents entry has its kind, not too many rows, and the offset of its body
unfoldable pub entry_good : List ℕ → Kind → Bool
entry_good s k =
    eqb (be 2 s (entry_at k)) (number k)
    && leb (rows_of s k) (most_rows k)
    && eqb (be 4 s (entry_at k + 4)) (start_of s k)

-- R1.2 to R1.4: all that is asked before the rows: bytes 0..3, the contents entries and the total length
unfoldable pub front_good : List ℕ → Bool
front_good s =
    head_good s
    && entry_good s Group
    && entry_good s Connection
    && entry_good s Route
    && entry_good s Destination
    && eqb (length s) (end_of s)

-- R2.11: group g of an image is TCP, and connection c
abbrev pub group_tcp_of : List ℕ → ℕ → Bool
group_tcp_of s g = group_tcp (row_bytes s Group) (body_of s Group) g

abbrev pub tcp_of : List ℕ → ℕ → Bool
tcp_of s c = tcp_in (row_bytes s Group) (body_of s Group) (row_bytes s Connection) (body_of s Connection) c

-- the send size of connection c of an image
abbrev pub size_of : List ℕ → ℕ → ℕ
size_of s c = size_in (row_bytes s Connection) (body_of s Connection) c

-- R1.6, R1.7: each kind's row rule, with the row counts of groups and connections
unfoldable pub rule : List ℕ → Kind → List ℕ → Bool
rule s Group row = group_good row
rule s Connection row = connection_good (rows_of s Group) (group_tcp_of s) row
rule s Route row = route_good (rows_of s Connection) (tcp_of s) row
rule s Destination row = destination_good (rows_of s Connection) (size_of s) row

-- row i of a kind is good
abbrev pub row_good : List ℕ → Kind → ℕ → Bool
row_good s k i = good_in (rule s k) (share k) (row_bytes s k) (body_of s k) i

-- the number of the first bad row of a kind; the row count where there is none
abbrev pub bad_row : List ℕ → Kind → ℕ
bad_row s k = first_bad (row_good s k) (rows_of s k)

-- ---- R1.10: refusal 1 gives a place

-- a refusal at the place unless the test holds
abbrev pub demand : Bool → ℕ → Result Unit BadTable
demand ok place = cond ok (Ok tt) (Err (At place))

-- the first refusal of two
unfoldable pub then_check : Result Unit BadTable → Result Unit BadTable → Result Unit BadTable
then_check (Ok tt) b = b
then_check (Err e) b = Err e

-- the place of the first bad contents entry
unfoldable pub entries_place : List ℕ → Result Unit BadTable
entries_place s =
    then_check (demand (entry_good s Group) 4)
    (then_check (demand (entry_good s Connection) 12)
    (then_check (demand (entry_good s Route) 20)
    (demand (entry_good s Destination) 28)))

-- 0 where bytes 0..3 are wrong, then the contents entries
unfoldable pub head_place : List ℕ → Result Unit BadTable
head_place s = then_check (demand (head_good s) 0) (entries_place s)

-- the place of the first bad row, of a kind and of all in image order
abbrev pub rows_place : List ℕ → Kind → Result Unit BadTable
rows_place s k = demand (leb (rows_of s k) (bad_row s k)) (row_at s k (bad_row s k))

unfoldable pub all_rows_place : List ℕ → Result Unit BadTable
all_rows_place s =
    then_check (rows_place s Group)
    (then_check (rows_place s Connection)
    (then_check (rows_place s Route)
    (rows_place s Destination)))

-- R1.10: 0 when shorter than 36 or bytes 0..3 are wrong; then the first bad contents entry; then 2 for a wrong total length; then the first
-- bad row
unfoldable pub check_table : List ℕ → Result Unit BadTable
check_table s =
    then_check (demand (leb 36 (length s)) 0)
    (then_check (head_place s)
    (then_check (demand (eqb (length s) (end_of s)) 2)
    (all_rows_place s)))

-- R4.1, the answer's number: 0 done, 1 table refused
abbrev pub table_number : Result Unit BadTable → ℕ
table_number (Ok tt) = 0
table_number (Err e) = 1

-- the place that goes with it; an accepted table has none, and what stood there stays
abbrev pub answer_place : Result Unit BadTable → ℕ → ℕ
answer_place (Ok tt) before = before
answer_place (Err (At p)) before = p

-- ---- R1.13: each body is handed back as the part of the caller's image that it occupies

-- what there is of the kind with a number; nothing at any other number
abbrev pub of_kind : {A : Type 0} → (Kind → A) → A → ℕ → A
of_kind of none n = cond (eqb n 1) (of Group) (cond (eqb n 2) (of Connection) (cond (eqb n 3) (of Route) (cond (eqb n 4) (of Destination) none)))

-- and nothing of a refused image
abbrev pub if_accepted : {A : Type 0} → Result Unit BadTable → A → A → A
if_accepted (Ok tt) x none = x
if_accepted (Err e) x none = none

-- its bytes
unfoldable pub body_answer : List ℕ → ℕ → List ℕ
body_answer s n = if_accepted (check_table s) (of_kind (body_of s) [] n) []

-- and how far from the image's front it stands; an empty part at the front
unfoldable pub body_answer_at : List ℕ → ℕ → ℕ
body_answer_at s n = if_accepted (check_table s) (of_kind (body_at s) 0 n) 0
