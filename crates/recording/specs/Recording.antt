-- THE RECORDING OF A SHIFT (R17.1; docs/RECORDING.md): its front, its contents rows, the distance between two stamps, and what is
-- judged by the contents alone.
use Rattle.std.specs.Prelude.{ℕ, ◌+◌, ◌-◌, ◌*◌, ◌%◌, Bool, cond, not, List, length, ◌==◌, nat_le, nat_lt, Result, Ok, Err}
use Rattle.wire.specs.Be.{be}
use Rattle.table_layout.specs.Layout.{part_of, part_at}
use Rattle.lists.specs.Search.{first_bad}
use Rattle.recording.specs.declared.Unreadable.{Unreadable}
use Rattle.recording.specs.declared.Unreadable.TheVariants.{Contents, Edition, Many, Long}

-- "edition 1 (2 bytes) and the number of entries (2)"
abbrev pub edition_in : List ℕ → ℕ
edition_in r = be 2 r 0

abbrev pub entries_in : List ℕ → ℕ
entries_in r = be 2 r 2

-- "then a contents row of 12 bytes for each entry": where row i stands, which for i entries is where the bodies begin
abbrev pub contents_to : ℕ → ℕ
contents_to i = 4 + i * 12

abbrev pub entry_row : List ℕ → ℕ → List ℕ
entry_row r i = part_of r (contents_to i) 12

-- and where it stands, behind the recording's front
abbrev pub entry_row_at : List ℕ → ℕ → ℕ
entry_row_at r i = part_at r (contents_to i) 12

-- "tick stamp 4, event number 2, zero 2, body length 4"
abbrev pub stamp_in : List ℕ → ℕ
stamp_in row = be 4 row 0

abbrev pub number_in : List ℕ → ℕ
number_in row = be 2 row 4

abbrev pub zero_in : List ℕ → ℕ
zero_in row = be 2 row 6

abbrev pub body_long : List ℕ → ℕ
body_long row = be 4 row 8

-- "Tick stamps wrap .. and the distance between two is taken across the wrap": of numbers below `most`, how often 1 is added to the one
-- before, modulo `most`, until it is the stamp
unfoldable pub distance_in : ℕ → ℕ → ℕ → ℕ
distance_in most before stamp = (stamp + (most - before)) % most

-- stamps have four bytes
abbrev pub stamps : ℕ
stamps = 4294967296

-- "up to 4,000 entries with bodies of at most 4,096 bytes"
abbrev pub most_entries : ℕ
most_entries = 4000

abbrev pub longest_entry : ℕ
longest_entry = 4096

abbrev pub body_short : List ℕ → ℕ → Bool
body_short r i = nat_le (body_long (entry_row r i)) longest_entry

-- the first entry whose body is too long; the number of entries where none is
abbrev pub first_long : List ℕ → ℕ → ℕ
first_long r entries = first_bad (body_short r) entries

-- WHAT THE CONTENTS SHOW, before anything is run: cut off in them; another edition; more entries, or a longer body, than are allowed
unfoldable pub sized_of : List ℕ → ℕ → Result Unit Unreadable
sized_of r entries =
    cond (nat_lt (length r) (contents_to entries)) (Err Contents)
    (cond (nat_lt most_entries entries) (Err Many)
    (cond (nat_lt (first_long r entries) entries) (Err (Long (first_long r entries)))
    (Ok tt)))

unfoldable pub shown_by : List ℕ → Result Unit Unreadable
shown_by r = cond (nat_lt (length r) 2) (Err Contents) (cond (not (edition_in r == 1)) (Err Edition) (sized_of r (entries_in r)))
