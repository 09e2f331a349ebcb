-- When what stands at a spot is good, by the check's own tests, and what may be told of it (R1.11).
use Rattle.std.specs.Prelude.{ℕ, ◌<◌, ◌≡◌, Option, None, Some, Bool, true, false, ◌&&◌, List, leb, eqb, length}
use Rattle.table_layout.specs.Layout.{rows_of, end_of, row_of}
use Rattle.table_layout.specs.declared.Kind.{Kind}
use Rattle.table_scan.specs.Scan.{share}
use Rattle.table.specs.Table.{head_good, entry_good, row_good}
use Rattle.table_fault.specs.Faults.{no_fault, passes_test}
use Rattle.table_fault.specs.declared.Spot.{Spot}
use Rattle.table_fault.specs.declared.Spot.TheVariants.{Head, Entry, Total, Row}
use Rattle.table_fault.specs.declared.Told.{Told}

-- a spot of the image: a row is one of its kind's
unfoldable pub There : List ℕ → Spot → Type 0
There s Head = Unit {0}
There s (Entry k) = Unit {0}
There s Total = Unit {0}
There s (Row k i) = i < rows_of s k

-- what stands at a spot is good
unfoldable pub good_at : List ℕ → Spot → Bool
good_at s Head = leb 36 (length s) && head_good s
good_at s (Entry k) = entry_good s k
good_at s Total = eqb (length s) (end_of s)
good_at s (Row k i) = row_good s k i

-- of what is good nothing is told, of what is bad a fault whose test its numbers fail
unfoldable pub Tells : Bool → Option Told → Type 0
Tells true t = t ≡ no_fault
Tells false None = ⊥
Tells false (Some t) = passes_test t.fault t.found t.asked ≡ false

-- row j is earlier than row i, and they share what they may not
abbrev pub SharesWith : List ℕ → Kind → ℕ → ℕ → Type 0
SharesWith s k i j = (j < i) × (share k (row_of s k j) (row_of s k i) ≡ true)
