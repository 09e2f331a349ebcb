-- The spot that a place of refusal 1 names, and the place that a spot has (R1.11).
use Rattle.std.specs.Prelude.{ℕ, ◌-◌, ◌/◌, cond, List, ltb, eqb}
use Rattle.table_layout.specs.Layout.{entry_at, row_bytes, start_of, row_at}
use Rattle.table_layout.specs.declared.Kind.{Kind}
use Rattle.table_layout.specs.declared.Kind.TheVariants.{Group, Connection, Route, Destination}
use Rattle.table_fault.specs.declared.Spot.{Spot}
use Rattle.table_fault.specs.declared.Spot.TheVariants.{Head, Entry, Total, Row}

-- where a spot stands in an image
unfoldable pub spot_place : List ℕ → Spot → ℕ
spot_place s Head = 0
spot_place s Total = 2
spot_place s (Entry k) = entry_at k
spot_place s (Row k i) = row_at s k i

-- the row of a kind that starts at a place
abbrev pub row_from : List ℕ → Kind → ℕ → Spot
row_from s k place = Row k ((place - start_of s k) / row_bytes s k)

-- the row that starts at a place: of the last kind whose body starts at it or before it
unfoldable pub row_spot : List ℕ → ℕ → Spot
row_spot s place =
    cond (ltb place (start_of s Connection)) (row_from s Group place)
    (cond (ltb place (start_of s Route)) (row_from s Connection place)
    (cond (ltb place (start_of s Destination)) (row_from s Route place) (row_from s Destination place)))

unfoldable pub spot_of : List ℕ → ℕ → Spot
spot_of s place =
    cond (eqb place 0) Head
    (cond (eqb place 2) Total
    (cond (eqb place 4) (Entry Group)
    (cond (eqb place 12) (Entry Connection)
    (cond (eqb place 20) (Entry Route)
    (cond (eqb place 28) (Entry Destination) (row_spot s place))))))
