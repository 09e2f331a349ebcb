-- A row among the rows of its body.
use Rattle.std.specs.Prelude.{ℕ, ◌/◌, Bool, false, not, ◌&&◌, List, length}
use Rattle.lists.specs.Search.{every, first_bad}
use Rattle.table_layout.specs.Layout.{row_width, row_in}
use Rattle.table_layout.specs.declared.Kind.{Kind}
use Rattle.table_layout.specs.declared.Kind.TheVariants.{Group, Connection, Route, Destination}
use Rattle.table_rows.specs.Rules.{group_good, connection_rule, route_rule, destination_rule, routes_share, destinations_share}
use Rattle.table_scan.specs.declared.BadRows.{BadRows}

-- two rows of a kind share what they may not; groups and connections share freely
unfoldable pub share : Kind → List ℕ → List ℕ → Bool
share Group a b = false
share Connection a b = false
share Route a b = routes_share a b
share Destination a b = destinations_share a b

-- row i shares with row j nothing that it may not
unfoldable pub clear_in : (List ℕ → List ℕ → Bool) → ℕ → List ℕ → ℕ → ℕ → Bool
clear_in shares n body i j = not (shares (row_in n body j) (row_in n body i))

-- R1.6, R1.9: row i is good by itself and shares with no earlier row what it may not, so that the later row is the bad one
unfoldable pub good_in : (List ℕ → Bool) → (List ℕ → List ℕ → Bool) → ℕ → List ℕ → ℕ → Bool
good_in good shares n body i = good (row_in n body i) && every (clear_in shares n body i) i

-- the first bad row of a kind's body, under the rule of a row by itself; the row count where there is none
abbrev pub bad_in : (List ℕ → Bool) → Kind → List ℕ → ℕ
bad_in good k body = first_bad (good_in good (share k) (row_width k) body) (length body / row_width k)

-- the same of rows of 16 bytes, by what two of them may not share
abbrev pub bad_of : (List ℕ → Bool) → (List ℕ → List ℕ → Bool) → List ℕ → ℕ
bad_of good shares body = first_bad (good_in good shares (row_width Route) body) (length body / row_width Route)

abbrev pub bad_group : List ℕ → ℕ
bad_group body = bad_in group_good Group body

-- under the body of groups
abbrev pub bad_connection : List ℕ → List ℕ → ℕ
bad_connection groups body = bad_in (connection_rule groups) Connection body

-- under the bodies of connections and groups
abbrev pub bad_route : List ℕ → List ℕ → List ℕ → ℕ
bad_route connections groups body = bad_in (route_rule connections groups) Route body

-- under the body of connections
abbrev pub bad_destination : List ℕ → List ℕ → ℕ
bad_destination connections body = bad_in (destination_rule connections) Destination body

abbrev pub bad_rows : List ℕ → List ℕ → List ℕ → List ℕ → BadRows
bad_rows routes destinations connections groups =
    record {
      route = bad_route connections groups routes;
      destination = bad_destination connections destinations;
    }
