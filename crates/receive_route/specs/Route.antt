-- The lookup: what the receive routes of a connection say to a header's id and length.
use Rattle.std.specs.Prelude.{ℕ, ◌/◌, ◌≤◌, ◌≡◌, Bool, cond, not, ◌&&◌, List, Option, Some, None, eqb, leb, ltb, length}
use Rattle.reading.specs.declared.DropReason.TheVariants.{NoRoute, SwitchedOff, TooLong}
use Rattle.reading.specs.declared.Decision.{Decision}
use Rattle.reading.specs.declared.Decision.TheVariants.{Accept, Refuse, Transfer}
use Rattle.reading.specs.Feed.{Routes}
use Rattle.switches.specs.Switches.{is_on}
use Rattle.lists.specs.Search.{first_bad}
use Rattle.table_layout.specs.Layout.{row_width}
use Rattle.table_layout.specs.declared.Kind.TheVariants.{Route}
use Rattle.table_rows.specs.declared.RouteRow.{RouteRow}
use Rattle.table_rows.specs.Rows.{route_id_at, route_row, route_in}
use Rattle.wire.specs.Be.{Little}

-- how many rows a body of routes has: 64 at most
unfoldable pub rows_in : List ℕ → ℕ
rows_in routes = cond (leb (length routes / row_width Route) 64) (length routes / row_width Route) 64

-- n is that number, and its rows stand within the body
pub record RowsCounted (routes : List ℕ) (n : ℕ) : Type 0 where
  pub is : n ≡ rows_in routes
  pub most : n ≤ 64
  pub within : n ≤ length routes / row_width Route

-- key is a row's id whose four bytes were read the other way round, the last the highest
pub record Key (id key : ℕ) : Type 0 where
  pub row : List ℕ
  pub read : Little row route_id_at key
  pub is : (route_row row).id ≡ id

-- R5.2: a route counts for a header by connection and id
unfoldable pub counts : RouteRow → ℕ → ℕ → Bool
counts row connection id = eqb row.connection connection && eqb row.id id

-- row i does not count
abbrev pub passed : List ℕ → ℕ → ℕ → ℕ → Bool
passed routes connection id i = not (counts (route_in routes i) connection id)

-- the first row that counts; the number of rows where none does
unfoldable pub row_for : List ℕ → ℕ → ℕ → ℕ
row_for routes connection id = first_bad (passed routes connection id) (rows_in routes)

-- the first row that counts, where one does
unfoldable pub row_found : List ℕ → ℕ → ℕ → Option ℕ
row_found routes connection id = cond (ltb (row_for routes connection id) (rows_in routes)) (Some (row_for routes connection id)) None

-- R5.5, by number, the first that applies: 20 no route, 21 switched off, 22 longer than allowed; 0 where none applies. R19.1: a marked row
-- that is on says 1, a transfer, to every length
unfoldable pub reason_in : RouteRow → ℕ → ℕ → ℕ
reason_in row switches n = cond (not (is_on row.groups switches)) 21 (cond row.transfer 1 (cond (ltb row.longest n) 22 0))

unfoldable pub reason_of : List ℕ → ℕ → ℕ → ℕ → ℕ
reason_of routes i switches n = cond (ltb i (rows_in routes)) (reason_in (route_in routes i) switches n) 20

-- R5.5, what row i says to a payload of n bytes, the first that applies: 21 switched off, 22 longer than allowed; it is taken where none
-- applies. R19.1: a marked row that is on says a transfer, to every length
unfoldable pub row_decision : RouteRow → ℕ → ℕ → ℕ → Decision
row_decision row i switches n =
    cond (not (is_on row.groups switches)) (Refuse SwitchedOff) (cond row.transfer (Transfer i) (cond (ltb row.longest n) (Refuse TooLong) (Accept i)))

-- what the row that was found says; 20 where no route is
abbrev pub decision_at : List ℕ → ℕ → ℕ → Option ℕ → Decision
decision_at routes switches n (Some i) = row_decision (route_in routes i) i switches n
decision_at routes switches n None = Refuse NoRoute

-- what the routes of a body say to a header on a connection with these switches
unfoldable pub lookup_of : List ℕ → ℕ → ℕ → Routes
lookup_of routes connection switches id n = decision_at routes switches n (row_found routes connection id)
