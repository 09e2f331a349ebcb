-- The first bad row of a body is the first bad row of its kind, in an image that is laid out.
use Rattle.std.proofs.Common.{Result, Ok, Err}
use Prim.Native.Nat.{ℕ, ◌+◌, ◌*◌, ◌/◌, ◌<◌, ◌≤◌}
use mathlib.Core.Path.{◌≡◌, refl, sym, ap, ◌∙◌}
use mathlib.Core.Bool.{true, ◌&&◌}
use mathlib.Core.List.{List}
use native.Mathlib.Omega.{arith}
use lib.Dec.{eqb, leb}
use lib.ListN.{length}
use borrow.Author.Tests.{eqb-true, le-leb, lt-leb, leb-true}
use Rattle.wire.specs.Be.{byte_at}
use Rattle.lists.specs.Search.{first_bad}
use Rattle.lists.proofs.Both.{and_left, and_right}
use Rattle.law_lists.proofs.First.{bad-most}
use Rattle.table_layout.specs.Layout.{entry_at, row_width, row_bytes, rows_of, start_of, row_at, body_of, Laid}
use Rattle.table_layout.proofs.Parts.{body-rows, laid-rows}
use Rattle.table_layout.specs.declared.Kind.{Kind}
use Rattle.table_layout.specs.declared.Kind.TheVariants.{Group, Connection, Route, Destination}
use Rattle.table_rows.proofs.Heads.{be-small}
use Rattle.table_rows.specs.Rules.{connection_good, route_good, destination_good}
use Rattle.table_scan.specs.declared.BadRows.{BadRows}
use Rattle.table_scan.specs.Scan.{bad_in, bad_group, bad_connection, bad_route, bad_destination, bad_rows}
use Rattle.table.specs.Table.{group_tcp_of, tcp_of, size_of, rule, row_good, bad_row, demand, then_check, rows_place}
use Rattle.table.specs.declared.BadTable.TheVariants.{At}
use Rattle.table.proofs.Answers.{demand-held}
use Rattle.table.specs.declared.BadTable.{BadTable}

-- a row count is a number of two bytes
pub rows-small : (s : List ℕ) → ((i : ℕ) → byte_at s i < 256) → (k : Kind) → rows_of s k < 65536
unfolding rows_of
rows-small s bytes k = be-small s bytes 2 (entry_at k + 2)

-- the place of row `bad`
module _ (s : List ℕ) (k : Kind) (rows bad start size : ℕ) (er : rows ≡ rows_of s k) where
  pub no_place : rows ≤ bad → Ok tt ≡ demand (leb (rows_of s k) bad) (row_at s k bad)
  no_place h = rw (le-leb (rows_of s k) bad (omega arith))

  pub some-place : start ≡ start_of s k → size ≡ row_bytes s k → bad < rows → Err (At (start + bad * size)) ≡ demand (leb (rows_of s k) bad) (row_at s k bad)
  unfolding row_at
  some-place es ez h = rw (lt-leb (rows_of s k) bad (omega arith), es, ez)

-- each kind, by values that are its body and its numbers
module _ (s : List ℕ) (l : Laid s) (r : Result Unit BadTable) (bad : ℕ) where
  place : (k : Kind) → bad ≡ bad_in (rule s k) k (body_of s k) → r ≡ demand (leb (rows_of s k) bad) (row_at s k bad) → r ≡ rows_place s k
  place k e f = f ∙ ap (λ (b : ℕ). demand (leb (rows_of s k) b) (row_at s k b)) (e ∙ ap (first_bad (row_good s k)) (body-rows s l k))

  pub groups-place : (body : List ℕ) → body ≡ body_of s Group → bad ≡ bad_group body
      → r ≡ demand (leb (rows_of s Group) bad) (row_at s Group bad) → r ≡ rows_place s Group
  unfolding rule
  groups-place body b e f = place Group (e ∙ ap bad_group b) f

  pub connections-place : (body groups : List ℕ) → body ≡ body_of s Connection → groups ≡ body_of s Group
      → bad ≡ bad_connection groups body
      → r ≡ demand (leb (rows_of s Connection) bad) (row_at s Connection bad) → r ≡ rows_place s Connection
  unfolding rule
  connections-place body groups b g e f =
      place Connection
      (e ∙ ap (bad_connection groups) b
      ∙ ap (λ (x : List ℕ). bad_connection x (body_of s Connection)) g
      ∙ ap (λ (n : ℕ). bad_in (connection_good n (group_tcp_of s)) Connection (body_of s Connection)) (body-rows s l Group))
      f

  pub routes-place : (body connections groups : List ℕ) → body ≡ body_of s Route → connections ≡ body_of s Connection → groups ≡ body_of s Group
      → bad ≡ bad_route connections groups body
      → r ≡ demand (leb (rows_of s Route) bad) (row_at s Route bad) → r ≡ rows_place s Route
  unfolding rule
  routes-place body connections groups b c g e f =
      place Route
      (e ∙ ap (bad_route connections groups) b
      ∙ ap (λ (x : List ℕ). bad_route x groups (body_of s Route)) c
      ∙ ap (λ (x : List ℕ). bad_route (body_of s Connection) x (body_of s Route)) g
      ∙ ap (λ (n : ℕ). bad_in (route_good n (tcp_of s)) Route (body_of s Route)) (body-rows s l Connection))
      f

  pub destinations-place : (body connections : List ℕ) → body ≡ body_of s Destination → connections ≡ body_of s Connection
      → bad ≡ bad_destination connections body
      → r ≡ demand (leb (rows_of s Destination) bad) (row_at s Destination bad) → r ≡ rows_place s Destination
  unfolding rule
  destinations-place body connections b c e f =
      place Destination
      (e ∙ ap (bad_destination connections) b
      ∙ ap (λ (x : List ℕ). bad_destination x (body_of s Destination)) c
      ∙ ap (λ (n : ℕ). bad_in (destination_good n (size_of s)) Destination (body_of s Destination)) (body-rows s l Connection))
      f

-- the last two kinds, by what one search gives
pub last_route : (s : List ℕ) (l : Laid s) (routes destinations connections groups : List ℕ) (x : BadRows) (a : Result Unit BadTable)
    → routes ≡ body_of s Route → connections ≡ body_of s Connection → groups ≡ body_of s Group
    → x ≡ bad_rows routes destinations connections groups
    → a ≡ demand (leb (rows_of s Route) x.route) (row_at s Route x.route) → a ≡ rows_place s Route
last_route s l routes destinations connections groups x a er ec eg ex ea =
    routes-place s l a x.route routes connections groups er ec eg (ap (λ (y : BadRows). y.route) ex) ea

pub last_destination : (s : List ℕ) (l : Laid s) (routes destinations connections groups : List ℕ) (x : BadRows) (b : Result Unit BadTable)
    → destinations ≡ body_of s Destination → connections ≡ body_of s Connection
    → x ≡ bad_rows routes destinations connections groups
    → b ≡ demand (leb (rows_of s Destination) x.destination) (row_at s Destination x.destination) → b ≡ rows_place s Destination
last_destination s l routes destinations connections groups x b ed ec ex eb =
    destinations-place s l b x.destination destinations connections ed ec (ap (λ (y : BadRows). y.destination) ex) eb

-- without rows of either
pub none_placed : (s : List ℕ) (l : Laid s) (routes destinations : List ℕ) → routes ≡ body_of s Route → destinations ≡ body_of s Destination
    → (eqb (length routes) 0 && eqb (length destinations) 0) ≡ true → Ok tt ≡ then_check (rows_place s Route) (rows_place s Destination)
unfolding then_check
none_placed s l routes destinations er ed z =
    none Destination destinations (and_right (eqb (length routes) 0) _ z) (laid-rows s l Destination destinations ed)
    ∙ ap (λ (y : Result Unit BadTable). then_check y (rows_place s Destination)) (none Route routes (and_left _ _ z) (laid-rows s l Route routes er))
  where
    none : (k : Kind) (body : List ℕ) → eqb (length body) 0 ≡ true → length body / 16 ≡ rows_of s k → Ok tt ≡ rows_place s k
    none k body z h = no_place s k (rows_of s k) (bad_row s k) 0 0 refl (omega (arith, eqb-true (length body) 0 z, h))

-- where no connection is refused, the search for a bad one has come to the row count
pub connections-passed : (s : List ℕ) (l : Laid s) (body groups : List ℕ) (bad : ℕ) (r : Result Unit BadTable)
    → body ≡ body_of s Connection → groups ≡ body_of s Group → bad ≡ bad_connection groups body
    → r ≡ demand (leb (rows_of s Connection) bad) (row_at s Connection bad) → r ≡ Ok tt
    → bad_connection (body_of s Group) (body_of s Connection) ≡ length (body_of s Connection) / row_width Connection
connections-passed s l body groups bad r b g e f a =
    let is : bad ≡ bad_connection (body_of s Group) (body_of s Connection) =
    e ∙ ap (bad_connection groups) b ∙ ap (λ (x : List ℕ). bad_connection x (body_of s Connection)) g in
    let some : rows_of s Connection ≤ bad = leb-true _ _ (demand-held (leb (rows_of s Connection) bad) (row_at s Connection bad) (sym f ∙ a)) in
    let most : bad_connection (body_of s Group) (body_of s Connection) ≤ length (body_of s Connection) / row_width Connection = bad-most _ _ in
    let rows : length (body_of s Connection) / row_width Connection ≡ rows_of s Connection = body-rows s l Connection in
    omega arith
