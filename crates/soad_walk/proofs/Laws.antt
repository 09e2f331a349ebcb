-- The walk by a table's own routes, by the tests that led there; it meets no transfer.
use Rattle.std.proofs.Common.{Result, Ok, Err}
use Prim.Native.Nat.{ℕ, ◌/◌, ◌≤◌, ◌<◌}
use mathlib.Core.Path.{◌≡◌, sym, ap, ◌∙◌}
use mathlib.Core.Bool.{Bool, true, false}
use mathlib.Core.List.{List}
use native.Mathlib.Omega.{arith}
use borrow.Author.Tests.{le-leb, lt-leb, lt-ltb, le-ltb, eq-eqb}
use lib.ListN.{length}
use Rattle.reading.specs.declared.Decision.TheVariants.{Transfer}
use Rattle.receive_route.specs.Route.{rows_in, lookup_of}
use Rattle.receive_route.proofs.Decided.{never_transfers}
use Rattle.receive_datagram.specs.declared.Walked.{Walked}
use Rattle.receive_datagram.specs.Datagram.{walked_of}
use Rattle.table_layout.specs.declared.Kind.TheVariants.{Group, Connection, Route}
use Rattle.table_layout.specs.Layout.{rows_of, body_of}
use Rattle.table_layout.proofs.Parts.{body-rows}
use Rattle.table_rows.specs.Rules.{group_tcp, tcp_in}
use Rattle.table.specs.Table.{tcp_of, check_table}
use Rattle.table.specs.Accepts.{Accepts}
use Rattle.soad_walk.specs.declared.WalkRefusal.TheVariants.{Missing, Denied}
use Rattle.soad_walk.specs.TableWalk.{accepted_walk, after_check, table_walk_of}
use Rattle.table.specs.declared.BadTable.{BadTable}

pub tcp-is : (image connections groups : List ℕ) (connection : ℕ) (b : Bool) → connections ≡ body_of image Connection → groups ≡ body_of image Group
    → b ≡ tcp_in 2 groups 16 connections connection → b ≡ tcp_of image connection
tcp-is image connections groups connection b ec eg e =
    e ∙ ap (λ (x : List ℕ). tcp_in 2 groups 16 x connection) ec ∙ ap (λ (x : List ℕ). tcp_in 2 x 16 (body_of image Connection) connection) eg

-- the order of the checks
module _ (image : List ℕ) (connection switches : ℕ) (datagram : List ℕ) (place rows : ℕ) (counted : rows ≡ rows_of image Connection) where
  pub not_there : rows ≤ connection → Err Missing ≡ accepted_walk image connection switches datagram place
  unfolding accepted_walk
  not_there h = let l : rows_of image Connection ≤ connection = omega arith in simp (le-leb (rows_of image Connection) connection l)

  module _ (there : connection < rows) (tcp : Bool) (is : tcp ≡ tcp_of image connection) where
    here : connection < rows_of image Connection
    here = omega arith

    pub a_tcp : tcp ≡ true → Err Denied ≡ accepted_walk image connection switches datagram place
    unfolding accepted_walk
    a_tcp e = simp (lt-leb (rows_of image Connection) connection here, sym is ∙ e)

    pub past_the_end : tcp ≡ false → length datagram < place → Err Denied ≡ accepted_walk image connection switches datagram place
    unfolding accepted_walk
    past_the_end e h = simp (lt-leb (rows_of image Connection) connection here, sym is ∙ e, lt-ltb (length datagram) place h)

    pub a_step : tcp ≡ false → place ≤ length datagram → (routes : List ℕ) (w : Walked)
        → routes ≡ body_of image Route → w ≡ walked_of datagram place routes connection switches
        → Ok w ≡ accepted_walk image connection switches datagram place
    unfolding accepted_walk
    a_step e h routes w er ew =
        simp (lt-leb (rows_of image Connection) connection here, sym is ∙ e, le-ltb (length datagram) place h)
        (ap Ok (ew ∙ ap (λ (l : List ℕ). walked_of datagram place l connection switches) er))

-- the check comes first
pub checked : (image : List ℕ) (connection switches : ℕ) (datagram : List ℕ) (place : ℕ) (answer : Result Unit BadTable) → check_table image ≡ answer
    → after_check answer (accepted_walk image connection switches datagram place) ≡ table_walk_of image connection switches datagram place
unfolding table_walk_of
checked image connection switches datagram place answer e =
    ap (λ (a : Result Unit BadTable). after_check a (accepted_walk image connection switches datagram place)) (sym e)

-- R19.1: by the routes of an accepted image no header is a transfer on a connection that is not TCP, and a walk is on none that is
pub never_a_transfer : (image : List ℕ) → Accepts image → (connection switches id n route : ℕ) → tcp_of image connection ≡ false
    → lookup_of (body_of image Route) connection switches id n ≡ Transfer route → ⊥
unfolding rows_in group_tcp tcp_in
never_a_transfer image a connection switches id n route udp e =
    let few : length (body_of image Route) / 16 ≤ 64 = omega (arith, body-rows image a.laid Route, a.most Route) in
    let all : rows_in (body_of image Route) ≡ length (body_of image Route) / 16 = rw (le-leb (length (body_of image Route) / 16) 64 few) in
    never_transfers (body_of image Route) (tcp_of image) connection switches id n route
    (λ r h m. eq-eqb _ _ (a.marked r (omega (arith, h, all, body-rows image a.laid Route)) m)) udp e
