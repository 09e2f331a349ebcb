-- An accepted image keeps the rules of the table.
use Rattle.std.proofs.Common.{Ok}
use Prim.Native.Nat.{ℕ, ◌+◌, ◌<◌, ◌≤◌}
use mathlib.Core.Path.{◌≡◌, refl}
use mathlib.Core.Bool.{Bool, true, false, not, ◌&&◌, ◌||◌}
use mathlib.Core.List.{List}
use native.Mathlib.Omega.{arith}
use lib.Dec.{leb, ltb, eqb}
use lib.ListN.{length}
use borrow.Author.Tests.{leb-true, ltb-true, eqb-true, eq-eqb, not-true}
use Rattle.wire.specs.Be.{be}
use Rattle.lists.proofs.Both.{and_left, and_right, and3, and4, and_both, impossible}
use Rattle.lists.proofs.Search.{none_bad, every-at}
use Rattle.table_layout.specs.Layout.{number, most_rows, entry_at, rows_of, start_of, end_of, row_at, row_of, Laid}
use Rattle.table_layout.specs.declared.Kind.{Kind}
use Rattle.table_layout.specs.declared.Kind.TheVariants.{Group, Connection, Route, Destination}
use Rattle.table_rows.specs.Rows.{
  group_row,
  connection_row,
  route_row,
  destination_row,
  group_zero,
  automatic_byte,
  transfer_byte,
  route_zero,
  trigger_byte,
}
use Rattle.table_rows.specs.Rules.{group_good, connection_good, route_good, destination_good, size_in, group_tcp, tcp_in, routes_share, destinations_share}
use Rattle.table_scan.specs.Scan.{share, clear_in, good_in}
use Rattle.table.specs.Table.{head_good, entry_good, group_tcp_of, tcp_of, size_of, rule, row_good, bad_row}
use Rattle.table.specs.Table.{demand, rows_place, entries_place, head_place, all_rows_place, check_table}
use Rattle.table.specs.Accepts.{Accepts}
use Rattle.table.proofs.Answers.{then_first, then_second, demand-held}

-- the tests of a contents entry as facts
pub entry_facts : (k n o w most start : ℕ) → eqb k w && leb n most && eqb o start ≡ true → (k ≡ w) × (n ≤ most) × (o ≡ start)
entry_facts k n o w most start e = let f = and3 (eqb k w) (leb n most) (eqb o start) e in (eqb-true _ _ f.0, leb-true _ _ f.1, eqb-true _ _ f.2)

-- good contents have their bytes 0..3 and their entries, no kind with too many rows, and each body's offset
module _ (s : List ℕ) (good : head_place s ≡ Ok tt) where
  pub contents-head : head_good s ≡ true
  unfolding head_place
  contents-head = demand-held _ 0 (then_first _ _ good)

  entries : entries_place s ≡ Ok tt
  unfolding head_place
  entries = then_second _ _ good

  pub contents_entry : (k : Kind) → entry_good s k ≡ true
  unfolding entries_place
  contents_entry Group = demand-held _ 4 (then_first _ _ entries)
  contents_entry Connection = demand-held _ 12 (then_first _ _ (then_second _ _ entries))
  contents_entry Route = demand-held _ 20 (then_first _ _ (then_second _ _ (then_second _ _ entries)))
  contents_entry Destination = demand-held _ 28 (then_second _ _ (then_second _ _ (then_second _ _ entries)))

  entry_tests : (k : Kind) → (be 2 s (entry_at k) ≡ number k) × (rows_of s k ≤ most_rows k) × (be 4 s (entry_at k + 4) ≡ start_of s k)
  unfolding entry_good
  entry_tests k = entry_facts (be 2 s (entry_at k)) (rows_of s k) (be 4 s (entry_at k + 4)) (number k) (most_rows k) (start_of s k) (contents_entry k)

  pub contents-most : (k : Kind) → rows_of s k ≤ most_rows k
  contents-most k = (entry_tests k).1

  pub contents-starts : (k : Kind) → be 4 s (entry_at k + 4) ≡ start_of s k
  contents-starts k = (entry_tests k).2

module _ (s : List ℕ) (e : check_table s ≡ Ok tt) where
  -- the four parts of the check
  head : demand (leb 36 (length s)) 0 ≡ Ok tt
  unfolding check_table
  head = then_first _ _ e

  contents : head_place s ≡ Ok tt
  unfolding check_table
  contents = then_first _ _ (then_second (demand (leb 36 (length s)) 0) _ e)

  total : demand (eqb (length s) (end_of s)) 2 ≡ Ok tt
  unfolding check_table
  total = then_first _ (all_rows_place s) (then_second (head_place s) _ (then_second (demand (leb 36 (length s)) 0) _ e))

  rows : all_rows_place s ≡ Ok tt
  unfolding check_table
  rows = then_second _ _ (then_second (head_place s) _ (then_second (demand (leb 36 (length s)) 0) _ e))

  pub accepted-laid : Laid s
  accepted-laid =
      record {
        head = leb-true _ _ (demand-held (leb 36 (length s)) 0 head);
        whole = eqb-true _ _ (demand-held (eqb (length s) (end_of s)) 2 total);
        starts = contents-starts s contents;
      }

  most : (k : Kind) → rows_of s k ≤ most_rows k
  most = contents-most s contents

  placed : (k : Kind) → rows_place s k ≡ Ok tt
  unfolding all_rows_place
  placed Group = then_first _ _ rows
  placed Connection = then_first _ _ (then_second _ _ rows)
  placed Route = then_first _ _ (then_second _ _ (then_second _ _ rows))
  placed Destination = then_second _ _ (then_second _ _ (then_second _ _ rows))

  -- every row is good, by itself and among the earlier ones
  pub accepted-row : (k : Kind) (i : ℕ) → i < rows_of s k → row_good s k i ≡ true
  accepted-row k i h =
      none_bad (row_good s k) (rows_of s k)
      (leb-true (rows_of s k) (bad_row s k) (demand-held (leb (rows_of s k) (bad_row s k)) (row_at s k (bad_row s k)) (placed k))) i h

  ruled : (k : Kind) (i : ℕ) → i < rows_of s k → rule s k (row_of s k i) ≡ true
  unfolding good_in
  ruled k i h = and_left (rule s k (row_of s k i)) _ (accepted-row k i h)

  unshared : (k : Kind) (i j : ℕ) → i < j → j < rows_of s k → share k (row_of s k i) (row_of s k j) ≡ false
  unfolding good_in clear_in
  unshared k i j l h = not-true _ (every-at _ j i (and_right (rule s k (row_of s k j)) _ (accepted-row k j h)) l)

  -- each kind's rule, test by test
  group-rule : (i : ℕ) → i < rows_of s Group → group_good (row_of s Group i) ≡ true
  unfolding rule
  group-rule i h = ruled Group i h

  connection-rule : (i : ℕ) → i < rows_of s Connection → connection_good (rows_of s Group) (group_tcp_of s) (row_of s Connection i) ≡ true
  unfolding rule
  connection-rule i h = ruled Connection i h

  route-rule : (i : ℕ) → i < rows_of s Route → route_good (rows_of s Connection) (tcp_of s) (row_of s Route i) ≡ true
  unfolding rule
  route-rule i h = ruled Route i h

  destination-rule : (i : ℕ) → i < rows_of s Destination → destination_good (rows_of s Connection) (size_of s) (row_of s Destination i) ≡ true
  unfolding rule
  destination-rule i h = ruled Destination i h

pub record GroupFacts (row : List ℕ) : Type 0 where
  pub low : 1 ≤ (group_row row).protocol
  pub high : (group_row row).protocol ≤ 2

pub record ConnectionFacts (groups : ℕ) (tcp : ℕ → Bool) (row : List ℕ) : Type 0 where
  pub group : (connection_row row).group < groups
  pub automatic : automatic_byte row ≤ 1
  pub low : 8 ≤ (connection_row row).size
  pub high : (connection_row row).size ≤ 1472
  pub unlimited : tcp (connection_row row).group ≡ true → (connection_row row).alive ≡ 0

pub record RouteFacts (connections : ℕ) (tcp : ℕ → Bool) (row : List ℕ) : Type 0 where
  pub connection : (route_row row).connection < connections
  pub transfer : transfer_byte row ≤ 1
  pub marked : (route_row row).transfer ≡ true → tcp (route_row row).connection ≡ true
  pub longest : (route_row row).longest ≤ 1464

pub record DestinationFacts (connections : ℕ) (size : ℕ → ℕ) (row : List ℕ) : Type 0 where
  pub connection : (destination_row row).connection < connections
  pub trigger : trigger_byte row ≤ 1
  pub longest : (destination_row row).longest ≤ 1464
  pub fits : (destination_row row).longest + 8 ≤ size (destination_row row).connection

group_facts : (row : List ℕ) → group_good row ≡ true → GroupFacts row
unfolding group_good
group_facts row e =
    let f = and3 (leb 1 (group_row row).protocol) (leb (group_row row).protocol 2) (eqb (group_zero row) 0) e in
    record { low = leb-true _ _ f.0; high = leb-true _ _ f.1 }

-- what holds where the first does not fail, and where the second does
where_first : (a b : Bool) → (not a || b) ≡ true → a ≡ true → b ≡ true
where_first true b e h = e
where_first false b e h = impossible h

where_second : (a b : Bool) → (a || not b) ≡ true → b ≡ true → a ≡ true
where_second true b e h = refl
where_second false true e h = e
where_second false false e h = impossible h

connection_facts : (groups : ℕ) (tcp : ℕ → Bool) (row : List ℕ) → connection_good groups tcp row ≡ true → ConnectionFacts groups tcp row
unfolding connection_good
connection_facts groups tcp row e =
    let v = connection_row row in
    let a = ltb v.group groups in
    let b = leb (automatic_byte row) 1 in
    let c = leb 8 v.size in
    let d = leb v.size 1472 in
    let z = eqb v.alive 0 || not (tcp v.group) in
    let f = and4 a b c d (and_left (a && b && c && d) z e) in
    record {
      group = ltb-true _ _ f.0;
      automatic = leb-true _ _ f.1;
      low = leb-true _ _ f.2;
      high = leb-true _ _ f.3;
      unlimited = λ t. eqb-true _ _ (where_second _ _ (and_right (a && b && c && d) z e) t);
    }

route_facts : (connections : ℕ) (tcp : ℕ → Bool) (row : List ℕ) → route_good connections tcp row ≡ true → RouteFacts connections tcp row
unfolding route_good
route_facts connections tcp row e =
    let v = route_row row in
    let a = ltb v.connection connections in
    let b = leb (transfer_byte row) 1 in
    let c = not v.transfer || tcp v.connection in
    let d = leb v.longest 1464 in
    let f = and4 a b c d (and_left (a && b && c && d) (eqb (route_zero row) 0) e) in
    record { connection = ltb-true _ _ f.0; transfer = leb-true _ _ f.1; marked = where_first _ _ f.2; longest = leb-true _ _ f.3 }

destination_facts : (connections : ℕ) (size : ℕ → ℕ) (row : List ℕ) → destination_good connections size row ≡ true → DestinationFacts connections size row
unfolding destination_good
destination_facts connections size row e =
    let v = destination_row row in
    let f = and4 (ltb v.connection connections) (leb (trigger_byte row) 1) (leb v.longest 1464) (leb (v.longest + 8) (size v.connection)) e in
    record { connection = ltb-true _ _ f.0; trigger = leb-true _ _ f.1; longest = leb-true _ _ f.2; fits = leb-true _ _ f.3 }

module _ (s : List ℕ) (e : check_table s ≡ Ok tt) (i : ℕ) where
  groups-keep : i < rows_of s Group → GroupFacts (row_of s Group i)
  groups-keep h = group_facts (row_of s Group i) (group-rule s e i h)

  connections-keep : i < rows_of s Connection → ConnectionFacts (rows_of s Group) (group_tcp_of s) (row_of s Connection i)
  connections-keep h = connection_facts (rows_of s Group) (group_tcp_of s) (row_of s Connection i) (connection-rule s e i h)

  routes-keep : i < rows_of s Route → RouteFacts (rows_of s Connection) (tcp_of s) (row_of s Route i)
  routes-keep h = route_facts (rows_of s Connection) (tcp_of s) (row_of s Route i) (route-rule s e i h)

  destinations-keep : i < rows_of s Destination → DestinationFacts (rows_of s Connection) (size_of s) (row_of s Destination i)
  destinations-keep h = destination_facts (rows_of s Connection) (size_of s) (row_of s Destination i) (destination-rule s e i h)

-- a test of sharing that fails
apart_of : (share : Bool) → share ≡ false → share ≡ true → ⊥
apart_of share f t = let z : ◌≡◌ {A = ℕ} 0 1 = cc in omega arith

-- the rules of the table, as facts of its rows
pub accepted_facts : (s : List ℕ) → check_table s ≡ Ok tt → Accepts s
unfolding group_row connection_row route_row destination_row size_in group_tcp tcp_in share routes_share destinations_share
accepted_facts s e =
    record {
      laid = accepted-laid s e;
      most = most s e;
      protocol = λ i h. ((groups-keep s e i h).low, (groups-keep s e i h).high);
      owned = λ i h. (connections-keep s e i h).group;
      automatic = λ i h. (connections-keep s e i h).automatic;
      sized = λ i h. ((connections-keep s e i h).low, (connections-keep s e i h).high);
      unlimited = λ i h t. (connections-keep s e i h).unlimited (eq-eqb _ _ t);
      routed = λ i h. (routes-keep s e i h).connection;
      transfer = λ i h. (routes-keep s e i h).transfer;
      marked = λ i h m. eqb-true _ _ ((routes-keep s e i h).marked m);
      longest = λ i h. (routes-keep s e i h).longest;
      routes_apart = λ i j l h p q. apart_of _ (unshared s e Route i j l h) (and_both (eq-eqb _ _ p) (eq-eqb _ _ q));
      there = λ i h. (destinations-keep s e i h).connection;
      trigger = λ i h. (destinations-keep s e i h).trigger;
      most_sent = λ i h. (destinations-keep s e i h).longest;
      fits = λ i h. (destinations-keep s e i h).fits;
      destinations_apart = λ i j l h p q. apart_of _ (unshared s e Destination i j l h) (and_both (eq-eqb _ _ p) (eq-eqb _ _ q));
    }
