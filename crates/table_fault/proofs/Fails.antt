-- Of a good spot nothing is told, of a bad one a fault whose test its numbers fail. So every refusal has a reason, and
-- the reason is a test that fails.
use Rattle.std.proofs.Common.{Ok, Err}
use Prim.Native.Nat.{ℕ}
use mathlib.Core.Path.{◌≡◌, refl, ap, ◌∙◌}
use mathlib.Core.Bool.{Bool, true, false, cond, not, ◌&&◌, ◌||◌}
use mathlib.Core.List.{List}
use native.Mathlib.Decide.{ℕ_discrete}
use native.Mathlib.Omega.{arith}
use borrow.Author.Tests.{le-leb, lt-leb, eq-eqb, ne_eqb}
use lib.Dec.{leb, ltb, eqb}
use Rattle.std.proofs.Common.{Option, None, Some}
use lib.ListN.{length}
use Rattle.wire.specs.Be.{be}
use Rattle.lists.specs.Search.{first_bad, every}
use Rattle.lists.proofs.Both.{and_both}
use Rattle.table_layout.specs.Layout.{number, most_rows, entry_at, row_bytes, rows_of, start_of, end_of, body_of, row_of}
use Rattle.table_layout.specs.declared.Kind.{Kind}
use Rattle.table_layout.specs.declared.Kind.TheVariants.{Group, Connection, Route, Destination}
use Rattle.table_rows.specs.Rows.{
  group_row,
  connection_row,
  route_row,
  destination_row,
  group_zero_at,
  group_zero,
  automatic_byte,
  transfer_byte,
  route_zero_at,
  route_zero,
  trigger_byte,
  group_of,
}
use Rattle.table_rows.specs.Rules.{group_good, connection_good, route_good, destination_good, group_tcp}
use Rattle.table_scan.specs.Scan.{good_in}
use Rattle.table_scan.proofs.Rows.{free, groups_free, connections_free}
use Rattle.table.specs.Table.{head_good, entry_good, group_tcp_of, tcp_of, size_of, rule, row_good, demand, head_place, entries_place, all_rows_place}
use Rattle.table.specs.Table.{check_table}
use Rattle.table.specs.declared.BadTable.TheVariants.{At}
use Rattle.table.proofs.Answers.{then_first, then_second, demand-held}
use Rattle.table.proofs.Facts.{accepted-row}
use Rattle.table_fault.specs.Spots.{spot_place, spot_of}
use Rattle.table_fault.specs.Faults.{
  fault_told,
  no_fault,
  passes_test,
  unless,
  head_fault,
  entry_fault,
  total_fault,
  group_fault,
  connection_fault,
  most_mark,
  route_fault,
  destination_fault,
  shares_nothing,
  shared_fault,
  row_fault,
  fault_at,
  reason_at,
}
use Rattle.table_fault.specs.Good.{There, good_at, Tells}
use Rattle.table_fault.specs.declared.Spot.{Spot}
use Rattle.table_fault.specs.declared.Spot.TheVariants.{Head, Entry, Total, Row}
use Rattle.table_fault.specs.declared.Fault.{Fault}
use Rattle.table_fault.specs.declared.Fault.TheVariants.{
  Short,
  Edition,
  Number,
  WrongKind,
  TooMany,
  Offset,
  Length,
  Protocol,
  Zero,
  NoGroup,
  Automatic,
  SendSize,
  NoConnection,
  Longest,
  Trigger,
  Room,
  Shared,
  Transfer,
  NotTcp,
  NotUdp,
}
use Rattle.table_fault.specs.declared.Told.{Told}
use Rattle.table_fault.proofs.Named.{bad-there, spot_back}

-- one test and the rest
test : (f : Fault) (x n : ℕ) (b : Bool) (rest : Option Told) → Tells b rest → Tells (passes_test f x n && b) (unless f x n rest)
unfolding unless Tells fault_told
test f x n b rest h = go (passes_test f x n) refl
  where
    go : (t : Bool) → passes_test f x n ≡ t → Tells (t && b) (cond t rest (Some (fault_told f x n)))
    go true e = h
    go false e = e

-- the last test
last : (f : Fault) (x n : ℕ) → Tells (passes_test f x n) (unless f x n no_fault)
unfolding unless Tells fault_told
last f x n = go (passes_test f x n) refl
  where
    go : (t : Bool) → passes_test f x n ≡ t → Tells t (cond t no_fault (Some (fault_told f x n)))
    go true e = refl
    go false e = e

-- tests by another name
same : {a b : Bool} (t : Option Told) → a ≡ b → Tells a t → Tells b t
same t e h = rw (← e) h

three : (a b c : Bool) → a && (b && c) ≡ a && b && c
three true b c = refl
three false b c = refl

five : (a b c d e : Bool) → a && (b && (c && (d && e))) ≡ a && b && c && d && e
five true true c d e = three c d e
five true false c d e = refl
five false b c d e = refl

six : (a b c d e f : Bool) → a && (b && (c && (d && (e && f)))) ≡ a && b && c && d && e && f
six true b c d e f = five b c d e f
six false b c d e f = refl

-- a mark of 0 or 1 is not above the highest: it is 0, or the connection is TCP
not_above : (m : ℕ) (t x : Bool) → leb m 1 && (leb m (most_mark t) && x) ≡ leb m 1 && ((not (eqb m 1) || t) && x)
not_above m t x = go (ℕ_discrete m 0) (ℕ_discrete m 1) t
  where
    go : Dec (m ≡ 0) → Dec (m ≡ 1) → (u : Bool) → leb m 1 && (leb m (most_mark u) && x) ≡ leb m 1 && ((not (eqb m 1) || u) && x)
    go (yes e) d u = let n : m ≡ 1 → ⊥ = λ f. omega arith in rw (le-leb m 1 (omega arith), le-leb m (most_mark u) (omega arith), ne_eqb m 1 n)
    go (no n) (yes e) true = rw (le-leb m 1 (omega arith), eq-eqb m 1 e)
    go (no n) (yes e) false = rw (le-leb m 1 (omega arith), lt-leb m 0 (omega arith), eq-eqb m 1 e)
    go (no n) (no k) u = rw (lt-leb m 1 (omega arith))

sized : (a b c d e : Bool) → a && (b && ((c && d) && e)) ≡ a && b && c && d && e
sized true true c d e = refl
sized true false c d e = refl
sized false b c d e = refl

with-true : (a b : Bool) → true ≡ b → a ≡ a && b
with-true true b e = e
with-true false b e = refl

module _ (s : List ℕ) where
  head_tells : Tells (good_at s Head) (head_fault s)
  unfolding good_at head_good head_fault passes_test
  head_tells = test Short (length s) 36 _ _ (test Edition (be 2 s 0) 1 _ _ (last Number (be 2 s 2) 4))

  entry_tells : (k : Kind) → Tells (entry_good s k) (entry_fault s k)
  unfolding entry_good entry_fault passes_test
  entry_tells k =
      same _ (three (eqb (be 2 s (entry_at k)) (number k)) (leb (rows_of s k) (most_rows k)) _)
      (test WrongKind (be 2 s (entry_at k)) (number k) _ _ (test TooMany (rows_of s k) (most_rows k) _ _ (last Offset _ (start_of s k))))

  total_tells : Tells (eqb (length s) (end_of s)) (total_fault s)
  unfolding total_fault passes_test
  total_tells = last Length (length s) (end_of s)

  shared_tells : (k : Kind) (i : ℕ) → Tells (every (shares_nothing s k i) i) (shared_fault s k i)
  unfolding shared_fault Tells passes_test fault_told
  shared_tells k i = go (every (shares_nothing s k i) i)
    where
      go : (b : Bool) → Tells b (cond b no_fault (Some (fault_told Shared (first_bad (shares_nothing s k i) i) 0)))
      go true = refl
      go false = refl

  group_tells : (row : List ℕ) → Tells (group_good row) (group_fault row)
  unfolding group_good group_fault passes_test
  group_tells row = test Protocol (group_row row).protocol 2 _ _ (last Zero (group_zero row) group_zero_at)

  connection_tells : (row : List ℕ)
      → Tells (connection_good (rows_of s Group) (group_tcp_of s) row) (connection_fault (rows_of s Group) (group_of s (connection_row row).group).protocol row)
  unfolding connection_good group_tcp connection_fault passes_test
  connection_tells row =
      let v = connection_row row in
      let protocol = (group_of s v.group).protocol in
      let there = ltb v.group (rows_of s Group) in
      same _ (sized there (leb (automatic_byte row) 1) (leb 8 v.size) (leb v.size 1472) (eqb v.alive 0 || not (eqb protocol 2)))
      (test NoGroup v.group (rows_of s Group) _ _
      (test Automatic (automatic_byte row) 1 _ _
      (test SendSize v.size 1472 _ _
      (last NotUdp v.alive protocol))))

  route_tells : (connections : ℕ) (tcp : ℕ → Bool) (row : List ℕ) (b : Bool) (shared : Option Told) → Tells b shared
      → Tells (route_good connections tcp row && b) (route_fault connections (most_mark (tcp (route_row row).connection)) shared row)
  unfolding route_good route_row route_fault passes_test
  route_tells connections tcp row b shared h =
      let v = route_row row in
      let m = transfer_byte row in
      let there = ltb v.connection connections in
      let long = leb v.longest 1464 in
      let zeros = eqb (route_zero row) 0 in
      let tp = not v.transfer || tcp v.connection in
      same _ (ap (λ (y : Bool). there && y) (not_above m (tcp v.connection) (long && (zeros && b))) ∙ six there (leb m 1) tp long zeros b)
      (test NoConnection v.connection connections _ _
      (test Transfer m 1 _ _
      (test NotTcp m (most_mark (tcp v.connection)) _ _
      (test Longest v.longest 1464 _ _
      (test Zero (route_zero row) route_zero_at _ _ h)))))

  destination_tells : (connections : ℕ) (size : ℕ → ℕ) (row : List ℕ) (b : Bool) (shared : Option Told) → Tells b shared
      → Tells (destination_good connections size row && b) (destination_fault connections (size (destination_row row).connection) shared row)
  unfolding destination_good destination_fault passes_test
  destination_tells connections size row b shared h =
      let v = destination_row row in
      same _ (five (ltb v.connection connections) (leb (trigger_byte row) 1) (leb v.longest 1464) _ _)
      (test NoConnection v.connection connections _ _
      (test Trigger (trigger_byte row) 1 _ _
      (test Longest v.longest 1464 _ _
      (test Room v.longest (size v.connection) _ _ h))))

  row_tells : (k : Kind) (i : ℕ) → Tells (row_good s k i) (row_fault s k i)
  unfolding good_in rule row_fault
  row_tells Group i = same _ (with-true _ _ (free Group (row_bytes s Group) (body_of s Group) i groups_free)) (group_tells (row_of s Group i))
  row_tells Connection i =
      same _ (with-true _ _ (free Connection (row_bytes s Connection) (body_of s Connection) i connections_free)) (connection_tells (row_of s Connection i))
  row_tells Route i = route_tells (rows_of s Connection) (tcp_of s) (row_of s Route i) _ _ (shared_tells Route i)
  row_tells Destination i = destination_tells (rows_of s Connection) (size_of s) (row_of s Destination i) _ _ (shared_tells Destination i)

  pub told_fails : (at : Spot) → Tells (good_at s at) (fault_at s at)
  unfolding good_at fault_at
  told_fails Head = head_tells
  told_fails (Entry k) = entry_tells k
  told_fails Total = total_tells
  told_fails (Row k i) = row_tells k i

  -- the reason of a refusal is a test that fails
  pub refused-fails : (p : ℕ) → check_table s ≡ Err (At p) → Tells false (reason_at s p).told
  unfolding reason_at
  refused-fails p e = same _ (bad-there s p e) (told_fails (spot_of s p))

  -- of an accepted image nothing is told, at the place of any of its spots
  module _ (e : check_table s ≡ Ok tt) where
    contents : head_place s ≡ Ok tt
    unfolding check_table
    contents = then_first _ _ (then_second (demand (leb 36 (length s)) 0) _ e)

    entries : entries_place s ≡ Ok tt
    unfolding head_place
    entries = then_second _ _ contents

    head-good : head_good s ≡ true
    unfolding head_place
    head-good = demand-held _ 0 (then_first _ _ contents)

    long_enough : leb 36 (length s) ≡ true
    unfolding check_table
    long_enough = demand-held _ 0 (then_first _ _ e)

    entry-good : (k : Kind) → entry_good s k ≡ true
    unfolding entries_place
    entry-good Group = demand-held _ 4 (then_first _ _ entries)
    entry-good Connection = demand-held _ 12 (then_first _ _ (then_second _ _ entries))
    entry-good Route = demand-held _ 20 (then_first _ _ (then_second _ _ (then_second _ _ entries)))
    entry-good Destination = demand-held _ 28 (then_second _ _ (then_second _ _ (then_second _ _ entries)))

    total_good : eqb (length s) (end_of s) ≡ true
    unfolding check_table
    total_good = demand-held _ 2 (then_first _ (all_rows_place s) (then_second (head_place s) _ (then_second (demand (leb 36 (length s)) 0) _ e)))

    all_good : (at : Spot) → There s at → good_at s at ≡ true
    unfolding There good_at
    all_good Head h = and_both long_enough head-good
    all_good (Entry k) h = entry-good k
    all_good Total h = total_good
    all_good (Row k i) h = accepted-row s e k i h

    pub accepted_none : (at : Spot) → There s at → (reason_at s (spot_place s at)).told ≡ no_fault
    unfolding reason_at Tells
    accepted_none at h = ap (fault_at s) (spot_back s at h) ∙ same _ (all_good at h) (told_fails at)

-- and never nothing
some_fault : (t : Option Told) → Tells false t → t ≡ None → ⊥
unfolding Tells
some_fault None h e = h
some_fault (Some t) h e = cc

pub refused-told : (s : List ℕ) (p : ℕ) → check_table s ≡ Err (At p) → (reason_at s p).told ≡ None → ⊥
refused-told s p e = some_fault _ (refused-fails s p e)
