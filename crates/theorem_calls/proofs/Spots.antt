-- WHAT IS GOOD AT A SPOT, in words and by the check's own tests.
use Prim.Native.Nat.{ℕ, ◌+◌, ◌<◌}
use mathlib.Core.Path.{◌≡◌, refl}
use mathlib.Core.Bool.{Bool, true, false, not, ◌&&◌, ◌||◌}
use mathlib.Core.List.{List}
use lib.Dec.{eqb, leb, ltb}
use lib.ListN.{length}
use borrow.Author.Tests.{eqb-true, eq-eqb, ltb-true, leb-true, lt-ltb, le-leb}
use Rattle.lists.proofs.Both.{impossible, and_left, and_right, and_both, and3, and4}
use Rattle.lists.proofs.Search.{every-at, every-all}
use Rattle.wire.specs.Be.{be}
use Rattle.table_layout.specs.Layout.{number, most_rows, entry_at, rows_of, start_of, row_of}
use Rattle.table_layout.specs.declared.Kind.{Kind}
use Rattle.table_layout.specs.declared.Kind.TheVariants.{Group, Connection, Route, Destination}
use Rattle.table_rows.specs.Rows.{
  group_row,
  connection_row,
  route_row,
  destination_row,
  group_zero,
  automatic_byte,
  transfer_byte,
  route_zero,
  trigger_byte,
  route_of,
  destination_of,
}
use Rattle.table_rows.specs.Rules.{group_good, connection_good, route_good, destination_good, size_in, group_tcp, tcp_in, routes_share, destinations_share}
use Rattle.table_scan.specs.Scan.{share, clear_in, good_in}
use Rattle.table.specs.Table.{head_good, entry_good, group_tcp_of, tcp_of, size_of, rule, row_good}
use Rattle.table_fault.specs.declared.Spot.{Spot}
use Rattle.table_fault.specs.declared.Spot.TheVariants.{Head, Entry, Total, Row}
use Rattle.table_fault.specs.Good.{good_at}
use Rattle.theorem_calls.specs.Image.{GoodHead, GoodEntry, GoodGroup, GoodConnection, GoodRoute, GoodDestination, GoodSpot}

-- a test turned over
not_to : (b : Bool) → not b ≡ true → b ≡ true → ⊥
not_to true e f = impossible e
not_to false e f = impossible f

to_not : (b : Bool) → (b ≡ true → ⊥) → not b ≡ true
to_not true h = absurd (h refl)
to_not false h = refl

-- what holds where the first does
from_either : (a b : Bool) → (not a || b) ≡ true → a ≡ true → b ≡ true
from_either true b e h = e
from_either false b e h = impossible h

to-either : (a b : Bool) → (a ≡ true → b ≡ true) → (not a || b) ≡ true
to-either true b h = h refl
to-either false b h = refl

-- and the other way round
from_or : (a b : Bool) → (a || not b) ≡ true → b ≡ true → a ≡ true
from_or true b e h = refl
from_or false true e h = impossible e
from_or false false e h = impossible h

to_or : (a b : Bool) → (b ≡ true → a ≡ true) → (a || not b) ≡ true
to_or true b h = refl
to_or false true h = h refl
to_or false false h = refl

module _ (s : List ℕ) where
  -- THE HEAD, a contents entry
  head_words : good_at s Head ≡ true → GoodHead s
  unfolding good_at head_good
  head_words e =
      let f = and_right (leb 36 (length s)) (eqb (be 2 s 0) 1 && eqb (be 2 s 2) 4) e in
      record {
        long = leb-true _ _ (and_left (leb 36 (length s)) (eqb (be 2 s 0) 1 && eqb (be 2 s 2) 4) e);
        edition = eqb-true _ _ (and_left (eqb (be 2 s 0) 1) (eqb (be 2 s 2) 4) f);
        kinds = eqb-true _ _ (and_right (eqb (be 2 s 0) 1) (eqb (be 2 s 2) 4) f);
      }

  words_head : GoodHead s → good_at s Head ≡ true
  unfolding good_at head_good
  words_head g = rw (le-leb 36 (length s) g.long, eq-eqb _ _ g.edition, eq-eqb _ _ g.kinds)

  entry_words : (k : Kind) → entry_good s k ≡ true → GoodEntry s k
  unfolding entry_good
  entry_words k e =
      let f = and3 (eqb (be 2 s (entry_at k)) (number k)) (leb (rows_of s k) (most_rows k)) (eqb (be 4 s (entry_at k + 4)) (start_of s k)) e in
      record { kind = eqb-true _ _ f.0; most = leb-true _ _ f.1; offset = eqb-true _ _ f.2 }

  words_entry : (k : Kind) → GoodEntry s k → entry_good s k ≡ true
  unfolding entry_good
  words_entry k g =
      let kind = eq-eqb (be 2 s (entry_at k)) (number k) g.kind in
      rw (kind, le-leb (rows_of s k) (most_rows k) g.most, eq-eqb (be 4 s (entry_at k + 4)) (start_of s k) g.offset)

  -- A ROW BY ITSELF, and among the earlier ones
  row_test : (k : Kind) (i : ℕ) → row_good s k i ≡ true → (rule s k (row_of s k i) ≡ true)
      × ((j : ℕ) → j < i → share k (row_of s k j) (row_of s k i) ≡ true → ⊥)
  unfolding good_in clear_in
  row_test k i e = (
    and_left (rule s k (row_of s k i)) _ e,
    λ j h.
        not_to (share k (row_of s k j) (row_of s k i))
        (every-at (λ x. not (share k (row_of s k x) (row_of s k i))) i j (and_right (rule s k (row_of s k i)) _ e) h),
  )

  test_row : (k : Kind) (i : ℕ) → rule s k (row_of s k i) ≡ true → ((j : ℕ) → j < i → share k (row_of s k j) (row_of s k i) ≡ true → ⊥) → row_good s k i ≡ true
  unfolding good_in clear_in
  test_row k i e apart =
      and_both {a = rule s k (row_of s k i)} e
      (every-all (λ x. not (share k (row_of s k x) (row_of s k i))) i (λ j h. to_not (share k (row_of s k j) (row_of s k i)) (apart j h)))

  group_words : (i : ℕ) → row_good s Group i ≡ true → GoodGroup s i
  unfolding rule group_good group_row
  group_words i e =
      let row = row_of s Group i in
      let v = group_row row in
      let f = and3 (leb 1 v.protocol) (leb v.protocol 2) (eqb (group_zero row) 0) (row_test Group i e).0 in
      record { low = leb-true _ _ f.0; high = leb-true _ _ f.1; zero = eqb-true _ _ f.2 }

  words_group : (i : ℕ) → GoodGroup s i → row_good s Group i ≡ true
  unfolding rule group_good group_row share
  words_group i g = test_row Group i (rw (le-leb 1 _ g.low, le-leb _ 2 g.high, eq-eqb _ 0 g.zero)) (λ j h q. impossible q)

  connection_words : (i : ℕ) → row_good s Connection i ≡ true → GoodConnection s i
  unfolding rule connection_good group_tcp connection_row group_row
  connection_words i e =
      let row = row_of s Connection i in
      let v = connection_row row in
      let a = ltb v.group (rows_of s Group) in
      let b = leb (automatic_byte row) 1 in
      let c = leb 8 v.size in
      let d = leb v.size 1472 in
      let z = eqb v.alive 0 || not (group_tcp_of s v.group) in
      let all = (row_test Connection i e).0 in
      let f = and4 a b c d (and_left (a && b && c && d) z all) in
      record {
        group = ltb-true _ _ f.0;
        automatic = leb-true _ _ f.1;
        low = leb-true _ _ f.2;
        high = leb-true _ _ f.3;
        unlimited = λ t. eqb-true _ _ (from_or (eqb v.alive 0) (group_tcp_of s v.group) (and_right (a && b && c && d) z all) (eq-eqb _ 2 t));
      }

  words_connection : (i : ℕ) → GoodConnection s i → row_good s Connection i ≡ true
  unfolding rule connection_good group_tcp connection_row group_row share
  words_connection i g =
      let row = row_of s Connection i in
      let v = connection_row row in
      let z : (eqb v.alive 0 || not (group_tcp_of s v.group)) ≡ true =
      to_or (eqb v.alive 0) (group_tcp_of s v.group) (λ h. eq-eqb _ 0 (g.unlimited (eqb-true _ 2 h))) in
      test_row Connection i (rw (lt-ltb _ _ g.group, le-leb _ 1 g.automatic, le-leb 8 _ g.low, le-leb _ 1472 g.high) z) (λ j h q. impossible q)

  route_words : (i : ℕ) → row_good s Route i ≡ true → GoodRoute s i
  unfolding rule route_good route_row tcp_in group_tcp group_row connection_row share routes_share
  route_words i e =
      let row = row_of s Route i in
      let t = row_test Route i e in
      let v = route_row row in
      let a = ltb v.connection (rows_of s Connection) in
      let b = leb (transfer_byte row) 1 in
      let c = not v.transfer || tcp_of s v.connection in
      let d = leb v.longest 1464 in
      let z = eqb (route_zero row) 0 in
      let f = and4 a b c d (and_left (a && b && c && d) z t.0) in
      record {
        connection = ltb-true _ _ f.0;
        transfer = leb-true _ _ f.1;
        marked = λ m. eqb-true _ _ (from_either v.transfer (tcp_of s v.connection) f.2 m);
        longest = leb-true _ _ f.3;
        zeros = eqb-true _ _ (and_right (a && b && c && d) z t.0);
        apart = λ j h p q. t.1 j h (and_both (eq-eqb _ _ p) (eq-eqb _ _ q));
      }

  words_route : (i : ℕ) → GoodRoute s i → row_good s Route i ≡ true
  unfolding rule route_good route_row tcp_in group_tcp group_row connection_row share routes_share
  words_route i g =
      let row = row_of s Route i in
      let v = route_row row in
      let m : (not v.transfer || tcp_of s v.connection) ≡ true =
      to-either v.transfer (tcp_of s v.connection) (λ h. eq-eqb _ 2 (g.marked h)) in
      test_row Route i
      (and_both (and_both (and_both (and_both (lt-ltb _ _ g.connection) (le-leb _ 1 g.transfer)) m) (le-leb _ 1464 g.longest)) (eq-eqb _ 0 g.zeros))
      (λ j h q.
      let a = eqb (route_of s j).connection (route_of s i).connection in
      let b = eqb (route_of s j).id (route_of s i).id in
      g.apart j h (eqb-true _ _ (and_left a b q)) (eqb-true _ _ (and_right a b q)))

  destination_words : (i : ℕ) → row_good s Destination i ≡ true → GoodDestination s i
  unfolding rule destination_good destination_row connection_row size_in share destinations_share
  destination_words i e =
      let row = row_of s Destination i in
      let t = row_test Destination i e in
      let v = destination_row row in
      let room = leb (v.longest + 8) (size_of s v.connection) in
      let f = and4 (ltb v.connection (rows_of s Connection)) (leb (trigger_byte row) 1) (leb v.longest 1464) room t.0 in
      record {
        connection = ltb-true _ _ f.0;
        trigger = leb-true _ _ f.1;
        longest = leb-true _ _ f.2;
        fits = leb-true _ _ f.3;
        apart = λ j h p q. t.1 j h (and_both (eq-eqb _ _ p) (eq-eqb _ _ q));
      }

  words_destination : (i : ℕ) → GoodDestination s i → row_good s Destination i ≡ true
  unfolding rule destination_good destination_row connection_row size_in share destinations_share
  words_destination i g =
      test_row Destination i (rw (lt-ltb _ _ g.connection, le-leb _ 1 g.trigger, le-leb _ 1464 g.longest, le-leb _ _ g.fits))
      (λ j h q.
      let a = eqb (destination_of s j).pdu (destination_of s i).pdu in
      let b = eqb (destination_of s j).connection (destination_of s i).connection in
      g.apart j h (eqb-true _ _ (and_left a b q)) (eqb-true _ _ (and_right a b q)))

  -- ANY SPOT
  pub spot_words : (t : Spot) → good_at s t ≡ true → GoodSpot s t
  unfolding good_at
  spot_words Head e = head_words e
  spot_words (Entry k) e = entry_words k e
  spot_words Total e = eqb-true _ _ e
  spot_words (Row Group i) e = group_words i e
  spot_words (Row Connection i) e = connection_words i e
  spot_words (Row Route i) e = route_words i e
  spot_words (Row Destination i) e = destination_words i e

  pub words_spot : (t : Spot) → GoodSpot s t → good_at s t ≡ true
  unfolding good_at
  words_spot Head g = words_head g
  words_spot (Entry k) g = words_entry k g
  words_spot Total g = eq-eqb _ _ g
  words_spot (Row Group i) g = words_group i g
  words_spot (Row Connection i) g = words_connection i g
  words_spot (Row Route i) g = words_route i g
  words_spot (Row Destination i) g = words_destination i g
