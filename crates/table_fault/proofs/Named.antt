-- The place that the spot of a refusal names is the check's, and what stands there is bad; the spot of a spot's place is
-- that spot.
use Rattle.std.proofs.Common.{Result, Ok, Err}
use Prim.Native.Nat.{ℕ, ◌-◌, ◌/◌, ◌<◌, ◌≤◌}
use mathlib.Core.Path.{◌≡◌, refl, sym, ap, ◌∙◌}
use mathlib.Core.Bool.{Bool, true, false}
use mathlib.Core.List.{List}
use native.Mathlib.Omega.{arith}
use native.Mathlib.Nat.{add-sub_cancel_left, mul-div_cancel}
use lib.Dec.{leb, eqb}
use lib.ListN.{length}
use borrow.Author.Tests.{ne_eqb, leb-false}
use Rattle.table_layout.specs.Layout.{row_bytes, rows_of, body_bytes, start_of, end_of, row_at}
use Rattle.table_layout.specs.declared.Kind.{Kind}
use Rattle.table_layout.specs.declared.Kind.TheVariants.{Group, Connection, Route, Destination}
use Rattle.lists.proofs.Both.{and_first, and_second}
use Rattle.table.specs.Table.{head_good, entry_good, row_good, bad_row, demand, then_check, rows_place, entries_place, head_place, all_rows_place, check_table}
use Rattle.table.specs.declared.BadTable.TheVariants.{At}
use Rattle.table_fault.specs.Spots.{spot_place, row_spot, spot_of}
use Rattle.table_fault.specs.Good.{There, good_at}
use Rattle.table_fault.specs.declared.Spot.{Spot}
use Rattle.table_fault.specs.declared.Spot.TheVariants.{Head, Entry, Total, Row}
use Rattle.lists.proofs.Search.{found-bad}
use Rattle.table_fault.proofs.Ways.{in_groups, in_connections, in_routes, in_destinations}
use Rattle.table.specs.declared.BadTable.{BadTable}

-- what follows from a refusal of either follows from the refusal of the two
by_either : {P : Type 0} (a b : Result Unit BadTable) (p : ℕ) → (a ≡ Err (At p) → P) → (b ≡ Err (At p) → P) → then_check a b ≡ Err (At p) → P
unfolding then_check
by_either (Ok tt) b p f g e = g e
by_either (Err (At q)) b p f g e = f e

-- a demand that is refused: its place, and its test
asked : (t : Bool) (q p : ℕ) → demand t q ≡ Err (At p) → (q ≡ p) × (t ≡ false)
asked true q p e = absurd (let z : ◌≡◌ {A = ℕ} 0 1 = cc in omega arith)
asked false q p e = (cc, refl)

module _ (s : List ℕ) where
  -- a row's place leads to the row
  row_steps : (k : Kind) (i : ℕ) → 0 < row_bytes s k → i ≡ (row_at s k i - start_of s k) / row_bytes s k
  unfolding row_at
  row_steps k i h = rw (add-sub_cancel_left) (sym (mul-div_cancel i h))

  -- and stands between the starts of its kind's body and of the next
  groups_below : (i : ℕ) → i < rows_of s Group → row_at s Group i < start_of s Connection
  unfolding row_at start_of body_bytes
  groups_below i h = omega arith

  connections_below : (i : ℕ) → i < rows_of s Connection → row_at s Connection i < start_of s Route
  unfolding row_at start_of body_bytes
  connections_below i h = omega arith

  routes_below : (i : ℕ) → i < rows_of s Route → row_at s Route i < start_of s Destination
  unfolding row_at start_of body_bytes
  routes_below i h = omega arith

  above : (k : Kind) (i : ℕ) → start_of s k ≤ row_at s k i
  unfolding row_at
  above k i = omega arith

  starts : (start_of s Connection ≤ start_of s Route) × (start_of s Route ≤ start_of s Destination) × (36 ≤ start_of s Connection)
  unfolding start_of
  starts = (omega arith, omega arith, omega arith)

  row_named : (k : Kind) (i : ℕ) → i < rows_of s k → Row k i ≡ row_spot s (row_at s k i)
  row_named Group i h = in_groups s (row_at s Group i) refl (groups_below i h) (row_steps Group i (omega arith))
  row_named Connection i h =
      in_connections s (row_at s Connection i) refl (above Connection i) refl (connections_below i h) (row_steps Connection i (omega arith))
  row_named Route i h =
      in_routes s (row_at s Route i) refl (omega (arith, above Route i, starts.0)) refl
      (above Route i) refl (routes_below i h) (row_steps Route i (omega arith))
  row_named Destination i h =
      in_destinations s (row_at s Destination i) refl (omega (arith, above Destination i, starts.0, starts.1)) refl
      (omega (arith, above Destination i, starts.1)) refl (above Destination i)
      (row_steps Destination i (omega arith))

  first : (k : Kind) → 36 ≤ start_of s k
  unfolding start_of
  first Group = omega arith
  first Connection = omega arith
  first Route = omega arith
  first Destination = omega arith

  spot-row : (p : ℕ) → 36 ≤ p → spot_of s p ≡ row_spot s p
  unfolding spot_of
  spot-row p h =
      rw (
        ne_eqb p 0 (λ e. omega arith),
        ne_eqb p 2 (λ e. omega arith),
        ne_eqb p 4 (λ e. omega arith),
        ne_eqb p 12 (λ e. omega arith),
        ne_eqb p 20 (λ e. omega arith),
        ne_eqb p 28 (λ e. omega arith),
      )

  -- the spot of a spot's place
  row_back : (k : Kind) (i : ℕ) → i < rows_of s k → spot_of s (row_at s k i) ≡ Row k i
  row_back k i h =
      let l : 36 ≤ row_at s k i = omega (arith, first k, above k i) in
      spot-row (row_at s k i) l ∙ sym (row_named k i h)

  pub spot_back : (at : Spot) → There s at → spot_of s (spot_place s at) ≡ at
  unfolding There spot_place spot_of
  spot_back Head h = refl
  spot_back Total h = refl
  spot_back (Entry Group) h = refl
  spot_back (Entry Connection) h = refl
  spot_back (Entry Route) h = refl
  spot_back (Entry Destination) h = refl
  spot_back (Row k i) h = row_back k i h

  -- a place is its spot's, and the spot is bad
  abbrev Bad : ℕ → Type 0
  Bad p = (spot_place s (spot_of s p) ≡ p) × (good_at s (spot_of s p) ≡ false)

  rows-bad : (k : Kind) (p : ℕ) → rows_place s k ≡ Err (At p) → Bad p
  unfolding spot_place good_at
  rows-bad k p e =
      let i = bad_row s k in
      let a = asked (leb (rows_of s k) i) (row_at s k i) p e in
      let h : i < rows_of s k = leb-false (rows_of s k) i a.1 in
      let b = row_back k i h in
      rw (← a.0) (ap (spot_place s) b, ap (good_at s) b ∙ found-bad (row_good s k) (rows_of s k) h)

  literal : (t : Bool) (q p : ℕ) → spot_place s (spot_of s q) ≡ q → (t ≡ false → good_at s (spot_of s q) ≡ false) → demand t q ≡ Err (At p) → Bad p
  literal t q p h g e = let a = asked t q p e in rw (← a.0) (h, g a.1)

  -- the literal places
  short-bad : (p : ℕ) → demand (leb 36 (length s)) 0 ≡ Err (At p) → Bad p
  unfolding spot_place spot_of good_at
  short-bad p = literal (leb 36 (length s)) 0 p refl (and_first (leb 36 (length s)) (head_good s))

  zero-bad : (p : ℕ) → demand (head_good s) 0 ≡ Err (At p) → Bad p
  unfolding spot_place spot_of good_at
  zero-bad p = literal (head_good s) 0 p refl (and_second (leb 36 (length s)) (head_good s))

  total_bad : (p : ℕ) → demand (eqb (length s) (end_of s)) 2 ≡ Err (At p) → Bad p
  unfolding spot_place spot_of good_at
  total_bad p = literal (eqb (length s) (end_of s)) 2 p refl (λ e. e)

  groups-bad : (p : ℕ) → demand (entry_good s Group) 4 ≡ Err (At p) → Bad p
  unfolding spot_place spot_of good_at
  groups-bad p = literal (entry_good s Group) 4 p refl (λ e. e)

  connections-bad : (p : ℕ) → demand (entry_good s Connection) 12 ≡ Err (At p) → Bad p
  unfolding spot_place spot_of good_at
  connections-bad p = literal (entry_good s Connection) 12 p refl (λ e. e)

  routes-bad : (p : ℕ) → demand (entry_good s Route) 20 ≡ Err (At p) → Bad p
  unfolding spot_place spot_of good_at
  routes-bad p = literal (entry_good s Route) 20 p refl (λ e. e)

  destinations-bad : (p : ℕ) → demand (entry_good s Destination) 28 ≡ Err (At p) → Bad p
  unfolding spot_place spot_of good_at
  destinations-bad p = literal (entry_good s Destination) 28 p refl (λ e. e)

  entries-bad : (p : ℕ) → entries_place s ≡ Err (At p) → Bad p
  unfolding entries_place
  entries-bad p =
      by_either (demand (entry_good s Group) 4) _ p (groups-bad p)
      (by_either (demand (entry_good s Connection) 12) _ p (connections-bad p)
      (by_either (demand (entry_good s Route) 20) _ p (routes-bad p) (destinations-bad p)))

  head-bad : (p : ℕ) → head_place s ≡ Err (At p) → Bad p
  unfolding head_place
  head-bad p = by_either (demand (head_good s) 0) _ p (zero-bad p) (entries-bad p)

  all-bad : (p : ℕ) → all_rows_place s ≡ Err (At p) → Bad p
  unfolding all_rows_place
  all-bad p =
      by_either (rows_place s Group) _ p (rows-bad Group p)
      (by_either (rows_place s Connection) _ p (rows-bad Connection p)
      (by_either (rows_place s Route) _ p (rows-bad Route p) (rows-bad Destination p)))

  refused-bad : (p : ℕ) → check_table s ≡ Err (At p) → Bad p
  unfolding check_table
  refused-bad p =
      by_either (demand (leb 36 (length s)) 0) _ p (short-bad p)
      (by_either (head_place s) _ p (head-bad p)
      (by_either (demand (eqb (length s) (end_of s)) 2) _ p (total_bad p) (all-bad p)))

  pub named : (p : ℕ) → check_table s ≡ Err (At p) → spot_place s (spot_of s p) ≡ p
  named p e = (refused-bad p e).0

  pub bad-there : (p : ℕ) → check_table s ≡ Err (At p) → good_at s (spot_of s p) ≡ false
  bad-there p e = (refused-bad p e).1
