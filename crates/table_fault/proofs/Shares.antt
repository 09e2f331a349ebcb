-- A row shares what it may not with an earlier one exactly where the search for the first such row ends before it; and
-- where it is told to share with a row, it does.
use Prim.Native.Nat.{ℕ, ◌<◌, ◌≤◌}
use mathlib.Core.Path.{◌≡◌, refl, sym, ap, subst, ◌∙◌}
use mathlib.Core.Bool.{Bool, true, false, cond, false≢true}
use mathlib.Core.List.{List}
use native.Mathlib.Decide.{dec_le}
use native.Mathlib.Omega.{arith}
use borrow.Author.Tests.{not-false}
use Rattle.std.proofs.Common.{Option, None, Some}
use Rattle.lists.specs.Search.{first_bad, every}
use Rattle.lists.proofs.Search.{none_bad, found-bad, every-all, pass_failed}
use Rattle.table_layout.specs.Layout.{rows_of, row_of}
use Rattle.table_layout.specs.declared.Kind.{Kind}
use Rattle.table_layout.specs.declared.Kind.TheVariants.{Group, Connection, Route, Destination}
use Rattle.table_rows.specs.Rows.{group_of, connection_of, route_of, destination_of}
use Rattle.table_scan.specs.Scan.{clear_in}
use Rattle.table.specs.Table.{tcp_of, size_of}
use Rattle.table_fault.specs.Faults.{fault_told, no_fault, passes_test, unless, group_fault, connection_fault}
use Rattle.table_fault.specs.Faults.{most_mark, route_fault, destination_fault, shares_nothing, shared_fault, row_fault}
use Rattle.table_fault.specs.Good.{SharesWith}
use Rattle.table_fault.specs.declared.Fault.{Fault}
use Rattle.table_fault.specs.declared.Fault.TheVariants.{
  Protocol,
  Zero,
  NoGroup,
  Automatic,
  SendSize,
  NoConnection,
  Longest,
  Trigger,
  Room,
  Shared,
  Transfer,
  NotTcp,
  NotUdp,
}
use Rattle.table_fault.specs.declared.Told.{Told}

module _ (good : ℕ → Bool) where
  -- the first bad one is bad, so not every one is good
  some-bad : (n : ℕ) → first_bad good n < n → every good n ≡ false
  some-bad n h = sym (pass_failed good n (first_bad good n) h (found-bad good n h))

  all_good : (n : ℕ) → n ≤ first_bad good n → every good n ≡ true
  all_good n h = every-all good n (none_bad good n h)

-- by a number that is the search's answer
module _ (s : List ℕ) (k : Kind) (i : ℕ) {earlier : ℕ} (e : earlier ≡ first_bad (shares_nothing s k i) i) where
  pub shares : earlier < i → Some (record { fault = Shared; found = earlier; asked = 0 }) ≡ shared_fault s k i
  unfolding shared_fault fault_told
  shares h = rw (some-bad (shares_nothing s k i) i (omega arith)) (rw e)

  pub shares_none : i ≤ earlier → None ≡ shared_fault s k i
  unfolding shared_fault
  shares_none h = rw (all_good (shares_nothing s k i) i (omega arith))

-- a fault whose test some numbers pass is not `Shared`
not_shared : (f : Fault) (x n : ℕ) → passes_test f x n ≡ true → f ≡ Shared → ⊥
unfolding passes_test
not_shared f x n h e = false≢true (sym (ap (λ (g : Fault). passes_test g x n) e) ∙ h)

-- the number found, and whether `Shared` is told
abbrev found_of : Option Told → ℕ
found_of None = 0
found_of (Some t) = t.found

abbrev IsShared : Option Told → Type 0
IsShared None = ⊥
IsShared (Some t) = t.fault ≡ Shared

-- where a row is told, it is an earlier one, and shares
earlier_shares : (s : List ℕ) (k : Kind) (i : ℕ) → IsShared (shared_fault s k i) → SharesWith s k i (found_of (shared_fault s k i))
unfolding shared_fault fault_told clear_in
earlier_shares s k i = go (dec_le i (first_bad (shares_nothing s k i) i))
  where
    go : Dec (i ≤ first_bad (shares_nothing s k i) i)
        → IsShared (cond (every (shares_nothing s k i) i) no_fault (Some (fault_told Shared (first_bad (shares_nothing s k i) i) 0)))
        → SharesWith s k i (found_of (cond (every (shares_nothing s k i) i) no_fault (Some (fault_told Shared (first_bad (shares_nothing s k i) i) 0))))
    go (yes h) e = absurd (rw (all_good (shares_nothing s k i) i h) at e)
    go (no n) e =
        let h : first_bad (shares_nothing s k i) i < i = omega (arith, n) in
        rw (some-bad (shares_nothing s k i) i h) (h, not-false _ (found-bad (shares_nothing s k i) i h))

-- where `Shared` is told, no test before it has failed
through : (f : Fault) (x n a b : ℕ) (rest end : Option Told) → passes_test f a b ≡ true
    → (IsShared rest → rest ≡ end) → IsShared (unless f x n rest) → unless f x n rest ≡ end
unfolding unless fault_told
through f x n a b rest end d h = go (passes_test f x n)
  where
    go : (t : Bool) → IsShared (cond t rest (Some (fault_told f x n))) → cond t rest (Some (fault_told f x n)) ≡ end
    go true e = h e
    go false e = absurd (not_shared f a b d e)

group-through : (row : List ℕ) → IsShared (group_fault row) → group_fault row ≡ no_fault
unfolding group_fault passes_test
group-through row = through Protocol _ _ 1 1 _ _ refl (through Zero _ _ 0 0 _ _ refl (λ e. refl))

connection-through : (groups protocol : ℕ) (row : List ℕ) → IsShared (connection_fault groups protocol row) → connection_fault groups protocol row
    ≡ no_fault
unfolding connection_fault passes_test
connection-through groups protocol row =
    through NoGroup _ _ 0 1 _ _ refl
    (through Automatic _ _ 0 0 _ _ refl
    (through SendSize _ _ 8 8 _ _ refl
    (through NotUdp _ _ 0 0 _ _ refl (λ e. refl))))

route-through : (connections most : ℕ) (shared : Option Told) (row : List ℕ)
    → IsShared (route_fault connections most shared row) → route_fault connections most shared row ≡ shared
unfolding route_fault passes_test
route-through connections most shared row =
    through NoConnection _ _ 0 1 _ _ refl
    (through Transfer _ _ 0 0 _ _ refl
    (through NotTcp _ _ 0 0 _ _ refl
    (through Longest _ _ 0 0 _ _ refl
    (through Zero _ _ 0 0 _ _ refl (λ e. refl)))))

destination_through : (connections size : ℕ) (shared : Option Told) (row : List ℕ)
    → IsShared (destination_fault connections size shared row) → destination_fault connections size shared row ≡ shared
unfolding destination_fault passes_test
destination_through connections size shared row =
    through NoConnection _ _ 0 1 _ _ refl
    (through Trigger _ _ 0 0 _ _ refl
    (through Longest _ _ 0 0 _ _ refl
    (through Room _ _ 0 8 _ _ refl (λ e. refl))))

module _ (s : List ℕ) where
  -- groups and connections are never told to
  never : {P : Type 0} (t : Option Told) → t ≡ no_fault → IsShared t → P
  never t p e = absurd (rw p at e)

  shared : (k : Kind) (i : ℕ) (t : Option Told) → t ≡ shared_fault s k i → IsShared t → SharesWith s k i (found_of t)
  shared k i t p e = rw p (earlier_shares s k i (rw p at e))

  row_shares : (k : Kind) (i : ℕ) → IsShared (row_fault s k i) → SharesWith s k i (found_of (row_fault s k i))
  unfolding row_fault
  row_shares Group i e = never _ (group-through (row_of s Group i) e) e
  row_shares Connection i e = never _ (connection-through (rows_of s Group) (group_of s (connection_of s i).group).protocol (row_of s Connection i) e) e
  row_shares Route i e = shared Route i _
      (route-through (rows_of s Connection) (most_mark (tcp_of s (route_of s i).connection)) (shared_fault s Route i) (row_of s Route i) e) e
  row_shares Destination i e =
      shared Destination i _
      (destination_through (rows_of s Connection) (size_of s (destination_of s i).connection) (shared_fault s Destination i) (row_of s Destination i) e) e

  pub told_shares : (k : Kind) (i : ℕ) (t : Told) → row_fault s k i ≡ Some t → t.fault ≡ Shared → SharesWith s k i t.found
  told_shares k i t p e = subst (SharesWith s k i) (ap found_of p) (row_shares k i (subst IsShared (sym p) e))
