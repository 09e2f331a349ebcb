-- From a place to its row: which kind's body it stands in.
use Prim.Native.Nat.{ℕ, ◌-◌, ◌/◌, ◌<◌, ◌≤◌}
use mathlib.Core.Path.{◌≡◌}
use mathlib.Core.List.{List}
use native.Mathlib.Omega.{arith}
use borrow.Author.Tests.{lt-ltb, le-ltb}
use Rattle.table_layout.specs.Layout.{row_bytes, start_of}
use Rattle.table_layout.specs.declared.Kind.TheVariants.{Group, Connection, Route, Destination}
use Rattle.table_fault.specs.Spots.{row_spot}
use Rattle.table_fault.specs.declared.Spot.TheVariants.{Row}

-- the row's kind, by numbers that are the starts of the bodies
module _ (s : List ℕ) (place : ℕ) where
  pub in_groups : {a n : ℕ} → a ≡ start_of s Connection → place < a → n ≡ (place - start_of s Group) / row_bytes s Group → Row Group n ≡ row_spot s place
  unfolding row_spot
  in_groups ea h e = rw (lt-ltb place (start_of s Connection) (omega arith), e)

  pub in_connections : {a b n : ℕ} → a ≡ start_of s Connection → a ≤ place → b ≡ start_of s Route → place < b
      → n ≡ (place - start_of s Connection) / row_bytes s Connection → Row Connection n ≡ row_spot s place
  unfolding row_spot
  in_connections ea h eb l e = rw (le-ltb place (start_of s Connection) (omega arith), lt-ltb place (start_of s Route) (omega arith), e)

  pub in_routes : {a b c n : ℕ} → a ≡ start_of s Connection → a ≤ place → b ≡ start_of s Route → b ≤ place → c ≡ start_of s Destination → place < c
      → n ≡ (place - start_of s Route) / row_bytes s Route → Row Route n ≡ row_spot s place
  unfolding row_spot
  in_routes ea h eb l ec m e =
      rw (
        le-ltb place (start_of s Connection) (omega arith),
        le-ltb place (start_of s Route) (omega arith),
        lt-ltb place (start_of s Destination) (omega arith),
        e,
      )

  pub in_destinations : {a b c n : ℕ} → a ≡ start_of s Connection → a ≤ place → b ≡ start_of s Route → b ≤ place → c ≡ start_of s Destination → c ≤ place
      → n ≡ (place - start_of s Destination) / row_bytes s Destination → Row Destination n ≡ row_spot s place
  unfolding row_spot
  in_destinations ea h eb l ec m e =
      rw (
        le-ltb place (start_of s Connection) (omega arith),
        le-ltb place (start_of s Route) (omega arith),
        le-ltb place (start_of s Destination) (omega arith),
        e,
      )
