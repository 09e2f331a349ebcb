-- A whole image has at most 36 + 16 + 256 + 1,024 + 1,024 = 2,356 bytes. So of a longer input any front that is longer
-- than that gets the answer of the whole.
use Rattle.std.proofs.Common.{Result, Ok, Err}
use Prim.Native.Nat.{ℕ, ◌+◌, ◌<◌, ◌≤◌}
use mathlib.Core.Path.{◌≡◌, refl, sym, ap, ◌∙◌}
use mathlib.Core.List.{List}
use native.Mathlib.Omega.{arith}
use lib.Dec.{eqb}
use lib.ListN.{length, take}
use lib.Seq.{length-take-le}
use borrow.Author.Tests.{le-leb, ne_eqb}
use Rattle.wire.specs.Be.{be}
use Rattle.table_layout.specs.Layout.{entry_at, rows_of, body_bytes, start_of, end_of}
use Rattle.table_layout.proofs.Parts.{be-taken}
use Rattle.table_layout.specs.declared.Kind.{Kind}
use Rattle.table_layout.specs.declared.Kind.TheVariants.{Group, Connection, Route, Destination}
use Rattle.table.specs.Table.{head_good, entry_good, demand, then_check, entries_place, head_place, all_rows_place, check_table}
use Rattle.table.specs.declared.BadTable.TheVariants.{At}
use Rattle.table.proofs.Facts.{contents-most}
use Rattle.table.specs.declared.BadTable.{BadTable}

-- good contents end within 2,356 bytes
ends-within : (s : List ℕ) → head_place s ≡ Ok tt → end_of s ≤ 2356
unfolding end_of start_of body_bytes
ends-within s e = omega (arith, contents-most s e Group, contents-most s e Connection, contents-most s e Route, contents-most s e Destination)

-- a longer input is refused in its contents, or at 2
refused-long : (s : List ℕ) → 2356 < length s → check_table s ≡ then_check (head_place s) (Err (At 2))
unfolding check_table then_check
refused-long s h = rw (le-leb 36 (length s) (omega arith)) (go (head_place s) refl)
  where
    go : (a : Result Unit BadTable) → head_place s ≡ a
        → then_check (head_place s) (then_check (demand (eqb (length s) (end_of s)) 2) (all_rows_place s)) ≡ then_check (head_place s) (Err (At 2))
    go (Ok tt) e = rw (e, ne_eqb (length s) (end_of s) (λ q. omega (arith, ends-within s e)))
    go (Err (At p)) e = rw e

module _ (s : List ℕ) (n : ℕ) (h : 36 ≤ n) where
  -- the first 36 bytes are the same
  front : (w at : ℕ) → at + w ≤ 36 → be w (take n s) at ≡ be w s at
  front w at l = be-taken w n s at (omega arith)

  rows_same : (k : Kind) → rows_of (take n s) k ≡ rows_of s k
  unfolding rows_of
  rows_same Group = front 2 6 (omega arith)
  rows_same Connection = front 2 14 (omega arith)
  rows_same Route = front 2 22 (omega arith)
  rows_same Destination = front 2 30 (omega arith)

  start-same : (k : Kind) → start_of (take n s) k ≡ start_of s k
  unfolding start_of body_bytes
  start-same Group = refl
  start-same Connection = rw (rows_same Group)
  start-same Route = rw (rows_same Group, rows_same Connection)
  start-same Destination = rw (rows_same Group, rows_same Connection, rows_same Route)

  kind-same : (k : Kind) → be 2 (take n s) (entry_at k) ≡ be 2 s (entry_at k)
  kind-same Group = front 2 4 (omega arith)
  kind-same Connection = front 2 12 (omega arith)
  kind-same Route = front 2 20 (omega arith)
  kind-same Destination = front 2 28 (omega arith)

  offset-same : (k : Kind) → be 4 (take n s) (entry_at k + 4) ≡ be 4 s (entry_at k + 4)
  offset-same Group = front 4 8 (omega arith)
  offset-same Connection = front 4 16 (omega arith)
  offset-same Route = front 4 24 (omega arith)
  offset-same Destination = front 4 32 (omega arith)

  entry_same : (k : Kind) → entry_good (take n s) k ≡ entry_good s k
  unfolding entry_good
  entry_same k = rw (kind-same k, rows_same k, offset-same k, start-same k)

  head_good-same : head_good (take n s) ≡ head_good s
  unfolding head_good
  head_good-same = rw (front 2 0 (omega arith), front 2 2 (omega arith))

  head-same : head_place (take n s) ≡ head_place s
  unfolding head_place entries_place
  head-same = rw (head_good-same, entry_same Group, entry_same Connection, entry_same Route, entry_same Destination)

pub cut-long : (s : List ℕ) (n : ℕ) → 2356 < n → n ≤ length s → check_table (take n s) ≡ check_table s
cut-long s n h l =
    let long : length (take n s) ≡ n = length-take-le n s l in
    refused-long (take n s) (omega arith)
    ∙ ap (λ (a : Result Unit BadTable). then_check a (Err (At 2))) (head-same s n (omega arith))
    ∙ sym (refused-long s (omega arith))
