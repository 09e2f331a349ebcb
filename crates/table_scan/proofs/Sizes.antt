-- Where no connection is bad, each one's send size is at most 1,472.
use Prim.Native.Nat.{ℕ, ◌/◌, ◌≤◌}
use mathlib.Core.Path.{◌≡◌}
use mathlib.Core.Bool.{Bool, true, not, ◌&&◌, ◌||◌}
use mathlib.Core.List.{List}
use native.Mathlib.Omega.{arith}
use borrow.Author.Tests.{leb-true}
use lib.Dec.{leb, ltb, eqb}
use lib.ListN.{length}
use Rattle.lists.proofs.Both.{and_left, and_right}
use Rattle.lists.proofs.Search.{none_bad}
use Rattle.table_layout.specs.Layout.{row_width, row_in}
use Rattle.table_layout.specs.declared.Kind.TheVariants.{Connection}
use Rattle.table_rows.specs.Rows.{connection_row, automatic_byte}
use Rattle.table_rows.specs.Rules.{connection_good, connection_rule, size_in, Sized}
use Rattle.table_scan.specs.Scan.{share, good_in, bad_connection}

good_size : (groups : ℕ) (tcp : ℕ → Bool) (row : List ℕ) → connection_good groups tcp row ≡ true → (connection_row row).size ≤ 1472
unfolding connection_good
good_size groups tcp row e =
    let v = connection_row row in
    let low = ltb v.group groups && leb (automatic_byte row) 1 && leb 8 v.size in
    let high = leb v.size 1472 in
    leb-true _ _ (and_right low high (and_left (low && high) (eqb v.alive 0 || not (tcp v.group)) e))

pub none_bad_sized : (groups connections : List ℕ) → bad_connection groups connections ≡ length connections / row_width Connection → Sized connections
unfolding good_in size_in
none_bad_sized groups connections e c h =
    let row = row_in (row_width Connection) connections c in
    good_size _ _ row
    (and_left (connection_rule groups row) _
    (none_bad (good_in (connection_rule groups) (share Connection) (row_width Connection) connections) _ (omega (arith, e)) c h))
