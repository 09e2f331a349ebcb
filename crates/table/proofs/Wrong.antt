-- A wrong check, refuted over the definitions: one that always answers 1.
use Rattle.std.proofs.Common.{Result}
use Prim.Native.Nat.{ℕ}
use mathlib.Core.Path.{◌≡◌, sym, ◌∙◌, ap}
use mathlib.Core.List.{List}
use native.Mathlib.Omega.{arith}
use Rattle.table.specs.Table.{check_table, table_number}
use Rattle.table.proofs.Examples.{example_image, image-whole}
use Rattle.table.specs.declared.BadTable.{BadTable}

-- no answers that are always 1 are those of the check
pub always_refused : (answer : List ℕ → Result Unit BadTable) → ((s : List ℕ) → table_number (answer s) ≡ 1) → ((s : List ℕ) → answer s ≡ check_table s) → ⊥
always_refused answer one is =
    let z : ◌≡◌ {A = ℕ} 0 1 = ap table_number (sym (is example_image ∙ image-whole)) ∙ one example_image in
    omega arith
