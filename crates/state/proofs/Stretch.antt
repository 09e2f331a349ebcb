-- Bytes laid within one stretch of lent memory leave the other stretches as they were.
use Prim.Native.Nat.{ℕ, ◌+◌, ◌*◌, ◌≤◌, ◌<◌}
use mathlib.Core.Path.{◌≡◌, sym, ap, ◌∙◌}
use mathlib.Core.List.{List}
use native.Mathlib.Decide.{dec_lt}
use native.Mathlib.Omega.{arith}
use lib.ListN.{length, take, drop}
use Rattle.wire.specs.Lay.{lay}
use Rattle.wire.proofs.Lay.{lay-before, lay-after, lay-own}
use Rattle.table_layout.proofs.Parts.{row_below}
use Rattle.state.specs.Memory.{stretch}

pub stretch-apart : (size k : ℕ) (memory : List ℕ) (at : ℕ) (x : List ℕ) → k * size ≤ at → at + length x ≤ k * size + size
    → (j : ℕ) → (j ≡ k → ⊥) → stretch size j (lay memory at x) ≡ stretch size j memory
stretch-apart size k memory at x low high j ne = go (dec_lt j k)
  where
    go : Dec (j < k) → stretch size j (lay memory at x) ≡ stretch size j memory
    go (yes lt) = lay-before memory at x (j * size) size (omega (arith, row_below j k size lt))
    go (no ge) =
        let gt : k < j = omega arith in
        ap (take size) (lay-after memory at x (j * size) (omega (arith, row_below k j size gt)))

-- a whole stretch laid anew
pub stretch-own : (size k : ℕ) (memory x : List ℕ) → length x ≡ size → k * size + size ≤ length memory → stretch size k (lay memory (k * size) x) ≡ x
stretch-own size k memory x e h = ap (λ (n : ℕ). take n (drop (k * size) (lay memory (k * size) x))) (sym e) ∙ lay-own memory (k * size) x (omega arith)
