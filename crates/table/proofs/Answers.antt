-- Laws of one answer after another.
use Rattle.std.proofs.Common.{Result, Ok, Err}
use Prim.Native.Nat.{ℕ}
use mathlib.Core.Path.{◌≡◌, refl}
use mathlib.Core.Bool.{Bool, true, false}
use native.Mathlib.Omega.{arith}
use Rattle.table.specs.Table.{then_check, demand}
use Rattle.table.specs.declared.BadTable.TheVariants.{At}
use Rattle.table.specs.declared.BadTable.{BadTable}

-- both were accepted
pub then_first : (a b : Result Unit BadTable) → then_check a b ≡ Ok tt → a ≡ Ok tt
unfolding then_check
then_first (Ok tt) b e = refl
then_first (Err r) b e = e

pub then_second : (a b : Result Unit BadTable) → then_check a b ≡ Ok tt → b ≡ Ok tt
unfolding then_check
then_second (Ok tt) b e = e
then_second (Err r) b e = absurd (let z : ◌≡◌ {A = ℕ} 0 1 = cc in omega arith)

pub demand-held : (t : Bool) (p : ℕ) → demand t p ≡ Ok tt → t ≡ true
demand-held true p e = refl
demand-held false p e = absurd (let z : ◌≡◌ {A = ℕ} 0 1 = cc in omega arith)

-- the first was refused, or accepted
pub then_refused : (a b : Result Unit BadTable) (p : ℕ) → a ≡ Err (At p) → Err (At p) ≡ then_check a b
unfolding then_check
then_refused a b p e = rw e

pub then_accepted : (a b r : Result Unit BadTable) → a ≡ Ok tt → r ≡ b → r ≡ then_check a b
unfolding then_check
then_accepted a b r e f = rw e f
