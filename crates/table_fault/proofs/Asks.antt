-- One test after another, as the code joins them.
use Prim.Native.Nat.{ℕ}
use mathlib.Core.Path.{◌≡◌, refl}
use mathlib.Core.Bool.{Bool, true, false, cond}
use Rattle.std.proofs.Common.{Option, None, Some}
use Rattle.std.specs.Option.{option_or}
use Rattle.table_fault.specs.Faults.{fault_told, passes_test, failed, unless}
use Rattle.table_fault.specs.declared.Fault.{Fault}
use Rattle.table_fault.specs.declared.Told.{Told}

pub or_joined : (a b c : Option Told) → option_or (option_or a b) c ≡ option_or a (option_or b c)
or_joined None b c = refl
or_joined (Some t) b c = refl

pub or_unless : (f : Fault) (x n : ℕ) (rest : Option Told) → option_or (failed f x n) rest ≡ unless f x n rest
unfolding failed unless
or_unless f x n rest = go (passes_test f x n)
  where
    go : (b : Bool) → option_or (cond b None (Some (fault_told f x n))) rest ≡ cond b rest (Some (fault_told f x n))
    go true = refl
    go false = refl

pub last_unless : (f : Fault) (x n : ℕ) → failed f x n ≡ unless f x n None
unfolding failed unless
last_unless f x n = refl

pub ruleset asks = (or_joined, or_unless, last_unless)
