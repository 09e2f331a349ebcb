-- One record of a state.
use Prim.Native.Nat.{ℕ}
use mathlib.Core.Path.{◌≡◌, ap}
use mathlib.Core.List.{List}
use lib.Seq.{set-get_or}
use Rattle.connection.specs.declared.Connection.{Connection}
use Rattle.connection.specs.Connection.{zero_record}
use Rattle.state.specs.declared.State.{State}
use Rattle.state.specs.State.{record_at, with_records, with_record}

-- a record put back where it was
pub put_back : (s : State) (k : ℕ) → with_record k (record_at s k) s ≡ s
put_back s k = ap (λ (l : List Connection). with_records l s) (set-get_or s.connections k zero_record)
