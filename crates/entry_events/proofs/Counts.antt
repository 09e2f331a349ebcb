-- A count read leaves the state, one cleared the records.
use Prim.Native.Nat.{ℕ}
use mathlib.Core.Path.{◌≡◌, refl}
use mathlib.Core.Bool.{Bool, true, false, cond}
use lib.Dec.{eqb}
use Rattle.connection.specs.declared.Refusal.TheVariants.{Denied}
use Rattle.state.specs.declared.State.{State}
use Rattle.entry_events.specs.Count.{of_protocol, read_from, clear_from, uncounted, read_past, clear_past}

pub read-state : (s : State) (p : ℕ) → (read_past s p).state ≡ s
unfolding read_past of_protocol
read-state s p = go (eqb p 1) (eqb p 2)
  where
    go : (x y : Bool) → (cond x (read_from s false) (cond y (read_from s true) (uncounted s Denied))).state ≡ s
    go true y = refl
    go false true = refl
    go false false = refl

pub clear_records : (s : State) (p : ℕ) → (clear_past s p).state.connections ≡ s.connections
unfolding clear_past of_protocol
clear_records s p = go (eqb p 1) (eqb p 2)
  where
    go : (x y : Bool) → (cond x (clear_from s false) (cond y (clear_from s true) (uncounted s Denied))).state.connections ≡ s.connections
    go true y = refl
    go false true = refl
    go false false = refl
