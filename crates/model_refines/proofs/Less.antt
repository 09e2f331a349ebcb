-- No event that writes no lent memory makes a record hold more.
use Prim.Native.Nat.{ℕ, ◌≤◌}
use mathlib.Core.Path.{◌≡◌, refl, ap}
use mathlib.Core.Bool.{Bool, true, false, cond, not}
use native.Mathlib.Omega.{arith}
use native.Mathlib.Nat.{le_of_eq}
use lib.Dec.{ltb}
use Rattle.connection.specs.declared.Connection.{Connection}
use Rattle.connection.specs.declared.Config.{Config}
use Rattle.connection.specs.declared.Remote.{Remote}
use Rattle.connection.specs.declared.Event.{Event as Change}
use Rattle.receive_part.specs.Part.{ready_part}
use Rattle.connection.specs.Connection.{met_of, switched_of, closed_of, tick_of}
use Rattle.connection.specs.Event.{record_after, empties, step_of}
use Rattle.connection.proofs.Leaves.{after-leaves}
use Rattle.connection.proofs.Ticks.{Tick, closes_wanted, lets_go, goes_on, tick_is, step-either}
use Rattle.send_waiting.specs.Waiting.{take_of}
use Rattle.send_waiting.proofs.Taken.{take_part, take-used}
use Rattle.model.specs.World.{held_by}
use Rattle.model.proofs.View.{Less, less_same}

-- the same part, and no more bytes waiting
same_less : (c d : Connection) → c.part ≡ d.part → c.used ≡ d.used → Less c d
same_less c d p u = record { received = le_of_eq (ap held_by p); waiting = le_of_eq u }

none_less : (c d : Connection) → held_by c.part ≡ 0 → c.used ≡ 0 → Less c d
none_less c d p u = record { received = omega arith; waiting = omega arith }

-- the seven events of the record alone
after_less : (e : Change) (g : Config) (c : Connection) → Less (record_after e g c) c
after_less e g c = go (empties e) (after-leaves e g c).part (after-leaves e g c).used
  where
    go : (b : Bool) → (record_after e g c).part ≡ cond b ready_part c.part → (record_after e g c).used ≡ cond b 0 c.used → Less (record_after e g c) c
    go true p u = none_less (record_after e g c) c (ap held_by p) u
    go false p u = same_less (record_after e g c) c p u

pub step_less : (e : Change) (g : Config) (c : Connection) → Less (step_of e g c).connection c
step_less e g c = step-either e g c (λ (d : Connection). Less d c) (λ _. less_same c) (λ _. after_less e g c)

-- met by a source, and switched
pub met_less : (g : Config) (r : Remote) (c : Connection) → Less (met_of g r c) c
met_less g r c = same_less (met_of g r c) c refl refl

pub switch_less : (n : ℕ) (b : Bool) (c : Connection) → Less (switched_of n b c) c
switch_less n b c = same_less (switched_of n b c) c refl refl

-- the waiting bytes taken
pub taking_less : (g : Config) (room : ℕ) (c : Connection) → Less (take_of g room c) c
taking_less g room c = record { received = le_of_eq (ap held_by (take_part g room c)); waiting = fewer (not (ltb room c.used)) (take-used g room c) }
  where
    fewer : {n : ℕ} (b : Bool) → n ≡ cond b 0 c.used → n ≤ c.used
    fewer true e = omega arith
    fewer false e = omega arith

-- a tick
pub tick_less : (g : Config) (c : Connection) → Less (tick_of g c) c
tick_less g c = go (tick_of g c) (tick_is g c)
  where
    go : (d : Connection) → Tick g c d → Less d c
    go d (closes_wanted e) = none_less (closed_of g c) c refl refl
    go d (lets_go e x) = record { received = le_of_eq refl; waiting = omega arith }
    go d (goes_on _ e x t) = same_less d c t.part t.used
