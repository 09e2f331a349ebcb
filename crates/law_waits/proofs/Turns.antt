-- How many bytes wait after an event on a record: a closing tick, one that lets go, and a loss leave none, every other one as many as before.
-- (A take: crate send_waiting, proofs/Taken `take-used`.)
use mathlib.Core.Path.{◌≡◌, refl}
use mathlib.Core.Bool.{Bool, true, false, cond, ◌&&◌}
use Rattle.connection.specs.declared.Config.{Config}
use Rattle.connection.specs.declared.Connection.{Connection}
use Rattle.connection.specs.declared.Event.{Event}
use Rattle.connection.specs.Connection.{tick_of}
use Rattle.connection.specs.Event.{known, allowed, record_after, empties as drops, step_of}
use Rattle.connection.proofs.Leaves.{after-leaves}
use Rattle.connection.proofs.Ticks.{Tick, closes_wanted, lets_go, goes_on, tick_is, step-either}
use Rattle.law_waits.specs.Waits.{emptied_at_tick, emptied_by, Cause, Emptied, is_emptied, emptied_if, only_if}

-- a tick: one that closes or lets go empties
pub tick-used : (g : Config) (c : Connection) → (tick_of g c).used ≡ cond (is_emptied (emptied_at_tick g c)) 0 c.used
tick-used g c = go (tick_of g c) (tick_is g c)
  where
    go : (d : Connection) → Tick g c d → d.used ≡ cond (is_emptied (emptied_at_tick g c)) 0 c.used
    go d (closes_wanted e) = rw e
    go d (lets_go e x) = rw (e, x)
    go d (goes_on _ e x t) = rw (e, x) t.used

-- a connection event: an allowed loss empties
pub step-used : (e : Event) (g : Config) (c : Connection) → (step_of e g c).connection.used ≡ cond (emptied_by e g c) 0 c.used
step-used e g c =
    step-either e g c (λ (d : Connection). d.used ≡ cond (emptied_by e g c) 0 c.used) (refused (drops e) (known e && allowed e g c))
    (λ a. made (drops e) refl a (after-leaves e g c).used)
  where
    refused : (x y : Bool) → y ≡ false → c.used ≡ cond (x && y) 0 c.used
    refused true y q = rw q
    refused false y q = refl

    made : (x : Bool) → drops e ≡ x → allowed e g c ≡ true → (record_after e g c).used ≡ cond x 0 c.used
        → (record_after e g c).used ≡ cond (x && (known e && allowed e g c)) 0 c.used
    made true n a u = rw ((after-leaves e g c).there n, a) u
    made false n a u = u

-- whether an event empties, without its cause
pub if_emptied : (b : Bool) (why : Cause) → is_emptied (emptied_if b why) ≡ b
if_emptied true why = refl
if_emptied false why = refl

pub only-emptied : (b : Bool) (x : Emptied) → is_emptied (only_if b x) ≡ (b && is_emptied x)
only-emptied true x = refl
only-emptied false x = refl
