-- The timer after an append (R10.4): stopped by a trigger, the timeout where that is sooner, else as it was.
use Prim.Native.Nat.{ℕ}
use mathlib.Core.Path.{◌≡◌}
use mathlib.Core.Bool.{Bool, true, false, not, ◌&&◌, ◌||◌}
use lib.Dec.{eqb, ltb}
use Rattle.send_destination.specs.Destination.{timer_of}

module _ (trigger : Bool) (timeout timer : ℕ) (due : Bool) where
  -- not due, a timeout, and a timer that does not run or runs longer
  abbrev pub sooner : Bool
  sooner = not due && ltb 0 timeout && (eqb timer 0 || ltb timeout timer)

  pub timer-stops : trigger ≡ true → 0 ≡ timer_of trigger timeout timer due
  unfolding timer_of
  timer-stops t = rw t

  pub timer_sooner : trigger ≡ false → sooner ≡ true → timeout ≡ timer_of trigger timeout timer due
  unfolding timer_of
  timer_sooner t e = rw (t, e)

  pub timer-stays : trigger ≡ false → sooner ≡ false → timer ≡ timer_of trigger timeout timer due
  unfolding timer_of
  timer-stays t e = rw (t, e)
