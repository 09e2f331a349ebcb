-- `send_destination::timer_after` meets its contract.
use Rattle.send_destination.proofs.Timer.{timer-stops, timer_sooner, timer-stays}
use Rattle.send_destination.proofs.timer_after.Goals as goal

pub returns-then-trigger : goal.returns-then-trigger
returns-then-trigger c = timer-stops _ _ _ _ c.if-trigger.true

pub returns-then-sooner : goal.returns-then-sooner
returns-then-sooner c = timer_sooner _ _ _ _ c.if-trigger.false c.if-sooner.true

pub returns : goal.returns
returns c = timer-stays _ _ _ _ c.if-trigger.false c.if-sooner.false
