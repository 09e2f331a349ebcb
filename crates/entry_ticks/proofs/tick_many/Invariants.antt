-- `entry_ticks::tick_many` meets its contract. The invariant: the ticks left lead to the whole run's end.
use Rattle.std.proofs.Common.{◌≡◌, ◌-◌}
use Rattle.entry_ticks.specs.Many.{many_of}
use Rattle.entry_ticks.proofs.tick_many.Given as goal

abbrev pub invariant-loop-done : goal.invariant-loop-done
invariant-loop-done l = many_of l.config (l.count - l.done) l.next ≡ many_of l.config l.count l.initial.next
