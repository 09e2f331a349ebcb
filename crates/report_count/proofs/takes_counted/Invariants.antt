-- `report_count::takes_counted` meets its contract. The invariant: the takes that are left lead to the whole's end.
use Rattle.std.proofs.Common.{◌≡◌, ◌-◌, drop}
use Rattle.report_count.specs.Count.{takes_counted}
use Rattle.report_count.proofs.takes_counted.Given as goal

abbrev pub invariant-loop-i : goal.invariant-loop-i
invariant-loop-i l =
    takes_counted l.connection (l.count - l._i) (drop l.at l.s) l.after ≡ takes_counted l.connection l.count l.s l.initial.after
