-- `gate::each_sound` meets its contract. The invariant of each loop: the records below i are sound.
use Prim.Native.Nat.{◌-◌, ◌≤◌}
use Rattle.gate.proofs.Records.{SoundTo}
use Rattle.gate.proofs.each_sound.Given as goal

abbrev pub invariant-loop-i : goal.invariant-loop-i
invariant-loop-i l = (l.rows ≤ 16) × SoundTo l.rows l.connections l.groups l.routes l.records l.i

abbrev pub decreases-loop-i : goal.decreases-loop-i
decreases-loop-i l = l.rows - l.i

abbrev pub invariant-loop-i-2 : goal.invariant-loop-i-2
invariant-loop-i-2 l = (l.rows ≤ 16) × SoundTo l.rows l.connections l.groups l.routes l.records l.i

abbrev pub decreases-loop-i-2 : goal.decreases-loop-i-2
decreases-loop-i-2 l = l.rows - l.i

abbrev pub invariant-loop-i-3 : goal.invariant-loop-i-3
invariant-loop-i-3 l = (l.rows ≤ l.i) × SoundTo l.rows l.connections l.groups l.routes l.records l.i

abbrev pub decreases-loop-i-3 : goal.decreases-loop-i-3
decreases-loop-i-3 l = 16 - l.i
