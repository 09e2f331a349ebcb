-- `wire::put16` meets its contract.
use Prim.Native.Nat.{◌+◌, ◌≤◌}
use lib.ListN.{length}
use Rattle.wire.proofs.Spell.{put_join}
use Rattle.wire.proofs.Room.{room-there, unput}
use native.Mathlib.Omega.{arith}
use Rattle.wire.proofs.put16.Goals as goal

pub overflow_add-at : goal.overflow_add-at
overflow_add-at c =
    let a = c.args in
    let h : a.at + 2 ≤ length a.d.now = room-there _ _ _ c.has_room.ensures c.if-has_room.true in
    omega arith

pub returns-then-has_room : goal.returns-then-has_room
returns-then-has_room c =
    let a = c.args in
    put_join 1 1 a.d.now c.put8.new.d c.put8-then-has_room.new.d a.at a.v
    (room-there _ _ _ c.has_room.ensures c.if-has_room.true) c.put8.ensures c.put8-then-has_room.ensures (omega arith)

pub returns-else-has_room : goal.returns-else-has_room
returns-else-has_room c =
    let a = c.args in
    unput 2 a.d.now a.at a.v c.has_room.ensures c.if-has_room.false
