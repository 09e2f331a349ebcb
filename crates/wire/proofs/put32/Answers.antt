-- `wire::put32` meets its contract.
use Prim.Native.Nat.{◌+◌, ◌≤◌}
use lib.ListN.{length}
use Rattle.wire.proofs.Spell.{put_join}
use Rattle.wire.proofs.Room.{room-there, unput}
use native.Mathlib.Omega.{arith}
use Rattle.wire.proofs.put32.Goals as goal

pub overflow_add-at : goal.overflow_add-at
overflow_add-at c =
    let a = c.args in
    let h : a.at + 4 ≤ length a.d.now = room-there _ _ _ c.has_room.ensures c.if-has_room.true in
    omega arith

pub returns-then-has_room : goal.returns-then-has_room
returns-then-has_room c =
    let a = c.args in
    put_join 2 2 a.d.now c.put16.new.d c.put16-then-has_room.new.d a.at a.v
    (room-there _ _ _ c.has_room.ensures c.if-has_room.true) c.put16.ensures c.put16-then-has_room.ensures (omega arith)

pub returns-else-has_room : goal.returns-else-has_room
returns-else-has_room c =
    let a = c.args in
    unput 4 a.d.now a.at a.v c.has_room.ensures c.if-has_room.false
