-- `wire::put8` meets its contract.
use Prim.Native.Nat.{◌+◌, ◌≤◌}
use lib.ListN.{length}
use Rattle.wire.proofs.Spell.{put_one}
use Rattle.wire.proofs.Room.{room-there, unput}
use native.Mathlib.Omega.{arith}
use borrow.Author.Rules.{rules}
use Rattle.wire.proofs.put8.Goals as goal

pub bounds-d-at : goal.bounds-d-at
bounds-d-at c =
    let a = c.args in
    let h : a.at + 1 ≤ length a.d.now = room-there _ _ _ c.has_room.ensures c.if-has_room.true in
    omega arith

pub returns-then-has_room : goal.returns-then-has_room
returns-then-has_room c =
    let a = c.args in
    let h : a.at + 1 ≤ length a.d.now = room-there _ _ _ c.has_room.ensures c.if-has_room.true in
    put_one a.d.now a.at a.v (search rules) (omega arith)

pub returns-else-has_room : goal.returns-else-has_room
returns-else-has_room c =
    let a = c.args in
    unput 1 a.d.now a.at a.v c.has_room.ensures c.if-has_room.false
