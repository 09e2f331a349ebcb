-- `wire::copy_in` meets its contract.
use Prim.Native.Nat.{ℕ, ◌+◌, ◌<◌}
use mathlib.Core.Path.{◌≡◌, sym, ap, ◌∙◌}
use mathlib.Core.List.{List}
use native.Mathlib.Omega.{arith}
use native.Mathlib.Numerals.{add-one}
use lib.ListN.{length, get_or, set, length-set}
use lib.Seq.{paste, paste-suc}
use Rattle.wire.proofs.Lay.{lay_copied}
use Rattle.wire.proofs.Room.{room-there, unlaid}
use Rattle.wire.proofs.copy_in.Goals as goal

pub returns-then-not-has_room : goal.returns-then-not-has_room
returns-then-not-has_room c =
    let a = c.args in
    unlaid a.d.now a.at a.s.now c.has_room.ensures c.if-not-has_room.true

pub loop-j-preserved : goal.loop-j-preserved
loop-j-preserved c =
    let a = c.args in
    let j = c.loop-j.j in
    let there = room-there _ _ _ c.has_room.ensures c.if-not-has_room.false in
    let k : j < length a.s.now = omega arith in
    let h : a.at + j < length a.d.now = omega (arith, there) in (
      simp length-set c.loop-j.invariant.0,
      ap (λ (l : List ℕ). set l (a.at + j) (get_or a.s.now j 0)) c.loop-j.invariant.1
          ∙ paste-suc a.d.now a.at a.s.now j 0 h k
          ∙ ap (paste a.d.now a.at a.s.now) (sym (add-one j)),
    )

pub returns : goal.returns
returns c =
    let a = c.args in
    let e : c.loop-j.j ≡ length a.s.now = omega arith in
    c.loop-j.invariant.1 ∙ ap (paste a.d.now a.at a.s.now) e
    ∙ lay_copied a.d.now a.at a.s.now (room-there _ _ _ c.has_room.ensures c.if-not-has_room.false)
