-- `receive_stream::gather` meets its contract: seven bytes leave room for an eighth.
use lib.ListN.{get_or}
use native.Mathlib.Nat.{add_assoc}
use native.Mathlib.Numerals.{add-one}
use native.Mathlib.Omega.{arith}
use mathlib.Core.Path.{ap}
use Prim.Native.Nat.{ℕ, ◌+◌, ◌*◌}
use Rattle.reading.proofs.Laws.{spelt-take, grow, value_room}
use Rattle.receive_stream.proofs.gather.Goals as goal

pub overflow_mul-w : goal.overflow_mul-w
overflow_mul-w c =
    let l = c.loop-byte in
    omega (arith, value_room _ l.w (omega arith) l.invariant.1)

pub overflow_add-w : goal.overflow_add-w
overflow_add-w c =
    let l = c.loop-byte in
    omega (arith, value_room _ l.w (omega arith) l.invariant.1, c.type_inv.bytes l.byte-index)

pub loop-byte-preserved : goal.loop-byte-preserved
loop-byte-preserved c =
    let a = c.args in
    let l = c.loop-byte in (
      rw (c.from.ensures, add-one, spelt-take a.value a.bytes.now l.byte-index (omega arith))
          (ap (λ (w : ℕ). w * 256 + get_or a.bytes.now l.byte-index 0) l.invariant.0),
      rw (c.from.ensures, ← add_assoc) (grow _ l.w _ l.invariant.1 (c.type_inv.bytes l.byte-index).fits),
    )
