use Rattle.pieces.proofs.Pieces.{place-stays, moves, unwritten, empty_piece}
use Rattle.text.proofs.Digits.{hex_length, hex_next, hex_all}
use native.Mathlib.Omega.{arith}
use Prim.Native.Nat.{ℕ, ◌+◌, ◌*◌}
use mathlib.Core.Path.{sym, ap, ◌∙◌}
use lib.ListN.{length}
use Rattle.wire.specs.Lay.{spell, lay}
use Rattle.text.specs.Text.{hex_of}
use Rattle.text.proofs.hex.Goals as goal

pub returns-then-out-at : goal.returns-then-out-at
returns-then-out-at c = let a = c.args in record {
  value = place-stays (length a.out.now) a.at (length (hex_of a.bytes.now)) (omega (arith, hex_length a.bytes.now));
  out_after = unwritten a.out.now a.at (hex_of a.bytes.now) (omega (arith, hex_length a.bytes.now));
}

pub loop-i-init : goal.loop-i-init
loop-i-init c = let a = c.args in empty_piece a.out.now a.at (omega arith)

pub loop-i-preserved : goal.loop-i-preserved
loop-i-preserved c = let a = c.args in let l =
    c.loop-i in
    hex_next a.out.now a.at l.i a.bytes.now (omega arith) (omega arith) (omega (arith, c.type_inv.bytes l.i)) l.invariant
    (c.put16.ensures ∙ ap (λ (v : ℕ). lay l.out (a.at + l.i * 2) (spell 2 v)) c.pair.ensures)

pub returns : goal.returns
returns c = let a = c.args in let l = c.loop-i in record {
  value = ap (λ (k : ℕ). a.at + k) (sym (hex_length a.bytes.now)) ∙ moves (length a.out.now) a.at (length (hex_of a.bytes.now))
      (omega (arith, hex_length a.bytes.now));
  out_after = hex_all a.out.now a.at l.i a.bytes.now (omega arith) l.invariant;
}
