-- A SEGMENT OR WALK CALL CARRIES 4,090 BYTES AT MOST, for its body has 4,096 at most: so they are not too long for an event.
use Prim.Native.Nat.{ℕ, ◌+◌, ◌-◌, ◌≤◌}
use mathlib.Core.Path.{◌≡◌, refl}
use mathlib.Core.Bool.{Bool, true, false, cond, ◌&&◌}
use mathlib.Core.List.{List}
use native.Mathlib.Omega.{arith}
use borrow.Author.Tests.{leb-true}
use lib.Dec.{eqb, leb}
use lib.ListN.{length, drop, length-drop}
use Rattle.std.proofs.Common.{Result, Ok, Err}
use Rattle.wire.specs.Be.{be}
use Rattle.lists.proofs.Both.{and_right}
use Rattle.connection.specs.declared.Event.TheVariants.{Open, Close, Connected, SetRemote, Switch, Cancel}
use Rattle.event_decode.specs.declared.Call.{Call}
use Rattle.event_decode.specs.declared.BadCall.{BadCall}
use Rattle.event_decode.specs.declared.Call.TheVariants.{Ticks, Own, Lost, Segment, Walk}
use Rattle.event_decode.specs.declared.Call.TheVariants.{TakeWaiting, Datagram, Accept, Transmit, SwitchAll, ReadCount, ClearCount}
use Rattle.event_decode.specs.Calls.{fitted, plain, length_fits, addressed, remote_in, positioned, call_of, bytes_from}
use Rattle.dispatch_receive.specs.Long.{longest_body}

-- the bytes that a segment or walk call carries
unfoldable pub carried : List ℕ → Result Call BadCall → ℕ
carried b (Err bad) = 0
carried b (Ok (Ticks n)) = 0
carried b (Ok (Own c e)) = 0
carried b (Ok (Lost c)) = 0
carried b (Ok (Segment c at)) = length (drop at b)
carried b (Ok (Walk c p at)) = length (drop at b)
carried b (Ok (TakeWaiting c n)) = 0
carried b (Ok (Datagram g r)) = 0
carried b (Ok (Accept g r)) = 0
carried b (Ok (Transmit p at)) = 0
carried b (Ok (SwitchAll n on)) = 0
carried b (Ok (ReadCount p)) = 0
carried b (Ok (ClearCount p)) = 0

abbrev pub Short : List ℕ → Result Call BadCall → Type 0
Short b call = carried b call ≤ 4090

either : (b : List ℕ) (t : Bool) (x y : Result Call BadCall) → Short b x → Short b y → Short b (cond t x y)
either b true x y p q = p
either b false x y p q = q

fits-short : (b : List ℕ) (t : Bool) (x : Call) → (t ≡ true → Short b (Ok x)) → Short b (fitted t x)
unfolding carried
fits-short b true x p = p refl
fits-short b false x p = omega arith

-- behind its length, at the place at of the body, are 4 bytes and the place fewer
counted-short : (b : List ℕ) (at : ℕ) → length_fits b at ≡ true → length (drop (at + 4) b) ≤ 4096 - (at + 4)
counted-short b at e =
    omega (
      arith,
      length-drop (at + 4) b,
      leb-true (length b) 4096 (and_right (eqb (be 4 b at + (at + 4)) (length b) && eqb (be 1 b 0) 0) (leb (length b) 4096) e),
    )

segment-short : (b : List ℕ) → length_fits b 2 ≡ true → Short b (Ok (Segment (be 1 b 1) 6))
unfolding carried
segment-short b e = counted-short b 2 e

walk-short : (b : List ℕ) → length_fits b 6 ≡ true → Short b (Ok (Walk (be 1 b 1) (be 4 b 2) 10))
unfolding carried
walk-short b e = omega (arith, counted-short b 6 e)

pub call_short : (n : ℕ) (b : List ℕ) → Short b (call_of n b)
unfolding call_of carried
call_short n b =
    either b (eqb n 0) _ _ (fits-short b (eqb (length b) 4) (Ticks (be 4 b 0)) (λ _. omega arith))
    (either b (eqb n 1) _ _ (fits-short b (plain b 2) (Own (be 1 b 1) Open) (λ _. omega arith))
    (either b (eqb n 2) _ _ (fits-short b (plain b 2) (Own (be 1 b 1) Close) (λ _. omega arith))
    (either b (eqb n 3) _ _ (fits-short b (plain b 2) (Own (be 1 b 1) Connected) (λ _. omega arith))
    (either b (eqb n 4) _ _ (fits-short b (plain b 2) (Lost (be 1 b 1)) (λ _. omega arith))
    (either b (eqb n 5) _ _ (fits-short b (addressed b) (Own (be 1 b 1) (SetRemote (remote_in (drop 2 b)))) (λ _. omega arith))
    (either b (eqb n 6) _ _ (fits-short b (positioned b 4 3) (Own (be 1 b 1) (Switch (be 1 b 2) (eqb (be 1 b 3) 1))) (λ _. omega arith))
    (either b (eqb n 7) _ _ (fits-short b (length_fits b 2) (Segment (be 1 b 1) 6) (segment-short b))
    (either b (eqb n 8) _ _ (fits-short b (length_fits b 6) (Walk (be 1 b 1) (be 4 b 2) 10) (walk-short b))
    (either b (eqb n 9) _ _ (fits-short b (plain b 6) (TakeWaiting (be 1 b 1) (be 4 b 2)) (λ _. omega arith))
    (either b (eqb n 10) _ _ (fits-short b (addressed b) (Datagram (be 1 b 1) (remote_in (drop 2 b))) (λ _. omega arith))
    (either b (eqb n 11) _ _ (fits-short b (addressed b) (Accept (be 1 b 1) (remote_in (drop 2 b))) (λ _. omega arith))
    (either b (eqb n 12) _ _ (fits-short b (length_fits b 3) (Transmit (be 2 b 1) 7) (λ _. omega arith))
    (either b (eqb n 13) _ _ (fits-short b (positioned b 3 2) (SwitchAll (be 1 b 1) (eqb (be 1 b 2) 1)) (λ _. omega arith))
    (either b (eqb n 14) _ _ (fits-short b (plain b 2) (ReadCount (be 1 b 1)) (λ _. omega arith))
    (either b (eqb n 15) _ _ (fits-short b (plain b 2) (ClearCount (be 1 b 1)) (λ _. omega arith))
    (either b (eqb n 16) _ _ (fits-short b (plain b 2) (Own (be 1 b 1) Cancel) (λ _. omega arith))
    (omega arith)))))))))))))))))

-- so they are not too long for an event
pub segment-fits : (b : List ℕ) (c at : ℕ) → Short b (Ok (Segment c at)) → length (bytes_from b at) ≤ longest_body
unfolding carried
segment-fits b c at h = omega (arith, h)

pub walk-fits : (b : List ℕ) (c place at : ℕ) → Short b (Ok (Walk c place at)) → length (bytes_from b at) ≤ longest_body
unfolding carried
walk-fits b c place at h = omega (arith, h)
