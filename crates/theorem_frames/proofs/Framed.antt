-- WHAT THE FRAMING FUNCTION WRITES IS READ BACK: over a stream cut in any way, and as one datagram.
use Rattle.std.proofs.Common.{Result, Ok, Err}
use Prim.Native.Nat.{ℕ, ◌+◌, ◌≤◌}
use mathlib.Core.Path.{◌≡◌, refl, sym, ap, ap₂, ◌∙◌}
use mathlib.Core.Bool.{Bool, true, false, cond}
use mathlib.Core.List.{List, [], ◌∷◌, ◌++◌, map, flatten}
use native.Mathlib.Omega.{arith}
use lib.Dec.{ltb}
use lib.ListN.{length, take, drop, length-append}
use borrow.Author.Tests.{ltb-false}
use Rattle.wire.specs.Lay.{spell, lay}
use Rattle.wire.proofs.Lay.{lay-own, lay-after}
use Rattle.wire.proofs.Spell.{length-spell}
use Rattle.frame.specs.Frame.{frame, frames}
use Rattle.frame.specs.Framing.{framing_of, out_after, framed_out}
use Rattle.frame.specs.declared.FrameError.TheVariants.{TooLong, NoRoom}
use Rattle.reading.specs.Feed.{Pdu, as_out}
use Rattle.reading.specs.Routed.{Routed}
use Rattle.entry_receive.specs.Routes.{routes_in}
use Rattle.model_runs.specs.Trip.{as_segments}
use Rattle.model_refines.specs.Machine.{Machine}
use Rattle.model_runs.specs.Streams.{RunBytes}
use Rattle.model_refines.specs.Run.{Good, given_in}
use Rattle.theorems.specs.Trip.{Reader, Walker, as_walks}
use Rattle.theorems.proofs.Trip.{read_back, walk_back}
use Rattle.theorem_frames.specs.Calls.{FramingCall, framed_pdu, framed_front, framed_fronts, AllDone}
use Rattle.frame.specs.declared.FrameError.{FrameError}

-- a frame's bytes
frame-long : (id : ℕ) (payload : List ℕ) → length (frame id payload) ≡ 8 + length payload
unfolding frame
frame-long id payload =
    let a = length-append (spell 4 id) (spell 4 (length payload) ++ payload) in
    let b = length-append (spell 4 (length payload)) payload in
    omega (arith, a, b, length-spell 4 id, length-spell 4 (length payload))

-- done: there is room for header and payload
done_room : (n room : ℕ) → framing_of n room ≡ Ok tt → 8 + n ≤ room
unfolding framing_of
done_room n room e = go (ltb 1464 n) (ltb room (8 + n)) refl e
  where
    number : Result Unit FrameError → ℕ
    number (Ok tt) = 0
    number (Err TooLong) = 1
    number (Err NoRoom) = 2

    go : (a b : Bool) → ltb room (8 + n) ≡ b → ◌≡◌ {A = Result Unit FrameError} (cond a (Err TooLong) (cond b (Err NoRoom) (Ok tt))) (Ok tt) → 8 + n ≤ room
    go true b f e = absurd (let z : ◌≡◌ {A = ℕ} 1 0 = ap number e in omega (arith, z))
    go false true f e = absurd (let z : ◌≡◌ {A = ℕ} 2 0 = ap number e in omega (arith, z))
    go false false f e = ltb-false room (8 + n) f

-- ONE CALL: the frame at the front, and the buffer as it was behind it
module _ (c : FramingCall) (done : framing_of (length c.payload) (length c.out) ≡ Ok tt) where
  laid : framed_out c.id c.payload c.out ≡ lay c.out 0 (frame c.id c.payload)
  unfolding framed_out
  laid = ap (λ (a : Result Unit FrameError). out_after a c.id c.payload c.out) done

  fits : length (frame c.id c.payload) ≤ length c.out
  fits = omega (arith, frame-long c.id c.payload, done_room (length c.payload) (length c.out) done)

  pub front-is : framed_front c ≡ frame c.id c.payload
  front-is =
      ap₂ take (sym (frame-long c.id c.payload)) laid
      ∙ lay-own c.out 0 (frame c.id c.payload) (omega (arith, fits))

  pub rest-stays : drop (8 + length c.payload) (framed_out c.id c.payload c.out) ≡ drop (8 + length c.payload) c.out
  rest-stays =
      ap (drop (8 + length c.payload)) laid
      ∙ lay-after c.out 0 (frame c.id c.payload) (8 + length c.payload) (omega (arith, frame-long c.id c.payload))

-- CALLS one after the other
pub fronts_are : (cs : List FramingCall) → AllDone cs → framed_fronts cs ≡ frames (map framed_pdu cs)
unfolding framed_fronts frames
fronts_are [] done = refl
fronts_are (c ∷ cs) (done, rest) = ap₂ ◌++◌ (front-is c done) (fronts_are cs rest)

module _ (cs : List FramingCall) (done : AllDone cs) (image : List ℕ) (m : Machine) (good : Good image m) (k : ℕ) where
  -- cut into segments in any way
  pub framed_trip : Reader image m k → {ps : List Pdu} → Routed (routes_in image m.state k) (map framed_pdu cs) ps
      → (pieces : List (List ℕ)) → flatten pieces ≡ framed_fronts cs
      → RunBytes (as_segments k pieces) → given_in image k m (as_segments k pieces) ≡ map as_out ps
  framed_trip reader routed pieces is bytes = read_back image m good k reader pieces routed (is ∙ fronts_are cs done) bytes

  -- or as one datagram, in as many steps or more
  pub framed-datagram : Walker image m k → {ps : List Pdu}
      → Routed (routes_in image m.state k) (map framed_pdu cs) ps → (steps : ℕ) → length (map framed_pdu cs) ≤ steps
      → given_in image k m (as_walks image k (framed_fronts cs) steps m 0) ≡ map as_out ps
  framed-datagram walker routed steps enough = walk_back image m good k walker (framed_fronts cs) routed (fronts_are cs done) steps enough
