-- What framing writes to the front of a part, said of the whole memory.
use Rattle.std.proofs.Common.{Ok, Err}
use Prim.Native.Nat.{ℕ, ◌+◌, ◌-◌, ◌≤◌, ◌<◌}
use mathlib.Core.Path.{◌≡◌, refl, sym, ap, ap₂, ◌∙◌}
use mathlib.Core.Bool.{Bool, true, false, cond}
use mathlib.Core.List.{List, [], ◌++◌, append_assoc, append-nil}
use native.Mathlib.Omega.{arith}
use native.Mathlib.Decide.{dec_le}
use lib.Dec.{ltb}
use lib.ListN.{length, take, drop, length-append, length-drop, take-append-drop}
use lib.Seq.{drop-drop, take-length, drop-length}
use borrow.Author.Tests.{ltb-true, le-ltb}
use borrow.Rule.Slice.PartMut.{mid_of, post_of, put_mid}
use Rattle.frame.specs.Frame.{frame}
use Rattle.frame.specs.declared.FrameError.TheVariants.{TooLong, NoRoom}
use Rattle.frame.specs.Framing.{framing_of, out_after, framed_out}
use Rattle.wire.specs.Lay.{spell, lay}
use Rattle.wire.proofs.Lay.{lay-fits, lay-out}
use Rattle.wire.proofs.Spell.{length-spell}
use Rattle.send_outbox.specs.Outbox.{appended_of}

pub frame-length : (id : ℕ) (payload : List ℕ) → length (frame id payload) ≡ 8 + length payload
unfolding frame
frame-length id payload =
    omega (
      arith,
      length-append (spell 4 id) (spell 4 (length payload) ++ payload),
      length-append (spell 4 (length payload)) payload,
      length-spell 4 id,
      length-spell 4 (length payload),
    )

-- where the payload is no longer than any and the frame fits
pub appended_is : (tx : List ℕ) (at id : ℕ) (payload : List ℕ) → length payload ≤ 1464 → appended_of tx at id payload ≡ lay tx at (frame id payload)
unfolding appended_of
appended_is tx at id payload h = rw (le-ltb _ _ h)

module _ (d : List ℕ) (at : ℕ) (h : at ≤ length d) where
  -- the part from `at` on is the rest, and nothing lies after it
  rest-is : mid_of at (length d - at) d ≡ drop at d
  rest-is = let e : length d - at ≡ length (drop at d) = sym (length-drop at d) in rw e (take-length (drop at d))

  none_after : post_of at (length d - at) d ≡ []
  none_after = let e : at + (length d - at) ≡ length d = omega arith in drop-drop (length d - at) at d ∙ rw e (drop-length d)

  -- bytes laid at the front of the rest are laid at `at`
  rest-laid : (x : List ℕ) → take at d ++ lay (drop at d) 0 x ≡ lay d at x
  rest-laid x = go (dec_le (at + length x) (length d))
    where
      go : Dec (at + length x ≤ length d) → take at d ++ lay (drop at d) 0 x ≡ lay d at x
      go (yes l) =
          let e : at + (0 + length x) ≡ at + length x = omega arith in
          ap (λ (z : List ℕ). take at d ++ z) (lay-fits (drop at d) 0 x (omega (arith, length-drop at d)))
          ∙ ap (λ (z : List ℕ). take at d ++ (x ++ z)) (drop-drop (0 + length x) at d ∙ ap (λ (n : ℕ). drop n d) e)
          ∙ sym (append_assoc (take at d) x (drop (at + length x) d))
          ∙ sym (lay-fits d at x l)
      go (no n) =
          ap (λ (z : List ℕ). take at d ++ z) (lay-out (drop at d) 0 x (omega (arith, n, length-drop at d)))
          ∙ take-append-drop at d
          ∙ sym (lay-out d at x (omega (arith, n)))

  -- the three answers of framing
  framed-rest : (id : ℕ) (payload : List ℕ) → take at d ++ framed_out id payload (drop at d) ≡ appended_of d at id payload
  unfolding framed_out framing_of appended_of
  framed-rest id payload = go (ltb 1464 (length payload)) (ltb (length (drop at d)) (8 + length payload)) refl
    where
      go : (long short : Bool) → ltb (length (drop at d)) (8 + length payload) ≡ short
          → take at d ++ out_after (cond long (Err TooLong) (cond short (Err NoRoom) (Ok tt))) id payload (drop at d)
          ≡ cond long d (lay d at (frame id payload))
      go true short e = take-append-drop at d
      go false true e =
          let l : length (drop at d) < 8 + length payload = ltb-true _ _ e in
          take-append-drop at d ∙ sym (lay-out d at (frame id payload) (omega (arith, length-drop at d, frame-length id payload)))
      go false false e = rest-laid (frame id payload)

  pub part-framed : (id : ℕ) (payload y : List ℕ) → y ≡ framed_out id payload (mid_of at (length d - at) d)
      → put_mid at (length d - at) d y ≡ appended_of d at id payload
  part-framed id payload y e =
      ap₂ (λ (m n : List ℕ). take at d ++ (m ++ n)) (e ∙ ap (framed_out id payload) rest-is) none_after
      ∙ ap (λ (m : List ℕ). take at d ++ m) (append-nil (framed_out id payload (drop at d)))
      ∙ framed-rest id payload

pub past_end : (d : List ℕ) (at id : ℕ) (payload : List ℕ) → length d < at → d ≡ appended_of d at id payload
unfolding appended_of
past_end d at id payload h = go (ltb 1464 (length payload))
  where
    go : (long : Bool) → d ≡ cond long d (lay d at (frame id payload))
    go true = refl
    go false = sym (lay-out d at (frame id payload) (omega arith))
