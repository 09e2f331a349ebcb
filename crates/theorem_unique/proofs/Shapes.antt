-- TWO ALLOWED ANSWERS ARE EQUAL, one law for each shape.
use Prim.Native.Nat.{ℕ}
use Rattle.std.proofs.Common.{cond, eqb}
use mathlib.Core.Path.{◌≡◌, refl, sym, ap, ◌∙◌}
use mathlib.Core.List.{List}
use denote.Ref.{Bor}
use Rattle.wire.specs.Be.{Number}
use Rattle.send_destination.specs.declared.Reply.{Reply}
use Rattle.send_destination.specs.declared.Reply.TheVariants.{Fits, SwitchedOff, NotOnline, TooLong, NoRoom}
use Rattle.send_destination.specs.Reply.{reply_number}
use Rattle.theorem_unique.specs.Shapes.{Equation, WithBound, ByNumber, PartShape, SamePart}

-- an answer, or memory after the call
pub one_answer : {A : Type 0} (definition : A) (x y : A) → Equation definition x → Equation definition y → x ≡ y
one_answer definition x y p q = p ∙ sym q

pub one_bounded : {A : Type 0} (definition : A) (Bound : A → Type 0) (x y : A) → WithBound definition Bound x → WithBound definition Bound y → x ≡ y
one_bounded definition Bound x y p q = one_answer definition x y p.0 q.0

-- an answer by its number
pub one_numbered : {A : Type 0} (number : A → ℕ) → ((x y : A) → number x ≡ number y → x ≡ y) → (definition : ℕ) (x y : A)
    → ByNumber number definition x → ByNumber number definition y → x ≡ y
one_numbered number apart definition x y p q = apart x y (p ∙ sym q)

-- what a destination says has a number of its own
reply_back : ℕ → Reply
reply_back n = cond (eqb n 0) Fits (cond (eqb n 6) SwitchedOff (cond (eqb n 4) NotOnline (cond (eqb n 7) TooLong NoRoom)))

reply-back : (x : Reply) → reply_back (reply_number x) ≡ x
unfolding reply_back
reply-back Fits = refl
reply-back SwitchedOff = refl
reply-back NotOnline = refl
reply-back TooLong = refl
reply-back NoRoom = refl

pub replies_apart : (x y : Reply) → reply_number x ≡ reply_number y → x ≡ y
replies_apart x y e = sym (reply-back x) ∙ ap reply_back e ∙ reply-back y

-- a number that is read
pub one_number : (w : ℕ) (s : List ℕ) (at x y : ℕ) → Number w s at x → Number w s at y → x ≡ y
one_number w s at x y p q = p.is ∙ sym q.is

-- a part: by bytes and place
pub one-part : (bytes : List ℕ) (place : ℕ × ℕ) (x y : Bor (List ℕ)) → PartShape bytes place x → PartShape bytes place y → SamePart x y
one-part bytes place x y p q = record { bytes = p.0 ∙ sym q.0; place = p.1 ∙ sym q.1 }

-- A WHOLE CALL: an answer and the memory that it leaves
pub one_call : {A M : Type 0} (definition : A) (left : M) (x y : A) (m n : M) → Equation definition x
    × Equation left m → Equation definition y × Equation left n → (x ≡ y) × (m ≡ n)
one_call definition left x y m n p q = (one_answer definition x y p.0 q.0, one_answer left m n p.1 q.1)
