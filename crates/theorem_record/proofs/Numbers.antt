-- WHERE THE ARGUMENTS END (R17.2): arguments that spell an event are as long as its number says, whatever answer stands behind them.
use Prim.Native.Nat.{ℕ, suc, ◌+◌, ◌≤◌, ◌<◌}
use mathlib.Core.Path.{◌≡◌, refl, sym, ap, ◌∙◌, subst}
use mathlib.Core.Logic.{⊎_elim}
use mathlib.Core.Bool.{Bool, true, false, ◌&&◌}
use mathlib.Core.List.{List, ◌++◌}
use native.Mathlib.Nat.{eq-or-lt_of_le, le_of_suc-le-suc}
use native.Mathlib.Omega.{arith}
use borrow.Author.Tests.{eqb-true, leb-true, ltb-true}
use lib.Dec.{eqb, ltb, leb}
use lib.ListN.{length, drop}
use lib.Seq.{take-append_seam, drop-append_seam}
use Rattle.std.proofs.Common.{Result, Ok}
use Rattle.wire.specs.Be.{be}
use Rattle.wire.proofs.Part.{be-front}
use Rattle.lists.proofs.Both.{impossible, and_left, and_right}
use Rattle.connection.specs.declared.Event.TheVariants.{Open, Close, Connected, SetRemote, Switch, Cancel}
use Rattle.event_decode.specs.declared.Call.{Call}
use Rattle.event_decode.specs.declared.BadCall.{BadCall}
use Rattle.event_decode.specs.declared.Call.TheVariants.{Own, Lost, Segment, Walk, TakeWaiting, Datagram, Accept, Transmit, SwitchAll, ReadCount, ClearCount}
use Rattle.event_decode.specs.Calls.{fitted, plain, length_fits, address_fits, addressed, remote_in, positioned, call_of}
use Rattle.recording.specs.Entry.{is_recorded, arguments_long, arguments_in, answer_in, is_spelt}

-- AN EVENT OF A RECORDING is one of sixteen
next-number : (P : ℕ → Type 0) (k n : ℕ) → P (suc k) → (n ≤ k → P n) → n ≤ suc k → P n
next-number P k n here below h = ⊎_elim (λ e. subst P (sym e) here) (λ l. below (le_of_suc-le-suc l)) (eq-or-lt_of_le h)

by_number : (P : ℕ → Type 0) → P 1 → P 2 → P 3 → P 4 → P 5 → P 6 → P 7 → P 8 → P 9 → P 10 → P 11 → P 12 → P 13 → P 14 → P 15 → P 16
    → (n : ℕ) → is_recorded n ≡ true → P n
by_number P p₁ p₂ p₃ p₄ p₅ p₆ p₇ p₈ p₉ p₁₀ p₁₁ p₁₂ p₁₃ p₁₄ p₁₅ p₁₆ n e =
    let some : 0 < n = ltb-true 0 n (and_left (ltb 0 n) (leb n 16) e) in
    next-number P 15 n p₁₆
    (next-number P 14 n p₁₅
    (next-number P 13 n p₁₄
    (next-number P 12 n p₁₃
    (next-number P 11 n p₁₂
    (next-number P 10 n p₁₁
    (next-number P 9 n p₁₀
    (next-number P 8 n p₉
    (next-number P 7 n p₈
    (next-number P 6 n p₇
    (next-number P 5 n p₆
    (next-number P 4 n p₅
    (next-number P 3 n p₄
    (next-number P 2 n p₃
    (next-number P 1 n p₂
    (next-number P 0 n p₁ (λ none. absurd (omega arith))))))))))))))))) (leb-true n 16 (and_right (ltb 0 n) (leb n 16) e))

-- .. so what holds of the call of each number, of arguments that fit, holds of all that spell an event
when_spelt : (P : Result Call BadCall → Type 0) (t : Bool) (call : Call) → is_spelt (fitted t call) ≡ true → (t ≡ true → P (Ok call)) → P (fitted t call)
unfolding is_spelt
when_spelt P true call e h = h refl
when_spelt P false call e h = impossible e

pub by_call : (P : ℕ → List ℕ → Result Call BadCall → Type 0)
    → ((a : List ℕ) → plain a 2 ≡ true → P 1 a (Ok (Own (be 1 a 1) Open)))
    → ((a : List ℕ) → plain a 2 ≡ true → P 2 a (Ok (Own (be 1 a 1) Close)))
    → ((a : List ℕ) → plain a 2 ≡ true → P 3 a (Ok (Own (be 1 a 1) Connected)))
    → ((a : List ℕ) → plain a 2 ≡ true → P 4 a (Ok (Lost (be 1 a 1))))
    → ((a : List ℕ) → addressed a ≡ true → P 5 a (Ok (Own (be 1 a 1) (SetRemote (remote_in (drop 2 a))))))
    → ((a : List ℕ) → positioned a 4 3 ≡ true → P 6 a (Ok (Own (be 1 a 1) (Switch (be 1 a 2) (eqb (be 1 a 3) 1)))))
    → ((a : List ℕ) → length_fits a 2 ≡ true → P 7 a (Ok (Segment (be 1 a 1) 6)))
    → ((a : List ℕ) → length_fits a 6 ≡ true → P 8 a (Ok (Walk (be 1 a 1) (be 4 a 2) 10)))
    → ((a : List ℕ) → plain a 6 ≡ true → P 9 a (Ok (TakeWaiting (be 1 a 1) (be 4 a 2))))
    → ((a : List ℕ) → addressed a ≡ true → P 10 a (Ok (Datagram (be 1 a 1) (remote_in (drop 2 a)))))
    → ((a : List ℕ) → addressed a ≡ true → P 11 a (Ok (Accept (be 1 a 1) (remote_in (drop 2 a)))))
    → ((a : List ℕ) → length_fits a 3 ≡ true → P 12 a (Ok (Transmit (be 2 a 1) 7)))
    → ((a : List ℕ) → positioned a 3 2 ≡ true → P 13 a (Ok (SwitchAll (be 1 a 1) (eqb (be 1 a 2) 1))))
    → ((a : List ℕ) → plain a 2 ≡ true → P 14 a (Ok (ReadCount (be 1 a 1))))
    → ((a : List ℕ) → plain a 2 ≡ true → P 15 a (Ok (ClearCount (be 1 a 1))))
    → ((a : List ℕ) → plain a 2 ≡ true → P 16 a (Ok (Own (be 1 a 1) Cancel)))
    → (n : ℕ) → is_recorded n ≡ true → (a : List ℕ) → is_spelt (call_of n a) ≡ true → P n a (call_of n a)
unfolding call_of
by_call P p₁ p₂ p₃ p₄ p₅ p₆ p₇ p₈ p₉ p₁₀ p₁₁ p₁₂ p₁₃ p₁₄ p₁₅ p₁₆ =
    by_number (λ n. (a : List ℕ) → is_spelt (call_of n a) ≡ true → P n a (call_of n a))
    (λ a e. when_spelt (P 1 a) (plain a 2) (Own (be 1 a 1) Open) e (p₁ a))
    (λ a e. when_spelt (P 2 a) (plain a 2) (Own (be 1 a 1) Close) e (p₂ a))
    (λ a e. when_spelt (P 3 a) (plain a 2) (Own (be 1 a 1) Connected) e (p₃ a))
    (λ a e. when_spelt (P 4 a) (plain a 2) (Lost (be 1 a 1)) e (p₄ a))
    (λ a e. when_spelt (P 5 a) (addressed a) (Own (be 1 a 1) (SetRemote (remote_in (drop 2 a)))) e (p₅ a))
    (λ a e. when_spelt (P 6 a) (positioned a 4 3) (Own (be 1 a 1) (Switch (be 1 a 2) (eqb (be 1 a 3) 1))) e (p₆ a))
    (λ a e. when_spelt (P 7 a) (length_fits a 2) (Segment (be 1 a 1) 6) e (p₇ a))
    (λ a e. when_spelt (P 8 a) (length_fits a 6) (Walk (be 1 a 1) (be 4 a 2) 10) e (p₈ a))
    (λ a e. when_spelt (P 9 a) (plain a 6) (TakeWaiting (be 1 a 1) (be 4 a 2)) e (p₉ a))
    (λ a e. when_spelt (P 10 a) (addressed a) (Datagram (be 1 a 1) (remote_in (drop 2 a))) e (p₁₀ a))
    (λ a e. when_spelt (P 11 a) (addressed a) (Accept (be 1 a 1) (remote_in (drop 2 a))) e (p₁₁ a))
    (λ a e. when_spelt (P 12 a) (length_fits a 3) (Transmit (be 2 a 1) 7) e (p₁₂ a))
    (λ a e. when_spelt (P 13 a) (positioned a 3 2) (SwitchAll (be 1 a 1) (eqb (be 1 a 2) 1)) e (p₁₃ a))
    (λ a e. when_spelt (P 14 a) (plain a 2) (ReadCount (be 1 a 1)) e (p₁₄ a))
    (λ a e. when_spelt (P 15 a) (plain a 2) (ClearCount (be 1 a 1)) e (p₁₅ a))
    (λ a e. when_spelt (P 16 a) (plain a 2) (Own (be 1 a 1) Cancel) e (p₁₆ a))

-- so their length is fixed, or told by a length within them
module _ (a : List ℕ) where
  pub plain-long : (n : ℕ) → plain a n ≡ true → n ≡ length a
  plain-long n e = sym (eqb-true (length a) n (and_left (eqb (length a) n) (eqb (be 1 a 0) 0) e))

  addressed-long : addressed a ≡ true → 21 ≡ length a
  addressed-long e = plain-long 21 (and_left (plain a 21) (address_fits (drop 2 a)) e)

  positioned-long : (n at : ℕ) → positioned a n at ≡ true → n ≡ length a
  positioned-long n at e = plain-long n (and_left (plain a n) (leb (be 1 a at) 1) e)

  pub told_long : (at : ℕ) → length_fits a at ≡ true → be 4 a at + (at + 4) ≡ length a
  told_long at e =
      eqb-true (be 4 a at + (at + 4)) (length a)
      (and_left (eqb (be 4 a at + (at + 4)) (length a)) (eqb (be 1 a 0) 0)
      (and_left (eqb (be 4 a at + (at + 4)) (length a) && eqb (be 1 a 0) 0) (leb (length a) 4096) e))

  length-long : (r : List ℕ) (at : ℕ) → length_fits a at ≡ true → be 4 (a ++ r) at + (at + 4) ≡ length a
  length-long r at e =
      let long = told_long at e in
      ap (λ (n : ℕ). n + (at + 4)) (be-front 4 a r at (omega (arith, long))) ∙ long

-- WHERE THE ARGUMENTS END
pub arguments_back : (n : ℕ) → is_recorded n ≡ true → (a : List ℕ) → is_spelt (call_of n a) ≡ true → (r : List ℕ) → arguments_long n (a ++ r) ≡ length a
unfolding arguments_long
arguments_back =
    by_call (λ n a call. (r : List ℕ) → arguments_long n (a ++ r) ≡ length a)
    (λ a t r. plain-long a 2 t)
    (λ a t r. plain-long a 2 t)
    (λ a t r. plain-long a 2 t)
    (λ a t r. plain-long a 2 t)
    (λ a t r. addressed-long a t)
    (λ a t r. positioned-long a 4 3 t)
    (λ a t r. length-long a r 2 t)
    (λ a t r. length-long a r 6 t)
    (λ a t r. plain-long a 6 t)
    (λ a t r. addressed-long a t)
    (λ a t r. addressed-long a t)
    (λ a t r. length-long a r 3 t)
    (λ a t r. positioned-long a 3 2 t)
    (λ a t r. plain-long a 2 t)
    (λ a t r. plain-long a 2 t)
    (λ a t r. plain-long a 2 t)

-- so both parts of a body are read back
module _ (n : ℕ) (a r : List ℕ) (event : is_recorded n ≡ true) (spells : is_spelt (call_of n a) ≡ true) where
  pub arguments-in : arguments_in n (a ++ r) ≡ a
  arguments-in = rw (arguments_back n event a spells r) (take-append_seam a r)

  pub answer-in : answer_in n (a ++ r) ≡ r
  answer-in = rw (arguments_back n event a spells r) (drop-append_seam a r)
