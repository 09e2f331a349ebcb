-- A SHORT OUT BUFFER IS REFUSED, and any other is not.
use Prim.Native.Nat.{ℕ, ◌≤◌, ◌<◌}
use mathlib.Core.Path.{◌≡◌, refl, sym, ap, ◌∙◌}
use mathlib.Core.Bool.{Bool, true, false, cond}
use mathlib.Core.List.{List}
use borrow.Author.Tests.{lt-ltb, le-ltb, ltb-true, ltb-false}
use lib.Dec.{ltb}
use lib.ListN.{length}
use Rattle.std.proofs.Common.{Result, Ok, Err}
use Rattle.wire.specs.Lay.{lay}
use Rattle.state.specs.declared.State.{State}
use Rattle.event_answer.specs.declared.NoAnswer.{NoAnswer}
use Rattle.event_answer.specs.declared.NoAnswer.TheVariants.{Small}
use Rattle.event_answer.specs.declared.Dispatched.{Dispatched}
use Rattle.event_answer.specs.Answers.{Effect, answers, untouched, dispatched, room, has_room, if_room}
use Rattle.event_answer.proofs.Reply.{reply}

-- what the test of the room answers
abbrev of_test : Bool → Result Unit NoAnswer
of_test short = cond short (Err Small) (Ok tt)

pub short_of : {r : Result Unit NoAnswer} {why : NoAnswer} (out : List ℕ) → r ≡ has_room (length out) → r ≡ Err why → (length out < room) × (why ≡ Small)
short_of {r} {why} out asked e = go (ltb (length out) room) refl
  where
    go : (short : Bool) → ltb (length out) room ≡ short → (length out < room) × (why ≡ Small)
    go true t = let k : of_test true ≡ Err why = sym (ap of_test t) ∙ sym asked ∙ e in (ltb-true (length out) room t, cc)
    go false t = let k : of_test false ≡ Err why = sym (ap of_test t) ∙ sym asked ∙ e in cc

pub long_of : {r : Result Unit NoAnswer} {u : Unit} (out : List ℕ) → r ≡ has_room (length out) → r ≡ Ok u → room ≤ length out
long_of {r} {u} out asked e = go (ltb (length out) room) refl
  where
    go : (short : Bool) → ltb (length out) room ≡ short → room ≤ length out
    go true t = let k : of_test true ≡ Ok u = sym (ap of_test t) ∙ sym asked ∙ e in cc
    go false t = ltb-false (length out) room t

-- what a function hands back and leaves in its out buffer, by the event's effect
abbrev Says : Effect → Dispatched → List ℕ → Type 0
Says x d after = (d ≡ dispatched x) × (after ≡ x.out)

module _ (s : State) (rx tx out : List ℕ) (e : Effect) where
  abbrev either : Bool → Effect
  either short = cond short (untouched (Err Small) s rx tx out) e

  pub no_room : length out < room → if_room s rx tx out e ≡ untouched (Err Small) s rx tx out
  no_room short = ap either (lt-ltb (length out) room short)

  pub with-room : room ≤ length out → if_room s rx tx out e ≡ e
  with-room long = ap either (le-ltb (length out) room long)

  pub refuses : length out < room → Says (if_room s rx tx out e) (dispatched (untouched (Err Small) s rx tx out)) out
  refuses short = let is = sym (no_room short) in (ap dispatched is, ap (λ (x : Effect). x.out) is)

  -- as the test of the room says it
  pub not_roomy : {r : Result Unit NoAnswer} {why : NoAnswer} → r ≡ has_room (length out) → r ≡ Err why
      → if_room s rx tx out e ≡ untouched (Err why) s rx tx out
  not_roomy asked is =
      let h = short_of out asked is in
      no_room h.0 ∙ ap (λ (w : NoAnswer). untouched (Err w) s rx tx out) (sym h.1)

  pub roomy : {r : Result Unit NoAnswer} {u : Unit} → r ≡ has_room (length out) → r ≡ Ok u → if_room s rx tx out e ≡ e
  roomy asked is = with-room (long_of out asked is)

  pub refuses_so : {r : Result Unit NoAnswer} {why : NoAnswer} → r ≡ has_room (length out) → r ≡ Err why
      → Says (if_room s rx tx out e) (record { verdict = Err why; state = s }) out
  refuses_so asked is = let same = sym (not_roomy asked is) in (ap dispatched same, ap (λ (x : Effect). x.out) same)

  pub goes_on : room ≤ length out → {d : Dispatched} {after : List ℕ} → Says e d after → Says (if_room s rx tx out e) d after
  goes_on long h = let is = sym (with-room long) in (h.0 ∙ ap dispatched is, h.1 ∙ ap (λ (x : Effect). x.out) is)

  -- what the event leaves as it was, a refusal does
  pub room_keeps : {A : Type 0} (f : Effect → A) (x : A) → x ≡ f (untouched (Err Small) s rx tx out) → x ≡ f e → x ≡ f (if_room s rx tx out e)
  room_keeps f x p q = go (ltb (length out) room)
    where
      go : (short : Bool) → x ≡ f (either short)
      go true = p
      go false = q

-- an answer is written and handed back, of an event that leaves both memories as they were
pub replies : {b c : List ℕ} {n : ℕ} {t u : State} {after : List ℕ} (s : State) (rx tx out : List ℕ) → room ≤ length out
    → n ≡ length b → after ≡ lay out 0 b → b ≡ c → t ≡ u
    → Says (if_room s rx tx out (answers c u rx tx out)) (record { verdict = Ok n; state = t }) after
replies {b} {c} {n} {t} {u} s rx tx out long p q e f = goes_on s rx tx out (answers c u rx tx out) long (reply out p q e f)
