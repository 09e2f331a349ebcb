-- AN ANSWER IS ITS NUMBER AND VALUES: the enum is had back from them, so that a contract that says the enum says them, and one that said them would say
-- the enum. And the first of the values is the number of R4.1.
use Rattle.std.proofs.Common.{Result, Ok, Err, ℕ}
use Prim.Native.Nat.{ℕ}
use mathlib.Core.Path.{◌≡◌, refl, sym, ap, ◌∙◌}
use mathlib.Core.Logic.{◌↔◌}
use mathlib.Core.Bool.{cond}
use mathlib.Core.List.{List, [], ◌∷◌}
use lib.Dec.{eqb}
use Rattle.connection.specs.declared.Refusal.{Refusal}
use Rattle.connection.specs.declared.Refusal.TheVariants.{Memory, Unsound, Missing, Denied}
use Rattle.entry_receive.specs.declared.NotReceived.TheVariants as Receives
use Rattle.select.specs.declared.NotMet.TheVariants as Arrivals
use Rattle.send.specs.declared.NotSent.TheVariants as Sends
use Rattle.send_waiting.specs.declared.NotTaken.TheVariants as Takes
use Rattle.table.specs.declared.BadTable.TheVariants as Tables
use Rattle.frame.specs.declared.FrameError.TheVariants as Frames
use Rattle.frame.specs.declared.FrameError.{FrameError}
use Rattle.theorem_values.specs.Values.{answer_values, framed_values, receive_values, table_values}
use Rattle.theorem_values.specs.Values.{count_values, arrival_values, transmission_values, taking_values}
use Rattle.table.specs.declared.BadTable.{BadTable}
use Rattle.entry_receive.specs.declared.NotReceived.{NotReceived}
use Rattle.select.specs.declared.NotMet.{NotMet}
use Rattle.send.specs.declared.NotSent.{NotSent}
use Rattle.send_waiting.specs.declared.NotTaken.{NotTaken}
use Rattle.connection.specs.declared.Remote.{Remote}

-- ONE LAW FOR ALL: what has a way back from its values is said by them
module _ {A : Type 0} (values : A → List ℕ) (from : List ℕ → A) (back : (x : A) → from (values x) ≡ x) where
  pub by_values : (r definition : A) → (r ≡ definition) ↔ (values r ≡ values definition)
  by_values r definition = (λ (e : r ≡ definition). ap values e, λ (e : values r ≡ values definition). sym (back r) ∙ ap from e ∙ back definition)

-- THE WAYS BACK
refusal_from : ℕ → Refusal
refusal_from n = cond (eqb n 11) Memory (cond (eqb n 12) Unsound (cond (eqb n 2) Missing Denied))

by_refusal : (P : Refusal → Type 0) → P Memory → P Unsound → P Missing → P Denied → (r : Refusal) → P r
by_refusal P a b c d Memory = a
by_refusal P a b c d Unsound = b
by_refusal P a b c d Missing = c
by_refusal P a b c d Denied = d

answer_from : List ℕ → Result Unit Refusal
answer_from [] = Ok tt
answer_from (n ∷ ns) = cond (eqb n 0) (Ok tt) (Err (refusal_from n))

framed_from : List ℕ → Result Unit FrameError
framed_from [] = Ok tt
framed_from (n ∷ ns) = cond (eqb n 0) (Ok tt) (cond (eqb n 7) (Err Frames.TooLong) (Err Frames.NoRoom))

receive_from : List ℕ → Result Unit NotReceived
receive_from [] = Ok tt
receive_from (n ∷ ns) = cond (eqb n 0) (Ok tt) (cond (eqb n 4) (Err Receives.NotReceiving) (Err (Receives.Refused (refusal_from n))))

table_from : List ℕ → Result Unit BadTable
table_from [] = Ok tt
table_from (n ∷ []) = Ok tt
table_from (n ∷ place ∷ ns) = Err (Tables.At place)

count_from : List ℕ → Result ℕ Refusal
count_from [] = Ok 0
count_from (n ∷ []) = Err (refusal_from n)
count_from (n ∷ value ∷ ns) = Ok value

arrival_from : List ℕ → Result ℕ NotMet
arrival_from [] = Err Arrivals.Unmatched
arrival_from (n ∷ []) = cond (eqb n 10) (Err Arrivals.Unmatched) (Err (Arrivals.Refused (refusal_from n)))
arrival_from (n ∷ k ∷ ns) = Ok k

transmission_from : List ℕ → Result Unit NotSent
transmission_from [] = Ok tt
transmission_from (n ∷ []) =
    cond (eqb n 0) (Ok tt) (cond (eqb n 5) (Err Sends.NoDestination) (cond (eqb n 6) (Err Sends.SwitchedOff) (Err (Sends.Refused (refusal_from n)))))
transmission_from (n ∷ d ∷ ns) = Err (Sends.RefusedAt n d)

taking_from : List ℕ → Result (ℕ × Remote) NotTaken
taking_from [] = Err Takes.Short
taking_from (n ∷ []) = cond (eqb n 9) (Err Takes.Short) (Err (Takes.Refused (refusal_from n)))
taking_from (n ∷ count ∷ []) = Err Takes.Short
taking_from (n ∷ count ∷ address ∷ []) = Err Takes.Short
taking_from (n ∷ count ∷ address ∷ port ∷ ns) = Ok (count, (record { address = address; port = port }))

answer_back : (x : Result Unit Refusal) → answer_from (answer_values x) ≡ x
unfolding answer_from refusal_from
answer_back (Ok tt) = refl
answer_back (Err r) = by_refusal (λ (q : Refusal). answer_from (answer_values (Err q)) ≡ Err q) refl refl refl refl r

framed_back : (x : Result Unit FrameError) → framed_from (framed_values x) ≡ x
unfolding framed_from
framed_back (Ok tt) = refl
framed_back (Err Frames.TooLong) = refl
framed_back (Err Frames.NoRoom) = refl

receive_back : (x : Result Unit NotReceived) → receive_from (receive_values x) ≡ x
unfolding receive_from refusal_from
receive_back (Ok tt) = refl
receive_back (Err (Receives.Refused r)) =
    by_refusal (λ (q : Refusal). receive_from (receive_values (Err (Receives.Refused q))) ≡ Err (Receives.Refused q)) refl refl refl refl r
receive_back (Err Receives.NotReceiving) = refl

table_back : (x : Result Unit BadTable) → table_from (table_values x) ≡ x
unfolding table_from
table_back (Ok tt) = refl
table_back (Err (Tables.At place)) = refl

count_back : (x : Result ℕ Refusal) → count_from (count_values x) ≡ x
unfolding count_from refusal_from
count_back (Ok value) = refl
count_back (Err r) = by_refusal (λ (q : Refusal). count_from (count_values (Err q)) ≡ Err q) refl refl refl refl r

arrival_back : (x : Result ℕ NotMet) → arrival_from (arrival_values x) ≡ x
unfolding arrival_from refusal_from
arrival_back (Ok k) =
    refl
arrival_back (Err (Arrivals.Refused r)) =
    by_refusal (λ (q : Refusal). arrival_from (arrival_values (Err (Arrivals.Refused q))) ≡ Err (Arrivals.Refused q)) refl refl refl refl r
arrival_back (Err Arrivals.Unmatched) = refl

transmission_back : (x : Result Unit NotSent) → transmission_from (transmission_values x) ≡ x
unfolding transmission_from refusal_from
transmission_back (Ok tt) = refl
transmission_back (Err (Sends.Refused r)) =
    by_refusal (λ (q : Refusal). transmission_from (transmission_values (Err (Sends.Refused q))) ≡ Err (Sends.Refused q)) refl refl refl refl r
transmission_back (Err Sends.NoDestination) = refl
transmission_back (Err Sends.SwitchedOff) = refl
transmission_back (Err (Sends.RefusedAt n d)) = refl

taking_back : (x : Result (ℕ × Remote) NotTaken) → taking_from (taking_values x) ≡ x
unfolding taking_from refusal_from
taking_back (Ok (count, remote)) =
    refl
taking_back (Err (Takes.Refused r)) =
    by_refusal (λ (q : Refusal). taking_from (taking_values (Err (Takes.Refused q))) ≡ Err (Takes.Refused q)) refl refl refl refl r
taking_back (Err Takes.Short) = refl

-- EACH ENUM, by its number and values
pub answer_said : (r definition : Result Unit Refusal) → (r ≡ definition) ↔ (answer_values r ≡ answer_values definition)
answer_said = by_values answer_values answer_from answer_back

pub framed_said : (r definition : Result Unit FrameError) → (r ≡ definition) ↔ (framed_values r ≡ framed_values definition)
framed_said = by_values framed_values framed_from framed_back

pub receive_said : (r definition : Result Unit NotReceived) → (r ≡ definition) ↔ (receive_values r ≡ receive_values definition)
receive_said = by_values receive_values receive_from receive_back

pub table_said : (r definition : Result Unit BadTable) → (r ≡ definition) ↔ (table_values r ≡ table_values definition)
table_said = by_values table_values table_from table_back

pub count_said : (r definition : Result ℕ Refusal) → (r ≡ definition) ↔ (count_values r ≡ count_values definition)
count_said = by_values count_values count_from count_back

pub arrival_said : (r definition : Result ℕ NotMet) → (r ≡ definition) ↔ (arrival_values r ≡ arrival_values definition)
arrival_said = by_values arrival_values arrival_from arrival_back

pub transmission_said : (r definition : Result Unit NotSent) → (r ≡ definition) ↔ (transmission_values r ≡ transmission_values definition)
transmission_said = by_values transmission_values transmission_from transmission_back

pub taking_said : (r definition : Result (ℕ × Remote) NotTaken) → (r ≡ definition) ↔ (taking_values r ≡ taking_values definition)
taking_said = by_values taking_values taking_from taking_back
