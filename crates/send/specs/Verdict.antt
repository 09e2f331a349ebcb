-- THE CHECK of a transmit (R10.1, R10.2): what follows from what each destination says.
use Rattle.std.specs.Prelude.{ℕ, Bool, true, false, cond, ◌||◌, eqb, ltb, Result, Ok, Err}
use Rattle.connection.specs.Event.{refusal_number}
use Rattle.lists.specs.Search.{first_bad, every}
use Rattle.send.specs.declared.NotSent.TheVariants.{Refused, NoDestination, SwitchedOff, RefusedAt}
use Rattle.send.specs.declared.NotSent.{NotSent}

-- no destination of the PDU, or one that is switched off
abbrev pub is_out : ℕ → Bool
is_out a = eqb a 5 || eqb a 6

-- a destination that does not refuse: it is out, or header and payload fit
abbrev pub passes : ℕ → Bool
passes a = eqb a 0 || is_out a

-- row k decides where there is one that refuses
abbrev pub decided_at : (ℕ → ℕ) → ℕ → ℕ → Result Unit NotSent
decided_at look n k = cond (ltb k n) (Err (RefusedAt (look k) k)) (Ok tt)

-- over the rows 0 .. n - 1, where `look` says 5 of a row of another PDU:
-- R10.1, 5 where no destination has this PDU, 6 where every one of the PDU is off; then R10.2, the first refusal decides and names its
-- destination
unfoldable pub verdict_of : (ℕ → ℕ) → ℕ → Result Unit NotSent
verdict_of look n =
    cond (every (λ i. eqb (look i) 5) n) (Err NoDestination)
    (cond (every (λ i. is_out (look i)) n) (Err SwitchedOff)
    (decided_at look n (first_bad (λ i. passes (look i)) n)))

-- R4.1: the number of an answer
abbrev pub transmission_number : Result Unit NotSent → ℕ
transmission_number (Ok tt) = 0
transmission_number (Err (Refused r)) = refusal_number r
transmission_number (Err NoDestination) = 5
transmission_number (Err SwitchedOff) = 6
transmission_number (Err (RefusedAt number destination)) = number

abbrev pub is_stored : Result Unit NotSent → Bool
is_stored (Ok tt) = true
is_stored (Err (Refused r)) = false
is_stored (Err NoDestination) = false
is_stored (Err SwitchedOff) = false
is_stored (Err (RefusedAt number destination)) = false

-- one pass over rows that do not refuse: 5 so far, then 6, then 0
unfoldable pub join_of : ℕ → ℕ → ℕ
join_of seen look = cond (eqb look 5 || eqb seen 0) seen look

abbrev pub transmission_of : ℕ → Result Unit NotSent
transmission_of seen = cond (eqb seen 5) (Err NoDestination) (cond (eqb seen 6) (Err SwitchedOff) (Ok tt))

-- and its answer, where it ended at row i with a refusal or with none
abbrev pub ended_of : ℕ → ℕ → ℕ → Result Unit NotSent
ended_of seen refused i = cond (eqb refused 0) (transmission_of seen) (Err (RefusedAt refused i))
