-- Reading, and reading and clearing, a drop count. A refusal carries its number, and the state stays.
use Rattle.std.specs.Prelude.{ℕ, Bool, true, false, cond, eqb, Result, Ok, Err}
use Rattle.connection.specs.declared.Refusal.{Refusal}
use Rattle.connection.specs.declared.Refusal.TheVariants.{Denied}
use Rattle.connection.specs.Event.{refusal_number}
use Rattle.state.specs.declared.State.{State}
use Rattle.state.specs.State.{count_of, with_count}
use Rattle.gate.specs.Lent.{Lent}
use Rattle.gate.specs.Gate.{gate_of, through}
use Rattle.entry_events.specs.declared.Counted.{Counted}

-- R4.1: the number of an answer
abbrev pub count_number : Result ℕ Refusal → ℕ
count_number (Ok n) = 0
count_number (Err r) = refusal_number r

abbrev pub uncounted : State → Refusal → Counted
uncounted s r = record { answer = Err r; state = s }

-- R8.10: protocol 1 is UDP, 2 TCP; another gets 3
unfoldable pub of_protocol : {A : Type 0} → (Bool → A) → A → ℕ → A
of_protocol known unknown p = cond (eqb p 1) (known false) (cond (eqb p 2) (known true) unknown)

-- past the gate: the count, and the state as it was
abbrev pub read_from : State → Bool → Counted
read_from s tcp = record { answer = Ok (count_of tcp s); state = s }

unfoldable pub read_past : State → ℕ → Counted
read_past s p = of_protocol (read_from s) (uncounted s Denied) p

-- R8.10: the value read is the one before clearing
abbrev pub clear_from : State → Bool → Counted
clear_from s tcp = record { answer = Ok (count_of tcp s); state = with_count tcp 0 s }

unfoldable pub clear_past : State → ℕ → Counted
clear_past s p = of_protocol (clear_from s) (uncounted s Denied) p

-- R8.10: reading, or reading and clearing, a count: 11, 12, then 3
unfoldable pub read_of : Lent → ℕ → Counted
read_of l p = through (gate_of l) (uncounted l.state) (read_past l.state p)

unfoldable pub clear_of : Lent → ℕ → Counted
clear_of l p = through (gate_of l) (uncounted l.state) (clear_past l.state p)
