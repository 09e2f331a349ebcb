-- WHAT A CALL IS LENT (R4.3), as one value: the image, the state, and receive and send memory. Of the memories most calls look at the lengths
-- alone (`Lent`); a segment, a transmit and taking the waiting bytes need the bytes themselves (`Loan`).
use Rattle.std.specs.Prelude.{ℕ, List, length}
use Rattle.state.specs.declared.State.{State}

-- by the lengths of both memories
pub record Lent : Type 0 where
  pub image : List ℕ
  pub state : State
  pub rx : ℕ
  pub tx : ℕ

abbrev pub lent : List ℕ → State → ℕ → ℕ → Lent
lent image s rx tx = record { image = image; state = s; rx = rx; tx = tx }

-- the next call, lent the same but for the state
abbrev pub next : Lent → State → Lent
next l s = lent l.image s l.rx l.tx

-- with both memories themselves
pub record Loan : Type 0 where
  pub image : List ℕ
  pub state : State
  pub rx : List ℕ
  pub tx : List ℕ

abbrev pub loan : List ℕ → State → List ℕ → List ℕ → Loan
loan image s rx tx = record { image = image; state = s; rx = rx; tx = tx }

-- the same loan, by the lengths of its memories
abbrev pub sizes : Loan → Lent
sizes l = lent l.image l.state (length l.rx) (length l.tx)

abbrev pub lent_by : List ℕ → State → List ℕ → List ℕ → Lent
lent_by image s rx tx = sizes (loan image s rx tx)

-- the next loan: another state and receive memory, as a take leaves them, or another state and send memory, as a transmit leaves them
abbrev pub received : Loan → State → List ℕ → Loan
received l s rx = loan l.image s rx l.tx

abbrev pub lent_after : Loan → State → List ℕ → Loan
lent_after l s tx = loan l.image s l.rx tx
