-- A TRANSMIT'S ANSWER IN THE RULES' WORDS (R10.1, R10.2): when each is given, and which destination is named.
use Rattle.std.specs.Prelude.{ℕ, ◌+◌, ◌<◌, ◌≤◌, ◌≡◌, true, false, List, length, Ok, Err, Result}
use Rattle.table_rows.specs.Rows.{connection_of, destination_of}
use Rattle.switches.specs.Switches.{is_on}
use Rattle.connection.specs.declared.Connection.{Connection}
use Rattle.connection.specs.Event.{receiving}
use Rattle.state.specs.declared.State.{State}
use Rattle.state.specs.State.{record_at}
use Rattle.gate.specs.Lent.{Loan, sizes}
use Rattle.gate.specs.Gate.{gate_of}
use Rattle.send.specs.declared.NotSent.TheVariants.{Refused, NoDestination, SwitchedOff, RefusedAt}
use Rattle.send.specs.Send.{destinations}
use Rattle.send.specs.declared.NotSent.{NotSent}

-- of a payload of len bytes for a PDU
module _ (image : List ℕ) (s : State) (pdu len : ℕ) where
  -- the record that destination i sends on
  abbrev pub sender_of : ℕ → Connection
  sender_of i = record_at s (destination_of image i).connection

  -- destination i is there and has the PDU
  pub record HasPdu (i : ℕ) : Type 0 where
    pub there : i < destinations image
    pub its : (destination_of image i).pdu ≡ pdu

  -- it is on by the switches at the call
  abbrev pub IsOn : ℕ → Type 0
  IsOn i = is_on (destination_of image i).groups (sender_of i).switches ≡ true

  -- R10.2: such a destination is asked
  abbrev pub Asked : ℕ → Type 0
  Asked i = HasPdu i × IsOn i

  -- it takes header and payload: online without close wanted, short enough, and room for both
  pub record TakesAll (i : ℕ) : Type 0 where
    pub receives : receiving (sender_of i) ≡ true
    pub short : len ≤ (destination_of image i).longest
    pub room : (sender_of i).used + 8 + len ≤ (connection_of image (destination_of image i).connection).size

  -- or it refuses, by the first of 4, 7 and 8 that applies
  pub data RefusesBy (i : ℕ) : ℕ → Type 0 where
    not-online : receiving (sender_of i) ≡ false → RefusesBy i 4
    too_long : receiving (sender_of i) ≡ true → (destination_of image i).longest < len → RefusesBy i 7
    no_room : receiving (sender_of i) ≡ true → len ≤ (destination_of image i).longest
        → (connection_of image (destination_of image i).connection).size < (sender_of i).used + 8 + len → RefusesBy i 8

  -- R10.2: destination i is asked and refuses by a number, and each one asked before it takes
  pub record FirstRefusing (number i : ℕ) : Type 0 where
    pub asked : Asked i
    pub refuses : RefusesBy i number
    pub before : (j : ℕ) → j < i → Asked j → TakesAll j

  -- past the gate, what each answer says: 5, 6, the refusal of a destination, or done
  abbrev pub PastGate : Result Unit NotSent → Type 0
  PastGate (Ok tt) = ((i : ℕ) × Asked i) × ((i : ℕ) → Asked i → TakesAll i)
  PastGate (Err (Refused r)) = ⊥
  PastGate (Err NoDestination) = (i : ℕ) → HasPdu i → ⊥
  PastGate (Err SwitchedOff) = ((i : ℕ) × HasPdu i) × ((i : ℕ) → Asked i → ⊥)
  PastGate (Err (RefusedAt number i)) = FirstRefusing number i

-- the gate's refusal; or the gate passes, and the above
abbrev pub ExactlyWhen : Loan → ℕ → List ℕ → Result Unit NotSent → Type 0
ExactlyWhen l pdu payload (Err (Refused r)) = gate_of (sizes l) ≡ Err r
ExactlyWhen l pdu payload (Ok tt) = (gate_of (sizes l) ≡ Ok tt) × PastGate l.image l.state pdu (length payload) (Ok tt)
ExactlyWhen l pdu payload (Err NoDestination) = (gate_of (sizes l) ≡ Ok tt) × PastGate l.image l.state pdu (length payload) (Err NoDestination)
ExactlyWhen l pdu payload (Err SwitchedOff) = (gate_of (sizes l) ≡ Ok tt) × PastGate l.image l.state pdu (length payload) (Err SwitchedOff)
ExactlyWhen l pdu payload (Err (RefusedAt number i)) = (gate_of (sizes l) ≡ Ok tt) × PastGate l.image l.state pdu (length payload) (Err (RefusedAt number i))
