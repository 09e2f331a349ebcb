-- A TRANSMIT (R10.1 to R10.4): the check of all destinations, then the store at all of them; the answer, the state and send memory
-- afterwards.
use Rattle.std.specs.Prelude.{ℕ, ◌+◌, ◌*◌, ◌/◌, ◌<◌, ◌≤◌, ◌≡◌, Bool, true, cond, not, ◌&&◌, List, eqb, length, Result}
use Rattle.frame.specs.Frame.{frame}
use Rattle.table_layout.specs.Layout.{row_bytes, body_of, Laid}
use Rattle.table_layout.specs.declared.Kind.TheVariants.{Destination}
use Rattle.lists.specs.Fold.{fold_from}
use Rattle.switches.specs.Switches.{is_on}
use Rattle.table_rows.specs.declared.DestinationRow.{DestinationRow}
use Rattle.table_rows.specs.Rows.{connection_of, destination_of}
use Rattle.state.specs.declared.State.{State}
use Rattle.state.specs.State.{record_at, with_record}
use Rattle.wire.specs.Lay.{lay}
use Rattle.send.specs.declared.Transmitted.{Transmitted}
use Rattle.send_destination.specs.Destination.{look_of, sent_of}
use Rattle.send.specs.Verdict.{verdict_of, is_stored}
use Rattle.send.specs.declared.NotSent.{NotSent}

-- the destination rows of an image
abbrev pub destinations : List ℕ → ℕ
destinations image = length (body_of image Destination) / row_bytes image Destination

-- the state and send memory on the way
pub record Sending : Type 0 where
  pub state : State
  pub memory : List ℕ

abbrev pub sending : State → List ℕ → Sending
sending s tx = record { state = s; memory = tx }

-- R10.3: header and payload appended to the stretch of its connection, one of 1,472 bytes for each, in number order
unfoldable pub append_of : DestinationRow → List ℕ → Sending → Sending
append_of d payload x =
    sending
    (with_record d.connection (sent_of d ((record_at x.state d.connection).used + 8 + length payload) (record_at x.state d.connection)) x.state)
    (lay x.memory (d.connection * 1472 + (record_at x.state d.connection).used) (frame d.id payload))

-- the check: the PDU, and of its payload only the length
module _ (image : List ℕ) (s : State) (pdu len : ℕ) where
  -- destination row i: 5 where it is of another PDU
  unfoldable pub look_at : ℕ → ℕ
  look_at i =
      cond (not (eqb (destination_of image i).pdu pdu)) 5
      (look_of len (connection_of image (destination_of image i).connection).size (destination_of image i) (record_at s (destination_of image i).connection))

  unfoldable pub check_of : Result Unit NotSent
  check_of = verdict_of look_at (destinations image)

-- the store, in table order, after a check that refused nothing
module _ (image : List ℕ) (s : State) (pdu : ℕ) (payload : List ℕ) where
  -- destination row i is of this PDU, and switched on at the call
  unfoldable pub wanted_at : ℕ → Bool
  wanted_at i = eqb (destination_of image i).pdu pdu && is_on (destination_of image i).groups (record_at s (destination_of image i).connection).switches

  unfoldable pub store_of : Sending → ℕ → Sending
  store_of x i = cond (wanted_at i) (append_of (destination_of image i) payload x) x

  unfoldable pub store_all : List ℕ → Sending
  store_all tx = fold_from store_of (destinations image) 0 (sending s tx)

-- what is left: the state and memory of the store, or as they were
unfoldable pub transmit_of : List ℕ → State → ℕ → List ℕ → List ℕ → Sending
transmit_of image s pdu payload tx = cond (is_stored (check_of image s pdu (length payload))) (store_all image s pdu payload tx) (sending s tx)

-- the answer, with the state
abbrev pub transmitted_of : List ℕ → State → ℕ → List ℕ → List ℕ → Transmitted
transmitted_of image s pdu payload tx =
    record { answer = check_of image s pdu (length payload); state = (transmit_of image s pdu payload tx).state }

-- what check and store rest on, of the table: its bodies are there, the numbers exist, the sizes are within a stretch, and no two
-- destinations share PDU and connection
pub record Ready (image : List ℕ) : Type 0 where
  pub laid : Laid image
  pub there : (i : ℕ) → i < destinations image → (destination_of image i).connection < 16
  pub sized : (i : ℕ) → i < destinations image → (connection_of image (destination_of image i).connection).size ≤ 1472
  pub apart : (i j : ℕ) → i < j → j < destinations image
      → (destination_of image i).pdu ≡ (destination_of image j).pdu → (destination_of image i).connection ≡ (destination_of image j).connection → ⊥

-- and, of the state, after the check: each wanted destination has room
abbrev pub Roomy : List ℕ → State → ℕ → List ℕ → Type 0
Roomy image s pdu payload =
    (i : ℕ) → i < destinations image → wanted_at image s pdu payload i ≡ true
    → (record_at s (destination_of image i).connection).used + 8 + length payload ≤ 1472
