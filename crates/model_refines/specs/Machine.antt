-- THE MACHINE that the entry points make: the state and both lent memories, each call lent what the last one left; and a segment event
-- on it, which is the caller's takes.
use Rattle.std.specs.Prelude.{ℕ, zero, suc, Bool, false, cond, List, [], ◌∷◌, ◌++◌, length, drop}
use Rattle.reading.specs.Feed.{Out, pdu, dropped, start, piece}
use Rattle.state.specs.declared.State.{State}
use Rattle.gate.specs.Lent.{Lent, Loan, loan, sizes}
use Rattle.receive_stream.specs.declared.Outcome.{Outcome}
use Rattle.receive_stream.specs.declared.Outcome.TheVariants as Found
use Rattle.entry_receive.specs.declared.SegmentTaken.{SegmentTaken}
use Rattle.entry_receive.specs.Answer.{is_done}
use Rattle.entry_receive.specs.Segment.{segment_of, memory_of, payload_of}
use Rattle.model.specs.World.{World, view_of}

pub record Machine : Type 0 where
  pub state : State
  pub rx : List ℕ
  pub tx : List ℕ

abbrev pub machine : State → List ℕ → List ℕ → Machine
machine s rx tx = record { state = s; rx = rx; tx = tx }

-- what the next call is lent
abbrev pub loan_to : List ℕ → Machine → Loan
loan_to image m = loan image m.state m.rx m.tx

abbrev pub lent_to : List ℕ → Machine → Lent
lent_to image m = sizes (loan_to image m)

-- what it holds
abbrev pub seen : Machine → World
seen m = view_of m.state m.rx m.tx

-- ONE TAKE on connection k
module _ (image : List ℕ) (k : ℕ) where
  abbrev pub taken : Machine → List ℕ → SegmentTaken
  taken m segment = segment_of (loan_to image m) k segment

  abbrev pub after_one : Machine → List ℕ → Machine
  after_one m segment = machine (taken m segment).state (memory_of (loan_to image m) k segment) m.tx

  -- the bytes that it leaves of the segment
  abbrev pub rest_of : Machine → List ℕ → List ℕ
  rest_of m segment = drop (taken m segment).read segment

  -- what it found: a PDU, with the payload that the caller is given, or a drop; R19.2, R19.3: a transfer's start, or a piece of it, with the
  -- bytes that the caller is given
  abbrev pub pdu_told : List ℕ → Outcome → List Out
  pdu_told payload Found.More = []
  pdu_told payload (Found.Pdu route id inside at n) = pdu route payload ∷ []
  pdu_told payload (Found.Drop reason id n) = dropped reason id n ∷ []
  pdu_told payload (Found.Start route id n last) = start route id n last ∷ []
  pdu_told payload (Found.Piece route id at n last) = piece route payload last ∷ []

  abbrev pub told_by : Machine → List ℕ → List Out
  told_by m segment = pdu_told (payload_of segment (after_one m segment).rx k (taken m segment).outcome) (taken m segment).outcome

  -- R5.14, A SEGMENT EVENT: the caller's takes over one segment until all is read, one take at least; a take that is refused ends it. At
  -- most f takes
  abbrev pub goes_on : Bool → List ℕ → Bool
  goes_on done [] = false
  goes_on done (b ∷ bs) = done

  unfoldable pub after_takes : ℕ → Machine → List ℕ → Machine
  after_takes zero m segment = m
  after_takes (suc f) m segment =
      cond (goes_on (is_done (taken m segment).answer) (rest_of m segment)) (after_takes f (after_one m segment) (rest_of m segment)) (after_one m segment)

  unfoldable pub told_takes : ℕ → Machine → List ℕ → List Out
  told_takes zero m segment = []
  told_takes (suc f) m segment =
      told_by m segment ++ cond (goes_on (is_done (taken m segment).answer) (rest_of m segment)) (told_takes f (after_one m segment) (rest_of m segment)) []

  -- each take but that of an empty segment reads a byte, so this many are enough
  abbrev pub after_segment : Machine → List ℕ → Machine
  after_segment m segment = after_takes (suc (length segment)) m segment

  abbrev pub told_segment : Machine → List ℕ → List Out
  told_segment m segment = told_takes (suc (length segment)) m segment
