-- CALLS IN ANY ORDER (R15.7): whole events, and single takes of a segment, so that other calls may stand between two takes of one segment.
use Rattle.std.specs.Prelude.{ℕ, cond, List, [], ◌∷◌, ◌++◌, eqb, take}
use Rattle.reading.specs.Feed.{Out}
use Rattle.model.specs.Events.{segment, Event, on}
use Rattle.model_refines.specs.Machine.{Machine, taken, after_one, told_by}
use Rattle.model_refines.specs.Run.{after_event, given}

-- an event, or one take of a segment on connection k
pub data AnyCall : Type 0 where
  event : Event → AnyCall
  once : ℕ → List ℕ → AnyCall

module _ (image : List ℕ) where
  -- the bytes of the segment that one take reads
  abbrev pub bytes_taken : ℕ → Machine → List ℕ → List ℕ
  bytes_taken k m bytes = take (taken image k m bytes).read bytes

  -- what a call makes of the machine, the outcomes that the caller is given for connection i, and the event that it is: one take is the
  -- segment event of the bytes that it reads
  unfoldable pub after_call : AnyCall → Machine → Machine
  after_call (event e) m = after_event image e m
  after_call (once k bytes) m = after_one image k m bytes

  unfoldable pub given_by : ℕ → AnyCall → Machine → List Out
  given_by i (event e) m = given image i e m
  given_by i (once k bytes) m = cond (eqb k i) (told_by image k m bytes) []

  unfoldable pub as_event : AnyCall → Machine → Event
  as_event (event e) m = e
  as_event (once k bytes) m = on k (segment (bytes_taken k m bytes))

  -- of calls one after the other, each lent the memory that the last one left
  unfoldable pub after_calls : Machine → List AnyCall → Machine
  after_calls m [] = m
  after_calls m (c ∷ cs) = after_calls (after_call c m) cs

  unfoldable pub given_calls : ℕ → Machine → List AnyCall → List Out
  given_calls i m [] = []
  given_calls i m (c ∷ cs) = given_by i c m ++ given_calls i (after_call c m) cs

  unfoldable pub as_events : Machine → List AnyCall → List Event
  as_events m [] = []
  as_events m (c ∷ cs) = as_event c m ∷ as_events (after_call c m) cs
