-- EVENTS AND RUNS OF THE MACHINE (R15.1): what an event makes of it is what the contract of its entry point says, refusals included.
use Rattle.std.specs.Prelude.{ℕ, ◌≡◌, cond, List, [], ◌∷◌, ◌++◌, eqb, length, drop, replicate, take as front}
use Rattle.reading.specs.Feed.{Out, pdu, dropped}
use Rattle.receive_datagram.specs.declared.Outcome.{Outcome as Step}
use Rattle.receive_datagram.specs.declared.Outcome.TheVariants as Met
use Rattle.gate.specs.Gate.{Passed}
use Rattle.entry_events.specs.Change.{event_of}
use Rattle.entry_events.specs.Module.{switch_all_of}
use Rattle.entry_events.specs.Count.{read_of, clear_of}
use Rattle.entry_ticks.specs.Tick.{tick_event}
use Rattle.entry_arrivals.specs.Arrivals.{datagram_of, accept_of}
use Rattle.entry_receive.specs.Walk.{walk_of}
use Rattle.entry_send.specs.Sending.{send_of, sent_memory, taken_waiting}
use Rattle.model.specs.Events.{
  Own,
  change,
  segment,
  walk,
  take_waiting,
  Whole,
  datagram,
  accept,
  tick,
  transmit,
  switch_all,
  read_count,
  clear_count,
  Event,
  on,
  on_whole,
}
use Rattle.model_refines.specs.Machine.{Machine, machine, lent_to, loan_to, after_segment, told_segment}

-- WHAT A WALK FOUND: a PDU, with the payload that stands at its place, or a drop
abbrev pub told_walk : List ℕ → Step → List Out
told_walk d Met.End = []
told_walk d (Met.Pdu route id place n) = pdu route (front n (drop place d)) ∷ []
told_walk d (Met.Drop reason id n) = dropped reason id n ∷ []

-- ONE EVENT
module _ (image : List ℕ) where
  -- of connection k. An out buffer of that room: what stands in it does not matter
  unfoldable pub after_own : ℕ → Own → Machine → Machine
  after_own k (change e) m = machine (event_of (lent_to image m) k e).state m.rx m.tx
  after_own k (segment bytes) m = after_segment image k m bytes
  after_own k (walk d place) m = machine (walk_of (lent_to image m) k d place).state m.rx m.tx
  after_own k (take_waiting room) m = machine (taken_waiting (loan_to image m) k (replicate room 0)).state m.rx m.tx

  -- of a whole group or module
  unfoldable pub after_whole : Whole → Machine → Machine
  after_whole (datagram group source) m = machine (datagram_of (lent_to image m) group source).state m.rx m.tx
  after_whole (accept group source) m = machine (accept_of (lent_to image m) group source).state m.rx m.tx
  after_whole tick m = machine (tick_event (lent_to image m)).state m.rx m.tx
  after_whole (transmit number payload) m =
      machine (send_of (loan_to image m) number payload).state m.rx (sent_memory (loan_to image m) number payload)
  after_whole (switch_all number position) m = machine (switch_all_of (lent_to image m) number position).state m.rx m.tx
  after_whole (read_count protocol) m = machine (read_of (lent_to image m) protocol).state m.rx m.tx
  after_whole (clear_count protocol) m = machine (clear_of (lent_to image m) protocol).state m.rx m.tx

  unfoldable pub after_event : Event → Machine → Machine
  after_event (on k e) m = after_own k e m
  after_event (on_whole e) m = after_whole e m

  -- the outcomes that the caller is given for connection k: PDUs, drops with their reason, id and length, and transfers' starts and pieces
  unfoldable pub given : ℕ → Event → Machine → List Out
  given k (on i (change e)) m = []
  given k (on i (segment bytes)) m = cond (eqb i k) (told_segment image i m bytes) []
  given k (on i (walk d place)) m = cond (eqb i k) (told_walk d (walk_of (lent_to image m) i d place).outcome) []
  given k (on i (take_waiting room)) m = []
  given k (on_whole e) m = []

  -- A RUN: each call is lent the memory that the last one left
  unfoldable pub after_run : Machine → List Event → Machine
  after_run m [] = m
  after_run m (e ∷ es) = after_run (after_event e m) es

  unfoldable pub given_in : ℕ → Machine → List Event → List Out
  given_in k m [] = []
  given_in k m (e ∷ es) = given k e m ++ given_in k (after_event e m) es

-- ONE ACCEPTED TABLE, ONE SOUND STATE (of sixteen records) AND MEMORY OF THE RIGHT LENGTHS
pub record Good (image : List ℕ) (m : Machine) : Type 0 where
  pub passed : Passed (lent_to image m)
  pub sixteen : length m.state.connections ≡ 16
