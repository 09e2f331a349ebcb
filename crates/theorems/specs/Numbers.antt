-- THE ANSWER NUMBER OF AN EVENT (R4.1), as its entry point gives it; of a segment event that of its first take; and the numbers that an
-- event can be answered with at all.
use Rattle.std.specs.Prelude.{ℕ, Bool, true, false, cond, ◌||◌, List, [], ◌∷◌, eqb, replicate}
use Rattle.connection.specs.Event.{answer_number, deniable}
use Rattle.entry_events.specs.Change.{event_of}
use Rattle.entry_events.specs.Module.{switch_all_of}
use Rattle.entry_events.specs.Count.{count_number, read_of, clear_of}
use Rattle.entry_ticks.specs.Tick.{tick_event}
use Rattle.select.specs.Choose.{arrival_number}
use Rattle.entry_arrivals.specs.Arrivals.{arrival_of}
use Rattle.entry_receive.specs.Answer.{receive_number}
use Rattle.entry_receive.specs.Walk.{walk_of}
use Rattle.send.specs.Verdict.{transmission_number}
use Rattle.send_waiting.specs.Waiting.{taking_number}
use Rattle.entry_send.specs.Sending.{send_of, taken_waiting}
use Rattle.model.specs.Events.{change, segment, walk, take_waiting, datagram, accept, tick, transmit, switch_all, read_count, clear_count, Event, on, on_whole}
use Rattle.model_refines.specs.Machine.{Machine, loan_to, lent_to, taken}
use Rattle.model_refines.specs.Run.{after_event}

module _ (image : List ℕ) (m : Machine) where
  abbrev pub number_of : Event → ℕ
  number_of (on k (change e)) = answer_number (event_of (lent_to image m) k e).answer
  number_of (on k (segment bytes)) = receive_number (taken image k m bytes).answer
  number_of (on k (walk d place)) = receive_number (walk_of (lent_to image m) k d place).answer
  number_of (on k (take_waiting room)) = taking_number (taken_waiting (loan_to image m) k (replicate room 0)).answer
  number_of (on_whole (datagram group source)) = arrival_number (arrival_of (lent_to image m) false group source).answer
  number_of (on_whole (accept group source)) = arrival_number (arrival_of (lent_to image m) true group source).answer
  number_of (on_whole tick) = answer_number (tick_event (lent_to image m)).answer
  number_of (on_whole (transmit pdu payload)) = transmission_number (send_of (loan_to image m) pdu payload).answer
  number_of (on_whole (switch_all number position)) = answer_number (switch_all_of (lent_to image m) number position).answer
  number_of (on_whole (read_count protocol)) = count_number (read_of (lent_to image m) protocol).answer
  number_of (on_whole (clear_count protocol)) = count_number (clear_of (lent_to image m) protocol).answer

-- in a run
unfoldable pub numbers_in : List ℕ → Machine → List Event → List ℕ
numbers_in image m [] = []
numbers_in image m (e ∷ es) = number_of image m e ∷ numbers_in image (after_event image e m) es

-- THE NUMBERS THAT AN EVENT CAN BE ANSWERED WITH, as a set; 0 where none of them refuses. When each is given, and in which order the checks
-- run (of a transmit 4, 7 and 8 of one destination before the next), is theorem_answers/specs/When `checks_for`
unfoldable pub numbers_for : Event → List ℕ
numbers_for (on k (change e)) = 11 ∷ 12 ∷ 2 ∷ cond (deniable e) (3 ∷ 0 ∷ []) (0 ∷ [])
numbers_for (on k (segment bytes)) = 11 ∷ 12 ∷ 2 ∷ 3 ∷ 4 ∷ 0 ∷ []
numbers_for (on k (walk d place)) = 11 ∷ 12 ∷ 2 ∷ 3 ∷ 4 ∷ 0 ∷ []
numbers_for (on k (take_waiting room)) = 11 ∷ 12 ∷ 2 ∷ 9 ∷ 0 ∷ []
numbers_for (on_whole (datagram group source)) = 11 ∷ 12 ∷ 2 ∷ 3 ∷ 10 ∷ 0 ∷ []
numbers_for (on_whole (accept group source)) = 11 ∷ 12 ∷ 2 ∷ 3 ∷ 10 ∷ 0 ∷ []
numbers_for (on_whole tick) = 11 ∷ 12 ∷ 0 ∷ []
numbers_for (on_whole (transmit pdu payload)) = 11 ∷ 12 ∷ 5 ∷ 6 ∷ 4 ∷ 7 ∷ 8 ∷ 0 ∷ []
numbers_for (on_whole (switch_all number position)) = 11 ∷ 12 ∷ 2 ∷ 0 ∷ []
numbers_for (on_whole (read_count protocol)) = 11 ∷ 12 ∷ 3 ∷ 0 ∷ []
numbers_for (on_whole (clear_count protocol)) = 11 ∷ 12 ∷ 3 ∷ 0 ∷ []

-- n is one of these
unfoldable pub among : ℕ → List ℕ → Bool
among n [] = false
among n (x ∷ xs) = eqb n x || among n xs
