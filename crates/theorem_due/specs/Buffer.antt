-- WHAT HAPPENS TO A CONNECTION'S SEND BUFFER IN A RUN (R9.5, R10.4): appends and ticks since it was last emptied, the latest first.
use Rattle.std.specs.Prelude.{ℕ, zero, suc, ◌+◌, cond, List, [], ◌∷◌, length}
use Rattle.table_rows.specs.Rows.{destination_of}
use Rattle.state.specs.declared.State.{State}
use Rattle.state.specs.State.{record_at}
use Rattle.send.specs.Verdict.{is_stored}
use Rattle.send.specs.Send.{destinations, check_of}
use Rattle.law_waits.specs.Waits.{goes_to, is_emptied}
use Rattle.model.specs.Events.{datagram, accept, tick, transmit, switch_all, read_count, clear_count, Event, on, on_whole}
use Rattle.model_refines.specs.Machine.{Machine}
use Rattle.model_refines.specs.Run.{after_event}
use Rattle.theorems.specs.Waits.{empties_by}
use Rattle.theorem_timer.specs.Timer.{BufferStep, stores, ticks}

module _ (image : List ℕ) (j : ℕ) where
  -- a stored transmit: each switched-on destination of the PDU there appends, of the first n rows in table order
  unfoldable pub appends_to : State → ℕ → List ℕ → ℕ → List BufferStep → List BufferStep
  appends_to s pdu payload zero steps = steps
  appends_to s pdu payload (suc n) steps =
      cond (goes_to image s pdu payload j n) (stores (destination_of image n) ((record_at s j).used + 8 + length payload) ∷ appends_to s pdu payload n steps)
      (appends_to s pdu payload n steps)

  -- an event that does not empty it: a tick passes, a stored transmit appends, every other event leaves it
  abbrev pub steps_with : Machine → Event → List BufferStep → List BufferStep
  steps_with m (on k e) steps = steps
  steps_with m (on_whole (datagram group source)) steps = steps
  steps_with m (on_whole (accept group source)) steps = steps
  steps_with m (on_whole tick) steps = ticks ∷ steps
  steps_with m (on_whole (transmit pdu payload)) steps =
      cond (is_stored (check_of image m.state pdu (length payload))) (appends_to m.state pdu payload (destinations image) steps) steps
  steps_with m (on_whole (switch_all number position)) steps = steps
  steps_with m (on_whole (read_count protocol)) steps = steps
  steps_with m (on_whole (clear_count protocol)) steps = steps

  -- one event: what empties it (theorems/specs/Waits `empties_by`) leaves nothing
  abbrev pub steps_after : Machine → Event → List BufferStep → List BufferStep
  steps_after m e steps = cond (is_emptied (empties_by image j m e)) [] (steps_with m e steps)

  -- IN A RUN, after these steps
  unfoldable pub steps_in : Machine → List Event → List BufferStep → List BufferStep
  steps_in m [] steps = steps
  steps_in m (e ∷ es) steps = steps_in (after_event image e m) es (steps_after m e steps)
