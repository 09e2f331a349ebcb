-- EVERY ENTRY POINT: from a good machine, what an event leaves is the world's step, and what the caller is given is, byte by byte, the world's list.
use Prim.Native.Nat.{ℕ}
use mathlib.Core.Path.{◌≡◌, refl, sym, ap, ap₂, ◌∙◌}
use mathlib.Core.Bool.{Bool, true, false, cond}
use mathlib.Core.List.{List, []}
use lib.Dec.{eqb, ltb}
use lib.ListN.{replicate, length-replicate}
use Rattle.table_layout.specs.Layout.{rows_of}
use Rattle.table_layout.specs.declared.Kind.TheVariants.{Connection as Connections}
use Rattle.connection.specs.declared.Remote.{Remote}
use Rattle.state.specs.declared.State.{State}
use Rattle.reading.specs.Feed.{Out, fine}
use Rattle.table.proofs.Facts.{accepted_facts}
use Rattle.select.specs.declared.Arrived.{Arrived}
use Rattle.select.specs.Choose.{arrival_refused, arrive_of}
use Rattle.entry_arrivals.specs.Arrivals.{arrival_of}
use Rattle.send.specs.declared.Transmitted.{Transmitted}
use Rattle.send.specs.Send.{transmit_of, transmitted_of}
use Rattle.entry_send.specs.Sending.{not_sent, send_of, sent_memory}
use Rattle.model.specs.World.{Held, World, held_at, view_of, state_of, leaves}
use Rattle.model.specs.Events.{Own, change, segment, walk, take_waiting, Whole, datagram, accept}
use Rattle.model.specs.Events.{tick, transmit, switch_all, read_count, clear_count, Event, on, on_whole}
use Rattle.model.specs.Step.{acted, does, acts, step, hands}
use Rattle.model_runs.specs.Streams.{EventBytes}
use Rattle.model_refines.specs.Table.{table_of}
use Rattle.model_refines.specs.Whole.{whole_of}
use Rattle.model_refines.specs.Send.{transmit_in}
use Rattle.model_refines.specs.Machine.{Machine, loan_to, lent_to, seen}
use Rattle.model_refines.specs.Run.{after_own, after_whole, after_event, given, Good}
use Rattle.model_refines.proofs.Follows.{change_view, take_view}
use Rattle.model_refines.proofs.Segments.{segment_view, segment_told}
use Rattle.model_refines.proofs.Walks.{walk_view, walk_told}
use Rattle.model_refines.proofs.Modules.{past, arrive_view, tick_view, switch_all_view, read_view, clear_view}
use Rattle.model_refines.proofs.Sends.{transmit_view}

module _ (image : List ℕ) (m : Machine) (good : Good image m) where
  abbrev s : State
  s = m.state

  abbrev rx : List ℕ
  rx = m.rx

  abbrev tx : List ℕ
  tx = m.tx

  abbrev W : Whole → World → World
  W = whole_of image

  arrival_view : (a : Bool) (group : ℕ) (source : Remote)
      → view_of (arrival_of (lent_to image m) a group source).state rx tx ≡ leaves (arrive_of image (state_of (seen m)) a group source).state (seen m)
  unfolding arrival_of
  arrival_view a group source =
      ap (λ (t : Arrived). view_of t.state rx tx) (past (loan_to image m) (arrival_refused s) (arrive_of image s a group source) good.passed)
      ∙ arrive_view (loan_to image m) a group source

  send_view : (pdu : ℕ) (payload : List ℕ)
      → view_of (send_of (loan_to image m) pdu payload).state rx (sent_memory (loan_to image m) pdu payload) ≡ transmit_in image pdu payload (seen m)
  unfolding send_of sent_memory
  send_view pdu payload =
      ap₂ (λ (t : Transmitted) (z : List ℕ). view_of t.state rx z) (past (loan_to image m) (not_sent s) (transmitted_of image s pdu payload tx) good.passed)
      (past (loan_to image m) (λ r. tx) (transmit_of image s pdu payload tx).memory good.passed)
      ∙ transmit_view image rx tx payload s pdu good.passed.send good.sixteen (accepted_facts image good.passed.table) good.passed.sound

  -- ONE EVENT OF A CONNECTION
  pub own_view : (k : ℕ) (e : Own) → EventBytes (on k e) → seen (after_own image k e m) ≡ step (table_of image) (whole_of image) (seen m) (on k e)
  unfolding after_own
  own_view k (change e) b = change_view (loan_to image m) W good.passed k e
  own_view k (segment bytes) b = segment_view image k m bytes good.passed b W
  own_view k (walk d p) b = walk_view (loan_to image m) k d p good.passed W
  own_view k (take_waiting room) b =
      take_view (loan_to image m) W good.passed k (replicate room 0)
      ∙ ap (λ (n : ℕ). step (table_of image) W (seen m) (on k (take_waiting n))) (length-replicate room 0)

  -- ONE OF A GROUP OR THE MODULE
  whole_view : (e : Whole) → seen (after_whole image e m) ≡ step (table_of image) W (seen m) (on_whole e)
  unfolding after_whole step
  whole_view (datagram group source) = arrival_view false group source
  whole_view (accept group source) = arrival_view true group source
  whole_view tick = tick_view (loan_to image m) good.passed
  whole_view (transmit pdu payload) = send_view pdu payload
  whole_view (switch_all n b) = switch_all_view (loan_to image m) n b good.passed
  whole_view (read_count p) = read_view (loan_to image m) p good.passed
  whole_view (clear_count p) = clear_view (loan_to image m) p good.passed

  -- ANY EVENT
  pub event_view : (e : Event) → EventBytes e → seen (after_event image e m) ≡ step (table_of image) (whole_of image) (seen m) e
  unfolding after_event
  event_view (on k e) b = own_view k e b
  event_view (on_whole e) b = whole_view e

  -- WHAT THE CALLER IS GIVEN
  no_list : (k i : ℕ) (e : Own) → ((h : Held) → (does (table_of image) i e h).list ≡ []) → [] ≡ hands (table_of image) W k (seen m) (on i e)
  unfolding hands acts
  no_list k i e none = go (eqb i k) (ltb i (rows_of image Connections))
    where
      go : (x y : Bool) → [] ≡ cond x (cond y (does (table_of image) i e (held_at (seen m) i)) (acted (held_at (seen m) i) [])).list []
      go true true = sym (none (held_at (seen m) i))
      go true false = refl
      go false y = refl

  only-own : (b : Bool) (os : List Out) → fine (cond b os []) ≡ cond b (fine os) []
  unfolding fine
  only-own true os = refl
  only-own false os = refl

  pub event-given : (k : ℕ) (e : Event) → EventBytes e → fine (given image k e m) ≡ hands (table_of image) (whole_of image) k (seen m) e
  unfolding given hands does fine
  event-given k (on i (change e)) b = no_list k i (change e) (λ h. refl)
  event-given k (on i (segment bytes)) b = only-own (eqb i k) _ ∙ ap (λ (os : List Out). cond (eqb i k) os []) (segment_told image i m bytes good.passed b W)
  event-given k (on i (walk d p)) b = only-own (eqb i k) _ ∙ ap (λ (os : List Out). cond (eqb i k) os []) (walk_told (loan_to image m) i d p good.passed W)
  event-given k (on i (take_waiting room)) b = no_list k i (take_waiting room) (λ h. refl)
  event-given k (on_whole e) b = refl
