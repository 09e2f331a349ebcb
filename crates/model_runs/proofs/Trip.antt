-- DEMAND 2'S ROUND TRIP, through events: what was framed, cut into segments in any way, is handed out by a TCP connection that is
-- online, ready and at a header's first byte, with routes for those ids, switched on and allowing those lengths: the same PDUs in the
-- same order.
use Prim.Native.Nat.{ℕ}
use mathlib.Core.Path.{◌≡◌, refl, sym, ap, ◌∙◌}
use mathlib.Core.List.{List, [], ◌∷◌, ◌++◌, append-nil, flatten, map}
use borrow.Author.Tests.{eq-eqb}
use Rattle.reading.specs.Feed.{Routes, Cell, ready, Out, Ran, segment_ran as segment_of, segments, fine, Pdu, as_out}
use Rattle.frame.specs.Frame.{Sent, frames}
use Rattle.reading.specs.Routed.{Routed, Carried}
use Rattle.reading.proofs.Trip.{round_trip, carried_pdus, fine-pdus}
use Rattle.model.specs.World.{World, held_at}
use Rattle.model.specs.Events.{segment, Whole, Event, on}
use Rattle.model.specs.Step.{Table, Acted, routes_at, acts, acts_at, hands, heard}
use Rattle.model_runs.specs.Same.{Same, join, same, later, both}
use Rattle.model_runs.specs.Trip.{Reads, as_segments}
use Rattle.model_runs.proofs.Same.{does-read, same-heard}

-- pieces are one segment
pieces_same : (k : ℕ) (p : List ℕ) (pieces : List (List ℕ)) → Same (as_segments k (p ∷ pieces)) (on k (segment (flatten (p ∷ pieces))) ∷ [])
unfolding flatten
pieces_same k p [] = alike (on k (segment p)) (on k (segment (p ++ []))) (ap (λ (q : List ℕ). on k (segment q)) (sym (append-nil p)))
  where
    alike : (e f : Event) → e ≡ f → Same (e ∷ []) (f ∷ [])
    alike e f q = rw q (same (f ∷ []))
pieces_same k p (q ∷ pieces) = both (later (on k (segment p)) (pieces_same k q pieces)) (join k p (flatten (q ∷ pieces)) [])

module _ (T : Table) (whole : Whole → World → World) (w : World) (k : ℕ) (r : Reads T w k) where
  abbrev R : Routes
  R = routes_at T k (held_at w k)

  at_read : (bs : List ℕ) → (acts_at T w k (segment bs)).list ≡ fine (segment_of R ready bs).list
  unfolding acts
  at_read bs =
      rw r.there
      (ap (λ (a : Acted). a.list) (does-read T k (held_at w k) bs (rw r.tcp r.receives))
      ∙ ap (λ (c : Cell). fine (segment_of R c bs).list) r.at_header)

  one-segment : {ss : List Sent} {os : List Out} (bs : List ℕ) → Carried R ss os → bs ≡ frames ss → heard T whole k w (on k (segment bs) ∷ []) ≡ fine os
  unfolding heard hands segments flatten
  one-segment {ss} {os} bs h e =
      rw (eq-eqb k k refl)
      (append-nil (acts_at T w k (segment bs)).list
      ∙ at_read bs
      ∙ ap fine (sym (append-nil (segment_of R ready bs).list))
      ∙ ap (λ (q : Ran). q.list) (round_trip R (bs ∷ []) h (append-nil bs ∙ e)))

  none_read : fine (segments R ready []).list ≡ []
  unfolding segments fine
  none_read = refl

  -- ANY PIECES: just these PDUs and whole transfers, byte by byte, and no drop
  pub trip : {ss : List Sent} {os : List Out} (pieces : List (List ℕ)) → Carried (routes_at T k (held_at w k)) ss os → flatten pieces ≡ frames ss
      → heard T whole k w (as_segments k pieces) ≡ fine os
  unfolding heard
  trip {ss} {os} [] h e =
      sym none_read ∙ ap (λ (q : Ran). q.list) (round_trip R [] h e)
  trip {ss} {os} (p ∷ pieces) h e = same-heard T whole k w (pieces_same k p pieces) ∙ one-segment (flatten (p ∷ pieces)) h e

  -- .. where no route is marked, just these PDUs
  pub trip_pdus : {ss : List Sent} {ps : List Pdu} (pieces : List (List ℕ)) → Routed (routes_at T k (held_at w k)) ss ps → flatten pieces ≡ frames ss
      → heard T whole k w (as_segments k pieces) ≡ map as_out ps
  trip_pdus {ss} {ps} pieces h e = trip pieces (carried_pdus R h) e ∙ fine-pdus ps
