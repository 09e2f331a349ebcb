-- THE PIECES THAT A CALLER IS GIVEN IN A RUN (R19.3): each has a byte at least, and those of one TCP connection, one after the other, are
-- the bytes of its transfers, in its streams by lengths: none lost, none twice.
use Prim.Native.Nat.{ℕ, zero, suc, ◌<◌}
use mathlib.Core.Path.{◌≡◌, sym, ap, ◌∙◌, subst}
use mathlib.Core.Bool.{Bool, true, false, cond, ◌&&◌}
use mathlib.Core.List.{List, [], ◌∷◌}
use lib.Dec.{eqb, ltb}
use lib.ListN.{length}
use Rattle.table_layout.specs.Layout.{rows_of, body_of}
use Rattle.table_layout.specs.declared.Kind.TheVariants.{Connection as Connections, Route as Routes}
use Rattle.receive_route.specs.Route.{lookup_of}
use Rattle.receive_stream.specs.declared.Outcome.{Outcome}
use Rattle.receive_stream.specs.declared.Outcome.TheVariants as Found
use Rattle.receive_datagram.specs.declared.Outcome.{Outcome as Step}
use Rattle.receive_datagram.specs.declared.Outcome.TheVariants as Met
use Rattle.connection.specs.Event.{receiving}
use Rattle.state.specs.State.{record_at}
use Rattle.state.specs.Fresh.{config_of}
use Rattle.reading.specs.Feed.{Out, FullPieces, piece_bytes, moved_bytes}
use Rattle.reading.proofs.Pieces.{full-segment, full-append, compared-bytes}
use Rattle.reading.proofs.Trip.{Solid, solid_append}
use Rattle.entry_receive.specs.Segment.{payload_of}
use Rattle.entry_receive.specs.Answer.{is_done}
use Rattle.entry_receive.specs.Walk.{walk_of}
use Rattle.model.specs.World.{held_at, cell_at}
use Rattle.model.specs.Events.{change, segment, walk, take_waiting, Event, on, on_whole}
use Rattle.model_runs.specs.Streams.{RunBytes, EventBytes, listed_in}
use Rattle.model_refines.specs.Machine.{Machine, lent_to, seen, taken, after_one, rest_of, pdu_told, told_by, goes_on, told_takes, told_segment}
use Rattle.model_refines.specs.Run.{told_walk, after_event, given, given_in, Good}
use Rattle.model_refines.proofs.Takes.{R, C}
use Rattle.model_refines.proofs.Segments.{segment-list}
use Rattle.model_refines.proofs.Good.{event_good}
use Rattle.theorems.specs.Streams.{streams_in}
use Rattle.theorems.proofs.Streams.{own-list}

-- NO OUTCOME OF A LIST IS `nothing`
solid_walk : (d : List ℕ) (o : Step) → Solid (told_walk d o)
solid_walk d Met.End = tt
solid_walk d (Met.Pdu route id place n) = tt
solid_walk d (Met.Drop reason id n) = tt

module _ (image : List ℕ) (k : ℕ) where
  solid_told : (payload : List ℕ) (o : Outcome) → Solid (pdu_told image k payload o)
  solid_told payload Found.More = tt
  solid_told payload (Found.Pdu route id inside at n) = tt
  solid_told payload (Found.Drop reason id n) = tt
  solid_told payload (Found.Start route id n last) = tt
  solid_told payload (Found.Piece route id at n last) = tt

  solid_takes : (f : ℕ) (m : Machine) (bs : List ℕ) → Solid (told_takes image k f m bs)
  unfolding told_takes
  solid_takes zero m bs = tt
  solid_takes (suc f) m bs =
      solid_append (told_by image k m bs) (cond on? (told_takes image k f m' (rest_of image k m bs)) [])
      (solid_told (payload_of bs (after_one image k m bs).rx k (taken image k m bs).outcome) (taken image k m bs).outcome)
      (go on? (solid_takes f m' (rest_of image k m bs)))
    where
      m' : Machine
      m' = after_one image k m bs

      on? : Bool
      on? = goes_on image k (is_done (taken image k m bs).answer) (rest_of image k m bs)

      go : (x : Bool) → Solid (told_takes image k f m' (rest_of image k m bs)) → Solid (cond x (told_takes image k f m' (rest_of image k m bs)) [])
      go true h = h
      go false h = tt

module _ (image : List ℕ) (k : ℕ) where
  solid_own : (b : Bool) (os : List Out) → Solid os → Solid (cond b os [])
  solid_own true os h = h
  solid_own false os h = tt

  solid_event : (e : Event) (m : Machine) → Solid (given image k e m)
  unfolding given
  solid_event (on i (change e)) m = tt
  solid_event (on i (segment bs)) m = solid_own (eqb i k) (told_segment image i m bs) (solid_takes image i (suc (length bs)) m bs)
  solid_event (on i (walk d p)) m =
      solid_own (eqb i k) (told_walk d (walk_of (lent_to image m) i d p).outcome) (solid_walk d (walk_of (lent_to image m) i d p).outcome)
  solid_event (on i (take_waiting room)) m = tt
  solid_event (on_whole e) m = tt

  pub given_solid : (m : Machine) (es : List Event) → Solid (given_in image k m es)
  unfolding given_in
  given_solid m [] = tt
  given_solid m (e ∷ es) =
      solid_append (given image k e m) (given_in image k (after_event image e m) es) (solid_event e m) (given_solid (after_event image e m) es)

  -- EVERY PIECE HAS A BYTE AT LEAST
  full-own : (b : Bool) (os : List Out) → FullPieces os → FullPieces (cond b os [])
  full-own true os h = h
  full-own false os h = tt

  full-walk : (d : List ℕ) (o : Step) → FullPieces (told_walk d o)
  full-walk d Met.End = tt
  full-walk d (Met.Pdu route id place n) = (tt, tt)
  full-walk d (Met.Drop reason id n) = (tt, tt)

  full-event : (m : Machine) → Good image m → (e : Event) → EventBytes e → FullPieces (given image k e m)
  unfolding given
  full-event m good (on i (change e)) b = tt
  full-event m good (on i (segment bs)) b =
      full-own (eqb i k) (told_segment image i m bs)
      (subst FullPieces (sym (segment-list image i m bs good.passed b (λ e w. w)))
      (full-own (ltb i (rows_of image Connections) && ((config_of image i).tcp && receiving (record_at m.state i))) _
      (full-segment (R image i m) (C image i m) bs)))
  full-event m good (on i (walk d p)) b =
      full-own (eqb i k) (told_walk d (walk_of (lent_to image m) i d p).outcome) (full-walk d (walk_of (lent_to image m) i d p).outcome)
  full-event m good (on i (take_waiting room)) b = tt
  full-event m good (on_whole e) b = tt

  pub given-full : (m : Machine) → Good image m → (es : List Event) → RunBytes es → FullPieces (given_in image k m es)
  unfolding given_in
  given-full m good [] b = tt
  given-full m good (e ∷ es) (b, bs) =
      full-append (given image k e m) (given_in image k (after_event image e m) es)
      (full-event m good e b) (given-full (after_event image e m) (event_good image m good e b) es bs)

  -- THE PIECES, JOINED, ARE THE BYTES OF THE TRANSFERS
  pub pieces_joined : k < rows_of image Connections → (config_of image k).tcp ≡ true → (m : Machine) → Good image m → (es : List Event) → RunBytes es
      → piece_bytes (given_in image k m es)
      ≡ moved_bytes (listed_in (lookup_of (body_of image Routes) k) (cell_at (held_at (seen m) k)) (streams_in image k m es))
  pieces_joined there tcp m good es bytes = sym (compared-bytes (given_in image k m es)) ∙ ap moved_bytes (own-list image k there tcp m good es bytes)
