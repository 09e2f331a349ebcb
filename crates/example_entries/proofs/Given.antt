-- WHAT A READER AND A WALKER ARE GIVEN at one event is what the definitions of reading give, of any good machine.
use Prim.Native.Nat.{ℕ, ◌≤◌}
use mathlib.Core.Path.{◌≡◌, refl, ap, ◌∙◌}
use mathlib.Core.List.{List, []}
use lib.ListN.{length}
use borrow.Author.Tests.{eq-eqb, lt-ltb, le-leb}
use Rattle.table_layout.specs.Layout.{rows_of, body_of}
use Rattle.table_layout.specs.declared.Kind.TheVariants.{Connection as Connections, Route}
use Rattle.receive_route.specs.Route.{lookup_of}
use Rattle.reading.specs.Feed.{ready, segment_ran, fine}
use Rattle.reading_lengths.specs.Listed.{Bytes}
use Rattle.reading_walk.specs.Walk.{walk_at, outs_told}
use Rattle.connection.specs.declared.Connection.{Connection}
use Rattle.connection.specs.Event.{receiving}
use Rattle.state.specs.State.{record_at}
use Rattle.entry_receive.specs.Routes.{routes_in}
use Rattle.model.specs.World.{held_at}
use Rattle.model.specs.Events.{segment, walk, on}
use Rattle.model.specs.Step.{does, acts, hands}
use Rattle.model.proofs.View.{view_record}
use Rattle.model_refines.specs.Table.{table_of}
use Rattle.model_refines.specs.Whole.{whole_of}
use Rattle.model_refines.specs.Machine.{Machine, seen}
use Rattle.model_refines.specs.Run.{given, Good}
use Rattle.model_refines.proofs.Steps.{event-given}
use Rattle.theorems.specs.Trip.{Reader, Walker}

module _ (image : List ℕ) (m : Machine) (good : Good image m) (k : ℕ) where
  seen-is : (held_at (seen m) k).connection ≡ record_at m.state k
  seen-is = view_record m.state m.rx m.tx k

  -- a segment on a ready reader
  segment-hands : Reader image m k → (bs : List ℕ)
      → hands (table_of image) (whole_of image) k (seen m) (on k (segment bs)) ≡ fine (segment_ran (routes_in image m.state k) ready bs).list
  unfolding hands acts does
  segment-hands r bs =
      rw (eq-eqb k k refl, lt-ltb k (rows_of image Connections) r.there, r.tcp, ap receiving seen-is ∙ r.receives, r.at_header)
      (ap (λ (c : Connection). fine (segment_ran (lookup_of (body_of image Route) k c.switches) ready bs).list) seen-is)

  pub reader_given : Reader image m k → (bs : List ℕ) → Bytes bs
      → fine (given image k (on k (segment bs)) m) ≡ fine (segment_ran (routes_in image m.state k) ready bs).list
  reader_given r bs bytes = event-given image m good k (on k (segment bs)) bytes ∙ segment-hands r bs

  -- a walk
  walk-hands : Walker image m k → (d : List ℕ) (p : ℕ) → p ≤ length d
      → hands (table_of image) (whole_of image) k (seen m) (on k (walk d p)) ≡ outs_told d (walk_at (routes_in image m.state k) d p).found []
  unfolding hands acts does
  walk-hands w d p le =
      rw (eq-eqb k k refl, lt-ltb k (rows_of image Connections) w.there, w.udp, le-leb p (length d) le, ap receiving seen-is ∙ w.receives)
      (ap (λ (c : Connection). outs_told d (walk_at (lookup_of (body_of image Route) k c.switches) d p).found []) seen-is)

  pub walker_given : Walker image m k → (d : List ℕ) (p : ℕ) → p ≤ length d
      → fine (given image k (on k (walk d p)) m) ≡ outs_told d (walk_at (routes_in image m.state k) d p).found []
  walker_given w d p le = event-given image m good k (on k (walk d p)) tt ∙ walk-hands w d p le
