-- THE STREAMS OF A TCP CONNECTION IN A RUN OF THE MACHINE are those of the world's run: so demand 3's list is read off the machine's own
-- records; and what ends an online period there.
use Prim.Native.Nat.{ℕ, ◌<◌}
use mathlib.Core.Path.{◌≡◌, refl, sym, ap, ap₂, ◌∙◌, subst}
use mathlib.Core.Bool.{Bool, true, cond, not, ◌&&◌}
use mathlib.Core.List.{List, [], ◌∷◌, map}
use lib.Dec.{eqb}
use borrow.Author.Tests.{lt-ltb}
use Rattle.table_layout.specs.Layout.{rows_of, body_of}
use Rattle.table_layout.specs.declared.Kind.TheVariants.{Connection as Connections, Route as Routes}
use Rattle.receive_route.specs.Route.{lookup_of}
use Rattle.connection.specs.declared.Connection.{Connection}
use Rattle.connection.specs.Connection.{is_online}
use Rattle.connection.specs.Event.{receiving}
use Rattle.state.specs.State.{record_at}
use Rattle.state.specs.Fresh.{config_of}
use Rattle.reading_lengths.specs.Listed.{Marked, mark}
use Rattle.model.specs.World.{World, held_at, cell_at}
use Rattle.model.specs.Events.{change, segment, walk, take_waiting, Event, on, on_whole}
use Rattle.model.proofs.View.{view_record}
use Rattle.model_runs.specs.Streams.{EventBytes, RunBytes, longer, online, reads, ends, streams_of, listed_in}
use Rattle.model_refines.specs.Table.{table_of}
use Rattle.model_refines.specs.Whole.{whole_of}
use Rattle.model_refines.specs.Machine.{Machine, seen}
use Rattle.model_refines.specs.Run.{after_event, given_in, Good}
use Rattle.model_refines.proofs.Steps.{event_view}
use Rattle.model_refines.proofs.Good.{event_good}
use Rattle.theorems.specs.Ends.{EndsBy}
use Rattle.theorems.specs.Streams.{online_at, reads_at, ends_at, streams_in}
use Rattle.theorems.proofs.Runs.{exact-list}
use Rattle.theorems.proofs.Ends.{ends_by}
use Rattle.reading.specs.Feed.{compared}

module _ (image : List ℕ) (k : ℕ) (there : k < rows_of image Connections) (tcp : (config_of image k).tcp ≡ true) where
  seen_c : (m : Machine) → (held_at (seen m) k).connection ≡ record_at m.state k
  seen_c m = view_record m.state m.rx m.tx k

  online-is : (m : Machine) → online_at image k m ≡ online (seen m) k
  online-is m = ap (λ (c : Connection). is_online c.mode) (sym (seen_c m))

  -- AN EVENT
  module _ (m : Machine) (good : Good image m) (e : Event) (bytes : EventBytes e) where
    ends_is : ends_at image k m e ≡ ends (table_of image) (whole_of image) k (seen m) e
    ends_is =
        ap₂ (λ (a b : Bool). a && not b) (online-is m)
        (online-is (after_event image e m) ∙ ap (λ (w : World). online w k) (event_view image m good e bytes))

    -- A PERIOD ENDS BY A LOSS OR A CLOSING TICK
    pub period_ends : ends_at image k m e ≡ true → EndsBy k (record_at m.state k) e
    period_ends q = subst (λ (c : Connection). EndsBy k c e) (seen_c m) (ends_by image (seen m) k tcp e (sym ends_is ∙ q))

  reads-is : (m : Machine) (e : Event) → reads_at image k m e ≡ reads (table_of image) (whole_of image) k (seen m) e
  reads-is m (on i (change e)) = refl
  reads-is m (on i (segment bs)) =
      ap (λ (c : Connection). cond (eqb i k && receiving c) (map (mark c.switches) bs) []) (sym (seen_c m))
      ∙ ap₂ (λ (a b : Bool). cond (eqb i k && (a && (b && receiving (held_at (seen m) k).connection)))
      (map (mark (held_at (seen m) k).connection.switches) bs) [])
      (sym (lt-ltb k (rows_of image Connections) there)) (sym tcp)
  reads-is m (on i (walk d p)) = refl
  reads-is m (on i (take_waiting room)) = refl
  reads-is m (on_whole e) = refl

  -- A RUN
  streams-is : (m : Machine) (es : List Event) → RunBytes es → Good image m → streams_in image k m es
      ≡ streams_of (table_of image) (whole_of image) k (seen m) es
  unfolding streams_in streams_of
  streams-is m [] bytes good = refl
  streams-is m (e ∷ es) (b, bs) good =
      ap₂ (λ (x : Bool) (l : List Marked). longer x l (streams_in image k (after_event image e m) es)) (ends_is m good e b) (reads-is m e)
      ∙ ap (longer (ends (table_of image) (whole_of image) k (seen m) e) (reads (table_of image) (whole_of image) k (seen m) e))
      (streams-is (after_event image e m) es bs (event_good image m good e b)
      ∙ ap (λ (w : World). streams_of (table_of image) (whole_of image) k w es) (event_view image m good e b))

  -- DEMAND 3'S LIST, by the machine's own streams
  pub own-list : (m : Machine) → Good image m → (es : List Event) → RunBytes es
      → compared (given_in image k m es) ≡ listed_in (lookup_of (body_of image Routes) k) (cell_at (held_at (seen m) k)) (streams_in image k m es)
  own-list m good es bytes =
      exact-list image m good es bytes k there tcp
      ∙ ap (listed_in (lookup_of (body_of image Routes) k) (cell_at (held_at (seen m) k))) (sym (streams-is m es bytes good))
