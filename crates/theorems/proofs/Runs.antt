-- THE DEMANDS, OF THE ENTRY POINTS. Start from one accepted table, one sound state and memory of the right lengths, each call lent the
-- memory that the last one left; take any run of events.
use Prim.Native.Nat.{ℕ, zero, suc, ◌<◌}
use mathlib.Core.Path.{◌≡◌, refl, sym, ap, ap₂, ◌∙◌, subst}
use mathlib.Core.Bool.{true}
use mathlib.Core.List.{List, [], ◌∷◌, ◌++◌}
use native.Mathlib.Omega.{arith}
use lib.ListN.{length}
use Rattle.table_layout.specs.Layout.{rows_of, body_of}
use Rattle.table_layout.specs.declared.Kind.TheVariants.{Connection as Connections, Route as Routes}
use Rattle.receive_route.specs.Route.{lookup_of}
use Rattle.table.proofs.Facts.{accepted_facts}
use Rattle.connection.specs.Sound.{Sound}
use Rattle.state.specs.State.{record_at}
use Rattle.state.specs.Fresh.{config_of}
use Rattle.gate.proofs.Records.{row-sound, record-at}
use Rattle.reading.specs.Feed.{fine, compared}
use Rattle.reading.proofs.Cut.{fine-append}
use Rattle.reading.proofs.Compared.{compared-fine, compared_same}
use Rattle.reading_lengths.specs.Listed.{Bytes}
use Rattle.reading_lengths.proofs.Bytes.{bytes-append}
use Rattle.model.specs.World.{Held, World, held_at, cell_at}
use Rattle.model.specs.Events.{Event}
use Rattle.model.specs.Step.{run, heard}
use Rattle.model.proofs.View.{view_at}
use Rattle.model_runs.specs.Same.{Same, swap, cut, join, same, later, both}
use Rattle.model_runs.specs.Streams.{RunBytes, streams_of, listed_in, Rests}
use Rattle.model_runs.proofs.Same.{same_end, same-heard}
use Rattle.model_runs.proofs.Streams.{heard-listed}
use Rattle.model_refines.specs.Table.{table_of}
use Rattle.model_refines.specs.Whole.{whole_of}
use Rattle.model_refines.specs.Machine.{Machine, seen}
use Rattle.model_refines.specs.Run.{after_event, after_run, given, given_in, Good}
use Rattle.model_refines.proofs.Steps.{event_view, event-given}
use Rattle.model_refines.proofs.Good.{event_good}
use Rattle.model_refines.proofs.Gentle.{gentle}
use Rattle.model_refines.proofs.Rests.{sound_rests}

module _ (image : List ℕ) where
  -- DEMAND 1, over runs: sound stays sound, and the memories keep their lengths
  pub run_good : (m : Machine) (es : List Event) → RunBytes es → Good image m → Good image (after_run image m es)
  unfolding after_run
  run_good m [] b g = g
  run_good m (e ∷ es) (b, bs) g = run_good (after_event image e m) es bs (event_good image m g e b)

  -- THE RUN OF THE ENTRY POINTS IS THE RUN OF THE WORLD
  pub run_view : (m : Machine) (es : List Event) → RunBytes es → Good image m → seen (after_run image m es) ≡ run (table_of image) (whole_of image) (seen m) es
  unfolding after_run run
  run_view m [] b g = refl
  run_view m (e ∷ es) (b, bs) g =
      run_view (after_event image e m) es bs (event_good image m g e b) ∙ ap (λ (w : World). run (table_of image) (whole_of image) w es)
      (event_view image m g e b)

  -- .. and what the caller is given is, byte by byte, what the world hands out
  pub run-given : (k : ℕ) (m : Machine) (es : List Event) → RunBytes es → Good image m
      → fine (given_in image k m es) ≡ heard (table_of image) (whole_of image) k (seen m) es
  unfolding given_in heard fine
  run-given k m [] b g = refl
  run-given k m (e ∷ es) (b, bs) g =
      fine-append (given image k e m) (given_in image k (after_event image e m) es)
      ∙ ap₂ ◌++◌ (event-given image m g k e b)
      (run-given k (after_event image e m) es bs (event_good image m g e b)
      ∙ ap (λ (w : World). heard (table_of image) (whole_of image) k w es) (event_view image m g e b))

-- swapped, cut and joined bytes are bytes
front_bytes : (x y : List ℕ) → Bytes (x ++ y) → Bytes x
front_bytes [] y b i = omega arith
front_bytes (a ∷ x) y b zero = b 0
front_bytes (a ∷ x) y b (suc i) = front_bytes x y (λ j. b (suc j)) i

back_bytes : (x y : List ℕ) → Bytes (x ++ y) → Bytes y
back_bytes [] y b = b
back_bytes (a ∷ x) y b = back_bytes x y (λ j. b (suc j))

same_bytes : {es fs : List Event} → Same es fs → RunBytes es → RunBytes fs
same_bytes (swap i j a b es ne) (p, (q, r)) = (q, (p, r))
same_bytes (cut i x y es) (p, r) = (front_bytes x y p, (back_bytes x y p, r))
same_bytes (join i x y es) (p, (q, r)) = (bytes-append x y p q, r)
same_bytes (same es) r = r
same_bytes (later e h) (p, r) = (p, same_bytes h r)
same_bytes (both h g) r = same_bytes g (same_bytes h r)

-- DEMAND 3
module _ (image : List ℕ) (m : Machine) (good : Good image m) {es fs : List Event} (alike : Same es fs) (bytes : RunBytes es) where
  -- the end state is the same: same numbers and same held bytes
  pub same-state : seen (after_run image m es) ≡ seen (after_run image m fs)
  same-state =
      run_view image m es bytes good ∙ same_end (table_of image) (whole_of image) (seen m) alike ∙ sym (run_view image m fs (same_bytes alike bytes) good)

  -- each connection has given the same outcomes in the same order: PDUs, drops, and transfers byte by byte ..
  pub same-given : (k : ℕ) → fine (given_in image k m es) ≡ fine (given_in image k m fs)
  same-given k =
      run-given image k m es bytes good
      ∙ same-heard (table_of image) (whole_of image) k (seen m) alike
      ∙ sym (run-given image k m fs (same_bytes alike bytes) good)

  -- .. and so it has handed out the same PDUs and transfers
  pub same-pdus : (k : ℕ) → compared (given_in image k m es) ≡ compared (given_in image k m fs)
  same-pdus k = compared_same (given_in image k m es) (given_in image k m fs) (same-given k)

-- .. and that list is exactly demand 2's: of each online period's stream the PDUs that are complete, routed, switched on at their eighth
-- header byte and short enough, and the transfers with their bytes so far, in order; the first stream begun with what the record holds
module _ (image : List ℕ) (m : Machine) (good : Good image m) (es : List Event) (bytes : RunBytes es)
    (k : ℕ) (there : k < rows_of image Connections) (tcp : (config_of image k).tcp ≡ true) where
  rests : Rests (held_at (seen m) k)
  rests =
      let lt : k < length m.state.connections = omega (arith, good.sixteen, (accepted_facts image good.passed.table).most Connections) in
      let s : Sound (config_of image k) (record_at m.state k) =
      row-sound image k (record_at m.state k) (record-at image m.state.connections k good.passed.sound lt) there in
      sound_rests (config_of image k) (held_at (seen m) k)
      (subst (Sound (config_of image k)) (sym (ap (λ (h : Held). h.connection) (view_at m.state m.rx m.tx k))) s)

  pub exact-list : compared (given_in image k m es)
      ≡ listed_in (lookup_of (body_of image Routes) k) (cell_at (held_at (seen m) k)) (streams_of (table_of image) (whole_of image) k (seen m) es)
  exact-list =
      sym (compared-fine (given_in image k m es)) ∙ ap compared (run-given image k m es bytes good)
      ∙ heard-listed (table_of image) (whole_of image) k tcp (gentle image k tcp) (seen m) es rests bytes
