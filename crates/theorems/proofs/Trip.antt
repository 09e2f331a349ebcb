-- DEMAND 2'S ROUND TRIP, of the entry points: what take waiting gives out of one machine is the frames of the PDUs that its transmits
-- stored since nothing waited; cut into segments in any way, a TCP connection of another machine that is online, ready and at a header's
-- first byte, with routes for those ids, switched on and allowing those lengths, hands out the same PDUs in the same order; and so does a
-- UDP connection, walked over them as one datagram. Just these PDUs, and no drop.
use Prim.Native.Nat.{ℕ, ◌*◌, ◌≤◌, ◌<◌}
use mathlib.Core.Path.{◌≡◌, refl, sym, ap, ◌∙◌, subst}
use mathlib.Core.List.{List, [], flatten, map}
use native.Mathlib.Omega.{arith}
use lib.ListN.{length, take, drop}
use lib.Seq.{take-take, take_at}
use borrow.Author.Tests.{lt-ltb}
use Rattle.table_layout.specs.Layout.{rows_of, body_of}
use Rattle.table_layout.specs.declared.Kind.TheVariants.{Connection as Connections, Route}
use Rattle.connection.specs.declared.Connection.{Connection}
use Rattle.connection.specs.Event.{receiving}
use Rattle.state.specs.State.{record_at}
use Rattle.reading.specs.Feed.{Out, fine, Pdu, as_out}
use Rattle.frame.specs.Frame.{Sent, frames}
use Rattle.reading.specs.Routed.{Routed, Carried}
use Rattle.reading.proofs.Trip.{pdus_alone}
use Rattle.reading_walk.specs.Walk.{walks}
use Rattle.reading_walk.proofs.Trip.{round_trip as walk-trip, then_the_end}
use Rattle.receive_route.specs.Route.{lookup_of}
use Rattle.entry_receive.specs.Routes.{routes_in}
use Rattle.table.proofs.Facts.{accepted_facts}
use Rattle.gate.proofs.Pass.{passed_gate_at}
use Rattle.law_keeps.proofs.Transmitted.{all_fit}
use Rattle.law_turns.proofs.Entries.{waits-length, taken-bytes}
use Rattle.send_waiting.specs.Waiting.{waiting_of}
use Rattle.law_waits.specs.Waits.{waits}
use Rattle.model.specs.World.{Held, held_at}
use Rattle.model.specs.Events.{Event}
use Rattle.model.proofs.View.{view_at, view_record}
use Rattle.model_runs.specs.Streams.{RunBytes}
use Rattle.model_runs.specs.Trip.{Reads, as_segments}
use Rattle.model_runs.proofs.Trip.{trip, trip_pdus}
use Rattle.model_refines.specs.Table.{table_of}
use Rattle.model_refines.specs.Whole.{whole_of}
use Rattle.model_refines.specs.Machine.{Machine, lent_to, loan_to, seen}
use Rattle.model_refines.specs.Run.{after_run, given_in, Good}
use Rattle.theorems.specs.Waits.{sent_in}
use Rattle.theorems.specs.Trip.{outgoing, Reader, Walker, as_walks}
use Rattle.theorems.proofs.Runs.{run_good, run-given}
use Rattle.theorems.proofs.Pieces.{given_solid}
use Rattle.theorems.proofs.Waiting.{run-frames}
use Rattle.theorems.proofs.Walking.{walks_more, walks-given}

-- WHAT TAKE WAITING GIVES OUT: the bytes that wait, at the front of the out buffer
module _ (image : List ℕ) (m : Machine) (good : Good image m) (j : ℕ) (there : j < rows_of image Connections) (out : List ℕ) where
  abbrev n : ℕ
  n = (record_at m.state j).used

  fits : n ≤ 1472
  fits = all_fit image (accepted_facts image good.passed.table) m.state good.passed.sound j

  waits_are : waiting_of m.tx j n ≡ (held_at (seen m) j).waiting
  unfolding waiting_of
  waits_are = sym (ap (λ (h : Held). h.waiting) (view_at m.state m.rx m.tx j) ∙ take-take n 1472 (drop (j * 1472) m.tx) fits)

  out-waits : n ≤ length out → outgoing image m j out ≡ waits m.state m.tx j
  out-waits room =
      let small : j < 16 = omega (arith, (accepted_facts image good.passed.table).most Connections) in
      ap (take n)
      (taken-bytes (loan_to image m) j out good.passed.sound (passed_gate_at (lent_to image m) j good.passed there) room)
      ∙ take_at (waiting_of m.tx j n) (drop n out) n (waits-length m.tx j n small good.passed.send fits)

  pub given_out : (record_at m.state j).used ≤ length out → outgoing image m j out ≡ (held_at (seen m) j).waiting
  given_out room = out-waits room ∙ waits_are

-- WHAT THE READER HANDS OUT
module _ (image : List ℕ) (m : Machine) (good : Good image m) (k : ℕ) (reader : Reader image m k) where
  seen_c : (held_at (seen m) k).connection ≡ record_at m.state k
  seen_c = view_record m.state m.rx m.tx k

  reads : Reads (table_of image) (seen m) k
  reads = record { there = lt-ltb _ _ reader.there; tcp = reader.tcp; receives = ap receiving seen_c ∙ reader.receives; at_header = reader.at_header }

  pub read_back : {ss : List Sent} {ps : List Pdu} (pieces : List (List ℕ)) → Routed (routes_in image m.state k) ss ps → flatten pieces ≡ frames ss
      → RunBytes (as_segments k pieces) → given_in image k m (as_segments k pieces) ≡ map as_out ps
  read_back {ss} {ps} pieces h e bytes =
      pdus_alone (given_in image k m (as_segments k pieces)) ps (given_solid image k m (as_segments k pieces))
      (run-given image k m (as_segments k pieces) bytes good
      ∙ trip_pdus (table_of image) (whole_of image) (seen m) k reads pieces
      (subst (λ (d : Connection). Routed (lookup_of (body_of image Route) k d.switches) ss ps) (sym seen_c) h) e)

  -- .. and, where routes are marked, these PDUs and whole transfers, byte by byte
  pub read_carried : {ss : List Sent} {os : List Out} (pieces : List (List ℕ)) → Carried (routes_in image m.state k) ss os → flatten pieces ≡ frames ss
      → RunBytes (as_segments k pieces) → fine (given_in image k m (as_segments k pieces)) ≡ fine os
  read_carried {ss} {os} pieces h e bytes =
      run-given image k m (as_segments k pieces) bytes good
      ∙ trip (table_of image) (whole_of image) (seen m) k reads pieces
      (subst (λ (d : Connection). Carried (lookup_of (body_of image Route) k d.switches) ss os) (sym seen_c) h) e

-- WHAT A WALK HANDS OUT, a step for each PDU; more steps meet the end and hand out nothing
pub walk_back : (image : List ℕ) (m : Machine) → Good image m → (k : ℕ) → Walker image m k
    → {ss : List Sent} {ps : List Pdu} (datagram : List ℕ) → Routed (routes_in image m.state k) ss ps
    → datagram ≡ frames ss → (steps : ℕ) → length ss ≤ steps → given_in image k m (as_walks image k datagram steps m 0) ≡ map as_out ps
walk_back image m good k walker {ss} {ps} datagram routed e steps enough =
    walks-given image k datagram m walker steps m good refl 0 (omega arith)
    ∙ ap (λ (l : List ℕ). walks (routes_in image m.state k) steps l 0) e
    ∙ walks_more (routes_in image m.state k) (length ss) steps (frames ss) 0 enough (then_the_end (routes_in image m.state k) routed)
    ∙ walk-trip (routes_in image m.state k) routed

-- BOTH TOGETHER: any run from a machine where nothing waits on connection j, and then a take of what waits
module _ (image : List ℕ) (a : Machine) (good : Good image a) (j : ℕ) (there : j < rows_of image Connections)
    (nothing : (record_at a.state j).used ≡ 0) (es : List Event) (bytes : RunBytes es)
    (out : List ℕ) where
  none_waits : waits a.state a.tx j ≡ frames []
  unfolding waiting_of frames
  none_waits = ap (λ (i : ℕ). take i (drop (j * 1472) a.tx)) nothing

  -- what the take gives out is the frames of the PDUs stored since
  pub sent-out : (record_at (after_run image a es).state j).used ≤ length out → outgoing image (after_run image a es) j out ≡ frames (sent_in image j a es [])
  sent-out room = out-waits image (after_run image a es) (run_good image a es bytes good) j there out room ∙ run-frames image j a es [] bytes good none_waits

  -- and what is read out of them is those PDUs: cut into segments in any way
  pub round_trip : (record_at (after_run image a es).state j).used ≤ length out
      → (image' : List ℕ) (b : Machine) → Good image' b → (k : ℕ) → Reader image' b k → {ps : List Pdu}
      → Routed (routes_in image' b.state k) (sent_in image j a es []) ps → (pieces : List (List ℕ))
      → flatten pieces ≡ outgoing image (after_run image a es) j out → RunBytes (as_segments k pieces)
      → given_in image' k b (as_segments k pieces) ≡ map as_out ps
  round_trip room image' b good' k reader routed pieces cut-is bytes' = read_back image' b good' k reader pieces routed (cut-is ∙ sent-out room) bytes'

  -- .. each on a marked route as one transfer with all its bytes
  pub carried_trip : (record_at (after_run image a es).state j).used ≤ length out
      → (image' : List ℕ) (b : Machine) → Good image' b → (k : ℕ) → Reader image' b k → {os : List Out}
      → Carried (routes_in image' b.state k) (sent_in image j a es []) os → (pieces : List (List ℕ))
      → flatten pieces ≡ outgoing image (after_run image a es) j out → RunBytes (as_segments k pieces)
      → fine (given_in image' k b (as_segments k pieces)) ≡ fine os
  carried_trip room image' b good' k reader carried pieces cut-is bytes' = read_carried image' b good' k reader pieces carried (cut-is ∙ sent-out room) bytes'

  -- or walked over as one datagram, in as many steps or more
  pub datagram_trip : (record_at (after_run image a es).state j).used ≤ length out
      → (image' : List ℕ) (b : Machine) → Good image' b → (k : ℕ) → Walker image' b k → {ps : List Pdu}
      → Routed (routes_in image' b.state k) (sent_in image j a es []) ps → (steps : ℕ) → length (sent_in image j a es []) ≤ steps
      → given_in image' k b (as_walks image' k (outgoing image (after_run image a es) j out) steps b 0) ≡ map as_out ps
  datagram_trip room image' b good' k walker routed steps enough =
      walk_back image' b good' k walker (outgoing image (after_run image a es) j out) routed (sent-out room) steps enough
