-- THE THEOREMS HAVE CASES: for each record of what they ask a machine that meets it, and the theorem applied to it, with a PDU handed out.
use Prim.Native.Nat.{ℕ, zero, suc, ◌<◌, ◌≤◌}
use mathlib.Core.Path.{◌≡◌, refl, sym, ap, ap₂, ◌∙◌, subst}
use mathlib.Core.Bool.{Bool, true, false, false≢true}
use mathlib.Core.List.{List, [], ◌∷◌, flatten, map}
use native.Mathlib.Omega.{arith}
use lib.ListN.{length, replicate, length-replicate}
use Rattle.wire.specs.Be.{be}
use Rattle.wire.specs.Lay.{spell}
use Rattle.lists.specs.Search.{bad_from, every}
use Rattle.table_layout.specs.Layout.{rows_of, body_bytes, start_of, end_of, row_at, part_of, body_of, row_in}
use Rattle.table_layout.specs.declared.Kind.TheVariants.{Connection as Connections, Route as Routes}
use Rattle.table_rows.specs.Rows.{group_row, connection_row, route_row, destination_row}
use Rattle.table_rows.specs.Rules.{group_good, connection_good, route_good, destination_good, size_in, routes_share, destinations_share}
use Rattle.table_scan.specs.Scan.{share, clear_in, good_in}
use Rattle.table.specs.Table.{head_good, entry_good, rule, then_check, entries_place, head_place, all_rows_place, check_table}
use Rattle.connection.specs.Sound.{sound_of, zero_of}
use Rattle.connection.specs.Event.{receiving}
use Rattle.state.specs.State.{record_at}
use Rattle.state.specs.Fresh.{config_of, fresh_state}
use Rattle.gate.specs.Sound.{sound_at, records_sound, sound_state}
use Rattle.gate.proofs.Pass.{sound-passed}
use Rattle.switches.specs.Switches.{is_on}
use Rattle.frame.specs.Frame.{Sent}
use Rattle.reading.specs.Feed.{pdu, ready, handed, compared, complete, cell, header}
use Rattle.reading.specs.Routed.{Routed, routed_none, routed_one}
use Rattle.reading.specs.declared.Decision.TheVariants.{Accept}
use Rattle.reading_lengths.specs.Head.{head_of}
use Rattle.reading_lengths.specs.Split.{splits, split}
use Rattle.reading_lengths.specs.Listed.{mark, accepted, listed, listed_from, Bytes}
use Rattle.receive_route.specs.Route.{rows_in, counts, row_for, row_found, row_decision, lookup_of}
use Rattle.send_destination.specs.Destination.{refusal_of, look_of}
use Rattle.send.specs.Verdict.{verdict_of}
use Rattle.send.specs.Send.{look_at, check_of, wanted_at}
use Rattle.table.proofs.Facts.{accepted_facts}
use Rattle.law_keeps.proofs.Transmitted.{all_fit}
use Rattle.entry_receive.specs.Routes.{routes_in}
use Rattle.model.specs.World.{held_at, held_of, cell_at}
use Rattle.model.specs.Events.{change, segment, walk, take_waiting, Event, on, on_whole}
use Rattle.model.proofs.View.{view_at}
use Rattle.model_runs.specs.Same.{cut}
use Rattle.model_runs.specs.Streams.{RunBytes, streams, longer, listed_in, listed_later}
use Rattle.model_runs.specs.Trip.{as_segments}
use Rattle.model_refines.specs.Machine.{Machine, machine, lent_to, seen}
use Rattle.model_refines.specs.Run.{Good, after_run, given_in}
use Rattle.theorems.specs.Waits.{sent_from, sent_to, sent_in}
use Rattle.theorems.specs.Trip.{Reader, Walker, outgoing, as_walks}
use Rattle.theorems.specs.Streams.{ends_at, reads_at, streams_in}
use Rattle.theorems.specs.Three.{Demand3}
use Rattle.theorems.proofs.Runs.{run_good}
use Rattle.theorems.proofs.Streams.{own-list}
use Rattle.theorems.proofs.Trip.{round_trip, datagram_trip}
use Rattle.theorems.proofs.Three.{demand_3}
use Rattle.theorem_periods.specs.Periods.{PeriodEnds, allowed_loss, closing_tick}
use Rattle.theorem_periods.proofs.Periods.{period_exactly}
use Rattle.theorem_witness.specs.Gauges.{gauges, gauges_up, half_read, pressure, rest_read, send_pressure, sent_pressure, zeroed_at}

-- both states are sound
sound : (sound_state gauges gauges_up ≡ true) × (sound_state gauges half_read ≡ true)
unfolding gauges be bad_from every rows_of body_bytes start_of end_of row_at part_of body_of row_in group_row connection_row route_row destination_row
    group_good
    connection_good route_good destination_good size_in routes_share destinations_share share clear_in good_in head_good entry_good rule then_check
    entries_place
    head_place all_rows_place check_table config_of fresh_state sound_of zero_of sound_at records_sound sound_state
sound = (refl, refl)

sixteen_up : length gauges_up.connections ≡ 16
unfolding fresh_state
sixteen_up = refl

sixteen_half : length half_read.connections ≡ 16
unfolding fresh_state
sixteen_half = refl

-- lent any memory of the right lengths
module _ (rx tx : List ℕ) (long : length rx ≡ 23424) (wide : length tx ≡ 23552) where
  pub good_up : Good gauges (machine gauges_up rx tx)
  good_up = record { passed = sound-passed (lent_to gauges (machine gauges_up rx tx)) long wide sound.0; sixteen = sixteen_up }

  pub good_half : Good gauges (machine half_read rx tx)
  good_half = record { passed = sound-passed (lent_to gauges (machine half_read rx tx)) long wide sound.1; sixteen = sixteen_half }

-- WHAT THE TABLE SAYS of its two connections, and what a transmit of the pressure does there
two_rows : rows_of gauges Connections ≡ 2
unfolding gauges be rows_of
two_rows = refl

protocols : ((config_of gauges 0).tcp ≡ false) × ((config_of gauges 1).tcp ≡ true)
unfolding gauges be rows_of body_bytes start_of part_of body_of row_in group_row connection_row config_of
protocols = (refl, refl)

routes_say : (routes_in gauges gauges_up 0 0x101 2 ≡ Accept 0) × (routes_in gauges gauges_up 1 0x101 2 ≡ Accept 1)
unfolding gauges be rows_of body_bytes start_of part_of body_of row_in group_row connection_row route_row
    config_of fresh_state is_on rows_in counts row_for row_found row_decision lookup_of bad_from
routes_say = (refl, refl)

sent-to : (sent_to gauges gauges_up 9 pressure 0 ≡ sent_pressure ∷ []) × (sent_to gauges gauges_up 9 pressure 1 ≡ sent_pressure ∷ [])
unfolding gauges be rows_of body_bytes start_of part_of body_of row_in group_row connection_row destination_row
    config_of fresh_state is_on bad_from every refusal_of look_of verdict_of look_at check_of wanted_at sent_from sent_to
sent-to = (refl, refl)

there_0 : 0 < rows_of gauges Connections
there_0 = subst (λ (n : ℕ). 0 < n) (sym two_rows) (omega arith)

there_1 : 1 < rows_of gauges Connections
there_1 = subst (λ (n : ℕ). 1 < n) (sym two_rows) (omega arith)

up_0 : receiving (record_at gauges_up 0) ≡ true
unfolding fresh_state
up_0 = refl

up_1 : receiving (record_at gauges_up 1) ≡ true
unfolding fresh_state
up_1 = refl

none_used : ((record_at gauges_up 0).used ≡ 0) × ((record_at gauges_up 1).used ≡ 0)
unfolding fresh_state
none_used = (refl, refl)

-- WHO READS, lent any memory of the right lengths
module _ (rx tx : List ℕ) where
  cell_up : cell_at (held_of rx tx 1 (record_at gauges_up 1)) ≡ ready
  unfolding fresh_state
  cell_up = refl

  pub a_reader : Reader gauges (machine gauges_up rx tx) 1
  a_reader = record { there = there_1; tcp = protocols.1; receives = up_1; at_header = ap cell_at (view_at gauges_up rx tx 1) ∙ cell_up }

  pub a_walker : Walker gauges (machine gauges_up rx tx) 0
  a_walker = record { there = there_0; udp = protocols.0; receives = up_0 }

-- THE ROUND TRIP, from a transmit on one such machine to a reader and a walker on another
module _ (rx tx : List ℕ) (long : length rx ≡ 23424) (wide : length tx ≡ 23552) (out : List ℕ) (room : 1472 ≤ length out) where
  abbrev m : Machine
  m = machine gauges_up rx tx

  abbrev sender : Machine
  sender = after_run gauges m send_pressure

  sender_good : Good gauges sender
  sender_good = run_good gauges m send_pressure (tt, tt) (good_up rx tx long wide)

  fits : (j : ℕ) → (record_at sender.state j).used ≤ length out
  fits j = omega (arith, room, all_fit gauges (accepted_facts gauges sender_good.passed.table) sender.state sender_good.passed.sound j)

  -- what is sent
  sent_0 : sent_in gauges 0 m send_pressure [] ≡ sent_pressure ∷ []
  unfolding sent_in
  sent_0 = sent-to.0

  sent_1 : sent_in gauges 1 m send_pressure [] ≡ sent_pressure ∷ []
  unfolding sent_in
  sent_1 = sent-to.1

  routed : (j r : ℕ) → routes_in gauges gauges_up j 0x101 2 ≡ Accept r → sent_in gauges j m send_pressure [] ≡ sent_pressure ∷ []
      → Routed (routes_in gauges gauges_up j) (sent_in gauges j m send_pressure []) (handed r pressure ∷ [])
  routed j r ac is =
      subst (λ (ss : List Sent). Routed (routes_in gauges gauges_up j) ss (handed r pressure ∷ [])) (sym is)
      (routed_one (record { id_fits = omega arith; length-fits = omega arith }) ac routed_none)

  pub stream_case : (pieces : List (List ℕ)) → flatten pieces ≡ outgoing gauges sender 1 out → RunBytes (as_segments 1 pieces)
      → given_in gauges 1 m (as_segments 1 pieces) ≡ pdu 1 pressure ∷ []
  stream_case pieces is bytes =
      round_trip gauges m (good_up rx tx long wide) 1 there_1 none_used.1 send_pressure
      (tt, tt) out (fits 1) gauges m (good_up rx tx long wide) 1 (a_reader rx tx)
      (routed 1 1 routes_say.1 sent_1) pieces is bytes

  pub datagram_case : (steps : ℕ) → 1 ≤ steps → given_in gauges 0 m (as_walks gauges 0 (outgoing gauges sender 0 out) steps m 0) ≡ pdu 0 pressure ∷ []
  datagram_case steps enough =
      datagram_trip gauges m (good_up rx tx long wide) 0 there_0 none_used.0 send_pressure
      (tt, tt) out (fits 0) gauges m (good_up rx tx long wide) 0 (a_walker rx tx)
      (routed 0 0 routes_say.0 sent_0) steps (subst (λ (ss : List Sent). length ss ≤ steps) (sym sent_0) enough)

-- A HEADER HALF READ at the start: its rest, whole or cut, gives the PDU
bytes_rest : Bytes rest_read
bytes_rest zero = omega arith
bytes_rest (suc zero) = omega arith
bytes_rest (suc (suc zero)) = omega arith
bytes_rest (suc (suc (suc zero))) = omega arith
bytes_rest (suc (suc (suc (suc zero)))) = omega arith
bytes_rest (suc (suc (suc (suc (suc zero))))) = omega arith
bytes_rest (suc (suc (suc (suc (suc (suc zero)))))) = omega arith
bytes_rest (suc (suc (suc (suc (suc (suc (suc i))))))) = omega arith

is_segment : Event → Bool
is_segment (on k (change e)) = false
is_segment (on k (segment bytes)) = true
is_segment (on k (walk d place)) = false
is_segment (on k (take_waiting room)) = false
is_segment (on_whole e) = false

-- its list, by lengths
half_listed : listed_in (lookup_of (body_of gauges Routes) 1) (cell 5 (header 1)) (streams (map (mark 0) rest_read) []) ≡ complete 1 pressure ∷ []
unfolding gauges be rows_of body_bytes start_of part_of body_of row_in route_row is_on rows_in counts row_for row_found
    row_decision lookup_of bad_from head_of splits split accepted listed listed_from listed_later listed_in spell
half_listed = refl

module _ (rx tx : List ℕ) (long : length rx ≡ 23424) (wide : length tx ≡ 23552) where
  abbrev h : Machine
  h = machine half_read rx tx

  abbrev whole : List Event
  whole = on 1 (segment rest_read) ∷ []

  abbrev halves : List Event
  halves = on 1 (segment (1 ∷ 0 ∷ [])) ∷ on 1 (segment (0 ∷ 0 ∷ 2 ∷ 0 ∷ 180 ∷ [])) ∷ []

  -- no segment ends a period
  no_segment : (e : Event) → is_segment e ≡ true → PeriodEnds gauges h 1 e → ⊥
  unfolding is_segment
  no_segment _ e (allowed_loss _) = false≢true e
  no_segment _ e (closing_tick _ _) = false≢true e

  goes_on : ends_at gauges 1 h (on 1 (segment rest_read)) ≡ false
  unfolding is_segment
  goes_on = go (ends_at gauges 1 h (on 1 (segment rest_read))) refl
    where
      go : (b : Bool) → ends_at gauges 1 h (on 1 (segment rest_read)) ≡ b → b ≡ false
      go true e = absurd (no_segment (on 1 (segment rest_read)) refl
          ((period_exactly gauges h (good_half rx tx long wide) 1 there_1 protocols.1 (on 1 (segment rest_read)) bytes_rest).0 e))
      go false e = refl

  cell_half : cell_at (held_at (seen h) 1) ≡ cell 5 (header 1)
  unfolding fresh_state
  cell_half = ap cell_at (view_at half_read rx tx 1)

  stream_half : streams_in gauges 1 h whole ≡ streams (map (mark 0) rest_read) []
  unfolding streams_in fresh_state config_of connection_row be row_in body_of part_of start_of body_bytes rows_of gauges
  stream_half = ap (λ (b : Bool). longer b (reads_at gauges 1 h (on 1 (segment rest_read))) (streams [] [])) goes_on

  pub half_case : compared (given_in gauges 1 h whole) ≡ complete 1 pressure ∷ []
  half_case =
      own-list gauges 1 there_1 protocols.1 h (good_half rx tx long wide) whole (bytes_rest, tt)
      ∙ ap₂ (listed_in (lookup_of (body_of gauges Routes) 1)) cell_half stream_half
      ∙ half_listed

  -- DEMAND 3, of the segment whole and cut
  pub cut-alike : Demand3 gauges h whole halves
  cut-alike = demand_3 gauges h (good_half rx tx long wide) (cut 1 (1 ∷ 0 ∷ []) (0 ∷ 0 ∷ 2 ∷ 0 ∷ 180 ∷ []) []) (bytes_rest, tt)

  pub cut_case : compared (given_in gauges 1 h halves) ≡ complete 1 pressure ∷ []
  cut_case = sym (cut-alike.pdus 1) ∙ half_case

-- CLOSED: with memory that is all zero
pub closed_up : Good gauges (zeroed_at gauges_up)
closed_up = good_up (replicate 23424 0) (replicate 23552 0) (length-replicate {A = ℕ} 23424 0) (length-replicate {A = ℕ} 23552 0)

pub closed_half : Good gauges (zeroed_at half_read)
closed_half = good_half (replicate 23424 0) (replicate 23552 0) (length-replicate {A = ℕ} 23424 0) (length-replicate {A = ℕ} 23552 0)
