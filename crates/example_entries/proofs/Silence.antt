-- A PEER THAT FALLS SILENT IS LET GO at the second tick, its limit, and not before: theorem_alive's theorem, of a machine that meets all that it asks.
use Rattle.std.proofs.Common.{Ok}
use Prim.Native.Nat.{ℕ, ◌<◌, ◌-◌}
use mathlib.Core.Path.{◌≡◌, refl, sym, ◌∙◌, subst}
use mathlib.Core.Bool.{Bool, true, false, false≢true}
use mathlib.Core.List.{List}
use native.Mathlib.Omega.{arith}
use lib.ListN.{length}
use Rattle.wire.specs.Be.{be}
use Rattle.lists.specs.Search.{bad_from, every}
use Rattle.lists.specs.Fold.{fold_from}
use Rattle.table_layout.specs.Layout.{rows_of, body_bytes, start_of, end_of, row_at, part_of, body_of, row_in}
use Rattle.table_layout.specs.declared.Kind.TheVariants.{Connection as Connections}
use Rattle.table_rows.specs.Rows.{group_row, connection_row, route_row, destination_row}
use Rattle.table_rows.specs.Rules.{group_good, connection_good, route_good, destination_good, size_in, group_tcp, tcp_in, routes_share, destinations_share}
use Rattle.table_scan.specs.Scan.{share, clear_in, good_in}
use Rattle.table.specs.Table.{head_good, entry_good, rule, then_check, entries_place, head_place, all_rows_place, check_table}
use Rattle.connection.specs.Connection.{wildcard}
use Rattle.connection.specs.Sound.{sound_of, zero_of}
use Rattle.state.specs.Fresh.{config_of, fresh_state}
use Rattle.gate.specs.Sound.{sound_at, records_sound, sound_state}
use Rattle.gate.proofs.Pass.{sound-passed, passed_gate}
use Rattle.select.specs.Best.{better, chosen_of}
use Rattle.select.specs.Choose.{rank_of, score_of, score_at, chosen_in, denied_of, arrive_of}
use Rattle.entry_arrivals.specs.Arrivals.{arrival_of, datagram_of}
use Rattle.model.specs.Events.{change, segment, walk, take_waiting, datagram, accept, tick, transmit, switch_all, read_count, clear_count, Event, on, on_whole}
use Rattle.model_refines.specs.Machine.{Machine, machine, lent_to}
use Rattle.model_refines.specs.Run.{Good}
use Rattle.theorem_alive.specs.Alive.{Watched, ticks_in, its_record, Breaks, datagram_given, close_asked, waiting_taken, Silent, LetGoAt}
use Rattle.theorem_alive.proofs.Alive.{let_go_exactly}
use Rattle.example_edges.specs.Table.{image, anybody, exact}
use Rattle.example_entries.specs.Silence.{quiet_here, heard_once, silent_since, PeerGoes}

-- what may break the silence
breaking : Event → Bool
breaking (on i (change e)) = true
breaking (on i (segment bytes)) = true
breaking (on i (walk d place)) = false
breaking (on i (take_waiting room)) = true
breaking (on_whole (datagram group source)) = true
breaking (on_whole (accept group source)) = true
breaking (on_whole tick) = false
breaking (on_whole (transmit pdu payload)) = true
breaking (on_whole (switch_all number position)) = true
breaking (on_whole (read_count protocol)) = true
breaking (on_whole (clear_count protocol)) = true

breaks_only : (m : Machine) (e : Event) → Breaks image 0 m e → breaking e ≡ true
unfolding breaking
breaks_only m e (datagram_given group source p) = refl
breaks_only m e close_asked = refl
breaks_only m e (waiting_taken room) = refl

calm : (m : Machine) (e : Event) → breaking e ≡ false → Breaks image 0 m e → ⊥
calm m e quiet b = false≢true (sym quiet ∙ breaks_only m e b)

sound-anybody : sound_state image anybody ≡ true
unfolding image be bad_from every rows_of body_bytes start_of end_of row_at part_of body_of row_in group_row connection_row route_row destination_row group_good
    connection_good route_good destination_good size_in group_tcp tcp_in routes_share destinations_share share clear_in good_in head_good entry_good rule
    then_check entries_place head_place all_rows_place check_table config_of fresh_state sound_of zero_of sound_at records_sound sound_state
sound-anybody = refl

sixteen : length anybody.connections ≡ 16
unfolding fresh_state
sixteen = refl

there : 0 < rows_of image Connections
unfolding image be rows_of
there = omega arith

meets : (arrive_of image anybody false 0 exact).answer ≡ Ok 0
unfolding image be fold_from rows_of body_bytes start_of part_of body_of row_in group_row connection_row
    config_of fresh_state better chosen_of rank_of score_of score_at chosen_in denied_of arrive_of
meets = refl

-- the limit, and the record before the datagram
limit_two : (config_of image 0).alive ≡ 2
unfolding image be rows_of body_bytes start_of part_of body_of row_in group_row connection_row config_of
limit_two = refl

module _ (rx tx : List ℕ) (long : length rx ≡ 23424) (wide : length tx ≡ 23552) where
  abbrev m : Machine
  m = machine anybody rx tx

  good : Good image m
  good = record { passed = sound-passed (lent_to image m) long wide sound-anybody; sixteen = sixteen }

  is-met : (datagram_of (lent_to image m) 0 exact).answer ≡ Ok 0
  unfolding arrival_of
  is-met = rw (passed_gate (lent_to image m) good.passed) meets

  wild : wildcard (its_record image 0 m).remote ≡ true
  unfolding image be rows_of body_bytes start_of part_of body_of row_in group_row connection_row config_of fresh_state
  wild = refl

  unmarked : (its_record image 0 m).watch.remote_set ≡ false
  unfolding fresh_state
  unmarked = refl

  silent : Silent image 0 (heard_once rx tx) quiet_here
  unfolding Silent breaking
  silent = (calm _ _ refl, (calm _ _ refl, tt))

  all : LetGoAt image 0 (config_of image 0) exact (config_of image 0).alive (heard_once rx tx) quiet_here
  all = let_go_exactly image 0 there m good 0 exact is-met wild unmarked quiet_here (tt, (tt, tt)) silent

  -- THE ONE STATEMENT
  pub peer-goes : PeerGoes rx tx
  unfolding ticks_in
  peer-goes =
      record {
        still = subst (λ (n : ℕ). Watched exact false (n - 1) (its_record image 0 (silent_since rx tx))) limit_two (all.before (omega (arith, limit_two)));
        gone = all.at (sym limit_two);
      }
