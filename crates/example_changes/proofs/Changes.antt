-- EACH EVENT CHANGES A SOUND STATE: the table holds, by computation over the whole of it (`changes-hold`); and so the event of each
-- row changes the row's state, which is sound (`each-changes`).
use Prim.Native.Nat.{ℕ, zero, suc, ◌<◌}
use mathlib.Core.Path.{◌≡◌, refl, sym, ap, ◌∙◌}
use mathlib.Core.Bool.{true, ◌&&◌}
use mathlib.Core.List.{List, [], ◌∷◌}
use native.Mathlib.Omega.{arith}
use lib.ListN.{length, get_or}
use borrow.Author.Tests.{eqb-true, eqb-false, not-true}
use Rattle.wire.specs.Be.{be}
use Rattle.lists.specs.Search.{bad_from, every}
use Rattle.lists.specs.Fold.{fold_from}
use Rattle.lists.proofs.Both.{and_left, and_right}
use Rattle.table_layout.specs.Layout.{rows_of, body_bytes, start_of, end_of, row_at, part_of, body_of, row_in}
use Rattle.table_rows.specs.Rows.{group_row, connection_row, route_row, destination_row}
use Rattle.table_rows.specs.Rules.{group_good, connection_good, route_good, destination_good, size_in, group_tcp, tcp_in, routes_share, destinations_share}
use Rattle.table_scan.specs.Scan.{share, clear_in, good_in}
use Rattle.table.specs.Table.{head_good, entry_good, rule, then_check, entries_place, head_place, all_rows_place, check_table}
use Rattle.reading.specs.Feed.{piece_done, feed, take_b}
use Rattle.reading_lengths.specs.Head.{head_of}
use Rattle.reading_walk.specs.Walk.{walk_at}
use Rattle.connection.specs.Connection.{worth, switch_of, alive_after, started_of as starts_of, reach_of, run_of, tick_of}
use Rattle.connection.specs.Event.{step_of}
use Rattle.connection.specs.Sound.{sound_of, zero_of}
use Rattle.state.specs.State.{counted}
use Rattle.state.specs.Fresh.{config_of, fresh_state}
use Rattle.switches.specs.Switches.{is_on}
use Rattle.receive_route.specs.Route.{rows_in, counts, row_for, row_found, row_decision, lookup_of}
use Rattle.receive_stream.specs.Stream.{took_of, taken_of as takeFrom}
use Rattle.receive_datagram.specs.Datagram.{walked_of}
use Rattle.gate.specs.Sound.{sound_at, records_sound, sound_state}
use Rattle.gate.specs.Gate.{gate_of, gate_at}
use Rattle.entry_events.specs.Change.{told_of, change_of, event_of, loss_of}
use Rattle.entry_events.specs.Module.{switched_all, switch_all_of}
use Rattle.entry_events.specs.Count.{of_protocol, clear_past, clear_of}
use Rattle.entry_ticks.specs.Tick.{ticked_to, ticks_to, tick_event, ticks_event}
use Rattle.select.specs.Best.{better, chosen_of}
use Rattle.select.specs.Choose.{rank_of, score_of, score_at, chosen_in, denied_of, arrive_of}
use Rattle.entry_arrivals.specs.Arrivals.{arrival_of}
use Rattle.entry_receive.specs.Answer.{judged_of, judged_answer}
use Rattle.entry_receive.specs.Segment.{take_on, segment_of}
use Rattle.entry_receive.specs.Walk.{walk_on, walk_of}
use Rattle.send_destination.specs.Destination.{refusal_of, look_of, timer_of}
use Rattle.send.specs.Verdict.{verdict_of}
use Rattle.send.specs.Send.{append_of, look_at, check_of, wanted_at, store_of, store_all, transmit_of}
use Rattle.send_waiting.specs.Waiting.{take_of}
use Rattle.entry_send.specs.Sending.{send_of, taken_waiting}
use Rattle.example_edges.specs.Table.{image}
use Rattle.example_changes.specs.Changes.{Change, changes, idle_change, is_was, is_becomes, change_holds, EveryChange, Changes}

pub changes-hold : EveryChange changes
unfolding image be bad_from every fold_from rows_of body_bytes start_of end_of row_at part_of body_of row_in group_row connection_row route_row
    destination_row group_good
    connection_good route_good destination_good size_in group_tcp tcp_in routes_share destinations_share share clear_in good_in head_good entry_good rule
    then_check entries_place head_place all_rows_place check_table piece_done feed take_b head_of walk_at worth switch_of alive_after starts_of reach_of run_of
    tick_of step_of sound_of zero_of counted config_of fresh_state is_on rows_in counts row_for row_found row_decision lookup_of took_of takeFrom
    walked_of
    sound_at records_sound sound_state gate_of gate_at told_of change_of event_of loss_of switched_all switch_all_of of_protocol clear_past clear_of
    ticked_to ticks_to
    tick_event ticks_event better chosen_of rank_of score_of score_at chosen_in denied_of arrive_of arrival_of judged_of judged_answer take_on segment_of
    walk_on
    walk_of refusal_of look_of timer_of verdict_of append_of look_at check_of wanted_at store_of store_all transmit_of take_of send_of taken_waiting
changes-hold = refl

-- a row that holds: its state is sound, and its event leaves another
of_row : (c : Change) → change_holds c ≡ true → Changes c
of_row c h =
    let three : _ = and_left (sound_state image c.before && is_was c && is_becomes c) _ h in
    let two : _ = and_left (sound_state image c.before && is_was c) _ three in
    let before : c.field c.before ≡ c.was = eqb-true _ _ (and_right (sound_state image c.before) _ two) in
    let after : c.field (c.event c.before) ≡ c.becomes = eqb-true _ _ (and_right (sound_state image c.before && is_was c) _ three) in
    let apart : c.was ≡ c.becomes → ⊥ = eqb-false _ _ (not-true _ (and_right (sound_state image c.before && is_was c && is_becomes c) _ h)) in
    record {
      sound = and_left (sound_state image c.before) _ two;
      moves = λ still. apart (sym before ∙ sym (ap c.field still) ∙ after);
    }

pub each_row : (cs : List Change) → EveryChange cs → (i : ℕ) → i < length cs → Changes (get_or cs i idle_change)
each_row [] h i l = absurd (omega arith)
each_row (c ∷ cs) h zero l = of_row c (and_left (change_holds c) _ h)
each_row (c ∷ cs) h (suc i) l = each_row cs (and_right (change_holds c) _ h) i (omega arith)

-- EACH EVENT of the table changes a sound state
pub each-changes : (i : ℕ) → i < length changes → Changes (get_or changes i idle_change)
each-changes i l = each_row changes changes-hold i l
