-- THE EDGES HOLD, by computation over the whole table (`edges-hold`). THE STARRED EDGES, as the definitions behind the entry points give them
-- (`inside`), hold too, and so each of them does (`each-inside`): example_entries has its rows by them.
use Prim.Native.Nat.{ℕ, zero, suc}
use mathlib.Core.Path.{◌≡◌, refl, ap₂}
use mathlib.Core.Bool.{true, false, false≢true}
use mathlib.Core.List.{List, [], ◌∷◌}
use lib.Dec.{eqb}
use lib.ListN.{get_or, take}
use borrow.Author.Tests.{eqb-true}
use Rattle.wire.specs.Be.{be}
use Rattle.lists.specs.Search.{bad_from, every}
use Rattle.lists.specs.Fold.{fold_from}
use Rattle.lists.proofs.Both.{and_left, and_right}
use Rattle.table_layout.specs.Layout.{rows_of, body_bytes, start_of, end_of, row_at, part_of, body_of, row_in}
use Rattle.table_rows.specs.Rows.{group_row, connection_row, route_row, destination_row}
use Rattle.table_rows.specs.Rules.{group_good, connection_good, route_good, destination_good, size_in, group_tcp, tcp_in, routes_share, destinations_share}
use Rattle.table_scan.specs.Scan.{share, clear_in, good_in}
use Rattle.table.specs.Table.{head_good, entry_good, rule, then_check, entries_place, head_place, all_rows_place, check_table, table_number}
use Rattle.state.specs.Fresh.{config_of, fresh_state}
use Rattle.reading.specs.Feed.{ready, piece_done, feed, take_b, takes, segment_ran, segments}
use Rattle.reading_lengths.specs.Head.{head_of}
use Rattle.reading_walk.specs.Walk.{walk_at, outs_told}
use Rattle.switches.specs.Switches.{is_on}
use Rattle.receive_route.specs.Route.{rows_in, counts, row_for, row_found, row_decision, lookup_of}
use Rattle.select.specs.Best.{better, chosen_of}
use Rattle.select.specs.Choose.{rank_of, score_of, score_at, chosen_in, denied_of, arrive_of}
use Rattle.send_destination.specs.Destination.{refusal_of, look_of, timer_of}
use Rattle.send.specs.Verdict.{verdict_of, transmission_number}
use Rattle.send.specs.Send.{look_at, check_of}
use Rattle.connection.specs.Connection.{alive_after, started_of as starts_of, reach_of, run_of, tick_of}
use Rattle.connection.specs.Event.{step_of}
use Rattle.connection.specs.Sound.{sound_of, zero_of}
use Rattle.gate.specs.Sound.{sound_at, records_sound, sound_state}
use Rattle.gate.specs.Gate.{gate_of, gate_at}
use Rattle.entry_events.specs.Change.{told_of, change_of, event_of, loss_of}
use Rattle.entry_ticks.specs.Tick.{ticked_to, ticks_to, ticks_event}
use Rattle.receive_datagram.specs.Datagram.{walked_of}
use Rattle.entry_receive.specs.Answer.{judged_of, judged_answer}
use Rattle.entry_receive.specs.Walk.{walk_on, walk_of}
use Rattle.example_edges.specs.Table.{image, fresh, waiting_for, used, exact}
use Rattle.example_edges.specs.Edges.{Edge, edge, numbers, arrived_numbers, routes, framed, bar, skip_longest, edges, same_numbers, Hold}

pub edges-hold : Hold edges
unfolding image be bad_from every fold_from rows_of body_bytes start_of end_of row_at part_of body_of row_in group_row connection_row route_row
    destination_row group_good
    connection_good route_good destination_good size_in routes_share destinations_share share clear_in good_in head_good entry_good rule then_check
    entries_place
    head_place all_rows_place check_table config_of fresh_state piece_done feed take_b takes segment_ran segments head_of walk_at is_on rows_in counts row_for
    row_found row_decision lookup_of better chosen_of rank_of score_of score_at chosen_in denied_of arrive_of refusal_of look_of timer_of verdict_of
    look_at
    check_of group_tcp tcp_in step_of sound_of zero_of sound_at records_sound sound_state gate_of gate_at told_of change_of event_of loss_of alive_after
    starts_of
    reach_of run_of tick_of ticked_to ticks_to ticks_event walked_of judged_of judged_answer walk_on walk_of
edges-hold = refl

-- R12.2 to R12.8
abbrev pub inside : List Edge
inside =
    -- the image is accepted
    edge (table_number (check_table image) ∷ []) (0 ∷ [])
    -- R12.2: PDU 0x101, payload 180
    ∷ edge (numbers (segment_ran (routes 2 1) ready bar).list) (0 ∷ 0 ∷ 0x101 ∷ 180 ∷ 2 ∷ [])
    -- R12.2: `46 50` as payload is 18,000
    ∷ edge (numbers (segment_ran (routes 2 1) ready (framed 2 2 (0x46 ∷ 0x50 ∷ []))).list) (0 ∷ 1 ∷ 0x102 ∷ 18000 ∷ 2 ∷ [])
    -- R12.3: length 0
    ∷ edge (numbers (segment_ran (routes 2 1) ready (framed 1 0 [])).list) (0 ∷ 0 ∷ 0x101 ∷ 0 ∷ 0 ∷ [])
    -- R12.3: longest 2 against length 2 and 3
    ∷ edge (numbers (segment_ran (routes 2 1) ready (framed 1 2 (7 ∷ 8 ∷ []))).list) (0 ∷ 0 ∷ 0x101 ∷ 1800 ∷ 2 ∷ [])
    ∷ edge (numbers (segment_ran (routes 2 1) ready (framed 1 3 (7 ∷ 8 ∷ 9 ∷ []))).list) (22 ∷ 0x101 ∷ 3 ∷ [])
    -- R12.4: groups 0 with all switches off is on; and a route with groups 1, whose switch 0 is off: 21
    ∷ edge (numbers (segment_ran (routes 2 0) ready (framed 2 1 (5 ∷ []))).list) (0 ∷ 1 ∷ 0x102 ∷ 5 ∷ 1 ∷ [])
    ∷ edge (numbers (segment_ran (routes 2 0) ready bar).list) (21 ∷ 0x101 ∷ 2 ∷ [])
    -- R12.5: remote 0:0 against an exact row: the exact row
    ∷ edge (arrived_numbers (arrive_of image waiting_for false 0 exact).answer) (0 ∷ 1 ∷ [])
    -- R12.5: no member: 10
    ∷ edge (arrived_numbers (arrive_of image fresh false 0 exact).answer) (10 ∷ [])
    -- R12.6: used 1,462 + 8 + 2 = 1,472 fits; 1,463 gives 8
    ∷ edge (transmission_number (check_of image (used 1462) 9 2) ∷ []) (0 ∷ [])
    ∷ edge (transmission_number (check_of image (used 1463) 9 2) ∷ []) (8 ∷ [])
    -- R12.7: a datagram of 7 bytes is 23; and the whole one
    ∷ edge (numbers (outs_told (take 7 bar) (walk_at (routes 0 0) (take 7 bar) 0).found [])) (23 ∷ 0 ∷ 0 ∷ [])
    ∷ edge (numbers (outs_told bar (walk_at (routes 0 0) bar 0).found [])) (0 ∷ 2 ∷ 0x101 ∷ 180 ∷ 2 ∷ [])
    -- R12.8: a length of 4,294,967,295, dropped
    ∷ edge (numbers (segment_ran (routes 2 1) ready skip_longest).list) (20 ∷ 0x103 ∷ 4294967295 ∷ [])
    ∷ []

inside-hold : Hold inside
unfolding image be bad_from every fold_from rows_of body_bytes start_of end_of row_at part_of body_of row_in group_row connection_row route_row
    destination_row group_good
    connection_good route_good destination_good size_in routes_share destinations_share share clear_in good_in head_good entry_good rule then_check
    entries_place
    head_place all_rows_place check_table config_of fresh_state piece_done feed take_b takes segment_ran segments head_of walk_at is_on rows_in counts row_for
    row_found row_decision lookup_of better chosen_of rank_of score_of score_at chosen_in denied_of arrive_of refusal_of look_of timer_of verdict_of
    look_at
    check_of group_tcp tcp_in step_of sound_of zero_of sound_at records_sound sound_state gate_of gate_at told_of change_of event_of loss_of alive_after
    starts_of
    reach_of run_of tick_of ticked_to ticks_to ticks_event walked_of judged_of judged_answer walk_on walk_of
inside-hold = refl

-- a table that holds: each of its rows does
same-is : (xs ys : List ℕ) → same_numbers xs ys ≡ true → xs ≡ ys
same-is [] [] e = refl
same-is [] (y ∷ ys) e = absurd (false≢true e)
same-is (x ∷ xs) [] e = absurd (false≢true e)
same-is (x ∷ xs) (y ∷ ys) e = ap₂ (λ (z : ℕ) (zs : List ℕ). z ∷ zs) (eqb-true x y (and_left (eqb x y) _ e)) (same-is xs ys (and_right (eqb x y) _ e))

pub each_row : (es : List Edge) → Hold es → (i : ℕ) → (get_or es i (edge [] [])).is ≡ (get_or es i (edge [] [])).says
each_row [] h i = refl
each_row (e ∷ es) h zero = same-is e.is e.says (and_left (same_numbers e.is e.says) _ h)
each_row (e ∷ es) h (suc i) = each_row es (and_right (same_numbers e.is e.says) _ h) i

pub each-inside : (i : ℕ) → (get_or inside i (edge [] [])).is ≡ (get_or inside i (edge [] [])).says
each-inside i = each_row inside inside-hold i
