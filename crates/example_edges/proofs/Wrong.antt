-- The wrong programs are refuted: for each the input at which it fails.
use Rattle.std.proofs.Common.{Ok}
use Prim.Native.Nat.{ℕ}
use mathlib.Core.Path.{◌≡◌, refl, sym, ap, ◌∙◌}
use mathlib.Core.Bool.{true, false, true≢false}
use mathlib.Core.List.{List, [], ◌∷◌}
use native.Mathlib.Omega.{arith}
use lib.ListN.{get_or, get_or-replicate}
use Rattle.wire.specs.Be.{be}
use Rattle.wire.specs.Lay.{spell, lay}
use Rattle.lists.specs.Search.{bad_from, every}
use Rattle.lists.specs.Fold.{fold_from}
use Rattle.table_layout.specs.Layout.{rows_of, body_bytes, start_of, end_of, row_at, part_of, body_of, row_in}
use Rattle.table_rows.specs.Rows.{group_row, connection_row, route_row, destination_row}
use Rattle.table_rows.specs.Rules.{group_good, connection_good, route_good, destination_good, size_in, group_tcp, tcp_in, routes_share, destinations_share}
use Rattle.table_scan.specs.Scan.{share, clear_in, good_in}
use Rattle.table.specs.Table.{head_good, entry_good, rule, then_check, entries_place, head_place, all_rows_place, check_table}
use Rattle.receive_part.specs.Part.{transferring}
use Rattle.connection.specs.declared.Event.TheVariants.{Open, Cancel}
use Rattle.connection.specs.Connection.{is_online, wildcard, alive_after, started_of as starts_of, reach_of, run_of, tick_of}
use Rattle.connection.specs.Event.{step_of}
use Rattle.connection.specs.Sound.{sound_of, zero_of}
use Rattle.state.specs.declared.State.{State}
use Rattle.state.specs.State.{record_at}
use Rattle.state.specs.Fresh.{config_of, fresh_state}
use Rattle.frame.specs.Frame.{frame}
use Rattle.switches.specs.Switches.{is_on}
use Rattle.gate.specs.Sound.{sound_at, records_sound, sound_state}
use Rattle.gate.specs.Gate.{gate_of, gate_at}
use Rattle.entry_events.specs.declared.Told.{Told}
use Rattle.entry_events.specs.Change.{told_of, change_of, event_of}
use Rattle.send_destination.specs.Destination.{refusal_of, look_of, timer_of}
use Rattle.send.specs.Verdict.{verdict_of}
use Rattle.send.specs.Send.{append_of, look_at, check_of, wanted_at, store_of, store_all, transmit_of}
use Rattle.entry_send.specs.Sending.{sent_memory}
use Rattle.gate.specs.Lent.{lent}
use Rattle.reading_lengths.specs.Head.{head_of}
use Rattle.reading_walk.specs.Walk.{walk_at}
use Rattle.receive_route.specs.Route.{rows_in, counts, row_for, row_found, row_decision, lookup_of}
use Rattle.receive_datagram.specs.Datagram.{walked_of}
use Rattle.select.specs.declared.Arrived.{Arrived}
use Rattle.select.specs.Best.{better, chosen_of}
use Rattle.select.specs.Choose.{rank_of, score_of, score_at, chosen_in, denied_of, arrive_of}
use Rattle.entry_ticks.specs.declared.Ticked.{Ticked}
use Rattle.entry_ticks.specs.Tick.{ticked_to, tick_event}
use Rattle.entry_arrivals.specs.Arrivals.{arrival_of, datagram_of}
use Rattle.entry_receive.specs.declared.DatagramWalked.{DatagramWalked}
use Rattle.entry_receive.specs.Answer.{judged_of, judged_answer}
use Rattle.entry_receive.specs.Walk.{walk_on, walk_of}
use Rattle.example_edges.specs.Table.{image, limited_exact, fresh, used, moving, exact, watching, last_tick, send_memory, lends, loans}
use Rattle.example_edges.specs.Wrong.{Happen, IsHappen, LeavesState, CancelEnds, Send, IsSend, StoresNothing, Ticking, IsTicking}
use Rattle.example_edges.specs.Wrong.{KeepsBytes, StaysUp, Hearing, IsHearing, AnyStarts, ClearsMark, Walking, IsWalking, WalkStarts}

-- an open of a fresh connection sets open wanted
opens : (record_at (event_of (lends fresh) 0 Open).state 0).open_wanted ≡ true
unfolding image be bad_from every rows_of body_bytes start_of end_of row_at part_of body_of row_in group_row connection_row route_row destination_row group_good
    connection_good route_good destination_good size_in group_tcp tcp_in routes_share destinations_share share clear_in good_in head_good entry_good rule
    then_check entries_place head_place all_rows_place check_table config_of fresh_state sound_of zero_of sound_at records_sound sound_state gate_of gate_at
    step_of
    told_of change_of event_of
opens = refl

not_open : (record_at fresh 0).open_wanted ≡ false
unfolding fresh_state
not_open = refl

pub no_still_events : (f : Happen) → IsHappen f → LeavesState f → ⊥
no_still_events f is still =
    true≢false (sym opens ∙ ap (λ (s : State). (record_at s 0).open_wanted)
    (ap (λ (t : Told). t.state) (sym (is (lends fresh) 0 Open)) ∙ still (lends fresh) 0 Open) ∙ not_open)

-- a cancel leaves the transfer to the tick
still-moves : transferring (record_at (event_of (lends (moving 5)) 2 Cancel).state 2).part ≡ true
unfolding image be bad_from every rows_of body_bytes start_of end_of row_at part_of body_of row_in group_row connection_row route_row destination_row group_good
    connection_good route_good destination_good size_in group_tcp tcp_in routes_share destinations_share share clear_in good_in head_good entry_good rule
    then_check entries_place head_place all_rows_place check_table config_of fresh_state sound_of zero_of sound_at records_sound sound_state gate_of gate_at
    step_of
    told_of change_of event_of
still-moves = refl

pub no_ending_cancel : (f : Happen) → IsHappen f → CancelEnds f → ⊥
no_ending_cancel f is wrong =
    true≢false (sym still-moves ∙ ap (λ (t : Told). transferring (record_at t.state 2).part) (sym (is (lends (moving 5)) 2 Cancel))
    ∙ wrong (lends (moving 5)) 2)

-- a transmit to an online destination with room writes the header's id behind the bytes that wait
stores : get_or (sent_memory (loans (used 10)) 9 (1 ∷ 2 ∷ [])) 2956 0 ≡ 2
unfolding image be spell lay bad_from every fold_from rows_of body_bytes start_of end_of row_at part_of body_of row_in group_row connection_row route_row
    destination_row
    group_good connection_good route_good destination_good size_in group_tcp tcp_in routes_share destinations_share share clear_in good_in head_good entry_good
    rule then_check entries_place head_place all_rows_place check_table config_of fresh_state sound_of zero_of sound_at records_sound sound_state gate_of
    frame is_on
    refusal_of look_of timer_of verdict_of append_of look_at check_of wanted_at store_of store_all transmit_of sent_memory
stores = refl

pub no_empty_transmit : (f : Send) → IsSend f → StoresNothing f → ⊥
no_empty_transmit f is nothing_stored =
    let same : send_memory ≡ sent_memory (loans (used 10)) 9 (1 ∷ 2 ∷ []) =
    sym (nothing_stored (loans (used 10)) 9 (1 ∷ 2 ∷ [])) ∙ is (loans (used 10)) 9 (1 ∷ 2 ∷ []) in
    let byte : get_or send_memory 2956 0 ≡ 2 = ap (λ (l : List ℕ). get_or l 2956 0) same ∙ stores in
    let z : ◌≡◌ {A = ℕ} 0 2 = sym (get_or-replicate 23552 2956 0 0 (omega arith)) ∙ byte in
    omega arith

-- what the right ones do: the bytes of a peer that is let go are dropped, and its connection is not online after that tick, whatever its
-- configured remote
lets_go : ((record_at (tick_event (lends (watching 1 false))).state 0).used ≡ 0)
    × (is_online (record_at (tick_event (lent limited_exact last_tick 23424 23552)).state 1).mode ≡ false)
unfolding image be bad_from every fold_from rows_of body_bytes start_of end_of row_at part_of body_of row_in group_row connection_row route_row
    destination_row group_good
    connection_good route_good destination_good size_in group_tcp tcp_in routes_share destinations_share share clear_in good_in head_good entry_good rule
    then_check entries_place head_place all_rows_place check_table config_of fresh_state sound_of zero_of sound_at records_sound sound_state gate_of gate_at
    alive_after starts_of reach_of run_of tick_of ticked_to tick_event better chosen_of rank_of score_of score_at chosen_in denied_of arrive_of arrival_of
    head_of
    walk_at is_on rows_in counts row_for row_found row_decision lookup_of walked_of judged_of judged_answer walk_on walk_of
lets_go = (refl, refl)

-- of the table and the states before
before-tick : ((record_at (watching 1 false) 0).close_wanted ≡ false) × ((record_at last_tick 1).close_wanted ≡ false)
    × (wildcard (config_of limited_exact 1).remote ≡ false) × ((config_of image 0).alive ≡ 2)
unfolding image be bad_from every fold_from rows_of body_bytes start_of end_of row_at part_of body_of row_in group_row connection_row route_row
    destination_row group_good
    connection_good route_good destination_good size_in group_tcp tcp_in routes_share destinations_share share clear_in good_in head_good entry_good rule
    then_check entries_place head_place all_rows_place check_table config_of fresh_state sound_of zero_of sound_at records_sound sound_state gate_of gate_at
    alive_after starts_of reach_of run_of tick_of ticked_to tick_event better chosen_of rank_of score_of score_at chosen_in denied_of arrive_of arrival_of
    head_of
    walk_at is_on rows_in counts row_for row_found row_decision lookup_of walked_of judged_of judged_answer walk_on walk_of
before-tick = (refl, refl, refl, refl)

-- a stopped alive timer stays so at a datagram, and the mark stays; a step of a walk leaves a running one
hears : ((datagram_of (lends (watching 0 true)) 0 exact).answer ≡ Ok 0) × ((record_at (datagram_of (lends (watching 0 true)) 0 exact).state 0).watch.alive ≡ 0)
    × ((record_at (datagram_of (lends (watching 0 true)) 0 exact).state 0).watch.remote_set ≡ true)
    × ((record_at (walk_of (lends (watching 1 false)) 0 [] 0).state 0).watch.alive ≡ 1)
unfolding image be bad_from every fold_from rows_of body_bytes start_of end_of row_at part_of body_of row_in group_row connection_row route_row
    destination_row group_good
    connection_good route_good destination_good size_in group_tcp tcp_in routes_share destinations_share share clear_in good_in head_good entry_good rule
    then_check entries_place head_place all_rows_place check_table config_of fresh_state sound_of zero_of sound_at records_sound sound_state gate_of gate_at
    alive_after starts_of reach_of run_of tick_of ticked_to tick_event better chosen_of rank_of score_of score_at chosen_in denied_of arrive_of arrival_of
    head_of
    walk_at is_on rows_in counts row_for row_found row_decision lookup_of walked_of judged_of judged_answer walk_on walk_of
hears = (refl, refl, refl, refl)

pub no_kept_bytes : (f : Ticking) → IsTicking f → KeepsBytes f → ⊥
unfolding fresh_state
no_kept_bytes f is kept =
    let l = lends (watching 1 false) in
    let z : ◌≡◌ {A = ℕ} 0 10 = sym lets_go.0 ∙ ap (λ (t : Ticked). (record_at t.state 0).used) (sym (is l)) ∙ kept l 0 before-tick.0 in
    omega arith

pub no_up_again : (f : Ticking) → IsTicking f → StaysUp f → ⊥
unfolding fresh_state
no_up_again f is up =
    let l = lent limited_exact last_tick 23424 23552 in
    true≢false (sym (up l 1 before-tick.1 before-tick.2 refl) ∙ ap (λ (t : Ticked). is_online (record_at t.state 1).mode) (is l) ∙ lets_go.1)

module _ (f : Hearing) (is : IsHearing f) where
  abbrev told : Arrived
  told = f (lends (watching 0 true)) 0 exact

  right : told ≡ datagram_of (lends (watching 0 true)) 0 exact
  right = is (lends (watching 0 true)) 0 exact

  its : told.answer ≡ Ok 0
  its = ap (λ (a : Arrived). a.answer) right ∙ hears.0

  pub no_any_start : AnyStarts f → ⊥
  no_any_start starts =
      let z : ◌≡◌ {A = ℕ} 0 2 =
      sym hears.1 ∙ ap (λ (a : Arrived). (record_at a.state 0).watch.alive) (sym right)
      ∙ starts (lends (watching 0 true)) 0 exact 0 its ∙ before-tick.3 in
      omega arith

  pub no_cleared_mark : ClearsMark f → ⊥
  no_cleared_mark clears =
      true≢false (sym hears.2 ∙ ap (λ (a : Arrived). (record_at a.state 0).watch.remote_set) (sym right)
      ∙ clears (lends (watching 0 true)) 0 exact 0 its)

pub no_walk_start : (f : Walking) → IsWalking f → WalkStarts f → ⊥
unfolding fresh_state
no_walk_start f is starts =
    let l = lends (watching 1 false) in
    let z : ◌≡◌ {A = ℕ} 1 2 =
    sym hears.3 ∙ ap (λ (w : DatagramWalked). (record_at w.state 0).watch.alive) (sym (is l 0 [] 0)) ∙ starts l 0 [] 0 (omega arith) ∙ before-tick.3 in
    omega arith
