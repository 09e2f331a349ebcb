-- THE EXAMPLES HOLD, by computation over the whole table; 11 and 12 any event can be answered. So each number that is listed for an event is
-- reached by one of its kind.
use Prim.Native.Nat.{ℕ, zero, suc}
use mathlib.Core.Path.{◌≡◌, refl, sym, subst}
use mathlib.Core.Bool.{Bool, true, false, ◌||◌}
use mathlib.Core.List.{List, [], ◌∷◌}
use lib.Dec.{eqb}
use lib.ListN.{get_or}
use borrow.Author.Tests.{eqb-true}
use Rattle.wire.specs.Be.{be}
use Rattle.lists.specs.Search.{bad_from, every}
use Rattle.lists.specs.Fold.{fold_from}
use Rattle.lists.proofs.Both.{impossible, and_left, and_right}
use Rattle.table_layout.specs.Layout.{rows_of, body_bytes, start_of, end_of, row_at, part_of, body_of, row_in}
use Rattle.table_rows.specs.Rows.{group_row, connection_row, route_row, destination_row}
use Rattle.table_rows.specs.Rules.{group_good, connection_good, route_good, destination_good, size_in, group_tcp, tcp_in, routes_share, destinations_share}
use Rattle.table_scan.specs.Scan.{share, clear_in, good_in}
use Rattle.table.specs.Table.{head_good, entry_good, rule, then_check, entries_place, head_place, all_rows_place, check_table}
use Rattle.connection.specs.declared.Refusal.TheVariants.{Memory, Unsound}
use Rattle.connection.specs.declared.Event.TheVariants.{Open, Close, Connected, Lost, SetRemote, Switch, Cancel}
use Rattle.connection.specs.Event.{step_of}
use Rattle.connection.specs.Sound.{sound_of, zero_of}
use Rattle.state.specs.Fresh.{config_of, fresh_state}
use Rattle.switches.specs.Switches.{is_on}
use Rattle.gate.specs.Sound.{sound_at, records_sound, sound_state}
use Rattle.gate.specs.Gate.{gate_of, gate_at}
use Rattle.entry_events.specs.Change.{told_of, change_of, event_of}
use Rattle.entry_events.specs.Module.{switch_all_of}
use Rattle.entry_events.specs.Count.{of_protocol, read_past, clear_past, read_of, clear_of}
use Rattle.entry_ticks.specs.Tick.{tick_event}
use Rattle.select.specs.Best.{better, chosen_of}
use Rattle.select.specs.Choose.{rank_of, score_of, score_at, chosen_in, denied_of, arrive_of}
use Rattle.entry_arrivals.specs.Arrivals.{arrival_of}
use Rattle.entry_receive.specs.Answer.{judged_of, judged_answer}
use Rattle.entry_receive.specs.Segment.{take_on, segment_of}
use Rattle.entry_receive.specs.Walk.{walk_on, walk_of}
use Rattle.send_destination.specs.Destination.{refusal_of, look_of}
use Rattle.send.specs.Verdict.{verdict_of}
use Rattle.send.specs.Send.{look_at, check_of}
use Rattle.send_waiting.specs.Waiting.{taking_of}
use Rattle.entry_send.specs.Sending.{send_of, taken_waiting}
use Rattle.example_edges.specs.Table.{image, fresh, receive_memory, send_memory}
use Rattle.model.specs.Events.{change, segment, walk, take_waiting, datagram, accept, tick, transmit, switch_all, read_count, clear_count, Event, on, on_whole}
use Rattle.model_refines.specs.Machine.{Machine, machine}
use Rattle.theorems.specs.Numbers.{numbers_for, among}
use Rattle.theorems.proofs.Refused.{event-refused}
use Rattle.example_numbers.specs.Reached.{kind_of, Reached, Example, example, examples, example_holds, examples_hold}

examples-hold : examples_hold examples ≡ true
unfolding image be bad_from every fold_from rows_of body_bytes start_of end_of row_at part_of body_of row_in group_row connection_row route_row
    destination_row group_good
    connection_good route_good destination_good size_in group_tcp tcp_in routes_share destinations_share share clear_in good_in head_good entry_good rule
    then_check entries_place head_place all_rows_place check_table step_of sound_of zero_of config_of fresh_state is_on sound_at records_sound sound_state
    gate_of
    gate_at told_of change_of event_of switch_all_of of_protocol read_past read_of clear_past clear_of tick_event better chosen_of rank_of score_of score_at
    chosen_in
    denied_of arrive_of arrival_of judged_of judged_answer take_on segment_of walk_on walk_of refusal_of look_of verdict_of look_at check_of taking_of send_of
    taken_waiting
examples-hold = refl

-- a table that holds: each of its rows does; past the last one stands the first
abbrev first : Example
first = example fresh (on_whole tick) 0

abbrev row : ℕ → Example
row i = get_or examples i first

each_row : (xs : List Example) → examples_hold xs ≡ true → example_holds first ≡ true → (i : ℕ) → example_holds (get_or xs i first) ≡ true
each_row [] h d i = d
each_row (x ∷ xs) h d zero = and_left (example_holds x) (examples_hold xs) h
each_row (x ∷ xs) h d (suc i) = each_row xs (and_right (example_holds x) (examples_hold xs) h) d i

-- what row i shows
at : (i : ℕ) → Reached (kind_of (row i).event) (row i).number
at i =
    record {
      image = (row i).table;
      machine = machine (row i).state receive_memory send_memory;
      event = (row i).event;
      of-kind = refl;
      answered = eqb-true _ _ (each_row examples examples-hold (and_left (example_holds first) _ examples-hold) i);
    }

-- 11: no memory is lent
eleven : (e : Event) → Reached (kind_of e) 11
unfolding gate_of
eleven e =
    let m : Machine = machine fresh [] [] in
    record { image = image; machine = m; event = e; of-kind = refl; answered = event-refused image m Memory refl e }

-- 12: no table
twelve : (e : Event) → Reached (kind_of e) 12
unfolding head_good entry_good rule then_check entries_place head_place all_rows_place check_table sound_state gate_of
twelve e =
    let m : Machine = machine fresh receive_memory send_memory in
    record { image = []; machine = m; event = e; of-kind = refl; answered = event-refused [] m Unsound refl e }

-- a law of each of some numbers
abbrev Each : (ℕ → Type 0) → List ℕ → Type 0
Each P [] = Unit {0}
Each P (x ∷ xs) = P x × Each P xs

pick : (P : ℕ → Type 0) (n : ℕ) (xs : List ℕ) → Each P xs → among n xs ≡ true → P n
unfolding among
pick P n [] ps h = impossible h
pick P n (x ∷ xs) ps h = go (eqb n x) refl h (pick P n xs ps.1)
  where
    go : (b : Bool) → eqb n x ≡ b → (b || among n xs) ≡ true → (among n xs ≡ true → P n) → P n
    go true e p rest = subst P (sym (eqb-true n x e)) ps.0
    go false e p rest = rest p

-- EVERY KIND OF EVENT
all-reached : (e : Event) → Each (Reached (kind_of e)) (numbers_for e)
unfolding kind_of numbers_for
all-reached (on_whole tick) = (eleven (on_whole tick), (twelve (on_whole tick), (at 0, tt)))
all-reached (on k (change Open)) = let e : Event = on k (change Open) in (eleven e, (twelve e, (at 1, (at 2, (at 3, tt)))))
all-reached (on k (change Close)) = let e : Event = on k (change Close) in (eleven e, (twelve e, (at 4, (at 5, (at 6, tt)))))
all-reached (on k (change Connected)) = let e : Event = on k (change Connected) in (eleven e, (twelve e, (at 7, (at 8, (at 9, tt)))))
all-reached (on k (change Lost)) = let e : Event = on k (change Lost) in (eleven e, (twelve e, (at 10, (at 11, (at 12, tt)))))
all-reached (on k (change (SetRemote r))) = let e : Event = on k (change (SetRemote r)) in (eleven e, (twelve e, (at 13, (at 14, (at 15, tt)))))
all-reached (on k (change (Switch n b))) = let e : Event = on k (change (Switch n b)) in (eleven e, (twelve e, (at 16, (at 17, tt))))
all-reached (on k (segment bytes)) = let e : Event = on k (segment bytes) in (eleven e, (twelve e, (at 18, (at 19, (at 20, (at 21, tt))))))
all-reached (on k (walk d p)) = let e : Event = on k (walk d p) in (eleven e, (twelve e, (at 22, (at 23, (at 24, (at 25, tt))))))
all-reached (on k (take_waiting room)) = let e : Event = on k (take_waiting room) in (eleven e, (twelve e, (at 26, (at 27, (at 28, tt)))))
all-reached (on_whole (datagram g s)) = let e : Event = on_whole (datagram g s) in (eleven e, (twelve e, (at 29, (at 30, (at 31, (at 32, tt))))))
all-reached (on_whole (accept g s)) = let e : Event = on_whole (accept g s) in (eleven e, (twelve e, (at 33, (at 34, (at 35, (at 36, tt))))))
all-reached (on_whole (transmit p b)) =
    let e : Event = on_whole (transmit p b) in (eleven e, (twelve e, (at 37, (at 38, (at 39, (at 40, (at 41, (at 42, tt))))))))
all-reached (on_whole (switch_all n b)) = let e : Event = on_whole (switch_all n b) in (eleven e, (twelve e, (at 43, (at 44, tt))))
all-reached (on_whole (read_count p)) = let e : Event = on_whole (read_count p) in (eleven e, (twelve e, (at 45, (at 46, tt))))
all-reached (on_whole (clear_count p)) = let e : Event = on_whole (clear_count p) in (eleven e, (twelve e, (at 47, (at 48, tt))))
all-reached (on k (change Cancel)) = let e : Event = on k (change Cancel) in (eleven e, (twelve e, (at 49, (at 50, (at 51, tt)))))

pub reached : (e : Event) (n : ℕ) → among n (numbers_for e) ≡ true → Reached (kind_of e) n
reached e n h = pick (Reached (kind_of e)) n (numbers_for e) (all-reached e) h
