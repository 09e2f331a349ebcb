-- THE STARRED EDGES THROUGH THE ENTRY POINTS hold.
use Prim.Native.Nat.{ℕ, zero, suc, ◌<◌}
use mathlib.Core.Path.{◌≡◌, refl, sym, ap, ◌∙◌, subst}
use mathlib.Core.Bool.{Bool, true, false, ◌&&◌}
use mathlib.Core.List.{List, [], ◌∷◌, ◌++◌, append-nil}
use native.Mathlib.Omega.{arith}
use lib.Dec.{ltb}
use lib.ListN.{length, take, drop}
use borrow.Author.Tests.{ltb-true}
use Rattle.lists.specs.Search.{bad_from, every}
use Rattle.lists.proofs.Both.{and_left, and_right}
use Rattle.wire.specs.Be.{be}
use Rattle.table_layout.specs.Layout.{rows_of, body_bytes, start_of, end_of, row_at, part_of, body_of, row_in}
use Rattle.table_layout.specs.declared.Kind.TheVariants.{Connection as Connections}
use Rattle.table_rows.specs.Rows.{group_row, connection_row, route_row, destination_row}
use Rattle.table_rows.specs.Rules.{group_good, connection_good, route_good, destination_good, size_in, group_tcp, tcp_in, routes_share, destinations_share}
use Rattle.table_scan.specs.Scan.{share, clear_in, good_in}
use Rattle.table.specs.Table.{head_good, entry_good, rule, then_check, entries_place, head_place, all_rows_place, check_table}
use Rattle.connection.specs.Sound.{sound_of, zero_of}
use Rattle.connection.specs.Event.{receiving}
use Rattle.state.specs.declared.State.{State}
use Rattle.state.specs.State.{record_at}
use Rattle.state.specs.Fresh.{config_of, fresh_state}
use Rattle.gate.specs.Sound.{sound_at, records_sound, sound_state}
use Rattle.gate.proofs.Pass.{sound-passed, passed_gate}
use Rattle.switches.specs.Switches.{is_on}
use Rattle.select.specs.Choose.{arrive_of}
use Rattle.entry_arrivals.specs.Arrivals.{arrival_of}
use Rattle.frame.specs.Frame.{Sent, frame, frames}
use Rattle.send_destination.specs.Destination.{refusal_of, look_of}
use Rattle.send.specs.Verdict.{verdict_of, transmission_number}
use Rattle.send.specs.Send.{look_at, check_of, wanted_at}
use Rattle.entry_send.specs.Sending.{send_of}
use Rattle.law_waits.specs.Waits.{waits}
use Rattle.reading.specs.Feed.{piece_done, feed, take_b, takes, ready, segment_ran, fine}
use Rattle.reading_lengths.specs.Listed.{Bytes}
use Rattle.reading_walk.specs.Walk.{walk_at, outs_told}
use Rattle.model.specs.World.{cell_at, held_of}
use Rattle.model.proofs.View.{view_at}
use Rattle.model_refines.specs.Machine.{lent_to}
use Rattle.model.specs.Events.{segment, walk, transmit, on, on_whole}
use Rattle.model_runs.specs.Same.{cut}
use Rattle.model_refines.specs.Run.{given, given_in, after_event, Good}
use Rattle.theorems.specs.Trip.{Reader, Walker}
use Rattle.receive_route.specs.Route.{rows_in, counts, row_for, row_found, row_decision, lookup_of}
use Rattle.theorems.specs.Waits.{sent_from, sent_to}
use Rattle.theorems.proofs.Runs.{same-given}
use Rattle.theorems.proofs.Refusals.{refusal-stays}
use Rattle.theorems.proofs.Waiting.{event-waits}
use Rattle.example_edges.specs.Table.{image, fresh, waiting_for, used, exact}
use Rattle.example_edges.specs.Edges.{framed, bar, skip_longest, numbers, arrived_numbers, routes}
use Rattle.example_edges.proofs.Edges.{each-inside}
use Rattle.example_entries.specs.Entries.{tcp_up, udp_up, over, segments_give, walk_gives, datagram_gives, transmit_gives, EntryEdges}
use Rattle.example_entries.proofs.Given.{reader_given, walker_given}

-- the states are sound
sound-tcp : (w : ℕ) → sound_state image (tcp_up w) ≡ true
unfolding image be bad_from every rows_of body_bytes start_of end_of row_at part_of body_of row_in group_row connection_row route_row destination_row group_good
    connection_good route_good destination_good size_in group_tcp tcp_in routes_share destinations_share share clear_in good_in head_good entry_good rule
    then_check entries_place head_place all_rows_place check_table config_of fresh_state sound_of zero_of sound_at records_sound sound_state
sound-tcp w = refl

sound-others : (sound_state image udp_up ≡ true) × (sound_state image waiting_for ≡ true)
    × (sound_state image fresh ≡ true) × (sound_state image (used 1462) ≡ true) × (sound_state image (used 1463) ≡ true)
unfolding image be bad_from every rows_of body_bytes start_of end_of row_at part_of body_of row_in group_row connection_row route_row destination_row group_good
    connection_good route_good destination_good size_in group_tcp tcp_in routes_share destinations_share share clear_in good_in head_good entry_good rule
    then_check entries_place head_place all_rows_place check_table config_of fresh_state sound_of zero_of sound_at records_sound sound_state
sound-others = (refl, refl, refl, refl, refl)

-- bytes that are bytes, by a test
small : List ℕ → Bool
small [] = true
small (b ∷ bs) = ltb b 256 && small bs

small_bytes : (l : List ℕ) → small l ≡ true → Bytes l
unfolding small
small_bytes [] e i = omega arith
small_bytes (b ∷ bs) e zero = ltb-true b 256 (and_left (ltb b 256) (small bs) e)
small_bytes (b ∷ bs) e (suc i) = small_bytes bs (and_right (ltb b 256) (small bs) e) i

three_rows : rows_of image Connections ≡ 3
unfolding image be rows_of
three_rows = refl

protocols : ((config_of image 0).tcp ≡ false) × ((config_of image 2).tcp ≡ true)
unfolding image be rows_of body_bytes start_of part_of body_of row_in group_row connection_row config_of
protocols = (refl, refl)

-- what comes of these segments has no piece of a transfer
abbrev Plain : ℕ → List ℕ → Type 0
Plain w bs = fine (segment_ran (routes 2 w) ready bs).list ≡ (segment_ran (routes 2 w) ready bs).list

no_pieces : Plain 1 bar × Plain 1 (framed 2 2 (0x46 ∷ 0x50 ∷ [])) × Plain 1 (framed 1 0 [])
    × Plain 1 (framed 1 2 (7 ∷ 8 ∷ [])) × Plain 1 (framed 1 3 (7 ∷ 8 ∷ 9 ∷ [])) × Plain 0 (framed 2 1 (5 ∷ [])) × Plain 0 bar × Plain 1 skip_longest
unfolding image be bad_from every rows_of body_bytes start_of part_of body_of row_in route_row piece_done
    feed take_b takes segment_ran is_on rows_in counts row_for row_found row_decision lookup_of fine
no_pieces = (refl, refl, refl, refl, refl, refl, refl, refl)

module _ (rx tx : List ℕ) (long : length rx ≡ 23424) (wide : length tx ≡ 23552) where
  good : (s : State) → sound_state image s ≡ true → length s.connections ≡ 16 → Good image (over rx tx s)
  good s e n = record { passed = sound-passed (lent_to image (over rx tx s)) long wide e; sixteen = n }

  -- who reads
  tcp_good : (w : ℕ) → Good image (over rx tx (tcp_up w))
  unfolding fresh_state
  tcp_good w = good (tcp_up w) (sound-tcp w) refl

  tcp-ready : (w : ℕ) → cell_at (held_of rx tx 2 (record_at (tcp_up w) 2)) ≡ ready
  unfolding fresh_state
  tcp-ready w = refl

  tcp-up : (w : ℕ) → receiving (record_at (tcp_up w) 2) ≡ true
  unfolding fresh_state
  tcp-up w = refl

  reader : (w : ℕ) → Reader image (over rx tx (tcp_up w)) 2
  reader w =
      record {
        there = subst (λ (n : ℕ). 2 < n) (sym three_rows) (omega arith);
        tcp = protocols.1;
        receives = tcp-up w;
        at_header = ap cell_at (view_at (tcp_up w) rx tx 2) ∙ tcp-ready w;
      }

  udp-up : receiving (record_at udp_up 0) ≡ true
  unfolding fresh_state
  udp-up = refl

  udp_good : Good image (over rx tx udp_up)
  unfolding fresh_state
  udp_good = good udp_up sound-others.0 refl

  walker : Walker image (over rx tx udp_up) 0
  walker = record { there = subst (λ (n : ℕ). 0 < n) (sym three_rows) (omega arith); udp = protocols.0; receives = udp-up }

  -- WHAT ONE SEGMENT GIVES
  one-segment : (w : ℕ) (bs : List ℕ) → small bs ≡ true
      → segments_give rx tx w (on 2 (segment bs) ∷ []) ≡ numbers (fine (segment_ran (routes 2 w) ready bs).list)
  unfolding given_in fresh_state
  one-segment w bs e =
      ap numbers (ap fine (append-nil (given image 2 (on 2 (segment bs)) (over rx tx (tcp_up w))))
      ∙ reader_given image (over rx tx (tcp_up w)) (tcp_good w) 2 (reader w) bs (small_bytes bs e))

  -- cut in two, the same
  two_segments : (w : ℕ) (x y : List ℕ) → small (x ++ y) ≡ true
      → segments_give rx tx w (on 2 (segment x) ∷ on 2 (segment y) ∷ []) ≡ segments_give rx tx w (on 2 (segment (x ++ y)) ∷ [])
  two_segments w x y e =
      ap numbers (sym (same-given image (over rx tx (tcp_up w)) (tcp_good w) (cut 2 x y []) (small_bytes (x ++ y) e, tt) 2))

  one-walk : (d : List ℕ) → walk_gives rx tx d ≡ numbers (outs_told d (walk_at (routes 0 0) d 0).found [])
  unfolding given_in fresh_state image be rows_of body_bytes start_of part_of body_of row_in group_row connection_row config_of
  one-walk d =
      ap numbers (ap fine (append-nil (given image 0 (on 0 (walk d 0)) (over rx tx udp_up)))
      ∙ walker_given image (over rx tx udp_up) udp_good 0 walker d 0 (omega arith))

  -- WHAT A DATAGRAM AND A TRANSMIT ARE ANSWERED, past the gate
  datagram-past : (s : State) → Good image (over rx tx s) → datagram_gives rx tx s ≡ arrived_numbers (arrive_of image s false 0 exact).answer
  unfolding arrival_of
  datagram-past s g = rw (passed_gate (lent_to image (over rx tx s)) g.passed)

  transmit-past : (s : State) → Good image (over rx tx s) → (payload : List ℕ)
      → transmit_gives rx tx s payload ≡ transmission_number (check_of image s 9 (length payload)) ∷ []
  unfolding send_of
  transmit-past s g payload = rw (passed_gate (lent_to image (over rx tx s)) g.passed)

  -- of which sound states
  waiting_good : Good image (over rx tx waiting_for)
  unfolding fresh_state
  waiting_good = good waiting_for sound-others.1 refl

  fresh_good : Good image (over rx tx fresh)
  unfolding fresh_state
  fresh_good = good fresh sound-others.2 refl

  roomy_good : Good image (over rx tx (used 1462))
  unfolding fresh_state
  roomy_good = good (used 1462) sound-others.3 refl

  full_good : Good image (over rx tx (used 1463))
  unfolding fresh_state
  full_good = good (used 1463) sound-others.4 refl

  -- what is stored
  stored : sent_to image (used 1462) 9 (0 ∷ 180 ∷ []) 2 ≡ record { id = 0x202; body = 0 ∷ 180 ∷ [] } ∷ []
  unfolding image be rows_of body_bytes start_of part_of body_of row_in group_row connection_row destination_row
      config_of fresh_state is_on bad_from every refusal_of look_of verdict_of look_at check_of wanted_at sent_from sent_to
  stored = refl

  waits-then : waits (after_event image (on_whole (transmit 9 (0 ∷ 180 ∷ []))) (over rx tx (used 1462))).state
      (after_event image (on_whole (transmit 9 (0 ∷ 180 ∷ []))) (over rx tx (used 1462))).tx 2
      ≡ waits (used 1462) tx 2 ++ frame 0x202 (0 ∷ 180 ∷ [])
  unfolding frames
  waits-then =
      event-waits image 2 (over rx tx (used 1462)) roomy_good (on_whole (transmit 9 (0 ∷ 180 ∷ []))) tt
      ∙ ap (λ (ss : List Sent). waits (used 1462) tx 2 ++ frames ss) stored
      ∙ ap (λ (l : List ℕ). waits (used 1462) tx 2 ++ l) (append-nil (frame 0x202 (0 ∷ 180 ∷ [])))

  eight : transmit_gives rx tx (used 1463) (0 ∷ 180 ∷ []) ≡ 8 ∷ []
  eight = transmit-past (used 1463) full_good (0 ∷ 180 ∷ []) ∙ each-inside 11

  first : List ℕ → ℕ
  first [] = 0
  first (n ∷ ns) = n

  -- THE ONE STATEMENT
  pub entry-edges : EntryEdges rx tx
  unfolding small first
  entry-edges =
      record {
        rows = (
          one-segment 1 bar refl ∙ ap numbers no_pieces.0 ∙ each-inside 1,
          (
            two_segments 1 (take 3 bar) (drop 3 bar) refl ∙ one-segment 1 bar refl ∙ ap numbers no_pieces.0 ∙ each-inside 1,
            (
              two_segments 1 (take 8 bar) (drop 8 bar) refl ∙ one-segment 1 bar refl ∙ ap numbers no_pieces.0 ∙ each-inside 1,
              (
                one-segment 1 (framed 2 2 (0x46 ∷ 0x50 ∷ [])) refl ∙ ap numbers no_pieces.1 ∙ each-inside 2,
                (
                  one-segment 1 (framed 1 0 []) refl ∙ ap numbers no_pieces.2 ∙ each-inside 3,
                  (
                    one-segment 1 (framed 1 2 (7 ∷ 8 ∷ [])) refl ∙ ap numbers no_pieces.3 ∙ each-inside 4,
                    (
                      one-segment 1 (framed 1 3 (7 ∷ 8 ∷ 9 ∷ [])) refl ∙ ap numbers no_pieces.4 ∙ each-inside 5,
                      (
                        one-segment 0 (framed 2 1 (5 ∷ [])) refl ∙ ap numbers no_pieces.5 ∙ each-inside 6,
                        (
                          one-segment 0 bar refl ∙ ap numbers no_pieces.6 ∙ each-inside 7,
                          (
                            datagram-past waiting_for waiting_good ∙ each-inside 8,
                            (
                              datagram-past fresh fresh_good ∙ each-inside 9,
                              (
                                transmit-past (used 1462) roomy_good (0 ∷ 180 ∷ []) ∙ each-inside 10,
                                (
                                  eight,
                                  (
                                    one-walk (take 7 bar) ∙ each-inside 12,
                                    (one-walk bar ∙ each-inside 13, (one-segment 1 skip_longest refl ∙ ap numbers no_pieces.7 ∙ each-inside 14, tt)),
                                  ),
                                ),
                              ),
                            ),
                          ),
                        ),
                      ),
                    ),
                  ),
                ),
              ),
            ),
          ),
        );
        then_wait = waits-then;
        full_stays = refusal-stays image (over rx tx (used 1463)) (on_whole (transmit 9 (0 ∷ 180 ∷ []))) (λ z. omega (arith, z, ap first eight));
      }
