-- THE STARRED EDGES (R12.1 to R12.7) THROUGH THE ENTRY POINTS, as one table: from sound states over the edges' image, lent any memory of the right lengths.
use Rattle.std.specs.Prelude.{ℕ, ◌≡◌, List, [], ◌∷◌, ◌++◌, take, drop}
use Rattle.connection.specs.declared.Mode.TheVariants.{Online}
use Rattle.connection.specs.Connection.{become, with_remote, with_switches}
use Rattle.state.specs.declared.State.{State}
use Rattle.state.specs.State.{record_at, with_record}
use Rattle.frame.specs.Frame.{frame}
use Rattle.reading.specs.Feed.{fine}
use Rattle.send.specs.Verdict.{transmission_number}
use Rattle.entry_send.specs.Sending.{send_of}
use Rattle.entry_arrivals.specs.Arrivals.{datagram_of}
use Rattle.law_waits.specs.Waits.{waits}
use Rattle.example_edges.specs.Table.{image, fresh, waiting_for, used, exact}
use Rattle.example_edges.specs.Edges.{Edge, edge, numbers, arrived_numbers, framed, bar, skip_longest}
use Rattle.model.specs.Events.{segment, walk, transmit, Event, on, on_whole}
use Rattle.model_refines.specs.Machine.{Machine, machine, lent_to, loan_to}
use Rattle.model_refines.specs.Run.{after_event, given_in}

-- the TCP connection online and ready, with these switches; the first UDP connection online
abbrev pub tcp_up : ℕ → State
tcp_up w = with_record 2 (with_switches w (become Online (record_at fresh 2))) fresh

abbrev pub udp_up : State
udp_up = with_record 0 (become Online (with_remote exact (record_at fresh 0))) fresh

-- each row is what it says
abbrev pub AllAsSaid : List Edge → Type 0
AllAsSaid [] = Unit {0}
AllAsSaid (e ∷ es) = (e.is ≡ e.says) × AllAsSaid es

module _ (rx tx : List ℕ) where
  -- a machine in such a state
  abbrev pub over : State → Machine
  over s = machine s rx tx

  -- what the TCP connection gives at segments (a piece of a transfer by its single bytes), and the UDP connection at a walk from the start
  abbrev pub segments_give : ℕ → List Event → List ℕ
  segments_give w es = numbers (fine (given_in image 2 (over (tcp_up w)) es))

  abbrev pub walk_gives : List ℕ → List ℕ
  walk_gives d = numbers (fine (given_in image 0 (over udp_up) (on 0 (walk d 0) ∷ [])))

  -- a datagram for group 0 from the exact source; a transmit of two bytes
  abbrev pub datagram_gives : State → List ℕ
  datagram_gives s = arrived_numbers (datagram_of (lent_to image (over s)) 0 exact).answer

  abbrev pub transmit_gives : State → List ℕ → List ℕ
  transmit_gives s payload = transmission_number (send_of (loan_to image (over s)) 9 payload).answer ∷ []

  abbrev pub entry_edges : List Edge
  entry_edges =
      -- R12.2: PDU 0x101, payload 180; cut after byte 3, and after byte 8; `46 50` is 18,000
      edge (segments_give 1 (on 2 (segment bar) ∷ [])) (0 ∷ 0 ∷ 0x101 ∷ 180 ∷ 2 ∷ [])
      ∷ edge (segments_give 1 (on 2 (segment (take 3 bar)) ∷ on 2 (segment (drop 3 bar)) ∷ [])) (0 ∷ 0 ∷ 0x101 ∷ 180 ∷ 2 ∷ [])
      ∷ edge (segments_give 1 (on 2 (segment (take 8 bar)) ∷ on 2 (segment (drop 8 bar)) ∷ [])) (0 ∷ 0 ∷ 0x101 ∷ 180 ∷ 2 ∷ [])
      ∷ edge (segments_give 1 (on 2 (segment (framed 2 2 (0x46 ∷ 0x50 ∷ []))) ∷ [])) (0 ∷ 1 ∷ 0x102 ∷ 18000 ∷ 2 ∷ [])
      -- R12.3: length 0; longest 2 against length 2 and 3
      ∷ edge (segments_give 1 (on 2 (segment (framed 1 0 [])) ∷ [])) (0 ∷ 0 ∷ 0x101 ∷ 0 ∷ 0 ∷ [])
      ∷ edge (segments_give 1 (on 2 (segment (framed 1 2 (7 ∷ 8 ∷ []))) ∷ [])) (0 ∷ 0 ∷ 0x101 ∷ 1800 ∷ 2 ∷ [])
      ∷ edge (segments_give 1 (on 2 (segment (framed 1 3 (7 ∷ 8 ∷ 9 ∷ []))) ∷ [])) (22 ∷ 0x101 ∷ 3 ∷ [])
      -- R12.4: groups 0 with all switches off is on; and 21
      ∷ edge (segments_give 0 (on 2 (segment (framed 2 1 (5 ∷ []))) ∷ [])) (0 ∷ 1 ∷ 0x102 ∷ 5 ∷ 1 ∷ [])
      ∷ edge (segments_give 0 (on 2 (segment bar) ∷ [])) (21 ∷ 0x101 ∷ 2 ∷ [])
      -- R12.5: the exact row; no member: 10
      ∷ edge (datagram_gives waiting_for) (0 ∷ 1 ∷ [])
      ∷ edge (datagram_gives fresh) (10 ∷ [])
      -- R12.6: used 1,462 + 8 + 2 = 1,472 fits; 1,463 gives 8
      ∷ edge (transmit_gives (used 1462) (0 ∷ 180 ∷ [])) (0 ∷ [])
      ∷ edge (transmit_gives (used 1463) (0 ∷ 180 ∷ [])) (8 ∷ [])
      -- R12.7: a datagram of 7 bytes is 23; and the whole one
      ∷ edge (walk_gives (take 7 bar)) (23 ∷ 0 ∷ 0 ∷ [])
      ∷ edge (walk_gives bar) (0 ∷ 2 ∷ 0x101 ∷ 180 ∷ 2 ∷ [])
      -- R12.8: a length of 4,294,967,295, dropped
      ∷ edge (segments_give 1 (on 2 (segment skip_longest) ∷ [])) (20 ∷ 0x103 ∷ 4294967295 ∷ [])
      ∷ []

  -- THE ONE STATEMENT: the table, and which bytes wait after 1,462 + 8 + 2; after 1,463 all is as it was
  pub record EntryEdges : Type 0 where
    pub rows : AllAsSaid entry_edges
    pub then_wait :
        waits (after_event image (on_whole (transmit 9 (0 ∷ 180 ∷ []))) (over (used 1462))).state
        (after_event image (on_whole (transmit 9 (0 ∷ 180 ∷ []))) (over (used 1462))).tx 2
        ≡ waits (used 1462) tx 2 ++ frame 0x202 (0 ∷ 180 ∷ [])
    pub full_stays : after_event image (on_whole (transmit 9 (0 ∷ 180 ∷ []))) (over (used 1463)) ≡ over (used 1463)
