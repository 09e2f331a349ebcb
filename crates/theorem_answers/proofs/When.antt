-- WHEN EACH NUMBER IS GIVEN: from any table, state and memory the number of an event is that of its first check that fails.
use Rattle.std.proofs.Common.{Ok, Err, Result, Option, ℕ, Some, None}
use Prim.Native.Nat.{ℕ, zero, suc, ◌+◌, ◌<◌}
use mathlib.Core.Path.{◌≡◌, refl, sym, ◌∙◌}
use mathlib.Core.Bool.{Bool, true, false, cond, not, ◌&&◌, ◌||◌}
use mathlib.Core.List.{List, [], ◌∷◌}
use native.Mathlib.Omega.{arith}
use lib.Dec.{eqb, leb, ltb}
use lib.ListN.{length, replicate, length-replicate}
use borrow.Author.Tests.{ltb-true, ltb-false, leb-true, leb-false, lt-ltb, le-ltb, le-leb, lt-leb}
use Rattle.lists.specs.Search.{bad_from, first_bad, every}
use Rattle.lists.proofs.Both.{impossible}
use Rattle.lists.proofs.Search.{every-all, pass_failed}
use Rattle.table_layout.specs.Layout.{rows_of}
use Rattle.table_layout.specs.declared.Kind.TheVariants.{Connection as Connections, Group}
use Rattle.table_rows.specs.declared.DestinationRow.{DestinationRow}
use Rattle.table_rows.specs.Rows.{destination_of}
use Rattle.connection.specs.declared.Connection.{Connection}
use Rattle.connection.specs.declared.Remote.{Remote}
use Rattle.connection.specs.declared.Refusal.{Refusal}
use Rattle.connection.specs.declared.Refusal.TheVariants.{Memory, Unsound, Missing, Denied}
use Rattle.connection.specs.declared.Stepped.{Stepped}
use Rattle.connection.specs.declared.Event.{Event as Change}
use Rattle.connection.specs.Connection.{is_online}
use Rattle.connection.specs.Event.{refusal_number, answer_number, known, allowed, record_after, refused_by as not_stepped, step_of}
use Rattle.state.specs.declared.State.{State}
use Rattle.gate.specs.Gate.{gate_of, gate_at, then_there, through}
use Rattle.gate.specs.Sound.{sound_state}
use Rattle.entry_events.specs.declared.Told.{Told}
use Rattle.entry_events.specs.declared.Counted.{Counted}
use Rattle.entry_events.specs.Change.{refused_told, told_of, change_of, event_of}
use Rattle.entry_events.specs.Module.{switched_all, switch_all_of}
use Rattle.entry_events.specs.Count.{count_number, of_protocol, read_from, clear_from, uncounted, read_past, clear_past, read_of, clear_of}
use Rattle.entry_ticks.specs.declared.Ticked.{Ticked}
use Rattle.entry_ticks.specs.Tick.{ticked_to, unticked, ticked_from, tick_event}
use Rattle.select.specs.declared.Arrived.{Arrived}
use Rattle.select.specs.Best.{IsChosen}
use Rattle.select.specs.Choose.{arrival_number, meet, arrival_refused as not_met, denied_of, score_of, score_at, chosen_in, arrive_of}
use Rattle.select.proofs.Pass.{chosen_is_best}
use Rattle.entry_arrivals.specs.Arrivals.{arrival_of}
use Rattle.entry_receive.specs.declared.NotReceived.TheVariants as Receive
use Rattle.entry_receive.specs.Answer.{receive_number, is_done, judged_of, judged_answer}
use Rattle.entry_receive.specs.Segment.{take_on, none_taken, segment_of, segment_answer}
use Rattle.entry_receive.specs.Walk.{walk_on, none_walked, walk_answer, walk_allowed, walk_of}
use Rattle.send_destination.specs.Destination.{refusal_of, look_of}
use Rattle.send.specs.declared.NotSent.TheVariants as Sent
use Rattle.send.specs.declared.Transmitted.{Transmitted}
use Rattle.send.specs.Verdict.{is_out, passes, decided_at, verdict_of, transmission_number}
use Rattle.send.specs.Send.{destinations, look_at, check_of, transmitted_of}
use Rattle.entry_send.specs.declared.Taken.{Taken as Drained}
use Rattle.send_waiting.specs.declared.NotTaken.TheVariants as Taken
use Rattle.send_waiting.specs.Waiting.{taking_number, taking_of}
use Rattle.entry_send.specs.Sending.{not_sent, send_of, not_taken, take_past, taken_waiting}
use Rattle.model.specs.Events.{change, segment, walk, take_waiting, datagram, accept, tick, transmit, switch_all, read_count, clear_count, Event, on, on_whole}
use Rattle.model_refines.specs.Machine.{Machine, lent_to, loan_to}
use Rattle.theorems.specs.Numbers.{number_of}
use Rattle.theorem_answers.specs.When.{Check, check, first_failing, row_here, here, first, first_of, no_switch, not_online, no_protocol}
use Rattle.theorem_answers.specs.When.{matching, arrives, has, switched_on, payload_too_long, no_room, asked, asked_from, transmits, checks_for}
use Rattle.entry_receive.specs.declared.NotReceived.{NotReceived}

-- a test and its other side
not_below : (a b : ℕ) → not (ltb a b) ≡ leb b a
not_below a b = go (ltb a b) refl
  where
    go : (t : Bool) → ltb a b ≡ t → not t ≡ leb b a
    go true e = sym (lt-leb b a (ltb-true a b e))
    go false e = sym (le-leb b a (ltb-false a b e))

not_within : (a b : ℕ) → not (leb a b) ≡ ltb b a
not_within a b = go (leb a b) refl
  where
    go : (t : Bool) → leb a b ≡ t → not t ≡ ltb b a
    go true e = sym (le-ltb b a (leb-true a b e))
    go false e = sym (lt-ltb b a (leb-false a b e))

not_both : (a b : Bool) → not (a && b) ≡ (not a || not b)
not_both true b = refl
not_both false b = refl

twice_not : (a : Bool) → not (not a) ≡ a
twice_not true = refl
twice_not false = refl

-- tests that agree at each number agree over all of them
every-same : (f g : ℕ → Bool) (n : ℕ) → ((i : ℕ) → f i ≡ g i) → every f n ≡ every g n
unfolding every
every-same f g zero h = refl
every-same f g (suc n) h = rw (every-same f g n h, h n)

module _ (image : List ℕ) (m : Machine) where
  abbrev s : State
  s = m.state

  abbrev rx : ℕ
  rx = length m.rx

  abbrev tx : ℕ
  tx = length m.tx

  -- THE GATE: 11, 12, then the event's own; of a connection event 11, 12, 2
  module _ {A : Type 0} (number : A → ℕ) (refused : Refusal → A) (event : A) (own : List Check) (by : (r : Refusal) → number (refused r) ≡ refusal_number r)
      (is : number event ≡ first_failing own) where
    gate_first : number (through (gate_of (lent_to image m)) refused event) ≡ first_failing (first image m own)
    unfolding gate_of first_failing
    gate_first = go (not (eqb rx 23424) || not (eqb tx 23552)) (sound_state image s)
      where
        go : (a b : Bool) → number (through (cond a (Err Memory) (cond b (Ok tt) (Err Unsound))) refused event)
            ≡ cond a 11 (cond (not b) 12 (first_failing own))
        go true b = by Memory
        go false true = is
        go false false = by Unsound

    gate_first_of : (k : ℕ) → number (through (gate_at (lent_to image m) k) refused event) ≡ first_failing (first_of image m k own)
    unfolding gate_of gate_at first_failing
    gate_first_of k = go (not (eqb rx 23424) || not (eqb tx 23552)) (sound_state image s)
        (ltb k (rows_of image Connections)) (leb (rows_of image Connections) k) (not_below k (rows_of image Connections))
      where
        go : (a b t f : Bool) → not t ≡ f
            → number (through (then_there t (cond a (Err Memory) (cond b (Ok tt) (Err Unsound)))) refused event)
            ≡ cond a 11 (cond (not b) 12 (cond f 2 (first_failing own)))
        go true b t f e = by Memory
        go false false t f e = by Unsound
        go false true true true e = impossible e
        go false true true false e = is
        go false true false true e = by Missing
        go false true false false e = impossible (sym e)

  -- an event of the record alone: 2 a switch number, 3
  step-number : (k : ℕ) (e : Change)
      → answer_number (change_of image s k e).answer ≡ cond (not (known e)) 2 (cond (not (allowed e (row_here image m k) (here image m k))) 3 0)
  unfolding change_of told_of step_of
  step-number k e = go (known e) (allowed e (row_here image m k) c)
    where
      c : Connection
      c = here image m k

      step : Bool → Bool → Stepped
      step x y = cond (not x) (not_stepped Missing c)
          (cond (not y) (not_stepped Denied c) (record { answer = Ok tt; connection = record_after e (row_here image m k) c }))

      go : (x y : Bool) → answer_number (told_of s k (step x y).answer (step x y).connection).answer ≡ cond (not x) 2 (cond (not y) 3 0)
      go false y = refl
      go true false = refl
      go true true = refl

  change-number : (k : ℕ) (e : Change) (own : List Check) → answer_number (change_of image s k e).answer ≡ first_failing own
      → answer_number (event_of (lent_to image m) k e).answer ≡ first_failing (first_of image m k own)
  unfolding event_of
  change-number k e own is = gate_first_of (λ (t : Told). answer_number t.answer) (refused_told s) (change_of image s k e) own (λ r. refl) is k

  -- a take, a walk: 3, then 4
  judged_number : (k : ℕ) (ok no_way : Bool) → not ok ≡ no_way
      → receive_number (judged_of ok (here image m k)) ≡ first_failing (check no_way 3 ∷ not_online image m k ∷ [])
  unfolding judged_of first_failing
  judged_number k ok no_way e = rw (← e) (go ok (is_online (here image m k).mode) (here image m k).close_wanted)
    where
      go : (a b c : Bool) → receive_number (cond a (cond (b && not c) (Ok tt) (Err Receive.NotReceiving)) (Err (Receive.Refused Denied)))
          ≡ cond (not a) 3 (cond (not b || c) 4 0)
      go false b c = refl
      go true true true = refl
      go true true false = refl
      go true false c = refl

  receive-number : (k : ℕ) (ok no_way : Bool) → not ok ≡ no_way
      → receive_number (judged_answer (lent_to image m) k ok) ≡ first_failing (first_of image m k (check no_way 3 ∷ not_online image m k ∷ []))
  unfolding judged_answer
  receive-number k ok no_way e =
      gate_first_of receive_number (λ x. Err (Receive.Refused x)) (judged_of ok (here image m k))
      (check no_way 3 ∷ not_online image m k ∷ []) (λ r. refl) (judged_number k ok no_way e) k

  -- an answer that is done has the number 0
  done_zero : (a : Result Unit NotReceived) → is_done a ≡ true → 0 ≡ receive_number a
  done_zero (Ok tt) e = refl
  done_zero (Err (Receive.Refused r)) e = impossible e
  done_zero (Err Receive.NotReceiving) e = impossible e

  segment-number : (k : ℕ) (bs : List ℕ) → receive_number (segment_of (loan_to image m) k bs).answer ≡ receive_number (segment_answer (lent_to image m) k)
  unfolding segment_of take_on
  segment-number k bs = go (is_done (segment_answer (lent_to image m) k)) refl
    where
      go : (b : Bool) → is_done (segment_answer (lent_to image m) k) ≡ b
          → receive_number (cond b (take_on image s m.rx k bs) (none_taken s (segment_answer (lent_to image m) k))).answer
          ≡ receive_number (segment_answer (lent_to image m) k)
      go true e = done_zero (segment_answer (lent_to image m) k) e
      go false e = refl

  walk-number : (k : ℕ) (d : List ℕ) (p : ℕ) → receive_number (walk_of (lent_to image m) k d p).answer ≡ receive_number (walk_answer (lent_to image m) k d p)
  unfolding walk_of walk_on
  walk-number k d p = go (is_done (walk_answer (lent_to image m) k d p)) refl
    where
      go : (b : Bool) → is_done (walk_answer (lent_to image m) k d p) ≡ b
          → receive_number (cond b (walk_on image s k d p) (none_walked s p (walk_answer (lent_to image m) k d p))).answer
          ≡ receive_number (walk_answer (lent_to image m) k d p)
      go true e = done_zero (walk_answer (lent_to image m) k d p) e
      go false e = refl

  -- where a walk is not allowed
  walk_denied : (k : ℕ) (d : List ℕ) (p : ℕ) → not (walk_allowed image k d p) ≡ ((row_here image m k).tcp || ltb (length d) p)
  walk_denied k d p = not_both (not (row_here image m k).tcp) (leb p (length d)) ∙ rw (twice_not (row_here image m k).tcp, not_within p (length d))

  -- the waiting bytes: 9
  taking-number : (k room : ℕ) → taking_number (taking_of room (here image m k)) ≡ first_failing (check (ltb room (here image m k).used) 9 ∷ [])
  unfolding taking_of first_failing
  taking-number k room = go (ltb room (here image m k).used)
    where
      go : (b : Bool) → taking_number (cond b (Err Taken.Short) (Ok ((here image m k).used, (here image m k).remote))) ≡ cond b 9 0
      go true = refl
      go false = refl

  take-number : (k : ℕ) (out : List ℕ)
      → taking_number (taken_waiting (loan_to image m) k out).answer ≡ first_failing
      (first_of image m k (check (ltb (length out) (here image m k).used) 9 ∷ []))
  unfolding taken_waiting
  take-number k out =
      gate_first_of (λ (t : Drained). taking_number t.answer) (not_taken s)
      (take_past image s k (length out)) (check (ltb (length out) (here image m k).used) 9 ∷ []) (λ r. refl)
      (taking-number k (length out)) k

  -- a switch on all connections: 2; a count: 3
  switches-number : (n : ℕ) (b : Bool) → answer_number (switch_all_of (lent_to image m) n b).answer ≡ first_failing (first image m (no_switch image m n ∷ []))
  unfolding switch_all_of first_failing
  switches-number n b = gate_first (λ (t : Told). answer_number t.answer) (refused_told s)
      (event (ltb n 32)) (no_switch image m n ∷ []) (λ r. refl) (rw (← not_below n 32) (past (ltb n 32)))
    where
      event : Bool → Told
      event x = cond x (record { answer = Ok tt; state = switched_all (rows_of image Connections) n b s }) (refused_told s Missing)

      past : (x : Bool) → answer_number (event x).answer ≡ cond (not x) 2 0
      past true = refl
      past false = refl

  count-number : (f : Bool → Counted) → ((b : Bool) → count_number (f b).answer ≡ 0) → (p : ℕ)
      → count_number (through (gate_of (lent_to image m)) (uncounted s) (of_protocol f (uncounted s Denied) p)).answer
      ≡ first_failing (first image m (no_protocol image m p ∷ []))
  unfolding of_protocol first_failing
  count-number f is p =
      gate_first (λ (t : Counted). count_number t.answer) (uncounted s)
      (of_protocol f (uncounted s Denied) p) (no_protocol image m p ∷ []) (λ r. refl) (past (eqb p 1) (eqb p 2))
    where
      past : (x y : Bool) → count_number (cond x (f false) (cond y (f true) (uncounted s Denied))).answer ≡ cond (not (x || y)) 3 0
      past true y = is false
      past false true = is true
      past false false = refl

  -- A DATAGRAM, AN ACCEPT: none is chosen exactly when none matches
  module _ (a : Bool) (group : ℕ) (source : Remote) where
    abbrev match : ℕ → Bool
    match i = matching image m a group source i

    score_none : (i : ℕ) → score_at image s a group source i ≡ 0 → not (match i) ≡ true
    unfolding score_at score_of
    score_none i e = go (match i) refl
      where
        go : (b : Bool) → match i ≡ b → not b ≡ true
        go true p = absurd (let z : ◌≡◌ {A = ℕ} _ 0 = rw p at e in omega arith)
        go false p = refl

    score_some : (i : ℕ) → 0 < score_at image s a group source i → not (match i) ≡ false
    unfolding score_at score_of
    score_some i l = go (match i) refl
      where
        go : (b : Bool) → match i ≡ b → not b ≡ false
        go true p = refl
        go false p = absurd (let z = rw p at l in omega (arith, z))

    arrival_own : arrival_number (arrive_of image s a group source).answer ≡ first_failing (arrives image m a group source)
    unfolding arrive_of denied_of first_failing
    arrival_own = go (leb (rows_of image Group) group) (denied_of image a group source) (chosen_in image s a group source)
        (chosen_is_best image s a group source)
      where
        go : (x y : Bool) (c : Option ℕ) → IsChosen (score_at image s a group source) 16 c
            → arrival_number (cond x (not_met s Missing) (cond y (not_met s Denied) (meet image s source c))).answer
            ≡ cond x 2 (cond y 3 (cond (every (λ i. not (match i)) 16) 10 0))
        go true y c h = refl
        go false true c h = refl
        go false false None h = rw (every-all (λ i. not (match i)) 16 (λ i l. score_none i (h i l)))
        go false false (Some k) h = rw (← pass_failed (λ i. not (match i)) 16 k h.inside (score_some k h.counts))

    arrival-number : arrival_number (arrival_of (lent_to image m) a group source).answer ≡ first_failing (first image m (arrives image m a group source))
    unfolding arrival_of
    arrival-number =
        gate_first (λ (t : Arrived). arrival_number t.answer) (not_met s)
        (arrive_of image s a group source) (arrives image m a group source) (λ r. refl) arrival_own

  -- A TRANSMIT
  module _ (pdu len : ℕ) where
    abbrev look : ℕ → ℕ
    look = look_at image s pdu len

    abbrev Row : ℕ → List Check → Type 0
    Row i next =
        (eqb (look i) 5 ≡ not (has image m pdu len i))
        × (is_out (look i) ≡ (not (has image m pdu len i) || not (switched_on image m pdu len i)))
        × (first_failing (asked image m pdu len i next) ≡ cond (passes (look i)) (first_failing next) (look i))

    -- what row i says, and its three checks
    row-says : (i : ℕ) (next : List Check) → Row i next
    unfolding look_at look_of refusal_of first_failing
    row-says i next =
        go (has image m pdu len i) (switched_on image m pdu len i) (not_online image m d.connection).fails
        (payload_too_long image m pdu len i).fails (no_room image m pdu len i).fails
      where
        d : DestinationRow
        d = destination_of image i

        says : Bool → Bool → Bool → Bool → Bool → ℕ
        says x y z u v = cond (not x) 5 (cond (not y) 6 (cond z 4 (cond u 7 (cond v 8 0))))

        go : (x y z u v : Bool)
            → (eqb (says x y z u v) 5 ≡ not x)
            × (is_out (says x y z u v) ≡ (not x || not y))
            × (first_failing (cond (x && y) (check z 4 ∷ check u 7 ∷ check v 8 ∷ next) next)
            ≡ cond (passes (says x y z u v)) (first_failing next) (says x y z u v))
        go false y z u v = (refl, refl, refl)
        go true false z u v = (refl, refl, refl)
        go true true true u v = (refl, refl, refl)
        go true true false true v = (refl, refl, refl)
        go true true false false true = (refl, refl, refl)
        go true true false false false = (refl, refl, refl)

    -- the first row that refuses has the first check that fails
    rows_say : (n i total : ℕ) → i + n ≡ total
        → transmission_number (decided_at look total (bad_from (λ j. passes (look j)) n i)) ≡ first_failing (asked_from image m pdu len n i)
    unfolding bad_from asked_from first_failing
    rows_say zero i total e = rw (le-ltb i total (omega arith))
    rows_say (suc n) i total e = go (passes (look i)) (rows_say n (suc i) total (omega arith)) ∙ sym (row-says i (asked_from image m pdu len n (suc i))).2
      where
        go : (b : Bool) → transmission_number (decided_at look total (bad_from (λ j. passes (look j)) n (suc i)))
            ≡ first_failing (asked_from image m pdu len n (suc i))
            → transmission_number (decided_at look total (cond b (bad_from (λ j. passes (look j)) n (suc i)) i))
            ≡ cond b (first_failing (asked_from image m pdu len n (suc i))) (look i)
        go true h = h
        go false h = rw (lt-ltb i total (omega arith))

    transmit-own : transmission_number (check_of image s pdu len) ≡ first_failing (transmits image m pdu len)
    unfolding check_of verdict_of first_failing
    transmit-own =
        rw (every-same (λ i. eqb (look i) 5) (λ i. not (has image m pdu len i)) rows (λ i. (row-says i []).0))
        (rw (every-same (λ i. is_out (look i)) (λ i. not (has image m pdu len i) || not (switched_on image m pdu len i)) rows (λ i. (row-says i []).1))
        (go (every (λ i. not (has image m pdu len i)) rows) (every (λ i. not (has image m pdu len i) || not (switched_on image m pdu len i)) rows)))
      where
        rows : ℕ
        rows = destinations image

        go : (x y : Bool)
            → transmission_number (cond x (Err Sent.NoDestination) (cond y (Err Sent.SwitchedOff) (decided_at look rows (first_bad (λ j. passes
            (look j)) rows))))
            ≡ cond x 5 (cond y 6 (first_failing (asked_from image m pdu len rows 0)))
        go true y = refl
        go false true = refl
        go false false = rows_say rows 0 rows (omega arith)

  -- EVERY EVENT
  pub exactly_when : (e : Event) → number_of image m e ≡ first_failing (checks_for image m e)
  unfolding checks_for first_failing tick_event read_of read_past clear_of clear_past send_of
  exactly_when (on k (change e)) =
      change-number k e (check (not (known e)) 2 ∷ check (not (allowed e (row_here image m k) (here image m k))) 3 ∷ []) (step-number k e)
  exactly_when (on k (segment bs)) = segment-number k bs ∙ receive-number k (row_here image m k).tcp (not (row_here image m k).tcp) refl
  exactly_when (on k (walk d p)) =
      walk-number k d p ∙ receive-number k (walk_allowed image k d p) ((row_here image m k).tcp || ltb (length d) p) (walk_denied k d p)
  exactly_when (on k (take_waiting room)) = rw (length-replicate room) at (take-number k (replicate room 0))
  exactly_when (on_whole (datagram group source)) = arrival-number false group source
  exactly_when (on_whole (accept group source)) = arrival-number true group source
  exactly_when (on_whole tick) =
      gate_first (λ (t : Ticked). answer_number t.answer) (unticked s)
      (ticked_from (rows_of image Connections) s (ticked_to image (rows_of image Connections) s)) [] (λ r. refl) refl
  exactly_when (on_whole (transmit pdu payload)) =
      gate_first (λ (t : Transmitted). transmission_number t.answer) (not_sent s)
      (transmitted_of image s pdu payload m.tx) (transmits image m pdu (length payload)) (λ r. refl)
      (transmit-own pdu (length payload))
  exactly_when (on_whole (switch_all n b)) = switches-number n b
  exactly_when (on_whole (read_count p)) = count-number (read_from s) (λ b. refl) p
  exactly_when (on_whole (clear_count p)) = count-number (clear_from s) (λ b. refl) p
