-- WHICH NUMBERS (R4.1): from any table, state and memory each event is answered one of the numbers listed for it.
use Rattle.std.proofs.Common.{Result, Ok, Err, Option, ℕ, Some, None}
use Prim.Native.Nat.{ℕ, ◌+◌}
use mathlib.Core.Path.{◌≡◌, refl, sym, subst, ◌∙◌}
use mathlib.Core.Bool.{Bool, true, false, cond, not, ◌||◌, or-true}
use mathlib.Core.List.{List, [], ◌∷◌, ◌++◌}
use lib.Dec.{eqb, leb, ltb}
use lib.ListN.{length, replicate}
use borrow.Author.Tests.{ltb-true}
use Rattle.lists.specs.Search.{first_bad, every}
use Rattle.lists.proofs.Search.{found-bad}
use Rattle.lists.proofs.Both.{impossible}
use Rattle.table_layout.specs.Layout.{rows_of}
use Rattle.table_layout.specs.declared.Kind.TheVariants.{Connection as Connections, Group}
use Rattle.table_rows.specs.declared.DestinationRow.{DestinationRow}
use Rattle.table_rows.specs.Rows.{connection_of, destination_of}
use Rattle.switches.specs.Switches.{is_on}
use Rattle.connection.specs.declared.Connection.{Connection}
use Rattle.connection.specs.declared.Config.{Config}
use Rattle.connection.specs.declared.Remote.{Remote}
use Rattle.connection.specs.declared.Refusal.TheVariants.{Memory, Unsound, Missing, Denied}
use Rattle.connection.specs.declared.Stepped.{Stepped}
use Rattle.connection.specs.declared.Event.{Event as Change}
use Rattle.connection.proofs.Leaves.{not_denied}
use Rattle.connection.specs.Connection.{is_online}
use Rattle.connection.specs.Event.{answer_number, receiving, known, allowed, record_after, deniable, refused_by as not_stepped, step_of}
use Rattle.state.specs.declared.State.{State}
use Rattle.state.specs.State.{record_at}
use Rattle.state.specs.Fresh.{config_of}
use Rattle.gate.specs.Gate.{gate_of, gate_at, then_there, through}
use Rattle.gate.specs.Sound.{sound_state}
use Rattle.entry_events.specs.declared.Told.{Told}
use Rattle.entry_events.specs.declared.Counted.{Counted}
use Rattle.entry_events.specs.Change.{refused_told, told_of, change_of, event_of}
use Rattle.entry_events.specs.Module.{switched_all, switch_all_of}
use Rattle.entry_events.specs.Count.{count_number, of_protocol, read_from, clear_from, uncounted, read_past, clear_past, read_of, clear_of}
use Rattle.entry_ticks.specs.Tick.{ticked_to, unticked, ticked_from, tick_event}
use Rattle.select.specs.declared.Arrived.{Arrived}
use Rattle.select.specs.Choose.{arrival_number, meet, arrival_refused as not_met, denied_of, chosen_in, arrive_of}
use Rattle.entry_arrivals.specs.Arrivals.{arrival_of}
use Rattle.entry_receive.specs.declared.NotReceived.TheVariants as Receive
use Rattle.entry_receive.specs.Answer.{receive_number, is_done, judged_of, judged_answer}
use Rattle.entry_receive.specs.Segment.{take_on, none_taken, segment_of, segment_answer}
use Rattle.entry_receive.specs.Walk.{walk_on, none_walked, walk_answer, walk_allowed, walk_of}
use Rattle.send_destination.specs.Destination.{refusal_of, look_of}
use Rattle.send.specs.declared.NotSent.TheVariants as Sent
use Rattle.send.specs.Verdict.{is_out, passes, verdict_of, transmission_number}
use Rattle.send.specs.Send.{destinations, look_at, check_of, transmitted_of}
use Rattle.send_waiting.specs.declared.NotTaken.TheVariants as Taken
use Rattle.send_waiting.specs.Waiting.{taking_number, taking_of}
use Rattle.entry_send.specs.Sending.{not_sent, send_of, not_taken, take_past, taken_waiting}
use Rattle.model.specs.Events.{change, segment, walk, take_waiting, datagram, accept, tick, transmit, switch_all, read_count, clear_count, Event, on, on_whole}
use Rattle.model_refines.specs.Machine.{Machine, lent_to, loan_to}
use Rattle.theorems.specs.Numbers.{number_of, numbers_for, among}
use Rattle.connection.specs.declared.Refusal.{Refusal}
use Rattle.entry_receive.specs.declared.NotReceived.{NotReceived}
use Rattle.send.specs.declared.NotSent.{NotSent}
use Rattle.send_waiting.specs.declared.NotTaken.{NotTaken}

-- a number among some is among more
sooner : (n : ℕ) (xs ys : List ℕ) → among n xs ≡ true → among n (xs ++ ys) ≡ true
unfolding among
sooner n [] ys h = impossible h
sooner n (x ∷ xs) ys h = go (eqb n x) h (sooner n xs ys)
  where
    go : (b : Bool) → (b || among n xs) ≡ true → (among n xs ≡ true → among n (xs ++ ys) ≡ true) → (b || among n (xs ++ ys)) ≡ true
    go true p rest = refl
    go false p rest = rest p

later : (n : ℕ) (xs ys : List ℕ) → among n ys ≡ true → among n (xs ++ ys) ≡ true
unfolding among
later n [] ys h = h
later n (x ∷ xs) ys h = rw (later n xs ys h) (or-true (eqb n x))

module _ (image : List ℕ) (m : Machine) where
  abbrev s : State
  s = m.state

  abbrev rx : ℕ
  rx = length m.rx

  abbrev tx : ℕ
  tx = length m.tx

  -- the gate refuses by 11 or 12, at a connection's number by 2 as well
  gate_is : (P : Result Unit Refusal → Type 0) → P (Ok tt) → P (Err Memory) → P (Err Unsound) → P (gate_of (lent_to image m))
  unfolding gate_of
  gate_is P pass memory unsound = go (not (eqb rx 23424) || not (eqb tx 23552)) (sound_state image s)
    where
      go : (a b : Bool) → P (cond a (Err Memory) (cond b (Ok tt) (Err Unsound)))
      go true b = memory
      go false true = pass
      go false false = unsound

  gate-at : (k : ℕ) (P : Result Unit Refusal → Type 0) → P (Ok tt) → P (Err Memory) → P (Err Unsound) → P (Err Missing) → P (gate_at (lent_to image m) k)
  unfolding gate_at
  gate-at k P pass memory unsound missing =
      gate_is (λ g. P (then_there (ltb k (rows_of image Connections)) g)) (go (ltb k (rows_of image Connections))) memory unsound
    where
      go : (b : Bool) → P (cond b (Ok tt) (Err Missing))
      go true = pass
      go false = missing

  -- a number is listed for an event
  abbrev Listed : Event → ℕ → Type 0
  Listed e n = among n (numbers_for e) ≡ true

  -- an event of the record alone: all but a switch can be denied
  abbrev change_numbers : Bool → List ℕ
  change_numbers b = 11 ∷ 12 ∷ 2 ∷ cond b (3 ∷ 0 ∷ []) (0 ∷ [])

  always : (k : ℕ) (e : Change) → (Listed (on k (change e)) 11) × (Listed (on k (change e)) 12) × (Listed (on k (change e)) 2) × (Listed (on k (change e)) 0)
  unfolding numbers_for among
  always k e = go (deniable e)
    where
      go : (b : Bool) → (among 11 (change_numbers b) ≡ true) × (among 12 (change_numbers b) ≡ true)
          × (among 2 (change_numbers b) ≡ true) × (among 0 (change_numbers b) ≡ true)
      go true = (refl, refl, refl, refl)
      go false = (refl, refl, refl, refl)

  denied : (k : ℕ) (e : Change) (g : Config) (c : Connection) → allowed e g c ≡ false → Listed (on k (change e)) 3
  unfolding numbers_for among
  denied k e g c p = go (deniable e) refl
    where
      go : (b : Bool) → deniable e ≡ b → among 3 (change_numbers b) ≡ true
      go true n = refl
      go false n = impossible (sym p ∙ not_denied e g c n)

  step-listed : (k : ℕ) (e : Change) → Listed (on k (change e)) (answer_number (change_of image s k e).answer)
  unfolding change_of told_of step_of
  step-listed k e = go (known e) (allowed e (config_of image k) (record_at s k)) refl
    where
      c : Connection
      c = record_at s k

      step : Bool → Bool → Stepped
      step x y = cond (not x) (not_stepped Missing c)
          (cond (not y) (not_stepped Denied c) (record { answer = Ok tt; connection = record_after e (config_of image k) c }))

      go : (x y : Bool) → allowed e (config_of image k) c ≡ y
          → Listed (on k (change e)) (answer_number (told_of s k (step x y).answer (step x y).connection).answer)
      go false y p = (always k e).2
      go true false p = denied k e (config_of image k) c p
      go true true p = (always k e).3

  change-listed : (k : ℕ) (e : Change) → Listed (on k (change e)) (number_of image m (on k (change e)))
  unfolding event_of
  change-listed k e =
      gate-at k (λ g. Listed (on k (change e)) (answer_number (through g (refused_told s) (change_of image s k e)).answer))
      (step-listed k e) (always k e).0 (always k e).1
      (always k e).2

  -- a take, a walk: 3, then 4
  abbrev Received : Result Unit NotReceived → Type 0
  Received a = among (receive_number a) (11 ∷ 12 ∷ 2 ∷ 3 ∷ 4 ∷ 0 ∷ []) ≡ true

  receive-listed : (k : ℕ) (ok : Bool) → Received (judged_answer (lent_to image m) k ok)
  unfolding judged_answer judged_of among
  receive-listed k ok = gate-at k (λ g. Received (through g (λ x. Err (Receive.Refused x)) (judged_of ok (record_at s k))))
      (past ok (receiving (record_at s k))) refl refl refl
    where
      past : (a b : Bool) → Received (cond a (cond b (Ok tt) (Err Receive.NotReceiving)) (Err (Receive.Refused Denied)))
      past true true = refl
      past true false = refl
      past false b = refl

  segment-listed : (k : ℕ) (bs : List ℕ) → Received (segment_of (loan_to image m) k bs).answer
  unfolding segment_of take_on among
  segment-listed k bs = go (is_done (segment_answer (lent_to image m) k))
    where
      go : (b : Bool) → Received (cond b (take_on image s m.rx k bs) (none_taken s (segment_answer (lent_to image m) k))).answer
      go true = refl
      go false = receive-listed k (config_of image k).tcp

  walk-listed : (k : ℕ) (d : List ℕ) (p : ℕ) → Received (walk_of (lent_to image m) k d p).answer
  unfolding walk_of walk_on among
  walk-listed k d p = go (is_done (walk_answer (lent_to image m) k d p))
    where
      go : (b : Bool) → Received (cond b (walk_on image s k d p) (none_walked s p (walk_answer (lent_to image m) k d p))).answer
      go true = refl
      go false = receive-listed k (walk_allowed image k d p)

  -- the waiting bytes: 9
  take-listed : (k : ℕ) (out : List ℕ) → among (taking_number (taken_waiting (loan_to image m) k out).answer) (11 ∷ 12 ∷ 2 ∷ 9 ∷ 0 ∷ []) ≡ true
  unfolding taken_waiting taking_of among
  take-listed k out = gate-at k (λ g. Takes (through g (not_taken s) (take_past image s k (length out))).answer)
      (past (ltb (length out) (record_at s k).used)) refl refl refl
    where
      Takes : Result (ℕ × Remote) NotTaken → Type 0
      Takes t = among (taking_number t) (11 ∷ 12 ∷ 2 ∷ 9 ∷ 0 ∷ []) ≡ true

      past : (b : Bool) → Takes (cond b (Err Taken.Short) (Ok ((record_at s k).used, (record_at s k).remote)))
      past true = refl
      past false = refl

  -- a datagram, an accept: 2, 3, then 10
  arrival_listed : (a : Bool) (group : ℕ) (source : Remote)
      → among (arrival_number (arrival_of (lent_to image m) a group source).answer) (11 ∷ 12 ∷ 2 ∷ 3 ∷ 10 ∷ 0 ∷ []) ≡ true
  unfolding arrival_of arrive_of among
  arrival_listed a group source =
      gate_is (λ g. Met (through g (not_met s) (arrive_of image s a group source)))
      (past (leb (rows_of image Group) group) (denied_of image a group source) (chosen_in image s a group source)) refl refl
    where
      Met : Arrived → Type 0
      Met t = among (arrival_number t.answer) (11 ∷ 12 ∷ 2 ∷ 3 ∷ 10 ∷ 0 ∷ []) ≡ true

      past : (x y : Bool) (c : Option ℕ) → Met (cond x (not_met s Missing) (cond y (not_met s Denied) (meet image s source c)))
      past true y c = refl
      past false true c = refl
      past false false None = refl
      past false false (Some k) = refl

  -- a switch on all connections: 2; a count: 3
  switches-listed : (n : ℕ) (b : Bool) → Listed (on_whole (switch_all n b)) (number_of image m (on_whole (switch_all n b)))
  unfolding switch_all_of numbers_for among
  switches-listed n b =
      gate_is (λ g. Listed (on_whole (switch_all n b)) (answer_number (through g (refused_told s) (event (ltb n 32))).answer)) (past (ltb n 32)) refl refl
    where
      event : Bool → Told
      event x = cond x (record { answer = Ok tt; state = switched_all (rows_of image Connections) n b s }) (refused_told s Missing)

      past : (x : Bool) → Listed (on_whole (switch_all n b)) (answer_number (event x).answer)
      past true = refl
      past false = refl

  count-listed : (f : Bool → Counted) → ((b : Bool) → count_number (f b).answer ≡ 0) → (p : ℕ)
      → among (count_number (through (gate_of (lent_to image m)) (uncounted s) (of_protocol f (uncounted s Denied) p)).answer) (11 ∷ 12 ∷ 3 ∷ 0 ∷ []) ≡ true
  unfolding of_protocol among
  count-listed f is p = gate_is (λ g. Counts (through g (uncounted s) (of_protocol f (uncounted s Denied) p))) (past (eqb p 1) (eqb p 2)) refl refl
    where
      Counts : Counted → Type 0
      Counts t = among (count_number t.answer) (11 ∷ 12 ∷ 3 ∷ 0 ∷ []) ≡ true

      past : (x y : Bool) → Counts (cond x (f false) (cond y (f true) (uncounted s Denied)))
      past true y = rw (is false)
      past false true = rw (is true)
      past false false = refl

  -- A TRANSMIT: a destination that refuses says 4, 7 or 8
  module _ (pdu : ℕ) (payload : List ℕ) where
    abbrev Refusing : ℕ → Type 0
    Refusing a = passes a ≡ false → among a (4 ∷ 7 ∷ 8 ∷ []) ≡ true

    look_refuses : (i : ℕ) → Refusing (look_at image s pdu (length payload) i)
    unfolding look_at look_of refusal_of among
    look_refuses i =
        go (eqb d.pdu pdu) (is_on d.groups c.switches) (not (is_online c.mode) || c.close_wanted) (ltb d.longest (length payload))
        (ltb (connection_of image d.connection).size (c.used + 8 + length payload))
      where
        d : DestinationRow
        d = destination_of image i

        c : Connection
        c = record_at s d.connection

        go : (x y z u v : Bool) → Refusing (cond (not x) 5 (cond (not y) 6 (cond z 4 (cond u 7 (cond v 8 0)))))
        go false y z u v p = impossible (sym p)
        go true false z u v p = impossible (sym p)
        go true true true u v p = refl
        go true true false true v p = refl
        go true true false false true p = refl
        go true true false false false p = impossible (sym p)

    -- the check never answers for the gate, and the row that decides is one that refuses
    abbrev Checked : Result Unit NotSent → Type 0
    Checked (Ok tt) = Unit {0}
    Checked (Err (Sent.Refused r)) = ⊥
    Checked (Err Sent.NoDestination) = Unit {0}
    Checked (Err Sent.SwitchedOff) = Unit {0}
    Checked (Err (Sent.RefusedAt n d)) = among n (4 ∷ 7 ∷ 8 ∷ []) ≡ true

    checked : Checked (check_of image s pdu (length payload))
    unfolding check_of verdict_of
    checked = go (every (λ i. eqb (look i) 5) rows) (every (λ i. is_out (look i)) rows) (ltb (first_bad (λ i. passes (look i)) rows) rows) refl
      where
        look : ℕ → ℕ
        look = look_at image s pdu (length payload)

        rows : ℕ
        rows = destinations image

        k : ℕ
        k = first_bad (λ i. passes (look i)) rows

        go : (x y z : Bool) → ltb k rows ≡ z → Checked (cond x (Err Sent.NoDestination) (cond y (Err Sent.SwitchedOff) (cond z (Err (Sent.RefusedAt
            (look k) k)) (Ok tt))))
        go true y z p = tt
        go false true z p = tt
        go false false true p = look_refuses k (found-bad (λ i. passes (look i)) rows (ltb-true k rows p))
        go false false false p = tt

    -- R10.2: the first refusal decides and names its destination: by 4, 7 or 8
    pub refused-at : (number d : ℕ) → check_of image s pdu (length payload) ≡ Err (Sent.RefusedAt number d) → among number (4 ∷ 7 ∷ 8 ∷ []) ≡ true
    refused-at number d e = subst Checked e checked

    number-listed : (t : Result Unit NotSent) → Checked t → Listed (on_whole (transmit pdu payload)) (transmission_number t)
    unfolding numbers_for among
    number-listed (Ok tt) c = refl
    number-listed (Err (Sent.Refused r)) c = absurd c
    number-listed (Err Sent.NoDestination) c = refl
    number-listed (Err Sent.SwitchedOff) c = refl
    number-listed (Err (Sent.RefusedAt n d)) c = later n (11 ∷ 12 ∷ 5 ∷ 6 ∷ []) (4 ∷ 7 ∷ 8 ∷ 0 ∷ []) (sooner n (4 ∷ 7 ∷ 8 ∷ []) (0 ∷ []) c)

    transmit-listed : Listed (on_whole (transmit pdu payload)) (number_of image m (on_whole (transmit pdu payload)))
    unfolding send_of numbers_for among
    transmit-listed =
        gate_is (λ g. Listed (on_whole (transmit pdu payload)) (transmission_number (through g (not_sent s) (transmitted_of image s pdu payload m.tx)).answer))
        (number-listed (check_of image s pdu (length payload)) checked) refl refl

  -- EVERY EVENT
  pub number_for : (e : Event) → among (number_of image m e) (numbers_for e) ≡ true
  unfolding numbers_for tick_event read_of read_past clear_of clear_past among
  number_for (on k (change e)) = change-listed k e
  number_for (on k (segment bs)) = segment-listed k bs
  number_for (on k (walk d p)) = walk-listed k d p
  number_for (on k (take_waiting room)) = take-listed k (replicate room 0)
  number_for (on_whole (datagram group source)) = arrival_listed false group source
  number_for (on_whole (accept group source)) = arrival_listed true group source
  number_for (on_whole tick) =
      gate_is (λ g. Listed (on_whole tick)
      (answer_number (through g (unticked s)
      (ticked_from (rows_of image Connections) s (ticked_to image (rows_of image Connections) s))).answer)) refl refl refl
  number_for (on_whole (transmit pdu payload)) = transmit-listed pdu payload
  number_for (on_whole (switch_all n b)) = switches-listed n b
  number_for (on_whole (read_count p)) = count-listed (read_from s) (λ b. refl) p
  number_for (on_whole (clear_count p)) = count-listed (clear_from s) (λ b. refl) p
