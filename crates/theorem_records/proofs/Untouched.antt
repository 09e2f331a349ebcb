-- WHAT A GROUP OR MODULE EVENT DOES NOT TOUCH IT LEAVES AS IT WAS, record and held bytes; a switch on all connections changes switches alone, a
-- transmit bytes used, timer and due mark alone, and a count event no record.
use Rattle.std.proofs.Common.{Result, Ok, Err, Option, ℕ, Some, None}
use Prim.Native.Nat.{ℕ, zero, suc, ◌+◌, ◌<◌, ◌≤◌}
use mathlib.Core.Path.{◌≡◌, refl, sym, ap, ap₂, ◌∙◌, subst}
use mathlib.Core.Bool.{Bool, true, false, cond, ◌&&◌}
use mathlib.Core.List.{List, [], ◌∷◌}
use native.Mathlib.Omega.{arith}
use native.Mathlib.Decide.{ℕ_discrete}
use lib.Dec.{eqb, leb, ltb}
use lib.ListN.{length, get_or, take}
use lib.Seq.{get_or-set_other}
use borrow.Author.Tests.{eqb-true}
use Rattle.lists.specs.Each.{each_to}
use Rattle.lists.proofs.Both.{and_left, and_right}
use Rattle.lists.proofs.Each.{one_at, each_at}
use Rattle.lists.proofs.Fold.{fold_keeps}
use Rattle.table_layout.specs.Layout.{rows_of}
use Rattle.table_layout.specs.declared.Kind.TheVariants.{Connection as Connections, Group}
use Rattle.table_rows.specs.declared.DestinationRow.{DestinationRow}
use Rattle.table_rows.specs.Rows.{destination_of}
use Rattle.table.specs.Accepts.{Accepts}
use Rattle.table.proofs.Facts.{accepted_facts}
use Rattle.switches.specs.Switches.{is_on}
use Rattle.connection.specs.declared.Connection.{Connection}
use Rattle.connection.specs.declared.Remote.{Remote}
use Rattle.connection.specs.declared.Refusal.{Refusal}
use Rattle.connection.specs.declared.Refusal.TheVariants.{Missing, Denied}
use Rattle.connection.specs.Connection.{zero_record, with_send, tick_of}
use Rattle.state.specs.declared.State.{State}
use Rattle.state.specs.State.{record_at}
use Rattle.state.specs.Fresh.{config_of}
use Rattle.state.specs.Memory.{stretch}
use Rattle.gate.specs.Lent.{Lent, Loan, sizes}
use Rattle.gate.specs.Gate.{gate_of, through}
use Rattle.gate.proofs.Pass.{passed_gate}
use Rattle.select.specs.declared.Arrived.{Arrived}
use Rattle.select.specs.Choose.{chosen_in, meet, arrival_refused, denied_of, arrive_of}
use Rattle.entry_arrivals.specs.Arrivals.{arrival_of}
use Rattle.entry_events.specs.declared.Told.{Told}
use Rattle.entry_events.specs.declared.Counted.{Counted}
use Rattle.entry_events.specs.Change.{refused_told}
use Rattle.entry_events.specs.Module.{switch_at, switched_all, switch_all_of}
use Rattle.entry_events.specs.Count.{uncounted, of_protocol, read_from, read_past, clear_from, clear_past, read_of, clear_of}
use Rattle.entry_ticks.specs.Tick.{tick_at, ticked_to, unticked, ticked_from, tick_event}
use Rattle.send.specs.Verdict.{is_stored}
use Rattle.send.specs.Send.{destinations, Sending, sending, append_of, check_of, wanted_at, store_of, store_all, transmit_of, transmitted_of}
use Rattle.entry_send.specs.Sending.{not_sent, send_of, sent_memory}
use Rattle.entry_send.proofs.Past.{ready_from}
use Rattle.law_keeps.proofs.Transmitted.{all_fit}
use Rattle.law_waits.specs.Waits.{goes_to}
use Rattle.law_waits.proofs.Held.{others_stay}
use Rattle.model.specs.World.{held_at, held_by, held_of, view_of}
use Rattle.model.specs.Events.{Whole, datagram, accept, tick, transmit, switch_all, read_count, clear_count, on_whole}
use Rattle.model.proofs.View.{view_at}
use Rattle.model_refines.specs.Machine.{Machine, machine, lent_to, loan_to, seen}
use Rattle.model_refines.specs.Run.{after_whole, after_event, Good}
use Rattle.theorem_records.specs.Untouched.{Touches, datagram_meets, accept_meets, tick_each, transmit_stores, switch_each, OnlySwitches, OnlySend}

-- elements past those that are changed
each-past : {A : Type 0} (f : ℕ → A → A) (d : A) (b n : ℕ) (xs : List A) (i : ℕ) → n ≤ i → get_or (each_to f b n xs) i d ≡ get_or xs i d
each-past f d b zero xs i h = refl
each-past f d b (suc n) [] i h = refl
each-past f d b (suc n) (x ∷ xs) zero h = absurd (omega (arith, h))
each-past f d b (suc n) (x ∷ xs) (suc i) h = each-past f d (suc b) n xs i (omega (arith, h))

-- and each of those
each-inside : {A : Type 0} (f : ℕ → A → A) (d : A) (b n : ℕ) (xs : List A) (i : ℕ) → i < n → i < length xs → get_or (each_to f b n xs) i d ≡ f (b + i)
    (get_or xs i d)
each-inside f d b zero xs i h l = absurd (omega (arith, h))
each-inside f d b (suc n) [] i h l = absurd (omega (arith, l))
each-inside f d b (suc n) (x ∷ xs) zero h l = let e : b ≡ b + 0 = omega arith in ap (λ (k : ℕ). f k x) e
each-inside f d b (suc n) (x ∷ xs) (suc i) h l =
    let e : suc b + i ≡ b + suc i = omega arith in
    each-inside f d (suc b) n xs i (omega (arith, h)) (omega (arith, l)) ∙ ap (λ (k : ℕ). f k (get_or xs i d)) e

-- A DATAGRAM, AN ACCEPT: every record but that of the answer
module _ (l : Lent) (tcp : Bool) (group : ℕ) (source : Remote) (i : ℕ) where
  abbrev Stays : Arrived → Type 0
  Stays x = (x.answer ≡ Ok i → ⊥) → record_at x.state i ≡ record_at l.state i

  met-stays : (c : Option ℕ) → Stays (meet l.image l.state source c)
  met-stays None h = refl
  met-stays (Some k) h = go (ℕ_discrete k i)
    where
      go : Dec (k ≡ i) → record_at (meet l.image l.state source (Some k)).state i ≡ record_at l.state i
      go (yes e) = absurd (h (ap Ok e))
      go (no ne) = get_or-set_other l.state.connections k i _ zero_record (λ e. ne (sym e))

  pub arrival_others : Stays (arrival_of l tcp group source)
  unfolding arrival_of arrive_of
  arrival_others = gate (gate_of l)
    where
      asked : (b : Bool) → Stays
          (cond b (arrival_refused l.state Denied) (meet l.image l.state source (chosen_in l.image l.state tcp group source)))
      asked true h = refl
      asked false h = met-stays (chosen_in l.image l.state tcp group source) h

      there : (b : Bool) → Stays (cond b (arrival_refused l.state Missing)
          (cond (denied_of l.image tcp group source) (arrival_refused l.state Denied) (meet l.image l.state source (chosen_in l.image
          l.state tcp group source))))
      there true h = refl
      there false h = asked (denied_of l.image tcp group source) h

      gate : (g : Result Unit Refusal) → Stays (through g (arrival_refused l.state) (arrive_of l.image l.state tcp group source))
      gate (Ok tt) h = there (leb (rows_of l.image Group) group) h
      gate (Err r) h = refl

-- A TICK, A SWITCH ON ALL CONNECTIONS: every record past the row count; and the switch changes switches alone
module _ (l : Lent) (i : ℕ) where
  abbrev c : Connection
  c = record_at l.state i

  tick-past : rows_of l.image Connections ≤ i → record_at (tick_event l).state i ≡ c
  unfolding tick_event ticked_to
  tick-past out = gate (gate_of l)
    where
      rows : ℕ
      rows = rows_of l.image Connections

      gate : (g : Result Unit Refusal) → record_at (through g (unticked l.state) (ticked_from rows l.state (ticked_to l.image rows l.state))).state i ≡ c
      gate (Ok tt) = each-past (tick_at l.image) zero_record 0 rows l.state.connections i out
      gate (Err r) = refl

  -- each row's record by itself
  pub tick-own : gate_of l ≡ Ok tt → i < rows_of l.image Connections → i < length l.state.connections
      → record_at (tick_event l).state i ≡ tick_of (config_of l.image i) c
  unfolding tick_event ticked_to
  tick-own passes there low =
      let z : 0 + i ≡ i = omega arith in
      ap (λ (g : Result Unit Refusal). record_at (through g (unticked l.state) (ticked_from rows l.state (ticked_to l.image rows l.state))).state i) passes
      ∙ each-inside (tick_at l.image) zero_record 0 rows l.state.connections i there low
      ∙ ap (λ (k : ℕ). tick_of (config_of l.image k) c) z
    where
      rows : ℕ
      rows = rows_of l.image Connections

  module _ (number : ℕ) (position : Bool) where
    switched_by : (P : Connection → Type 0) → P c → P (record_at (switched_all (rows_of l.image Connections) number position l.state) i) → P (record_at
        (switch_all_of l number position).state i)
    unfolding switch_all_of
    switched_by P p q = gate (gate_of l)
      where
        event : Bool → Told
        event b =
            cond b (record { answer = Ok tt; state = switched_all (rows_of l.image Connections) number position l.state }) (refused_told l.state Missing)

        inner : (b : Bool) → P (record_at (event b).state i)
        inner true = q
        inner false = p

        gate : (g : Result Unit Refusal) → P (record_at (through g (refused_told l.state) (event (ltb number 32))).state i)
        gate (Ok tt) = inner (ltb number 32)
        gate (Err r) = p

    switch_past : rows_of l.image Connections ≤ i → record_at (switch_all_of l number position).state i ≡ c
    unfolding switched_all
    switch_past out =
        switched_by (λ (x : Connection). x ≡ c) refl (each-past (switch_at number position) zero_record 0 (rows_of l.image Connections)
        l.state.connections i out)

    pub switches_alone : OnlySwitches c (record_at (switch_all_of l number position).state i)
    unfolding switched_all
    switches_alone =
        switched_by (OnlySwitches c) refl (each_at zero_record (switch_at number position) (OnlySwitches c) 0 (rows_of l.image Connections)
        l.state.connections i refl refl)

-- A COUNT READ, OR READ AND CLEARED: no record
module _ (l : Lent) (protocol : ℕ) where
  abbrev kept : Counted → Type 0
  kept x = x.state.connections ≡ l.state.connections

  by_protocol : (f : Bool → Counted) → ((b : Bool) → kept (f b)) → kept (through (gate_of l) (uncounted l.state) (of_protocol f (uncounted
      l.state Denied) protocol))
  unfolding of_protocol
  by_protocol f is = gate (gate_of l)
    where
      inner : (x y : Bool) → kept (cond x (f false) (cond y (f true) (uncounted l.state Denied)))
      inner true y = is false
      inner false true = is true
      inner false false = refl

      gate : (g : Result Unit Refusal) → kept (through g (uncounted l.state) (cond (eqb protocol 1) (f false) (cond (eqb protocol 2) (f true) (uncounted
          l.state Denied))))
      gate (Ok tt) = inner (eqb protocol 1) (eqb protocol 2)
      gate (Err r) = refl

  pub read-records : kept (read_of l protocol)
  unfolding read_of read_past
  read-records = by_protocol (read_from l.state) (λ b. refl)

  clears : (b : Bool) → kept (clear_from l.state b)
  clears true = refl
  clears false = refl

  pub clear_records : kept (clear_of l protocol)
  unfolding clear_of clear_past
  clear_records = by_protocol (clear_from l.state) clears

-- A TRANSMIT: bytes used, timer and due mark alone
module _ (l : Loan) (pdu : ℕ) (payload : List ℕ) (i : ℕ) where
  abbrev before : Connection
  before = record_at l.state i

  append_alone : (d : DestinationRow) (x : Sending) → OnlySend before (record_at x.state i) → OnlySend before (record_at (append_of d payload x).state i)
  unfolding append_of
  append_alone d x h =
      one_at zero_record x.state.connections d.connection i _ (OnlySend before)
      (λ e. send-over (record_at x.state d.connection) (subst (λ (j : ℕ). OnlySend before (record_at x.state j)) (sym e) h)) h
    where
      send-over : {u t : ℕ} {b : Bool} (k : Connection) → OnlySend before k → with_send u t b k ≡ with_send u t b before
      send-over {u} {t} {b} k q = ap (with_send u t b) q

  store_alone : OnlySend before (record_at (store_all l.image l.state pdu payload l.tx).state i)
  unfolding store_all store_of
  store_alone =
      fold_keeps (store_of l.image l.state pdu payload) (λ (x : Sending). OnlySend before (record_at x.state i)) (destinations l.image) 0 (sending
      l.state l.tx)
      (λ d x low high h. one d x h (wanted_at l.image l.state pdu payload d)) refl
    where
      one : (d : ℕ) (x : Sending) → OnlySend before (record_at x.state i) → (b : Bool)
          → OnlySend before (record_at (cond b (append_of (destination_of l.image d) payload x) x).state i)
      one d x h true = append_alone (destination_of l.image d) x h
      one d x h false = h

  pub sends_alone : OnlySend before (record_at (send_of l pdu payload).state i)
  unfolding send_of transmit_of
  sends_alone = gate (gate_of (sizes l))
    where
      inner : (b : Bool) → OnlySend before (record_at (cond b (store_all l.image l.state pdu payload l.tx) (sending l.state l.tx)).state i)
      inner true = store_alone
      inner false = refl

      gate : (g : Result Unit Refusal) → OnlySend before (record_at (through g (not_sent l.state) (transmitted_of l.image l.state pdu payload l.tx)).state i)
      gate (Ok tt) = inner (is_stored (check_of l.image l.state pdu (length payload)))
      gate (Err r) = refl

-- WHAT IS NOT TOUCHED, of a good machine: the record and the bytes that it holds
module _ (image : List ℕ) (m : Machine) (good : Good image m) (i : ℕ) where
  by_record : (t : State) → record_at t i ≡ record_at m.state i → held_at (view_of t m.rx m.tx) i ≡ held_at (seen m) i
  by_record t e = view_at t m.rx m.tx i ∙ ap (held_of m.rx m.tx i) e ∙ sym (view_at m.state m.rx m.tx i)

  module _ (pdu : ℕ) (payload : List ℕ) (h : Touches image m (transmit pdu payload) i → ⊥) where
    none_goes : (d : ℕ) → d < destinations image → goes_to image m.state pdu payload i d ≡ false
    unfolding wanted_at
    none_goes d low = go (goes_to image m.state pdu payload i d) refl
      where
        row : DestinationRow
        row = destination_of image d

        on : Bool
        on = is_on row.groups (record_at m.state row.connection).switches

        go : (b : Bool) → ((eqb row.pdu pdu && on) && eqb row.connection i) ≡ b → b ≡ false
        go true e =
            let w : (eqb row.pdu pdu && on) ≡ true = and_left (eqb row.pdu pdu && on) (eqb row.connection i) e in
            absurd (h (subst (Touches image m (transmit pdu payload)) (eqb-true _ _ (and_right (eqb row.pdu pdu && on) (eqb row.connection i) e))
            (transmit_stores pdu payload d low (eqb-true _ _ (and_left (eqb row.pdu pdu) on w)) (and_right (eqb row.pdu pdu) on w))))
        go false e = refl

    table : Accepts image
    table = accepted_facts image good.passed.table

    abbrev after : Sending
    after = transmit_of image m.state pdu payload m.tx

    sent-stays : held_at (view_of after.state m.rx after.memory) i ≡ held_at (seen m) i
    unfolding transmit_of
    sent-stays = go (is_stored (check_of image m.state pdu (length payload))) refl
      where
        all : Sending
        all = store_all image m.state pdu payload m.tx

        go : (b : Bool) → is_stored (check_of image m.state pdu (length payload)) ≡ b
            → held_at (view_of (cond b all (sending m.state m.tx)).state m.rx (cond b all (sending m.state m.tx)).memory) i ≡ held_at (seen m) i
        go true e =
            let o = others_stay image (ready_from image table) m.state pdu payload m.tx good.sixteen good.passed.send
            (all_fit image table m.state good.passed.sound) e i none_goes in
            view_at all.state m.rx all.memory i
            ∙ ap₂ (λ (x : Connection) (s : List ℕ). record {
              connection = x;
              received = take (held_by x.part) (stretch 1464 i m.rx);
              waiting = take
                  x.used s;
            }) o.1 o.0
            ∙ sym (view_at m.state m.rx m.tx i)
        go false e = refl

    transmit-stays : held_at (seen (machine (send_of (loan_to image m) pdu payload).state m.rx (sent_memory (loan_to image m) pdu payload))) i ≡ held_at
        (seen m) i
    unfolding send_of sent_memory
    transmit-stays =
        ap (λ (g : Result Unit Refusal). held_at (view_of (through g (not_sent m.state) (transmitted_of image m.state pdu payload m.tx)).state m.rx
        (through g (λ (r : Refusal). m.tx) after.memory)) i) (passed_gate (lent_to image m) good.passed)
        ∙ sent-stays

  past-rows : (i < rows_of image Connections → ⊥) → rows_of image Connections ≤ i
  past-rows h = omega (arith, h)

  pub untouched-stays : (e : Whole) → (Touches image m e i → ⊥) → held_at (seen (after_event image (on_whole e) m)) i ≡ held_at (seen m) i
  unfolding after_event after_whole
  untouched-stays (datagram group source) h =
      by_record (arrival_of (lent_to image m) false group source).state
      (arrival_others (lent_to image m) false group source i (λ e. h (datagram_meets group source i e)))
  untouched-stays (accept group source) h =
      by_record (arrival_of (lent_to image m) true group source).state
      (arrival_others (lent_to image m) true group source i (λ e. h (accept_meets group source i e)))
  untouched-stays tick h = by_record (tick_event (lent_to image m)).state (tick-past (lent_to image m) i (past-rows (λ l. h (tick_each i l))))
  untouched-stays (transmit pdu payload) h = transmit-stays pdu payload h
  untouched-stays (switch_all number position) h =
      by_record (switch_all_of (lent_to image m) number position).state
      (switch_past (lent_to image m) i number position (past-rows (λ l. h (switch_each number position i l))))
  untouched-stays (read_count protocol) h =
      by_record (read_of (lent_to image m) protocol).state (ap (λ (cs : List Connection). get_or cs i zero_record) (read-records (lent_to image m) protocol))
  untouched-stays (clear_count protocol) h =
      by_record (clear_of (lent_to image m) protocol).state (ap (λ (cs : List Connection). get_or cs i zero_record) (clear_records (lent_to image m) protocol))
