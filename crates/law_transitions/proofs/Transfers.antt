-- WHAT ENDS A TRANSFER (R19.7), over the entry points. A loss that is done ends a running one, and says so (`loss_fails`); so does a tick where
-- close is wanted (`tick-fails-at`). Every other event that is no take leaves each connection's receive part: open, close, connected, set
-- remote, switch and cancel (`event-part`), a switch on all connections, the counts, a datagram or an accept, a transmit, and taking the
-- waiting bytes. What a take leaves of a transfer is the law of the segment.
use Rattle.std.proofs.Common.{Result, Ok, Err, Option, ℕ, Some, None}
use Prim.Native.Nat.{ℕ, ◌<◌}
use mathlib.Core.Path.{◌≡◌, refl, sym, ap, ◌∙◌, subst}
use mathlib.Core.Bool.{Bool, true, false, cond, not, ◌&&◌}
use mathlib.Core.List.{List}
use native.Mathlib.Decide.{dec_lt}
use native.Mathlib.Omega.{arith}
use lib.Dec.{eqb, leb, ltb}
use borrow.Author.Tests.{le-ltb}
use lib.ListN.{length, get_or, get_or-eq_default}
use lib.Seq.{get_or-set_same}
use Rattle.wire.specs.Bits.{bit_at}
use Rattle.table_layout.specs.Layout.{rows_of}
use Rattle.table_layout.specs.declared.Kind.TheVariants.{Connection as Connections, Group}
use Rattle.table_rows.specs.Rows.{destination_of}
use Rattle.receive_part.specs.Part.{ready_part, transferring}
use Rattle.connection.specs.declared.Config.{Config}
use Rattle.connection.specs.declared.Connection.{Connection}
use Rattle.connection.specs.declared.Remote.{Remote}
use Rattle.connection.specs.declared.Refusal.{Refusal}
use Rattle.connection.specs.declared.Refusal.TheVariants as Refusals
use Rattle.connection.specs.declared.Stepped.{Stepped}
use Rattle.connection.specs.declared.Event.{Event}
use Rattle.connection.specs.declared.Event.TheVariants.{Lost}
use Rattle.connection.specs.Connection.{zero_record, lost_of, failed_of}
use Rattle.connection.specs.Event.{answer_number, allowed, empties, refused_by, step_of}
use Rattle.connection.proofs.Fails.{kept_fails, after-fails}
use Rattle.connection.proofs.Leaves.{after-leaves}
use Rattle.connection.proofs.Ticks.{step-either}
use Rattle.lists.proofs.Each.{part_kept, each_at}
use Rattle.lists.proofs.Fold.{fold_keeps}
use Rattle.state.specs.declared.State.{State}
use Rattle.state.specs.State.{record_at, with_record}
use Rattle.state.specs.Fresh.{config_of}
use Rattle.gate.specs.Lent.{Lent, Loan, sizes}
use Rattle.gate.specs.Gate.{gate_of, gate_at, through, Passed}
use Rattle.gate.proofs.Pass.{passed_gate}
use Rattle.entry_events.specs.declared.Told.{Told}
use Rattle.entry_events.specs.Change.{refused_told, told_of, change_of, event_of, loss_of}
use Rattle.entry_events.specs.Module.{switch_at, switched_all, switch_all_of}
use Rattle.entry_events.specs.Count.{uncounted, read_past, clear_past, read_of, clear_of}
use Rattle.entry_events.proofs.Counts.{read-state, clear_records}
use Rattle.entry_ticks.specs.Tick.{tick_event, ticked_to}
use Rattle.entry_ticks.proofs.Fails.{failed-bit, tick_failed}
use Rattle.select.specs.Choose.{chosen_in, meet, arrival_refused, denied_of, arrive_of}
use Rattle.entry_arrivals.specs.Arrivals.{arrival_of}
use Rattle.send.specs.Verdict.{is_stored}
use Rattle.send.specs.Send.{destinations, Sending, sending, append_of, wanted_at, store_of, store_all, check_of, transmit_of, transmitted_of}
use Rattle.send_waiting.proofs.Taken.{take_part}
use Rattle.entry_send.specs.Sending.{not_sent, send_of, not_taken, take_past, taken_waiting}

-- WHAT LEAVES EVERY PART

-- connection k has in the state t the receive part that it has in s
abbrev pub PartStays : State → State → ℕ → Type 0
PartStays s t k = (record_at t k).part ≡ (record_at s k).part

-- one record replaced by one with the same part
part-set : (s : State) (n k : ℕ) (c : Connection) → c.part ≡ (record_at s n).part → PartStays s (with_record n c s) k
part-set s n k c e = part_kept zero_record (λ (x : Connection). x.part) s.connections n k c e

-- through a gate: a refusal leaves the state
past : {A : Type 0} (f : A → State) (s : State) (k : ℕ) (g : Result Unit Refusal) (refused : Refusal → A) (event : A)
    → ((r : Refusal) → f (refused r) ≡ s) → PartStays s (f event) k → PartStays s (f (through g refused event)) k
past f s k (Ok tt) refused event p q = q
past f s k (Err r) refused event p q = ap (λ (t : State). (record_at t k).part) (p r)

step_part : (e : Event) (g : Config) (c : Connection) → empties e ≡ false → (step_of e g c).connection.part ≡ c.part
step_part e g c n =
    step-either e g c (λ (d : Connection). d.part ≡ c.part) (λ _. refl)
    (λ _. (after-leaves e g c).part ∙ ap (λ (b : Bool). cond b ready_part c.part) n)

module _ (l : Lent) (k : ℕ) where
  abbrev s : State
  s = l.state

  told_part : (n : ℕ) (a : Result Unit Refusal) (c : Connection) → c.part ≡ (record_at s n).part → PartStays s (told_of s n a c).state k
  unfolding told_of
  told_part n (Ok tt) c e = part-set s n k c e
  told_part n (Err r) c e = refl

  -- open, close, connected, set remote, switch, cancel: every event of the record alone but a loss
  pub event-part : (n : ℕ) (e : Event) → empties e ≡ false → PartStays s (event_of l n e).state k
  unfolding event_of change_of
  event-part n e h =
      past (λ t. t.state) s k (gate_at l n) (refused_told s) (change_of l.image s n e) (λ r. refl)
      (told_part n _ _ (step_part e (config_of l.image n) (record_at s n) h))

  pub switch_all-part : (number : ℕ) (on : Bool) → PartStays s (switch_all_of l number on).state k
  unfolding switch_all_of switched_all
  switch_all-part number on =
      past (λ t. t.state) s k (gate_of l) (refused_told s) _ (λ r. refl) (go (ltb number 32))
    where
      rows : ℕ
      rows = rows_of l.image Connections

      go : (b : Bool)
          → PartStays s (cond b (record { answer = Ok tt; state = switched_all rows number on s }) (refused_told s Refusals.Missing)).state k
      go true = each_at zero_record (switch_at number on) (λ (c : Connection). c.part ≡ (record_at s k).part) 0 rows s.connections k refl refl
      go false = refl

  pub read-part : (p : ℕ) → PartStays s (read_of l p).state k
  unfolding read_of
  read-part p =
      past (λ t. t.state) s k (gate_of l) (uncounted s) (read_past s p) (λ r. refl) (ap (λ (t : State). (record_at t k).part) (read-state s p))

  pub clear_part : (p : ℕ) → PartStays s (clear_of l p).state k
  unfolding clear_of
  clear_part p =
      past (λ t. t.state) s k (gate_of l) (uncounted s) (clear_past s p) (λ r. refl)
      (ap (λ (cs : List Connection). (get_or cs k zero_record).part) (clear_records s p))

  -- a datagram or an accept
  pub arrival_part : (accept : Bool) (group : ℕ) (source : Remote) → PartStays s (arrival_of l accept group source).state k
  unfolding arrival_of arrive_of
  arrival_part accept group source =
      past (λ t. t.state) s k (gate_of l) (arrival_refused s) (arrive_of l.image s accept group source) (λ r. refl)
      (go (leb (rows_of l.image Group) group) (denied_of l.image accept group source) (chosen_in l.image s accept group source))
    where
      go : (x y : Bool) (who : Option ℕ)
          → PartStays s (cond x (arrival_refused s Refusals.Missing) (cond y (arrival_refused s Refusals.Denied) (meet l.image s source who))).state k
      go true y who = refl
      go false true who = refl
      go false false None = refl
      go false false (Some n) = part-set s n k _ refl

-- A TRANSMIT
module _ (l : Loan) (k : ℕ) where
  stored_part : (pdu : ℕ) (payload : List ℕ) (x : Sending) (i : ℕ) → PartStays l.state x.state k
      → PartStays l.state (store_of l.image l.state pdu payload x i).state k
  unfolding store_of append_of
  stored_part pdu payload x i p = go (wanted_at l.image l.state pdu payload i)
    where
      go : (b : Bool) → PartStays l.state (cond b (append_of (destination_of l.image i) payload x) x).state k
      go true = part-set x.state (destination_of l.image i).connection k _ refl ∙ p
      go false = p

  pub send-part : (pdu : ℕ) (payload : List ℕ) → PartStays l.state (send_of l pdu payload).state k
  unfolding send_of transmit_of store_all
  send-part pdu payload =
      past (λ t. t.state) l.state k (gate_of (sizes l)) (not_sent l.state) (transmitted_of l.image l.state pdu payload l.tx) (λ r. refl)
      (go (is_stored (check_of l.image l.state pdu (length payload))))
    where
      go : (b : Bool) → PartStays l.state (cond b (store_all l.image l.state pdu payload l.tx) (sending l.state l.tx)).state k
      go true =
          fold_keeps (store_of l.image l.state pdu payload) (λ (x : Sending). PartStays l.state x.state k)
          (destinations l.image) 0 (sending l.state l.tx) (λ i x _ _ p. stored_part pdu payload x i p) refl
      go false = refl

  -- taking the waiting bytes
  pub taken-part : (n : ℕ) (out : List ℕ) → PartStays l.state (taken_waiting l n out).state k
  unfolding taken_waiting
  taken-part n out =
      past (λ t. t.state) l.state k (gate_at (sizes l) n) (not_taken l.state) (take_past l.image l.state n (length out)) (λ r. refl)
      (part-set l.state n k _ (take_part (config_of l.image n) (length out) (record_at l.state n)))

-- so none of them ends a transfer
pub stays-fails : (s t : State) (k : ℕ) → PartStays s t k → failed_of (record_at s k) (record_at t k) ≡ false
stays-fails s t k e = kept_fails (record_at s k) (record_at t k) e

-- WHAT ENDS ONE

-- a record put in its place, where it is one of the sixteen; else there is none
put_fails : (s : State) (n : ℕ) (d : Connection) → failed_of (record_at s n) d ≡ transferring (record_at s n).part
    → failed_of (record_at s n) (record_at (with_record n d s) n) ≡ transferring (record_at s n).part
put_fails s n d e = go (dec_lt n (length s.connections))
  where
    go : Dec (n < length s.connections) → failed_of (record_at s n) (record_at (with_record n d s) n) ≡ transferring (record_at s n).part
    go (yes h) = ap (failed_of (record_at s n)) (get_or-set_same s.connections n d zero_record h) ∙ e
    go (no h) =
        subst (λ (c : Connection). failed_of c (record_at (with_record n d s) n) ≡ transferring c.part)
        (sym (get_or-eq_default s.connections zero_record (omega arith))) refl

refused-number : (r : Refusal) → eqb (answer_number (Err r)) 0 ≡ false
refused-number Refusals.Memory = refl
refused-number Refusals.Unsound = refl
refused-number Refusals.Missing = refl
refused-number Refusals.Denied = refl

module _ (l : Lent) (n : ℕ) where
  -- what a loss says, of an answer and the state that it leaves
  abbrev Says : Result Unit Refusal → State → Type 0
  Says a t = failed_of (record_at l.state n) (record_at t n) ≡ (eqb (answer_number a) 0 && transferring (record_at l.state n).part)

  refused_says : (r : Refusal) → Says (Err r) l.state
  refused_says r =
      kept_fails (record_at l.state n) (record_at l.state n) refl
      ∙ sym (ap (λ (b : Bool). b && transferring (record_at l.state n).part) (refused-number r))

  -- A LOSS SAYS FAILED exactly where its answer is 0 and a transfer ran
  pub loss_fails : (loss_of l n).failed ≡ (eqb (answer_number (loss_of l n).answer) 0 && transferring (record_at l.state n).part)
  unfolding loss_of event_of change_of told_of step_of
  loss_fails = gone (gate_at l n)
    where
      g : Config
      g = config_of l.image n

      c : Connection
      c = record_at l.state n

      done : Stepped
      done = record { answer = Ok tt; connection = lost_of g c }

      -- by what the record answers
      told : Stepped → Type 0
      told x = Says (told_of l.state n x.answer x.connection).answer (told_of l.state n x.answer x.connection).state

      go : (b : Bool) → told (cond (not b) (refused_by Refusals.Denied c) done)
      go false = refused_says Refusals.Denied
      go true = put_fails l.state n (lost_of g c) (after-fails g c Lost)

      -- by the gate
      past_gate : Result Unit Refusal → Told
      past_gate q = through q (refused_told l.state) (change_of l.image l.state n Lost)

      gone : (q : Result Unit Refusal) → Says (past_gate q).answer (past_gate q).state
      gone (Err r) = refused_says r
      gone (Ok tt) = go (allowed Lost g c)

-- A TICK SAYS bit k exactly where connection k is there, is to be closed, and its transfer ran
pub tick-fails-at : (l : Lent) (k : ℕ) → Passed l
    → bit_at k (tick_event l).failed
    ≡ cond (ltb k (rows_of l.image Connections) && ((record_at l.state k).close_wanted && transferring (record_at l.state k).part)) 1 0
unfolding tick_event
tick-fails-at l k p =
    rw (passed_gate l p)
    (failed-bit l.state (ticked_to l.image rows l.state) rows k ∙ ap (λ (b : Bool). cond b 1 0) (inside (dec_lt k rows)))
  where
    rows : ℕ
    rows = rows_of l.image Connections

    ends : Bool
    ends = (record_at l.state k).close_wanted && transferring (record_at l.state k).part

    inside : Dec (k < rows) → (ltb k rows && failed_of (record_at l.state k) (record_at (ticked_to l.image rows l.state) k)) ≡ (ltb k rows && ends)
    inside (yes h) = ap (λ (b : Bool). ltb k rows && b) (tick_failed l.image rows l.state k h)
    inside (no h) = rw (le-ltb k rows (omega arith))
