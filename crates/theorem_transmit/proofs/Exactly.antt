-- EACH ANSWER OF A TRANSMIT IS GIVEN EXACTLY WHEN ITS RULE SAYS SO, the destination of 4, 7 and 8 named, from any table, state and memory.
use Rattle.std.proofs.Common.{Result, Ok, Err}
use Prim.Native.Nat.{ℕ, ◌+◌, ◌<◌, ◌≤◌}
use mathlib.Core.Path.{◌≡◌, refl, sym, ◌∙◌, subst}
use mathlib.Core.Logic.{◌↔◌}
use mathlib.Core.Bool.{Bool, true, false, cond, not, ◌&&◌, ◌||◌, false≢true}
use mathlib.Core.List.{List}
use native.Mathlib.Omega.{arith}
use native.Mathlib.Decide.{dec_lt}
use lib.Dec.{eqb, ltb}
use lib.ListN.{length}
use borrow.Author.Tests.{eqb-true, eqb-false, ltb-true, ltb-false, lt-ltb, le-ltb}
use Rattle.lists.specs.Search.{first_bad, every}
use Rattle.lists.proofs.Both.{impossible}
use Rattle.lists.proofs.Search.{every-at, every-all, pass_failed, found-bad}
use Rattle.law_lists.proofs.First.{before-bad, bad-only, bad_none}
use Rattle.table_rows.specs.declared.DestinationRow.{DestinationRow}
use Rattle.table_rows.specs.Rows.{connection_of, destination_of}
use Rattle.switches.specs.Switches.{is_on}
use Rattle.connection.specs.declared.Connection.{Connection}
use Rattle.connection.specs.Connection.{is_online}
use Rattle.connection.specs.Event.{receiving}
use Rattle.state.specs.declared.State.{State}
use Rattle.gate.specs.Lent.{Loan, sizes}
use Rattle.gate.specs.Gate.{gate_of, through}
use Rattle.send_destination.specs.Destination.{refusal_of, look_of}
use Rattle.send.specs.declared.NotSent.TheVariants.{Refused, NoDestination, SwitchedOff, RefusedAt}
use Rattle.send.specs.Verdict.{is_out, passes, decided_at, verdict_of}
use Rattle.send.specs.Send.{destinations, look_at, check_of, transmitted_of}
use Rattle.entry_send.specs.Sending.{not_sent, send_of}
use Rattle.theorem_transmit.specs.Exactly.{sender_of, HasPdu, IsOn, Asked, TakesAll, RefusesBy}
use Rattle.theorem_transmit.specs.Exactly.{not-online, too_long, no_room, FirstRefusing, PastGate, ExactlyWhen}
use Rattle.connection.specs.declared.Refusal.{Refusal}
use Rattle.send.specs.declared.NotSent.{NotSent}

-- where not all are good, one is not
some-bad : (good : ℕ → Bool) (n : ℕ) → every good n ≡ false → (i : ℕ) × (i < n) × (good i ≡ false)
some-bad good n e = go (dec_lt (first_bad good n) n)
  where
    go : Dec (first_bad good n < n) → (i : ℕ) × (i < n) × (good i ≡ false)
    go (yes l) = (first_bad good n, l, found-bad good n l)
    go (no l) = impossible (sym e ∙ every-all good n (λ i h. before-bad good n i (omega (arith, l, h))))

module _ (image : List ℕ) (s : State) (pdu len : ℕ) where
  abbrev look : ℕ → ℕ
  look = look_at image s pdu len

  abbrev d : ℕ → DestinationRow
  d i = destination_of image i

  abbrev c : ℕ → Connection
  c i = sender_of image s pdu len i

  abbrev rows : ℕ
  rows = destinations image

  -- WHAT ROW i SAYS
  data Says (i : ℕ) : ℕ → Type 0 where
    other : ((d i).pdu ≡ pdu → ⊥) → Says i 5
    off : (d i).pdu ≡ pdu → is_on (d i).groups (c i).switches ≡ false → Says i 6
    refusing : (n : ℕ) → (d i).pdu ≡ pdu → IsOn image s pdu len i → RefusesBy image s pdu len i n → Says i n
    taking : (d i).pdu ≡ pdu → IsOn image s pdu len i → TakesAll image s pdu len i → Says i 0

  -- online without close wanted, by the test that a destination makes
  receives-is : (x y : Bool) → (not x || y) ≡ not (x && not y)
  receives-is true true = refl
  receives-is true false = refl
  receives-is false y = refl

  says : (i : ℕ) → Says i (look i)
  unfolding look_at look_of refusal_of
  says i = has (eqb (d i).pdu pdu) refl
    where
      size : ℕ
      size = (connection_of image (d i).connection).size

      room : (d i).pdu ≡ pdu → IsOn image s pdu len i → receiving (c i) ≡ true
          → len ≤ (d i).longest → (b : Bool) → ltb size ((c i).used + 8 + len) ≡ b → Says i (cond b 8 0)
      room p q r t true e = refusing 8 p q (no_room r t (ltb-true size ((c i).used + 8 + len) e))
      room p q r t false e = taking p q (record { receives = r; short = t; room = ltb-false size ((c i).used + 8 + len) e })

      short : (d i).pdu ≡ pdu → IsOn image s pdu len i → receiving (c i) ≡ true → (b : Bool) → ltb (d i).longest len ≡ b
          → Says i (cond b 7 (cond (ltb size ((c i).used + 8 + len)) 8 0))
      short p q r true e = refusing 7 p q (too_long r (ltb-true (d i).longest len e))
      short p q r false e = room p q r (ltb-false (d i).longest len e) (ltb size ((c i).used + 8 + len)) refl

      online : (d i).pdu ≡ pdu → IsOn image s pdu len i → (b : Bool) → receiving (c i) ≡ b
          → Says i (cond (not b) 4 (cond (ltb (d i).longest len) 7 (cond (ltb size ((c i).used + 8 + len)) 8 0)))
      online p q false e = refusing 4 p q (not-online e)
      online p q true e = short p q e (ltb (d i).longest len) refl

      on : (d i).pdu ≡ pdu → (b : Bool) → is_on (d i).groups (c i).switches ≡ b → Says i (cond (not b) 6 (refusal_of len size (d i) (c i)))
      on p false e = off p e
      on p true e = rw (receives-is (is_online (c i).mode) (c i).close_wanted) (online p e (receiving (c i)) refl)

      has : (b : Bool) → eqb (d i).pdu pdu ≡ b → Says i (cond (not b) 5 (look_of len size (d i) (c i)))
      has false e = other (eqb-false (d i).pdu pdu e)
      has true e = on (eqb-true (d i).pdu pdu e) (is_on (d i).groups (c i).switches) refl

  -- a destination does not take and refuse, and refuses by one number
  not_both : (i n : ℕ) → TakesAll image s pdu len i → RefusesBy image s pdu len i n → ⊥
  not_both i _ t (not-online r) = false≢true (sym r ∙ t.receives)
  not_both i _ t (too_long r l) = omega (arith, t.short, l)
  not_both i _ t (no_room r l u) = omega (arith, t.room, u)

  one_number : (i m n : ℕ) → RefusesBy image s pdu len i m → RefusesBy image s pdu len i n → m ≡ n
  one_number i _ _ (not-online r) (not-online q) = refl
  one_number i _ _ (not-online r) (too_long q _) = impossible (sym r ∙ q)
  one_number i _ _ (not-online r) (no_room q _ _) = impossible (sym r ∙ q)
  one_number i _ _ (too_long r _) (not-online q) = impossible (sym q ∙ r)
  one_number i _ _ (too_long r l) (too_long q _) = refl
  one_number i _ _ (too_long r l) (no_room q u _) = absurd (omega (arith, l, u))
  one_number i _ _ (no_room r _ _) (not-online q) = impossible (sym q ∙ r)
  one_number i _ _ (no_room r u _) (too_long q l) = absurd (omega (arith, l, u))
  one_number i _ _ (no_room r _ _) (no_room q _ _) = refl

  -- what the tests of a row's number tell
  record Tested (i n : ℕ) : Type 0 where
    pub five : eqb n 5 ≡ true → (d i).pdu ≡ pdu → ⊥
    pub has : eqb n 5 ≡ false → (d i).pdu ≡ pdu
    pub out : is_out n ≡ true → (d i).pdu ≡ pdu → IsOn image s pdu len i → ⊥
    pub asked : is_out n ≡ false → ((d i).pdu ≡ pdu) × IsOn image s pdu len i
    pub takes : passes n ≡ true → (d i).pdu ≡ pdu → IsOn image s pdu len i → TakesAll image s pdu len i
    pub refuses : passes n ≡ false → ((d i).pdu ≡ pdu) × IsOn image s pdu len i × RefusesBy image s pdu len i n

  -- of one that is on
  refusing_tested : (i n : ℕ) → eqb n 5 ≡ false → is_out n ≡ false → passes n ≡ false
      → (d i).pdu ≡ pdu → IsOn image s pdu len i → RefusesBy image s pdu len i n → Tested i n
  refusing_tested i n a b e p q r =
      record {
        five = λ h. impossible (sym a ∙ h);
        has = λ _. p;
        out = λ h. impossible (sym b ∙ h);
        asked = λ _. (p, q);
        takes = λ h. impossible (sym e ∙ h);
        refuses = λ _. (p, q, r);
      }

  tested : (i n : ℕ) → Says i n → Tested i n
  tested i _ (other ne) =
      record {
        five = λ _. ne;
        has = λ h. impossible (sym h);
        out = λ _ p. absurd (ne p);
        asked = λ h. impossible (sym h);
        takes = λ _ p. absurd (ne p);
        refuses = λ h. impossible (sym h);
      }
  tested i _ (off p e) =
      record {
        five = λ h. impossible h;
        has = λ _. p;
        out = λ _ _ q. false≢true (sym e ∙ q);
        asked = λ h. impossible (sym h);
        takes = λ _ _ q. impossible (sym e ∙ q);
        refuses = λ h. impossible (sym h);
      }
  tested i _ (refusing _ p q (not-online r)) = refusing_tested i 4 refl refl refl p q (not-online r)
  tested i _ (refusing _ p q (too_long r l)) = refusing_tested i 7 refl refl refl p q (too_long r l)
  tested i _ (refusing _ p q (no_room r l u)) = refusing_tested i 8 refl refl refl p q (no_room r l u)
  tested i _ (taking p q t) =
      record {
        five = λ h. impossible h;
        has = λ _. p;
        out = λ h. impossible h;
        asked = λ _. (p, q);
        takes = λ _ _ _. t;
        refuses = λ h. impossible (sym h);
      }

  row : (i : ℕ) → Tested i (look i)
  row i = tested i (look i) (says i)

  -- THE CHECK'S ANSWER has what it says
  first_refusing : (k : ℕ) → k ≡ first_bad (λ i. passes (look i)) rows → k < rows → FirstRefusing image s pdu len (look k) k
  first_refusing k is l =
      let f = (row k).refuses (rw (← is) at (found-bad (λ i. passes (look i)) rows (rw is at l))) in
      record {
        asked = (record { there = l; its = f.0 }, f.1);
        refuses = f.2;
        before = λ j h a. (row j).takes (before-bad (λ i. passes (look i)) rows j (rw is at h)) a.0.its a.1;
      }

  check-says : PastGate image s pdu len (check_of image s pdu len)
  unfolding check_of verdict_of
  check-says = nowhere (every (λ i. eqb (look i) 5) rows) refl
    where
      first : ℕ
      first = first_bad (λ i. passes (look i)) rows

      decides : every (λ i. is_out (look i)) rows ≡ false → (b : Bool) → ltb first rows ≡ b
          → PastGate image s pdu len (cond b (Err (RefusedAt (look first) first)) (Ok tt))
      decides f true e = first_refusing first refl (ltb-true first rows e)
      decides f false e =
          let x = some-bad (λ i. is_out (look i)) rows f in
          let a = (row x.0).asked x.2 in (
            (x.0, (record { there = x.1; its = a.0 }, a.1)),
            λ i h. (row i).takes (before-bad (λ j. passes (look j)) rows i (omega (arith, h.0.there, ltb-false first rows e))) h.0.its h.1,
          )

      offs : every (λ i. eqb (look i) 5) rows ≡ false → (b : Bool) → every (λ i. is_out (look i)) rows ≡ b
          → PastGate image s pdu len (cond b (Err SwitchedOff) (decided_at look rows first))
      offs f true e =
          let x = some-bad (λ i. eqb (look i) 5) rows f in (
            (x.0, record { there = x.1; its = (row x.0).has x.2 }),
            λ i a. (row i).out (every-at (λ j. is_out (look j)) rows i e a.0.there) a.0.its a.1,
          )
      offs f false e = decides e (ltb first rows) refl

      nowhere : (b : Bool) → every (λ i. eqb (look i) 5) rows ≡ b
          → PastGate image s pdu len (cond b (Err NoDestination) (cond (every (λ i. is_out (look i)) rows) (Err SwitchedOff) (decided_at look rows first)))
      nowhere true e = λ i h. (row i).five (every-at (λ j. eqb (look j) 5) rows i e h.there) h.its
      nowhere false e = offs e (every (λ i. is_out (look i)) rows) refl

  -- ONLY ONE ANSWER HAS WHAT IT SAYS
  some-has : (i : ℕ) → HasPdu image s pdu len i → every (λ j. eqb (look j) 5) rows ≡ false
  some-has i h = sym (pass_failed (λ j. eqb (look j) 5) rows i h.there (go (eqb (look i) 5) refl))
    where
      go : (b : Bool) → eqb (look i) 5 ≡ b → b ≡ false
      go true e = absurd ((row i).five e h.its)
      go false e = refl

  some-asked : (i : ℕ) → Asked image s pdu len i → every (λ j. is_out (look j)) rows ≡ false
  some-asked i a = sym (pass_failed (λ j. is_out (look j)) rows i a.0.there (go (is_out (look i)) refl))
    where
      go : (b : Bool) → is_out (look i) ≡ b → b ≡ false
      go true e = absurd ((row i).out e a.0.its a.1)
      go false e = refl

  takes_pass : (i : ℕ) → i < rows → (Asked image s pdu len i → TakesAll image s pdu len i) → passes (look i) ≡ true
  takes_pass i l t = go (passes (look i)) refl
    where
      go : (b : Bool) → passes (look i) ≡ b → b ≡ true
      go true e = refl
      go false e = let f = (row i).refuses e in absurd (not_both i (look i) (t (record { there = l; its = f.0 }, f.1)) f.2)

  refuses_look : (i n : ℕ) → Asked image s pdu len i → RefusesBy image s pdu len i n → (passes (look i) ≡ false) × (look i ≡ n)
  refuses_look i n a r = go (passes (look i)) refl
    where
      go : (b : Bool) → passes (look i) ≡ b → (b ≡ false) × (look i ≡ n)
      go true e = absurd (not_both i n ((row i).takes e a.0.its a.1) r)
      go false e = (refl, one_number i (look i) n ((row i).refuses e).2 r)

  check-given : (x : Result Unit NotSent) → PastGate image s pdu len x → check_of image s pdu len ≡ x
  unfolding check_of verdict_of
  check-given (Err (Refused r)) h = absurd h
  check-given (Err NoDestination) h =
      let none : every (λ i. eqb (look i) 5) rows ≡ true = every-all (λ i. eqb (look i) 5) rows (λ i l. go i l (eqb (look i) 5) refl) in
      rw none
    where
      go : (i : ℕ) → i < rows → (b : Bool) → eqb (look i) 5 ≡ b → b ≡ true
      go i l true e = refl
      go i l false e = absurd (h i (record { there = l; its = (row i).has e }))
  check-given (Err SwitchedOff) h =
      let none : every (λ i. is_out (look i)) rows ≡ true = every-all (λ i. is_out (look i)) rows (λ i l. go i l (is_out (look i)) refl) in
      rw (some-has h.0.0 h.0.1, none)
    where
      go : (i : ℕ) → i < rows → (b : Bool) → is_out (look i) ≡ b → b ≡ true
      go i l true e = refl
      go i l false e = let a = (row i).asked e in absurd (h.1 i (record { there = l; its = a.0 }, a.1))
  check-given (Err (RefusedAt n k)) h =
      let at = refuses_look k n h.asked h.refuses in
      let first : first_bad (λ i. passes (look i)) rows ≡ k =
      bad-only (λ i. passes (look i)) rows k h.asked.0.there (λ j l. takes_pass j (omega (arith, l, h.asked.0.there)) (h.before j l)) at.0
      in
      rw (some-has k h.asked.0, some-asked k h.asked, first, lt-ltb k rows h.asked.0.there, at.1)
  check-given (Ok tt) h =
      let none : first_bad (λ i. passes (look i)) rows ≡ rows = bad_none (λ i. passes (look i)) rows (λ i l. takes_pass i l (h.1 i)) in
      rw (some-has h.0.0 h.0.1.0, some-asked h.0.0 h.0.1, none, le-ltb rows rows (omega arith))

-- THE ENTRY POINT
module _ (l : Loan) (pdu : ℕ) (payload : List ℕ) where
  abbrev past : Result Unit NotSent → Type 0
  past = PastGate l.image l.state pdu (length payload)

  behind : (x : Result Unit NotSent) → gate_of (sizes l) ≡ Ok tt → past x → ExactlyWhen l pdu payload x
  behind (Err (Refused r)) g h = absurd h
  behind (Err NoDestination) g h = (g, h)
  behind (Err SwitchedOff) g h = (g, h)
  behind (Err (RefusedAt n k)) g h = (g, h)
  behind (Ok tt) g h = (g, h)

  answer-of : Result Unit Refusal → Result Unit NotSent
  answer-of g = (through g (not_sent l.state) (transmitted_of l.image l.state pdu payload l.tx)).answer

  answered : (g : Result Unit Refusal) → gate_of (sizes l) ≡ g → ExactlyWhen l pdu payload (answer-of g)
  unfolding answer-of
  answered (Ok tt) e = behind (check_of l.image l.state pdu (length payload)) e (check-says l.image l.state pdu (length payload))
  answered (Err r) e = e

  passed : (x : Result Unit NotSent) → gate_of (sizes l) ≡ Ok tt → past x → (send_of l pdu payload).answer ≡ x
  unfolding send_of
  passed x g h = rw g (check-given l.image l.state pdu (length payload) x h)

  given : (x : Result Unit NotSent) → ExactlyWhen l pdu payload x → (send_of l pdu payload).answer ≡ x
  unfolding send_of
  given (Err (Refused r)) e = rw e
  given (Err NoDestination) e = passed (Err NoDestination) e.0 e.1
  given (Err SwitchedOff) e = passed (Err SwitchedOff) e.0 e.1
  given (Err (RefusedAt n k)) e = passed (Err (RefusedAt n k)) e.0 e.1
  given (Ok tt) e = passed (Ok tt) e.0 e.1

  told : ExactlyWhen l pdu payload (send_of l pdu payload).answer
  unfolding send_of answer-of
  told = answered (gate_of (sizes l)) refl

  -- EXACTLY WHEN
  pub transmit-answer : (x : Result Unit NotSent) → ((send_of l pdu payload).answer ≡ x) ↔ ExactlyWhen l pdu payload x
  transmit-answer x = (λ (e : (send_of l pdu payload).answer ≡ x). subst (ExactlyWhen l pdu payload) e told, given x)
