-- THE WORDS ARE THE ONLY ONES (R18.9): words that leave the same state from every start are the same, and so are the words of two sheets that do.
use Rattle.std.proofs.Common.{Ok}
use Prim.Native.Nat.{ℕ, ◌+◌, ◌<◌, ◌≤◌, ◌^◌}
use mathlib.Core.Path.{◌≡◌, sym, ap, ◌∙◌}
use mathlib.Core.List.{List}
use native.Mathlib.Omega.{arith}
use native.Mathlib.Decide.{dec_lt}
use lib.ListN.{length, length-set}
use lib.Seq.{get_or-set_same}
use Rattle.connection.specs.declared.Connection.{Connection}
use Rattle.connection.specs.Connection.{zero_record, with_switches}
use Rattle.lists.proofs.Each.{one_at}
use Rattle.state.specs.declared.State.{State}
use Rattle.state.specs.State.{record_at, with_record}
use Rattle.gate.specs.Lent.{Lent, next}
use Rattle.gate.proofs.Pass.{passed-next}
use Rattle.gate.proofs.Records.{record-at, record_set}
use Rattle.entry_events.specs.declared.Told.{Told}
use Rattle.sheet.specs.declared.Words.{Words}
use Rattle.sheet.specs.declared.Switching.{Switching}
use Rattle.sheet.specs.Force.{force_of, pair_at}
use Rattle.sheet.specs.Sheet.{sheet_words}
use Rattle.sheet.proofs.Pairs.{only_pair}
use Rattle.sheet.proofs.Joins.{same_words, agreeing_from, words_full, words_agree, words_width, words_past}
use Rattle.entry_sheet.specs.Apply.{force_at, forced_rows, apply_of}
use Rattle.theorem_sheets.specs.Switched.{table_rows, after_switches, Start, Proper}
use Rattle.law_lists.proofs.Each.{each-own}
use Rattle.theorem_sheets.proofs.Steps.{word_sound}
use Rattle.theorem_sheets.proofs.Sheets.{applied, sheet-words}

-- a row's switches after words are applied
forced_at : (rows : ℕ) (ws : Words) (s : State) (i : ℕ) → i < rows → i < length s.connections
    → (record_at (forced_rows rows ws s) i).switches ≡ force_of (pair_at ws i) (record_at s i).switches
unfolding forced_rows
forced_at rows ws s i h k =
    let z : 0 + i ≡ i = omega arith in
    ap (λ (c : Connection). c.switches) (each-own (force_at ws) zero_record 0 rows i s.connections h k ∙ ap (λ (n : ℕ). force_at ws n (record_at s i)) z)

module _ (l : Lent) (start : Start l) where
  -- the start with other switches of one connection
  with : ℕ → ℕ → State
  with i w = with_record i (with_switches w (record_at l.state i)) l.state

  with-start : (i w : ℕ) → i < table_rows l → i < 16 → w < 2 ^ 32 → Start (next l (with i w))
  unfolding with
  with-start i w h k small =
      let n = start.sixteen in
      record {
        passed =
            passed-next l (with i w) start.passed
            (record_set l.image l.state.connections i _ start.passed.sound
            (word_sound l.image i (record_at l.state i) w (record-at l.image l.state.connections i start.passed.sound (omega arith)) h));
        sixteen = length-set l.state.connections i _ ∙ start.sixteen;
        wide = λ j. one_at zero_record l.state.connections i j _ (λ (c : Connection). c.switches < 2 ^ 32) (λ _. small) (start.wide j);
      }

  module _ (a b : Words) (proper : Proper (table_rows l) a) (other : Proper (table_rows l) b)
      (same : (s : State) → Start (next l s) → apply_of (next l s) a ≡ apply_of (next l s) b) where
    -- a pair does the same from every word
    alike : (i w : ℕ) → i < table_rows l → i < 16 → w < 2 ^ 32 → force_of (pair_at a i) w ≡ force_of (pair_at b i) w
    unfolding with
    alike i w h k small =
        let n = start.sixteen in
        let begin = with-start i w h k small in
        let m = begin.sixteen in
        let is : record_at (with i w) i ≡ with_switches w (record_at l.state i) = get_or-set_same l.state.connections i _ zero_record (omega arith) in
        let e : forced_rows (table_rows l) a (with i w) ≡ forced_rows (table_rows l) b (with i w) =
        ap (λ (t : Told). t.state) (sym (applied (next l (with i w)) begin.passed a proper.agree) ∙ same (with i w) begin
        ∙ applied (next l (with i w)) begin.passed b other.agree) in
        sym (forced_at (table_rows l) a (with i w) i h (omega arith) ∙ ap (λ (c : Connection). force_of (pair_at a i) c.switches) is)
        ∙ ap (λ (t : State). (record_at t i).switches) e
        ∙ forced_at (table_rows l) b (with i w) i h (omega arith) ∙ ap (λ (c : Connection). force_of (pair_at b i) c.switches) is

    pub only_words : a ≡ b
    only_words = same_words a b proper.full other.full (λ i k. go i k (dec_lt i (table_rows l)))
      where
        go : (i : ℕ) → i < 16 → Dec (i < table_rows l) → pair_at a i ≡ pair_at b i
        go i k (yes h) =
            only_pair (pair_at a i) (pair_at b i) (agreeing_from a proper.full proper.agree i k) (agreeing_from b other.full other.agree i k)
            (alike i 0 h k (omega arith)) (alike i _ h k (proper.narrow i)) (alike i _ h k (other.narrow i))
        go i k (no h) = let p : table_rows l ≤ i = omega arith in proper.past i p ∙ sym (other.past i p)

  -- the words of a sheet are such words
  pub sheet_proper : (ss : List Switching) → Proper (table_rows l) (sheet_words (table_rows l) ss)
  sheet_proper ss =
      record {
        full = words_full (table_rows l) ss;
        agree = words_agree (table_rows l) ss;
        narrow = λ i. (words_width (table_rows l) ss i).1;
        past = λ i h. words_past (table_rows l) ss i h;
      }

  -- R18.9: TWO SHEETS THAT LEAVE THE SAME STATE FROM EVERY START HAVE THE SAME WORDS
  pub only_sheets : (ss ts : List Switching) → ((s : State) → Start (next l s) → after_switches (next l s) ss ≡ after_switches (next l s) ts)
      → sheet_words (table_rows l) ss ≡ sheet_words (table_rows l) ts
  only_sheets ss ts same =
      only_words _ _ (sheet_proper ss) (sheet_proper ts)
      (λ s begin. sheet-words (next l s) begin.passed ss ∙ ap (λ (t : State). record { answer = Ok tt; state = t }) (same s begin)
      ∙ sym (sheet-words (next l s) begin.passed ts))
