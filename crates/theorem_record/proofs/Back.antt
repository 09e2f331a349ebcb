-- A RECORDING IS READ BACK: front, contents rows and bodies of what a recorder wrote, with any bytes behind them.
use Prim.Native.Nat.{ℕ, suc, ◌+◌, ◌*◌, ◌≤◌, ◌<◌, ◌^◌}
use mathlib.Core.Path.{◌≡◌, refl, sym, ap, ap₂, ◌∙◌}
use mathlib.Core.List.{List, [], ◌∷◌, ◌++◌, append_assoc, append-nil}
use native.Mathlib.Omega.{arith}
use borrow.Author.Tests.{leb-true}
use lib.Dec.{ltb, leb}
use lib.ListN.{length, take, drop, length-append, length-drop}
use lib.Seq.{take_at, drop_at, drop-drop, take-append_seam, drop-append_seam}
use Rattle.wire.specs.Lay.{spell}
use Rattle.wire.proofs.Spell.{length-spell}
use Rattle.lists.proofs.Both.{and_right}
use Rattle.table_layout.proofs.Parts.{part-fits}
use Rattle.dispatch_refines.proofs.Read.{number_at}
use Rattle.recording.specs.Recording.{edition_in, entries_in, contents_to, entry_row, stamp_in, number_in, zero_in, body_long}
use Rattle.recording.specs.Entry.{arguments_in, answer_in}
use Rattle.theorem_record.specs.Record.{Noted, note_body, note_row, rows_for, bodies_for, front_for}
use Rattle.theorem_record.specs.Record.{recording_of, Notable, AllNotable, note_at, notes_from, notes_in}
use Rattle.theorem_record.proofs.Numbers.{arguments-in, answer-in}

-- A CONTENTS ROW: its fields
module _ (e : Noted) where
  pub row-length : length (note_row e) ≡ 12
  row-length = simp (length-append, length-spell)

  pub stamp_back : Notable e → stamp_in (note_row e) ≡ e.stamp
  stamp_back n =
      number_at 4 e.stamp [] (spell 2 e.number ++ spell 2 0 ++ spell 4 (length (note_body e))) 0 (omega (arith, n.in_width)) refl (simp append_assoc)

  pub number_back : Notable e → number_in (note_row e) ≡ e.number
  number_back n =
      number_at 2 e.number (spell 4 e.stamp) (spell 2 0 ++ spell 4 (length (note_body e))) 4
      (omega (arith, leb-true e.number 16 (and_right (ltb 0 e.number) (leb e.number 16) n.event))) (length-spell 4 e.stamp) (simp append_assoc)

  pub zero_back : zero_in (note_row e) ≡ 0
  zero_back =
      number_at 2 0 (spell 4 e.stamp ++ spell 2 e.number) (spell 4 (length (note_body e))) 6 (omega arith)
      (simp (length-append, length-spell)) (simp append_assoc)

  pub long_back : Notable e → body_long (note_row e) ≡ length (note_body e)
  long_back n =
      number_at 4 (length (note_body e)) (spell 4 e.stamp ++ spell 2 e.number ++ spell 2 0) [] 8 (omega (arith, n.short))
      (simp (length-append, length-spell))
      (ap (λ (l : List ℕ). spell 4 e.stamp ++ spell 2 e.number ++ spell 2 0 ++ l) (sym (append-nil (spell 4 (length (note_body e))))))

-- ENTRIES AND THEIR BODIES: the rows from row i on, and the bodies from the byte `at` on, with other bytes behind both
pub record WrittenAt (r : List ℕ) (i at : ℕ) (es : List Noted) (behind more : List ℕ) : Type 0 where
  pub rows : drop (contents_to i) r ≡ rows_for es ++ behind
  pub bodies : drop at r ≡ bodies_for es ++ more

module _ {r : List ℕ} {i at : ℕ} {e : Noted} {es : List Noted} {behind more : List ℕ} (s : WrittenAt r i at (e ∷ es) behind more) where
  row_first : drop (contents_to i) r ≡ note_row e ++ (rows_for es ++ behind)
  unfolding rows_for
  row_first = s.rows ∙ append_assoc (note_row e) (rows_for es) behind

  pub row_back : entry_row r i ≡ note_row e
  row_back =
      let long : length (drop (contents_to i) r) ≡ 12 + length (rows_for es ++ behind) =
      ap length row_first ∙ length-append (note_row e) (rows_for es ++ behind) ∙ ap (λ (n : ℕ). n + length (rows_for es ++ behind)) (row-length e) in
      part-fits r (contents_to i) 12 (omega (arith, long, length-drop (contents_to i) r))
      ∙ ap (take 12) row_first
      ∙ take_at (note_row e) (rows_for es ++ behind) 12 (row-length e)

  pub body-first : drop at r ≡ note_body e ++ (bodies_for es ++ more)
  unfolding bodies_for
  body-first = s.bodies ∙ append_assoc (note_body e) (bodies_for es) more

  module _ (n : Notable e) where
    pub long-is : body_long (entry_row r i) ≡ length (note_body e)
    long-is = ap body_long row_back ∙ long_back e n

    pub number_is : number_in (entry_row r i) ≡ e.number
    number_is = ap number_in row_back ∙ number_back e n

    body_back : take (body_long (entry_row r i)) (drop at r) ≡ note_body e
    body_back = ap₂ take long-is body-first ∙ take-append_seam (note_body e) (bodies_for es ++ more)

    -- the entry, and those behind it
    pub note_back : note_at r i at ≡ e
    note_back =
        let stamp : stamp_in (entry_row r i) ≡ e.stamp = ap stamp_in row_back ∙ stamp_back e n in
        let given : arguments_in (number_in (entry_row r i)) (take (body_long (entry_row r i)) (drop at r)) ≡ e.arguments =
        ap₂ arguments_in number_is body_back ∙ arguments-in e.number e.arguments e.answer n.event n.spells in
        let said : answer_in (number_in (entry_row r i)) (take (body_long (entry_row r i)) (drop at r)) ≡ e.answer =
        ap₂ answer_in number_is body_back ∙ answer-in e.number e.arguments e.answer n.event n.spells in
        noted stamp number_is given said
      where
        noted : {a b c d : _} {x y z w : _} → a ≡ x → b ≡ y → c ≡ z → d ≡ w
            → ◌≡◌ {A = Noted} (record { stamp = a; number = b; arguments = c; answer = d }) (record { stamp = x; number = y; arguments = z; answer = w })
        noted p q s t = rw (p, q, s, t) refl

    pub written_on : WrittenAt r (suc i) (at + body_long (entry_row r i)) es behind more
    written_on =
        let on : contents_to i + 12 ≡ contents_to (suc i) = omega arith in
        record {
          rows =
              ap (λ (k : ℕ). drop k r) (sym on) ∙ sym (drop-drop 12 (contents_to i) r)
              ∙ ap (drop 12) row_first ∙ drop_at (note_row e) (rows_for es ++ behind) 12 (row-length e);
          bodies =
              sym (drop-drop (body_long (entry_row r i)) at r)
              ∙ ap₂ drop long-is body-first ∙ drop-append_seam (note_body e) (bodies_for es ++ more);
        }

-- ALL ENTRIES
notes_back : (r : List ℕ) (i at : ℕ) (es : List Noted) (behind more : List ℕ) → WrittenAt r i at es behind more → AllNotable es
    → notes_from r (length es) i at ≡ es
unfolding notes_from
notes_back r i at [] behind more s n = refl
notes_back r i at (e ∷ es) behind more s (n, ns) =
    ap₂ (λ (x : Noted) (xs : List Noted). x ∷ xs) (note_back s n) (notes_back r (suc i) (at + body_long (entry_row r i)) es behind more (written_on s n) ns)

rows-length : (es : List Noted) → length (rows_for es) ≡ length es * 12
unfolding rows_for
rows-length [] = refl
rows-length (e ∷ es) = length-append (note_row e) (rows_for es) ∙ omega (arith, row-length e, rows-length es)

-- THE WHOLE RECORDING, with any bytes behind it
module _ (es : List Noted) (more : List ℕ) (few : length es < 256 ^ 2) where
  abbrev r : List ℕ
  r = recording_of es ++ more

  front_length : length (front_for es) ≡ 4
  front_length = simp (length-append, length-spell)

  pub edition_back : edition_in r ≡ 1
  edition_back = number_at 2 1 [] (spell 2 (length es) ++ rows_for es ++ bodies_for es ++ more) 0 (omega arith) refl (simp append_assoc)

  pub entries_back : entries_in r ≡ length es
  entries_back = number_at 2 (length es) (spell 2 1) (rows_for es ++ bodies_for es ++ more) 2 few (length-spell 2 1) (simp append_assoc)

  -- all rows are there
  pub front-there : contents_to (length es) ≤ length r
  front-there =
      omega (
        arith,
        length-append (front_for es ++ rows_for es ++ bodies_for es) more,
        length-append (front_for es ++ rows_for es) (bodies_for es),
        length-append (front_for es) (rows_for es),
        front_length,
        rows-length es,
      )

  pub made_written : WrittenAt r 0 (contents_to (length es)) es (bodies_for es ++ more) more
  made_written =
      record {
        rows =
            ap (drop 4) (append_assoc (front_for es ++ rows_for es) (bodies_for es) more ∙ append_assoc (front_for es) (rows_for es) (bodies_for es ++ more))
            ∙ drop_at (front_for es) (rows_for es ++ (bodies_for es ++ more)) 4 front_length;
        bodies =
            ap (drop (contents_to (length es))) (append_assoc (front_for es ++ rows_for es) (bodies_for es) more)
            ∙ drop_at (front_for es ++ rows_for es) (bodies_for es ++ more) (contents_to (length es))
            (length-append (front_for es) (rows_for es) ∙ ap₂ ◌+◌ front_length (rows-length es));
      }

-- WHAT A RECORDER WROTE IS READ BACK AS THAT: the calls, their stamps and their answers
pub recording_back : (es : List Noted) (more : List ℕ) → length es < 256 ^ 2 → AllNotable es → notes_in (recording_of es ++ more) ≡ es
recording_back es more few each =
    ap (λ (n : ℕ). notes_from (recording_of es ++ more) n 0 (contents_to n)) (entries_back es more few)
    ∙ notes_back (recording_of es ++ more) 0 (contents_to (length es)) es (bodies_for es ++ more) more (made_written es more few) each
