-- A SEGMENT EVENT, COUNTED FROM THE BYTES OF ITS ANSWER, counts what the machine gives at it (R21.9, R21.10): PDUs, transfers at their end, and drops.
use Rattle.std.proofs.Common.{Result, Ok, Err}
use Prim.Native.Nat.{ℕ, zero, suc, ◌^◌, ◌<◌, ◌≤◌}
use mathlib.Core.Path.{◌≡◌, refl, sym, ap, ap₂, subst, ◌∙◌}
use mathlib.Core.Bool.{false}
use mathlib.Core.List.{List, [], ◌++◌, append_assoc}
use native.Mathlib.Omega.{arith}
use native.Mathlib.Nat.{zero-add}
use lib.Dec.{eqb}
use lib.ListN.{length, drop, length-append}
use lib.Seq.{drop_at}
use Rattle.wire.specs.Be.{be}
use Rattle.wire.specs.Lay.{spell}
use Rattle.wire.proofs.Spell.{length-spell}
use Rattle.reading.specs.Feed.{Out}
use Rattle.reading_lengths.specs.Listed.{Bytes}
use Rattle.connection.specs.Event.{refusal_number}
use Rattle.gate.specs.Lent.{Loan}
use Rattle.entry_receive.specs.declared.NotReceived.TheVariants.{Refused, NotReceiving}
use Rattle.entry_receive.specs.Answer.{is_done}
use Rattle.event_answer.specs.Answers.{refused, done_with}
use Rattle.dispatch_receive.specs.Long.{longest_body}
use Rattle.dispatch_receive.specs.Segment.{Progress, begun, one_take, all_takes, event_bytes}
use Rattle.dispatch_receive.proofs.Run.{first-answer, count_fits}
use Rattle.report_count.specs.declared.Counting.{Counting}
use Rattle.report_count.specs.Count.{takes_counted, takes_in, takes_at}
use Rattle.model_refines.specs.Machine.{Machine, loan_to, told_segment}
use Rattle.dispatch_refines.specs.Told.{Take, bytes_in, outs_in, takes_from}
use Rattle.dispatch_refines.specs.Answer.{takes_over, takes_answer}
use Rattle.dispatch_refines.proofs.Answer.{takes_count}
use Rattle.dispatch_refines.proofs.Read.{number_at, some_number}
use Rattle.dispatch_refines.proofs.Takes.{segment-takes_told}
use Rattle.theorem_tally.specs.Items.{items_from, length_kept}
use Rattle.theorem_tally.proofs.Counted.{Counts, takes_told}
use Rattle.theorem_tally.proofs.Exact.{takes_stand}
use Rattle.entry_receive.specs.declared.NotReceived.{NotReceived}

-- the takes that an answer says it has, and where they stand
done_takes : (ts : List Take) → length ts < 256 ^ 2
    → (takes_in 7 (event_bytes (Ok tt) (length ts) (bytes_in ts)) ≡ length ts)
    × (drop (takes_at 7) (event_bytes (Ok tt) (length ts) (bytes_in ts)) ≡ bytes_in ts)
unfolding takes_in takes_at
done_takes ts few =
    let l : List ℕ = event_bytes (Ok tt) (length ts) (bytes_in ts) in
    let zero-at : be 2 l 0 ≡ 0 = number_at 2 0 [] (spell 2 (length ts) ++ bytes_in ts) 0 (omega arith) refl (simp append_assoc) in
    let count : be 2 l 2 ≡ length ts = number_at 2 (length ts) (spell 2 0) (bytes_in ts) 2 few (length-spell 2 0) (simp append_assoc) in
    (rw (zero-at, count) refl, drop_at (done_with 2 (length ts)) (bytes_in ts) 4 (simp (length-append, length-spell)))

-- a refusal has none
refused_none : (number : ℕ) → number < 256 ^ 2 → eqb number 0 ≡ false → takes_in 7 (refused number 0) ≡ 0
unfolding takes_in
refused_none number h e =
    let z : be 2 (refused number 0) 0 ≡ number = number_at 2 number [] (spell 4 0) 0 h refl refl in
    rw (z, e) refl

empty_count : (k : ℕ) (c : Counting) (x : List ℕ) → takes_counted k 0 x c ≡ takes_counted k 0 [] c
unfolding takes_counted
empty_count k c x = refl

module _ (l : Loan) (k : ℕ) (seg : List ℕ) (bytes : Bytes seg) (not_long : length seg ≤ longest_body) where
  abbrev ts : List Take
  ts = takes_over l k seg

  none-taken : (n : ℕ) (r : Progress) → is_done (one_take l k seg r).answer ≡ false → takes_from l k seg n r ≡ []
  unfolding takes_from
  none-taken zero r e = rw e refl
  none-taken (suc n) r e = rw e refl

  none : is_done (all_takes l k seg).answer ≡ false → ts ≡ []
  unfolding one_take
  none e = none-taken (length seg) (begun l.state l.rx) (sym (ap is_done (first-answer l k seg bytes)) ∙ e)

  -- the count from an answer of the event
  abbrev counted : List ℕ → Counting → Counting
  counted answer c = takes_counted k (takes_in 7 answer) (drop (takes_at 7) answer) c

  abbrev ToldBy : List Out → Counting → Counting → Type 0
  ToldBy os c d = Counts (items_from k c.kept os) c d × (d.kept ≡ length_kept c.kept os)

  no_takes : (c : Counting) (answer : List ℕ) → takes_in 7 answer ≡ 0 → ts ≡ [] → ToldBy (outs_in seg ts) c (counted answer c)
  unfolding bytes_in
  no_takes c answer zero-takes no-ts =
      let is : counted answer c ≡ takes_counted k 0 [] c =
      ap (λ (n : ℕ). takes_counted k n (drop (takes_at 7) answer) c) zero-takes ∙ empty_count k c (drop (takes_at 7) answer) in
      subst (λ (d : Counting). ToldBy (outs_in seg ts) c d) (sym is)
      (subst (λ (xs : List Take). ToldBy (outs_in seg xs) c (takes_counted k 0 [] c)) (sym no-ts) (takes_told k seg [] c tt))

  -- R21.9: what a segment event adds, by the bytes of its answer, is what its takes told
  pub segment-counted : (c : Counting) → ToldBy (outs_in seg ts) c (counted (takes_answer l k seg) c)
  segment-counted c = go (all_takes l k seg).answer refl
    where
      few : (all_takes l k seg).answer ≡ Ok tt → length ts < 256 ^ 2
      few e = omega (arith, zero-add (length ts), takes_count l k seg (length seg) (begun l.state l.rx) (ap is_done e), count_fits l k seg not_long)

      go : (a : Result Unit NotReceived) → (all_takes l k seg).answer ≡ a → ToldBy (outs_in seg ts) c (counted (event_bytes a (length ts) (bytes_in ts)) c)
      go (Ok tt) e =
          let d = done_takes ts (few e) in
          subst (λ (x : Counting). ToldBy (outs_in seg ts) c x)
          (sym (ap₂ (λ (n : ℕ) (x : List ℕ). takes_counted k n x c) d.0 d.1))
          (takes_told k seg ts c (takes_stand l k seg bytes not_long (length seg) (begun l.state l.rx) (omega arith)))
      go (Err (Refused r)) e = no_takes c _ (refused_none (refusal_number r) (some_number r).0 (some_number r).1) (none (ap is_done e))
      go (Err NotReceiving) e = no_takes c _ (refused_none 4 (omega arith) refl) (none (ap is_done e))

-- .. and what the machine gives at the event
pub segment-given : (image : List ℕ) (m : Machine) (k : ℕ) (seg : List ℕ) → Bytes seg → length seg ≤ longest_body → (c : Counting)
    → Counts (items_from k c.kept (told_segment image k m seg)) c
    (takes_counted k (takes_in 7 (takes_answer (loan_to image m) k seg)) (drop (takes_at 7) (takes_answer (loan_to image m) k seg)) c)
    × ((takes_counted k (takes_in 7 (takes_answer (loan_to image m) k seg)) (drop (takes_at 7) (takes_answer (loan_to image m) k seg)) c).kept
    ≡ length_kept c.kept (told_segment image k m seg))
segment-given image m k seg bytes not_long c =
    subst
    (λ (os : List Out). Counts (items_from k c.kept os) c
    (takes_counted k (takes_in 7 (takes_answer (loan_to image m) k seg)) (drop (takes_at 7) (takes_answer (loan_to image m) k seg)) c)
    × ((takes_counted k (takes_in 7 (takes_answer (loan_to image m) k seg)) (drop (takes_at 7) (takes_answer (loan_to image m) k seg)) c).kept
    ≡ length_kept c.kept os))
    (segment-takes_told image k seg m) (segment-counted (loan_to image m) k seg bytes not_long c)
