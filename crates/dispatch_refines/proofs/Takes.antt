-- THE ANSWER OF A SEGMENT EVENT TELLS ITS TAKES, one after the other, and the outcomes that they tell are those that the machine's segment
-- event hands out. Of any image, state, memory and segment.
use Rattle.std.proofs.Common.{Result, Ok, Err}
use Prim.Native.Nat.{ℕ, zero, suc, ◌+◌}
use mathlib.Core.Path.{◌≡◌, refl, sym, ap, ap₂, ◌∙◌}
use mathlib.Core.Bool.{Bool, true, false, cond, ◌&&◌, true≢false}
use mathlib.Core.List.{List, [], ◌∷◌, ◌++◌, append_assoc, append-nil}
use native.Mathlib.Omega.{arith}
use borrow.Author.Tests.{leb-true, leb-false}
use lib.Dec.{leb, ltb}
use lib.ListN.{length, take, drop, length-drop}
use lib.Seq.{drop-drop}
use Rattle.reading.specs.Feed.{Out, pdu, piece}
use Rattle.receive_stream.specs.declared.Outcome.{Outcome}
use Rattle.receive_stream.specs.declared.Outcome.TheVariants as Found
use Rattle.table_layout.specs.Layout.{part_of}
use Rattle.entry_receive.specs.declared.NotReceived.TheVariants.{Refused, NotReceiving}
use Rattle.entry_receive.specs.Answer.{is_done}
use Rattle.entry_receive.specs.Segment.{segment_of, segment_answer, take_on, none_taken, payload_of}
use Rattle.dispatch_receive.specs.Segment.{lent_next, take_bytes, bytes_if_done, Progress, begun, bytes_at, one_take, takes_up_to, all_takes}
use Rattle.model_refines.specs.Machine.{Machine, taken, after_one, rest_of, pdu_told, told_by, goes_on, told_takes, told_segment, loan_to}
use Rattle.dispatch_refines.specs.Told.{Take, bytes_in, out_in, outs_in, next_take, took_then, takes_from}
use Rattle.gate.specs.Lent.{Loan, sizes}
use Rattle.dispatch_refines.proofs.Segment.{either_way, goes-alike, machine_at}
use Rattle.entry_receive.specs.declared.NotReceived.{NotReceived}

-- THE BYTES: a take that is done adds its own, and none comes behind one that is refused
abbrev bytes_for : Take → List ℕ
bytes_for t = take_bytes t.begins t.read t.outcome t.payload

last_bytes : (a : Result Unit NotReceived) (before : List ℕ) (t : Take) (ts : List Take)
    → before ++ bytes_if_done a (bytes_for t) ≡ before ++ bytes_in (took_then (is_done a) false t ts)
unfolding bytes_in
last_bytes (Ok tt) before t ts = ap (λ (l : List ℕ). before ++ l) (sym (append-nil (bytes_for t)))
last_bytes (Err (Refused r)) before t ts = refl
last_bytes (Err NotReceiving) before t ts = refl

more_bytes : (a : Result Unit NotReceived) (left : Bool) (x y : Progress) (before : List ℕ) (t : Take) (ts : List Take)
    → y.bytes ≡ before ++ bytes_if_done a (bytes_for t)
    → x.bytes ≡ y.bytes ++ bytes_in ts
    → (cond (is_done a && left) x y).bytes ≡ before ++ bytes_in (took_then (is_done a) left t ts)
unfolding bytes_in
more_bytes (Ok tt) true x y before t ts e h = h ∙ ap (λ (l : List ℕ). l ++ bytes_in ts) e ∙ append_assoc before (bytes_for t) (bytes_in ts)
more_bytes (Ok tt) false x y before t ts e h = e ∙ last_bytes (Ok tt) before t ts
more_bytes (Err (Refused r)) left x y before t ts e h = e
more_bytes (Err NotReceiving) left x y before t ts e h = e

module _ (l : Loan) (k : ℕ) (seg : List ℕ) where
  abbrev next : Progress → Progress
  next r = one_take l k seg r

  takes-bytes : (n : ℕ) (r : Progress) → (takes_up_to l k seg n r).bytes ≡ r.bytes ++ bytes_in (takes_from l k seg n r)
  unfolding takes_up_to one_take bytes_at takes_from
  takes-bytes zero r = last_bytes (next r).answer r.bytes (next_take l k seg r) []
  takes-bytes (suc n) r =
      more_bytes (next r).answer (ltb (next r).at (length seg)) (takes_up_to l k seg n (next r)) (next r) r.bytes (next_take l k seg r)
      (takes_from l k seg n (next r)) refl (takes-bytes n (next r))

  pub segment-bytes : (all_takes l k seg).bytes ≡ bytes_in (takes_from l k seg (length seg) (begun l.state l.rx))
  segment-bytes = takes-bytes (length seg) (begun l.state l.rx)

-- a part of what is left of a segment is a part of the segment
part-rest : (l : List ℕ) (begins at n : ℕ) → part_of (drop begins l) at n ≡ part_of l (begins + at) n
unfolding part_of
part-rest l begins at n = go (leb (at + n) (length (drop begins l))) (leb (begins + at + n) (length l)) refl refl
  where
    go : (x y : Bool) → leb (at + n) (length (drop begins l)) ≡ x → leb (begins + at + n) (length l) ≡ y
        → cond x (take n (drop at (drop begins l))) [] ≡ cond y (take n (drop (begins + at) l)) []
    go true true e f = ap (take n) (drop-drop at begins l)
    go true false e f =
        let none : n ≡ 0 = omega (arith, length-drop begins l, leb-true (at + n) (length (drop begins l)) e, leb-false (begins + at + n) (length l) f) in
        ap (λ (i : ℕ). take i (drop at (drop begins l))) none
    go false true e f =
        absurd (omega (arith, length-drop begins l, leb-false (at + n) (length (drop begins l)) e, leb-true (begins + at + n) (length l) f))
    go false false e f = refl

-- THE PDUS: a take tells its own, a refused one none
module _ (image : List ℕ) (k : ℕ) (seg : List ℕ) where
  -- the place that the answer names is where the payload stands in the whole segment
  pdu-told : (begins : ℕ) (rx : List ℕ) (o : Outcome)
      → pdu_told image k (payload_of (drop begins seg) rx k o) o ≡ out_in seg begins o (payload_of (drop begins seg) rx k o)
  unfolding payload_of
  pdu-told begins rx Found.More = refl
  pdu-told begins rx (Found.Pdu route id true at n) = ap (λ (l : List ℕ). pdu route l ∷ []) (part-rest seg begins at n)
  pdu-told begins rx (Found.Pdu route id false at n) = refl
  pdu-told begins rx (Found.Drop reason id n) = refl
  pdu-told begins rx (Found.Start route id n last) = refl
  pdu-told begins rx (Found.Piece route id at n last) = ap (λ (l : List ℕ). piece route l last ∷ []) (part-rest seg begins at n)

  last_told : (done : Bool) (ps : List Out) (t : Take) (ts : List Take) → (done ≡ false → ps ≡ []) → ps ≡ out_in seg t.begins t.outcome t.payload
      → ps ++ [] ≡ outs_in seg (took_then done false t ts)
  unfolding outs_in
  last_told true ps t ts none e = ap (λ (l : List Out). l ++ []) e
  last_told false ps t ts none e = append-nil ps ∙ none refl

  more_told : (done left : Bool) (ps x : List Out) (t : Take) (ts : List Take) → (done ≡ false → ps ≡ []) → ps ≡ out_in seg t.begins t.outcome t.payload
      → x ≡ outs_in seg ts → ps ++ cond (done && left) x [] ≡ outs_in seg (took_then done left t ts)
  unfolding outs_in
  more_told true true ps x t ts none e h = ap₂ ◌++◌ e h
  more_told true false ps x t ts none e h = last_told true ps t ts none e
  more_told false left ps x t ts none e h = last_told false ps t ts none e

  none_told : (l : Loan) (bs payload : List ℕ) → is_done (segment_of l k bs).answer ≡ false
      → pdu_told image k payload (segment_of l k bs).outcome ≡ []
  unfolding segment_of take_on
  none_told l bs payload refused = go (is_done (segment_answer (sizes l) k)) refused
    where
      go : (b : Bool) → is_done (cond b (take_on l.image l.state l.rx k bs) (none_taken l.state (segment_answer (sizes l) k))).answer ≡ false
          → pdu_told image k payload (cond b (take_on l.image l.state l.rx k bs) (none_taken l.state (segment_answer (sizes l) k))).outcome ≡ []
      go true e = absurd (true≢false e)
      go false e = refl

module _ (l : Loan) (k : ℕ) (seg : List ℕ) where
  abbrev image : List ℕ
  image = l.image

  abbrev here : Progress → Machine
  here r = machine_at l k seg r

  abbrev rest : Progress → List ℕ
  rest r = drop r.at seg

  -- what the next take tells
  own_told : (r : Progress) → told_by image k (here r) (rest r) ≡ out_in seg r.at (next_take l k seg r).outcome (next_take l k seg r).payload
  own_told r = pdu-told image k seg r.at (after_one image k (here r) (rest r)).rx (taken image k (here r) (rest r)).outcome

  own_none : (r : Progress) → is_done (taken image k (here r) (rest r)).answer ≡ false → told_by image k (here r) (rest r) ≡ []
  own_none r = none_told image k seg (lent_next l k seg r) (rest r) (next_take l k seg r).payload

  takes_told : (n : ℕ) (r : Progress) → told_takes image k (suc n) (here r) (rest r) ≡ outs_in seg (takes_from l k seg n r)
  unfolding told_takes takes_from one_take
  takes_told zero r =
      ap (λ (ps : List Out). told_by image k (here r) (rest r) ++ ps)
      (sym (either_way (goes_on image k (is_done (taken image k (here r) (rest r)).answer) (rest_of image k (here r) (rest r))) []))
      ∙ last_told image k seg (is_done (taken image k (here r) (rest r)).answer)
      (told_by image k (here r) (rest r)) (next_take l k seg r) [] (own_none r) (own_told r)
  takes_told (suc n) r =
      let t = taken image k (here r) (rest r) in
      let r' = one_take l k seg r in
      ap (λ (b : Bool). told_by image k (here r) (rest r) ++ cond b
      (told_takes image k (suc n) (after_one image k (here r) (rest r)) (rest_of image k (here r) (rest r))) [])
      (sym (goes-alike image k (is_done t.answer) t.read r.at seg))
      ∙ more_told image k seg (is_done t.answer) (ltb r'.at (length seg)) (told_by image k (here r) (rest r))
      (told_takes image k (suc n) (after_one image k (here r) (rest r)) (rest_of image k (here r) (rest r))) (next_take l k seg r) (takes_from l k seg n r')
      (own_none r) (own_told r)
      (ap (told_takes image k (suc n) (after_one image k (here r) (rest r))) (drop-drop t.read r.at seg) ∙ takes_told n r')

-- A SEGMENT EVENT: the outcomes that the answer tells, and those that the machine gives
pub segment-takes_told : (image : List ℕ) (k : ℕ) (seg : List ℕ) (m : Machine)
    → outs_in seg (takes_from (loan_to image m) k seg (length seg) (begun m.state m.rx)) ≡ told_segment image k m seg
segment-takes_told image k seg m = sym (takes_told (loan_to image m) k seg (length seg) (begun m.state m.rx))
