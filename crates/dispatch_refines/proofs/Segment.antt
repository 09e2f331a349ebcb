-- THE SEGMENT EVENT OF THE DISPATCHER IS THE MACHINE'S: all takes over a segment leave the state and the receive memory that the machine's
-- segment event leaves. Of any image, state, memory and segment.
use Prim.Native.Nat.{ℕ, zero, suc, ◌+◌}
use mathlib.Core.Path.{◌≡◌, refl, sym, ap, ◌∙◌}
use mathlib.Core.Bool.{Bool, true, false, cond, ◌&&◌}
use mathlib.Core.List.{List, [], ◌∷◌}
use lib.Dec.{ltb, leb-zero, leb-suc-zero, leb-suc-suc}
use lib.ListN.{length, drop}
use lib.Seq.{drop-drop}
use Rattle.gate.specs.Lent.{Loan}
use Rattle.entry_receive.specs.Answer.{is_done}
use Rattle.dispatch_receive.specs.Segment.{Progress, begun, one_take, takes_up_to, all_takes}
use Rattle.model_refines.specs.Machine.{Machine, machine, taken, after_one, rest_of, goes_on, after_takes, after_segment, loan_to}

pub either_way : {A : Type 0} (b : Bool) (x : A) → x ≡ cond b x x
either_way true x = refl
either_way false x = refl

-- whether bytes are left, by the place or by the list
left_by : (at : ℕ) (l : List ℕ) → ltb at (length l) ≡ ltb 0 (length (drop at l))
left_by zero l = refl
left_by (suc at) [] = leb-suc-zero (suc at) ∙ sym (leb-suc-zero 0)
left_by (suc at) (x ∷ l) = leb-suc-suc (suc at) (length l) ∙ left_by at l

module _ (image : List ℕ) (k : ℕ) where
  goes_by : (done : Bool) (l : List ℕ) → done && ltb 0 (length l) ≡ goes_on image k done l
  goes_by true [] = leb-suc-zero 0
  goes_by false [] = refl
  goes_by true (x ∷ l) = leb-suc-suc 0 (length l) ∙ leb-zero (length l)
  goes_by false (x ∷ l) = refl

  -- whether another take follows
  pub goes-alike : (done : Bool) (read at : ℕ) (seg : List ℕ) → done && ltb (at + read) (length seg) ≡ goes_on image k done (drop read (drop at seg))
  goes-alike done read at seg =
      ap (λ (b : Bool). done && b) (left_by (at + read) seg ∙ ap (λ (l : List ℕ). ltb 0 (length l)) (sym (drop-drop read at seg)))
      ∙ goes_by done (drop read (drop at seg))

module _ (l : Loan) (k : ℕ) (seg : List ℕ) where
  abbrev image : List ℕ
  image = l.image

  -- the machine as far as the takes are
  abbrev pub machine_at : Progress → Machine
  machine_at r = machine r.state r.rx l.tx

  machine_if : (b : Bool) (x y : Progress) → machine_at (cond b x y) ≡ cond b (machine_at x) (machine_at y)
  machine_if true x y = refl
  machine_if false x y = refl

  abbrev next : Progress → Progress
  next r = one_take l k seg r

  abbrev many : ℕ → Progress → Progress
  many n r = takes_up_to l k seg n r

  pub takes-machine : (n : ℕ) (r : Progress) → machine_at (many n r) ≡ after_takes image k (suc n) (machine_at r) (drop r.at seg)
  unfolding takes_up_to one_take after_takes
  takes-machine zero r =
      either_way (goes_on image k (is_done (taken image k (machine_at r) (drop r.at seg)).answer) (rest_of image k (machine_at r) (drop r.at seg)))
      (after_one image k (machine_at r) (drop r.at seg))
  takes-machine (suc n) r =
      let t = taken image k (machine_at r) (drop r.at seg) in
      machine_if (is_done t.answer && ltb (r.at + t.read) (length seg)) (many n (next r)) (next r)
      ∙ ap (λ (x : Machine). cond (is_done t.answer && ltb (r.at + t.read) (length seg)) x (after_one image k (machine_at r) (drop r.at seg)))
      (takes-machine n (next r) ∙ ap (after_takes image k (suc n) (after_one image k (machine_at r) (drop r.at seg))) (sym (drop-drop t.read r.at seg)))
      ∙ ap (λ (b : Bool). cond b
      (after_takes image k (suc n) (after_one image k (machine_at r) (drop r.at seg)) (rest_of image k (machine_at r) (drop r.at seg)))
      (after_one image k (machine_at r) (drop r.at seg)))
      (goes-alike image k (is_done t.answer) t.read r.at seg)

-- A SEGMENT EVENT, of either
pub segment-machine : (image : List ℕ) (k : ℕ) (seg : List ℕ) (m : Machine)
    → machine (all_takes (loan_to image m) k seg).state (all_takes (loan_to image m) k seg).rx m.tx ≡ after_segment image k m seg
segment-machine image k seg m = takes-machine (loan_to image m) k seg (length seg) (begun m.state m.rx)
