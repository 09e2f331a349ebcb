-- THE SEGMENT EVENT, accepted or refused: what the caller's takes leave is the world's step, and what they hand out is the world's
-- list; a sound machine stays sound.
use Rattle.std.proofs.Common.{Result}
use Prim.Native.Nat.{ℕ, zero, suc}
use mathlib.Core.Path.{◌≡◌, refl, sym, ap, ap₂, ◌∙◌, subst}
use mathlib.Core.Bool.{Bool, true, false, cond, ◌&&◌}
use mathlib.Core.List.{List, [], ◌∷◌, ◌++◌, append-nil}
use native.Mathlib.Omega.{arith}
use lib.Dec.{ltb}
use lib.ListN.{length}
use borrow.Author.Tests.{ltb-true}
use Rattle.lists.proofs.Both.{and_left, and_right}
use Rattle.table_layout.specs.Layout.{rows_of}
use Rattle.table_layout.specs.declared.Kind.TheVariants.{Connection as Connections}
use Rattle.connection.specs.declared.Connection.{Connection}
use Rattle.state.specs.State.{record_at}
use Rattle.state.specs.Fresh.{config_of}
use Rattle.reading.specs.Feed.{segment_ran as segment_of, fine, finely}
use Rattle.reading_lengths.specs.Listed.{Bytes}
use Rattle.reading_lengths.proofs.Bytes.{bytes_drop}
use Rattle.gate.specs.Gate.{Passed}
use Rattle.entry_receive.specs.declared.SegmentTaken.{SegmentTaken}
use Rattle.entry_receive.specs.Answer.{is_done}
use Rattle.entry_receive.specs.Segment.{none_taken, segment_answer, segment_of as segmentTaken, memory_of, payload_of}
use Rattle.model.specs.World.{World, held_at}
use Rattle.model.specs.Events.{segment, Whole, on}
use Rattle.connection.specs.Event.{receiving}
use Rattle.model.specs.Step.{Acted, acted, streamed, acts, acts_at, left, step}
use Rattle.model.proofs.View.{view_record}
use Rattle.model_runs.proofs.Same.{does-read, does-refused}
use Rattle.model_refines.specs.Table.{table_of}
use Rattle.model_refines.specs.Machine.{Machine, loan_to, lent_to, seen, taken, after_one, rest_of}
use Rattle.model_refines.specs.Machine.{pdu_told, told_by, goes_on, after_takes, told_takes, after_segment, told_segment}
use Rattle.model_refines.proofs.Left.{left-nothing, left-fine}
use Rattle.model_refines.proofs.Answered.{done_is}
use Rattle.model_refines.proofs.Take.{Open, open_after}
use Rattle.model_refines.proofs.Takes.{R, C, takes_view, takes_told}
use Rattle.entry_receive.specs.declared.NotReceived.{NotReceived}

-- A TAKE THAT IS REFUSED: nothing is read, nothing changes, and the event ends
module _ (image : List ℕ) (m : Machine) (k : ℕ) (bs : List ℕ) (not_done : is_done (segment_answer (lent_to image m) k) ≡ false) where
  abbrev refusal : Result Unit NotReceived
  refusal = segment_answer (lent_to image m) k

  none-taken : taken image k m bs ≡ none_taken m.state refusal
  unfolding segmentTaken
  none-taken = rw not_done

  same_memory : memory_of (loan_to image m) k bs ≡ m.rx
  unfolding memory_of
  same_memory = rw not_done

  stops-here : (rest : List ℕ) → goes_on image k (is_done (taken image k m bs).answer) rest ≡ false
  stops-here [] = refl
  stops-here (x ∷ xs) = ap (λ (t : SegmentTaken). is_done t.answer) none-taken ∙ not_done

  pub no_segment : after_segment image k m bs ≡ m
  unfolding after_takes
  no_segment =
      ap (λ (b : Bool). cond b (after_takes image k (length bs) (after_one image k m bs) (rest_of image k m bs)) (after_one image k m bs))
      (stops-here (rest_of image k m bs))
      ∙ ap₂ (λ (t : SegmentTaken) (r : List ℕ). record { state = t.state; rx = r; tx = m.tx }) none-taken same_memory

  none_told : told_segment image k m bs ≡ []
  unfolding told_takes
  none_told =
      ap (λ (b : Bool). told_by image k m bs ++ cond b (told_takes image k (length bs) (after_one image k m bs) (rest_of image k m bs)) [])
      (stops-here (rest_of image k m bs))
      ∙ append-nil (told_by image k m bs)
      ∙ ap (λ (t : SegmentTaken). pdu_told image k (payload_of bs (after_one image k m bs).rx k t.outcome) t.outcome) none-taken

module _ (image : List ℕ) (k : ℕ) where
  -- SOUND STAYS SOUND, over all takes
  takes_open : (f : ℕ) (m : Machine) (bs : List ℕ) → Open image k m → Bytes bs → Open image k (after_takes image k f m bs)
  unfolding after_takes
  takes_open zero m bs o b = o
  takes_open (suc f) m bs o b =
      go (goes_on image k (is_done (taken image k m bs).answer) (rest_of image k m bs))
      (takes_open f (after_one image k m bs) (rest_of image k m bs) (open_after image k m bs o b) (bytes_drop (taken image k m bs).read bs b))
    where
      go : (x : Bool) → Open image k (after_takes image k f (after_one image k m bs) (rest_of image k m bs))
          → Open image k (cond x (after_takes image k f (after_one image k m bs) (rest_of image k m bs)) (after_one image k m bs))
      go true p = p
      go false p = open_after image k m bs o b

  module _ (m : Machine) (bs : List ℕ) (passed : Passed (lent_to image m)) (bytes : Bytes bs) (whole : Whole → World → World) where
    abbrev c : Connection
    c = record_at m.state k

    abbrev answer : Result Unit NotReceived
    answer = segment_answer (lent_to image m) k

    -- there, TCP, online and no close wanted
    abbrev readable : Bool
    readable = ltb k (rows_of image Connections) && ((config_of image k).tcp && receiving c)

    opened : readable ≡ true → Open image k m
    opened e =
        let u : ((config_of image k).tcp && receiving c) ≡ true = and_right (ltb k (rows_of image Connections)) _ e in
        record {
          passed = passed;
          there = ltb-true k (rows_of image Connections) (and_left (ltb k (rows_of image Connections)) _ e);
          allows = and_left (config_of image k).tcp _ u;
          receives = and_right (config_of image k).tcp _ u;
        }

    refused : readable ≡ false → is_done answer ≡ false
    refused e = done_is (lent_to image m) k (config_of image k).tcp passed ∙ e

    -- the world's side
    seen_c : (held_at (seen m) k).connection ≡ c
    seen_c = view_record m.state m.rx m.tx k

    at_open : readable ≡ true
        → acts_at (table_of image) (seen m) k (segment bs) ≡ streamed (held_at (seen m) k) (finely (segment_of (R image k m) (C image k m) bs))
    unfolding acts
    at_open e =
        rw (and_left (ltb k (rows_of image Connections)) _ e)
        (does-read (table_of image) k (held_at (seen m) k) bs
        (ap (λ (d : Connection). (config_of image k).tcp && receiving d) seen_c ∙ and_right (ltb k (rows_of image Connections)) _ e))

    at-refused : (t : Bool) → ltb k (rows_of image Connections) ≡ t → (t && ((config_of image k).tcp && receiving c)) ≡ false
        → acts_at (table_of image) (seen m) k (segment bs) ≡ acted (held_at (seen m) k) []
    unfolding acts
    at-refused true p e =
        rw p (does-refused (table_of image) k (held_at (seen m) k) bs (ap (λ (d : Connection). (config_of image k).tcp && receiving d) seen_c ∙ e))
    at-refused false p e = rw p

    -- WHAT IT LEAVES
    pub segment_view : seen (after_segment image k m bs) ≡ step (table_of image) whole (seen m) (on k (segment bs))
    unfolding step segment_of
    segment_view = go readable refl
      where
        go : (b : Bool) → readable ≡ b → seen (after_segment image k m bs) ≡ left (table_of image) (seen m) k (acts_at (table_of image) (seen m) k (segment bs))
        go true e =
            takes_view image k (suc (length bs)) m bs (opened e) bytes (omega arith)
            ∙ sym (left-fine (table_of image) (seen m) k (held_at (seen m) k) (segment_of (R image k m) (C image k m) bs))
            ∙ ap (left (table_of image) (seen m) k) (sym (at_open e))
        go false e =
            ap seen (no_segment image m k bs (refused e))
            ∙ sym (left-nothing (table_of image) (seen m) k)
            ∙ ap (left (table_of image) (seen m) k) (sym (at-refused (ltb k (rows_of image Connections)) refl e))

    -- WHAT IT HANDS OUT: the stream's list ..
    pub segment-list : told_segment image k m bs ≡ cond readable (segment_of (R image k m) (C image k m) bs).list []
    unfolding segment_of
    segment-list = go readable refl
      where
        go : (b : Bool) → readable ≡ b → told_segment image k m bs ≡ cond b (segment_of (R image k m) (C image k m) bs).list []
        go true e = takes_told image k (suc (length bs)) m bs (opened e) bytes (omega arith)
        go false e = none_told image m k bs (refused e)

    -- .. which is the world's, byte by byte
    pub segment_told : fine (told_segment image k m bs) ≡ (acts_at (table_of image) (seen m) k (segment bs)).list
    unfolding fine
    segment_told = go readable refl
      where
        go : (b : Bool) → readable ≡ b → fine (told_segment image k m bs) ≡ (acts_at (table_of image) (seen m) k (segment bs)).list
        go true e = ap fine (segment-list ∙ ap (λ (b : Bool). cond b (segment_of (R image k m) (C image k m) bs).list []) e)
            ∙ ap (λ (a : Acted). a.list) (sym (at_open e))
        go false e =
            ap fine (segment-list ∙ ap (λ (b : Bool). cond b (segment_of (R image k m) (C image k m) bs).list []) e)
            ∙ ap (λ (a : Acted). a.list) (sym (at-refused (ltb k (rows_of image Connections)) refl e))

    -- SOUND STAYS SOUND
    pub segment-event-passed : Passed (lent_to image (after_segment image k m bs))
    segment-event-passed = go readable refl
      where
        go : (b : Bool) → readable ≡ b → Passed (lent_to image (after_segment image k m bs))
        go true e = (takes_open (suc (length bs)) m bs (opened e) bytes).passed
        go false e = subst (λ (n : Machine). Passed (lent_to image n)) (sym (no_segment image m k bs (refused e))) passed
