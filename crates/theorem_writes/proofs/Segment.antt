-- A SEGMENT EVENT on the machine: its takes write the bytes that they add, each byte elsewhere stays.
use Prim.Native.Nat.{ℕ, zero, suc, ◌+◌, ◌*◌}
use mathlib.Core.Path.{◌≡◌, refl, sym, ap, ap₂, ◌∙◌, subst}
use mathlib.Core.Bool.{Bool, true, false, cond}
use mathlib.Core.List.{List}
use native.Mathlib.Omega.{arith}
use lib.ListN.{length, get_or}
use lib.Seq.{get_or-set_same}
use Rattle.wire.specs.Be.{byte_at}
use Rattle.wire.specs.Lay.{lay}
use Rattle.wire.proofs.Lay.{lay-length}
use Rattle.table_layout.specs.Layout.{body_of}
use Rattle.table_layout.specs.declared.Kind.TheVariants.{Route as Routes}
use Rattle.connection.specs.declared.Connection.{Connection}
use Rattle.connection.specs.Connection.{zero_record, with_part}
use Rattle.state.specs.declared.State.{State}
use Rattle.state.specs.State.{record_at, with_record}
use Rattle.state.specs.Memory.{stretch}
use Rattle.state.specs.Fresh.{config_of}
use Rattle.receive_stream.specs.declared.Outcome.{Outcome}
use Rattle.entry_receive.specs.declared.SegmentTaken.{SegmentTaken}
use Rattle.entry_receive.specs.Answer.{is_done}
use Rattle.entry_receive.specs.Segment.{taken_at, stretch_at, take_on, memory_on, Takes, segment_answer, segment_of, memory_of}
use Rattle.entry_receive.proofs.Answers.{Clear, done_clear}
use Rattle.entry_receive.proofs.Past.{passed-takes}
use Rattle.entry_receive.proofs.Keeps.{in_range, count-records}
use Rattle.model.specs.World.{held_by}
use Rattle.model_refines.specs.Machine.{Machine, lent_to, loan_to, taken, after_one, rest_of, goes_on, after_takes}
use Rattle.theorem_writes.specs.Writes.{Within, added_by, payload_held, TakeWrites, SegmentWrites, by_first_take, by_later_take}
use Rattle.theorem_writes.proofs.Laid.{part_other}
use Rattle.theorem_writes.proofs.Take.{Lays, take_lays}

module _ (image : List ℕ) (k : ℕ) where
  -- ONE TAKE
  module _ (m : Machine) (bytes : List ℕ) where
    abbrev s : State
    s = m.state

    abbrev pub is_answered : Bool
    is_answered = is_done (segment_answer (lent_to image m) k)

    -- that is made
    module _ (done : is_answered ≡ true) where
      clear : Clear (lent_to image m) k (config_of image k).tcp
      clear = done_clear (lent_to image m) k (config_of image k).tcp done

      pub takes-here : Takes image (record_at s k) m.rx k
      takes-here = passed-takes (loan_to image m) k clear.passed clear.there

      abbrev pub connection_after : Connection
      connection_after = with_part (taken_at image s m.rx k bytes).part (record_at s k)

      taken_is : taken image k m bytes ≡ take_on image s m.rx k bytes
      unfolding segment_of
      taken_is = rw done

      memory-is : (after_one image k m bytes).rx ≡ memory_on image s m.rx k bytes
      unfolding memory_of
      memory-is = rw done

      pub outcome-is : (taken image k m bytes).outcome ≡ (taken_at image s m.rx k bytes).outcome
      unfolding take_on
      outcome-is = ap (λ (t : SegmentTaken). t.outcome) taken_is

      pub record_is : record_at (after_one image k m bytes).state k ≡ connection_after
      unfolding take_on
      record_is =
          ap (λ (t : SegmentTaken). record_at t.state k) taken_is
          ∙ ap (λ (cs : List Connection). get_or cs k zero_record) (count-records (taken_at image s m.rx k bytes).outcome (with_record k connection_after s))
          ∙ get_or-set_same s.connections k connection_after zero_record (in_range s k clear.receives)

      laid : Lays (stretch 1464 k m.rx) (stretch_at image s m.rx k bytes) (payload_held k m)
          (added_by (taken_at image s m.rx k bytes).outcome (payload_held k m) (held_by (taken_at image s m.rx k bytes).part))
      laid = take_lays (body_of image Routes) k (record_at s k).switches (record_at s k).part (stretch 1464 k m.rx) bytes takes-here.fit

      added_is : length laid.0 ≡ added_by (taken image k m bytes).outcome (payload_held k m) (payload_held k (after_one image k m bytes))
      added_is =
          laid.1.0
          ∙ ap₂ (λ (o : Outcome) (c : Connection). added_by o (payload_held k m) (held_by c.part)) (sym outcome-is) (sym record_is)

      made_stays : (i : ℕ) → (TakeWrites image k m bytes i → ⊥) → byte_at (after_one image k m bytes).rx i ≡ byte_at m.rx i
      unfolding memory_on
      made_stays i not =
          ap (λ (l : List ℕ). byte_at l i) memory-is
          ∙ ap (λ (l : List ℕ). byte_at (lay m.rx (k * 1464) l) i) laid.1.1
          ∙ part_other m.rx (k * 1464) 1464 (payload_held k m) laid.0 i (omega (arith, takes-here.small, takes-here.room))
          (λ w. not (subst (λ (n : ℕ). Within (k * 1464 + payload_held k m) n i) added_is w))

    -- or refused
    refused-same : is_answered ≡ false → (after_one image k m bytes).rx ≡ m.rx
    unfolding memory_of
    refused-same e = rw e

    pub take-stays : (i : ℕ) → (TakeWrites image k m bytes i → ⊥) → byte_at (after_one image k m bytes).rx i ≡ byte_at m.rx i
    take-stays i not = go is_answered refl
      where
        go : (b : Bool) → is_answered ≡ b → byte_at (after_one image k m bytes).rx i ≡ byte_at m.rx i
        go true e = made_stays e i not
        go false e = ap (λ (l : List ℕ). byte_at l i) (refused-same e)

    take_long : length (after_one image k m bytes).rx ≡ length m.rx
    unfolding memory_of memory_on
    take_long = go is_answered
      where
        go : (b : Bool) → length (cond b (memory_on image s m.rx k bytes) m.rx) ≡ length m.rx
        go true = lay-length m.rx (k * 1464) (stretch_at image s m.rx k bytes)
        go false = refl

  -- ALL TAKES
  pub takes_stay : (f : ℕ) (m : Machine) (bytes : List ℕ) (i : ℕ)
      → (SegmentWrites image k i m bytes → ⊥) → byte_at (after_takes image k f m bytes).rx i ≡ byte_at m.rx i
  unfolding after_takes
  takes_stay zero m bytes i not = refl
  takes_stay (suc f) m bytes i not =
      go (goes_on image k (is_done (taken image k m bytes).answer) (rest_of image k m bytes)) refl
      (takes_stay f (after_one image k m bytes) (rest_of image k m bytes) i)
    where
      one : byte_at (after_one image k m bytes).rx i ≡ byte_at m.rx i
      one = take-stays m bytes i (λ w. not (by_first_take m bytes w))

      go : (b : Bool) → goes_on image k (is_done (taken image k m bytes).answer) (rest_of image k m bytes) ≡ b
          → ((SegmentWrites image k i (after_one image k m bytes) (rest_of image k m bytes) → ⊥)
          → byte_at (after_takes image k f (after_one image k m bytes) (rest_of image k m bytes)).rx i ≡ byte_at (after_one image k m bytes).rx i)
          → byte_at (cond b (after_takes image k f (after_one image k m bytes) (rest_of image k m bytes)) (after_one image k m bytes)).rx i ≡ byte_at m.rx i
      go true e rest = rest (λ w. not (by_later_take m bytes e w)) ∙ one
      go false e rest = one

  pub takes-long : (f : ℕ) (m : Machine) (bytes : List ℕ) → length (after_takes image k f m bytes).rx ≡ length m.rx
  unfolding after_takes
  takes-long zero m bytes = refl
  takes-long (suc f) m bytes =
      go (goes_on image k (is_done (taken image k m bytes).answer) (rest_of image k m bytes))
      (takes-long f (after_one image k m bytes) (rest_of image k m bytes))
    where
      go : (b : Bool) → length (after_takes image k f (after_one image k m bytes) (rest_of image k m bytes)).rx ≡ length (after_one image k m bytes).rx
          → length (cond b (after_takes image k f (after_one image k m bytes) (rest_of image k m bytes)) (after_one image k m bytes)).rx ≡ length m.rx
      go true e = e ∙ take_long m bytes
      go false e = take_long m bytes
