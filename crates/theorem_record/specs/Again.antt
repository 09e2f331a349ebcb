-- CALLS AND THEIR ANSWERS (R17.8), entry by entry with the ticks between them, as a run of the machine gives them; and a replay that
-- finds no difference.
use Rattle.std.specs.Prelude.{ℕ, ◌≤◌, ◌<◌, ◌≡◌, Bool, true, false, cond, List, [], ◌∷◌, eqb, length, replicate, Ok}
use Rattle.reading_lengths.specs.Listed.{Bytes}
use Rattle.state.specs.Fresh.{fresh_state}
use Rattle.event_decode.specs.Calls.{call_of}
use Rattle.dispatch_receive.specs.Segment.{none_marked}
use Rattle.model.specs.Events.{tick, on_whole}
use Rattle.model_refines.specs.Machine.{Machine, machine, loan_to}
use Rattle.model_refines.specs.Run.{after_run}
use Rattle.dispatch_refines.specs.Spelt.{events_of}
use Rattle.dispatch_refines.specs.Answer.{answer_of}
use Rattle.recording.specs.Recording.{distance_in, stamps}
use Rattle.recording.specs.Entry.{is_recorded, is_spelt}
use Rattle.replay_whole.specs.Replay.{Left}
use Rattle.theorem_record.specs.Record.{Noted}

-- A CALL with the stamp at which it was made
pub record Timed : Type 0 where
  pub stamp : ℕ
  pub number : ℕ
  pub arguments : List ℕ

abbrev pub first_at : List Timed → ℕ
first_at [] = 0
first_at (c ∷ cs) = c.stamp

module _ (image : List ℕ) where
  -- so many ticks later
  abbrev pub after_ticks : ℕ → Machine → Machine
  after_ticks n m = after_run image m (replicate n (on_whole tick))

  -- what an event leaves, and its answer
  module _ (number : ℕ) (arguments : List ℕ) where
    abbrev pub after_note : Machine → Machine
    after_note m = after_run image m (events_of arguments (call_of number arguments))

    abbrev pub answer_to : Machine → List ℕ
    answer_to m = answer_of (loan_to image m) arguments (call_of number arguments)

  -- THE ANSWERS ARE THOSE OF A RUN: each after the ticks since the stamp before, from the machine that the entries before left
  abbrev pub Answered : ℕ → Machine → List Noted → Type 0
  Answered before m [] = Unit {0}
  Answered before m (e ∷ es) =
      (e.answer ≡ answer_to e.number e.arguments (after_ticks (distance_in stamps before e.stamp) m))
      × Answered e.stamp (after_note e.number e.arguments (after_ticks (distance_in stamps before e.stamp) m)) es

  -- THE RECORDER: calls one after the other, the stamp before the first, and the machine before it
  unfoldable pub recorded : ℕ → Machine → List Timed → List Noted
  recorded before m [] = []
  recorded before m (c ∷ cs) =
      record {
        stamp = c.stamp;
        number = c.number;
        arguments = c.arguments;
        answer = answer_to c.number c.arguments (after_ticks (distance_in stamps before c.stamp) m);
      }
      ∷ recorded c.stamp (after_note c.number c.arguments (after_ticks (distance_in stamps before c.stamp) m)) cs

  -- from a fresh state, the first call at once
  abbrev pub recorded_fresh : List ℕ → List ℕ → List Timed → List Noted
  recorded_fresh rx tx cs = recorded (first_at cs) (machine (fresh_state image) rx tx) cs

-- A CALL THAT CAN BE RECORDED under an image, whatever its answer is: one with room for it in a body of 4,096 bytes. Arguments have so many
-- bytes: of a segment 653 at most where no route of the image is marked, and else 574; of any other event 4,076
abbrev pub segment_arguments : Bool → ℕ
segment_arguments true = 653
segment_arguments false = 574

unfoldable pub most_arguments : List ℕ → ℕ → ℕ
most_arguments image n = cond (eqb n 7) (segment_arguments (none_marked image)) 4076

pub record Callable (image : List ℕ) (c : Timed) : Type 0 where
  pub event : is_recorded c.number ≡ true
  pub spells : is_spelt (call_of c.number c.arguments) ≡ true
  pub bytes : Bytes c.arguments
  pub in_width : c.stamp < stamps
  pub roomy : length c.arguments ≤ most_arguments image c.number

module _ (image : List ℕ) where
  -- .. and one after the other, at distances of at most 65,535
  abbrev pub Followed : ℕ → List Timed → Type 0
  Followed before [] = Unit {0}
  Followed before (c ∷ cs) = Callable image c × ((distance_in stamps before c.stamp ≤ 65535) × Followed c.stamp cs)

  -- the first at any stamp
  abbrev pub AllCallable : List Timed → Type 0
  AllCallable [] = Unit {0}
  AllCallable (c ∷ cs) = Callable image c × Followed c.stamp cs

-- the call of an entry
abbrev pub timed_of : Noted → Timed
timed_of e = record { stamp = e.stamp; number = e.number; arguments = e.arguments }

-- A REPLAY THAT FINDS NO DIFFERENCE in so many entries, all run
pub record NoDifference (n : ℕ) (left : Left) : Type 0 where
  pub end : left.replayed.end ≡ Ok tt
  pub run : left.replayed.run ≡ n
  pub differs : left.replayed.differs ≡ 0
