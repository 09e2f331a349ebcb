-- REPLAYING EQUALS CALLING THE EVENTS ONE BY ONE (R17.4), under an accepted table, for every recording, memories and out buffer; and the answers
-- that are compared are those of that run.
use Rattle.std.proofs.Common.{Ok, Err, Result}
use Prim.Native.Nat.{ℕ, zero, suc, ◌-◌, ◌<◌, ◌≤◌}
use mathlib.Core.Path.{◌≡◌, refl, sym, ap, ◌∙◌, subst}
use mathlib.Core.Bool.{true, cond}
use mathlib.Core.List.{List}
use native.Mathlib.Decide.{dec_lt}
use native.Mathlib.Omega.{arith}
use lib.ListN.{length, drop}
use Rattle.lists.specs.Search.{first_bad}
use Rattle.table.specs.declared.BadTable.TheVariants as Answered
use Rattle.table.specs.Table.{check_table}
use Rattle.state.specs.Fresh.{fresh_state, empty_state}
use Rattle.event_answer.specs.Answers.{room}
use Rattle.recording.specs.declared.Unreadable.{Unreadable}
use Rattle.recording.specs.Recording.{entries_in, contents_to, entry_row, stamp_in, shown_by}
use Rattle.replay_step.specs.Step.{Stepped}
use Rattle.replay_whole.specs.declared.End.{End}
use Rattle.replay_whole.specs.declared.End.TheVariants.{Table, Unread, Small}
use Rattle.replay_whole.specs.Replay.{Going, Left, is_run, end_at, step_at, ongoing, stopped, replay_from, before_first, unrun, under_front, under_table}
use Rattle.replay_whole.specs.Replay.{replay_of}
use Rattle.model_refines.specs.Run.{after_run}
use Rattle.theorem_replay.specs.Entries.{is_nothing, entry_body, ticks_before, ticks_up_to, events_up_to, is_cut, fault_of_entry, is_fine}
use Rattle.theorem_replay.specs.Runs.{machine_left, fresh_machine, machine_after, EntryRuns, going_at}
use Rattle.law_lists.proofs.First.{before-bad, bad-most}
use Rattle.theorem_replay.proofs.First.{other_in}
use Rattle.theorem_replay.proofs.Step.{no_fault-is, step_small}
use Rattle.theorem_replay.proofs.Fold.{nothing_is, fine-whole, unlike_in, Ended, runs, replay_ends, going-stands, going-left}

module _ (image r rx tx out : List ℕ) where
  -- A REPLAY GOES ALONG WITH THE RUN as far as it goes
  pub record Along (l : Left) : Type 0 where
    pub left : machine_left l ≡ machine_after image r rx tx l.replayed.run
    pub ticks : l.replayed.ticks ≡ ticks_up_to r l.replayed.run
    pub differs : l.replayed.differs ≡ unlike_in image r rx tx l.replayed.run
    pub fine : (j : ℕ) → j < l.replayed.run → is_fine r j ≡ true
    pub most : l.replayed.run ≤ entries_in r
    pub roomy : 0 < l.replayed.run → room ≤ length out

  -- nothing is run
  nothing_along : (e : Result Unit End)
      → Along (record { replayed = record { end = e; run = 0; ticks = 0; differs = 0; state = fresh_state image }; rx = rx; tx = tx; out = out })
  unfolding events_up_to ticks_up_to other_in after_run
  nothing_along e =
      record {
        left = refl;
        ticks = refl;
        differs = refl;
        fine = λ j h. absurd (omega (arith, h));
        most = omega arith;
        roomy = λ h. absurd (omega (arith, h));
      }

  none_along : (e : End) → Along (unrun image r rx tx out e (fresh_state image))
  none_along e = nothing_along (Err e)

  abbrev start : Going
  start = before_first image r rx tx out (fresh_state image)

  abbrev played : ℕ → Left
  played n = replay_from image r n 0 start

  -- .. nor into an out buffer that is too short
  small-stops : length out < room → (n : ℕ) → played (suc n) ≡ unrun image r rx tx out Small (fresh_state image)
  unfolding replay_from is_run end_at
  small-stops short n =
      ap (λ (s : Stepped). cond (is_run s.played) (replay_from image r n 1 (ongoing image r 0 start s)) (stopped image r 0 start s))
      (step_small image (fresh_machine image rx tx) out (stamp_in (entry_row r 0)) (entry_row r 0) (drop (contents_to (entries_in r)) r) short)

  small_along : length out < room → (n : ℕ) → Along (played n)
  unfolding replay_from
  small_along short zero = nothing_along (Ok tt)
  small_along short (suc n) = subst Along (sym (small-stops short n)) (none_along Small)

  -- into one that has the room, the entries before the first that is not fine are run
  pub long-ends : room ≤ length out → Ended image r rx tx (entries_in r) (first_bad (is_fine r) (entries_in r)) (played (entries_in r))
  unfolding going_at
  long-ends long =
      replay_ends image r rx tx (entries_in r) (entries_in r) 0 start (omega arith)
      (going-stands image r rx tx out long 0 (λ j h. absurd (omega (arith, h))))

  ended_along : room ≤ length out → (total : ℕ) (l : Left) → Ended image r rx tx total (first_bad (is_fine r) (entries_in r)) l → Along l
  ended_along long total l e =
      record {
        left = e.left ∙ ap (machine_after image r rx tx) (sym e.run);
        ticks = e.ticks ∙ ap (ticks_up_to r) (sym e.run);
        differs = e.differs ∙ ap (unlike_in image r rx tx) (sym e.run);
        fine = λ j h. before-bad (is_fine r) (entries_in r) j (omega (arith, h, e.run));
        most = omega (arith, e.run, bad-most (is_fine r) (entries_in r));
        roomy = λ h. long;
      }

  front_along : (f : Result Unit Unreadable) → Along (under_front image r rx tx out f)
  unfolding under_front
  front_along (Err why) = none_along (Unread why)
  front_along (Ok tt) = go (dec_lt (length out) room)
    where
      go : Dec (length out < room) → Along (played (entries_in r))
      go (yes short) = small_along short (entries_in r)
      go (no long) = ended_along (omega (arith, long)) (entries_in r) (played (entries_in r)) (long-ends (omega (arith, long)))

  run-sized : (f : Result Unit Unreadable) → 0 < (under_front image r rx tx out f).replayed.run → f ≡ Ok tt
  unfolding under_front
  run-sized (Err why) h = absurd (omega (arith, h))
  run-sized (Ok tt) h = refl

  abbrev replay : Left
  replay = replay_of image r rx tx out

  -- A REFUSED TABLE: nothing is run
  pub table-refused : (place : ℕ) → check_table image ≡ Err (Answered.At place) → replay ≡ unrun image r rx tx out (Table place) empty_state
  unfolding replay_of under_table
  table-refused place refused = ap (under_table image r rx tx out) refused

  module _ (accepted : check_table image ≡ Ok tt) where
    pub under_accepted : replay ≡ under_front image r rx tx out (shown_by r)
    unfolding replay_of under_table
    under_accepted = ap (under_table image r rx tx out) accepted

    -- CONTENTS THAT ARE CUT OFF, OF ANOTHER EDITION, OR PAST A LIMIT: nothing is run
    pub front_unread : (why : Unreadable) → shown_by r ≡ Err why → replay ≡ unrun image r rx tx out (Unread why) (fresh_state image)
    unfolding under_front
    front_unread why unsized = under_accepted ∙ ap (under_front image r rx tx out) unsized

    -- AN OUT BUFFER THAT IS TOO SHORT for entries that are there: nothing is run
    pub replay_small : shown_by r ≡ Ok tt → length out < room → 0 < entries_in r → replay ≡ unrun image r rx tx out Small (fresh_state image)
    unfolding under_front
    replay_small sized short some = under_accepted ∙ ap (under_front image r rx tx out) sized ∙ go (entries_in r) some
      where
        go : (n : ℕ) → 0 < n → played n ≡ unrun image r rx tx out Small (fresh_state image)
        go zero h = absurd (omega (arith, h))
        go (suc n) h = small-stops short n

    pub replay_along : Along replay
    replay_along = subst Along (sym under_accepted) (front_along (shown_by r))

    -- THE MACHINE after a replay is the machine after the run of the events that its entries spell, with that many ticks between them
    pub replay_runs : machine_left replay ≡ after_run image (fresh_machine image rx tx) (events_up_to r replay.replayed.run)
    replay_runs = replay_along.left

    pub replay_ticks : replay.replayed.ticks ≡ ticks_up_to r replay.replayed.run
    replay_ticks = replay_along.ticks

    -- THE ANSWERS that are compared are the answers that this run gives: the step of each entry that is run is that of the run
    module _ (i : ℕ) (h : i < replay.replayed.run) where
      long-out : room ≤ length out
      long-out = replay_along.roomy (omega (arith, h))

      before-fine : (j : ℕ) → j < i → is_fine r j ≡ true
      before-fine j l = replay_along.fine j (omega (arith, h, l))

      pub replay_answers : EntryRuns image r rx tx i (going_at image r rx tx out i).out (step_at image r i (going_at image r rx tx out i))
      replay_answers =
          runs image r rx tx i (going_at image r rx tx out i) (going-stands image r rx tx out long-out i before-fine) (replay_along.fine i h)

      -- .. of 65,535 ticks at most
      pub replay_near : ticks_before r i ≤ 65535
      replay_near =
          let fault = nothing_is (fault_of_entry r i) (fine-whole (is_cut r i) (is_nothing (fault_of_entry r i)) (replay_along.fine i h)).1 in
          (no_fault-is (ticks_before r i) (entry_row r i) (entry_body r i) fault).0

      sized : shown_by r ≡ Ok tt
      sized = run-sized (shown_by r) (subst (λ (l : Left). 0 < l.replayed.run) under_accepted (omega (arith, h)))

      -- .. and the replay makes these steps: after i of them the rest of it is left
      pub replay_steps : replay ≡ replay_from image r (entries_in r - i) i (going_at image r rx tx out i)
      unfolding under_front going_at
      replay_steps =
          under_accepted ∙ ap (under_front image r rx tx out) sized
          ∙ ap played (omega (arith, h, replay_along.most)) ∙ going-left image r rx tx out long-out (entries_in r - i) i before-fine
