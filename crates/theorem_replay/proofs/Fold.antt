-- A REPLAY IS A FOLD (R17.4) that goes along with the run of the events: where it stands before entry i, and where it ends.
use Rattle.std.proofs.Common.{Result, Ok, Err}
use Prim.Native.Nat.{ℕ, zero, suc, ◌+◌, ◌<◌, ◌≤◌}
use mathlib.Core.Path.{◌≡◌, refl, sym, ap, ap₂, ◌∙◌, subst}
use mathlib.Core.Bool.{Bool, true, false, cond, not, ◌&&◌}
use mathlib.Core.List.{List, ◌++◌}
use native.Mathlib.Nat.{zero-add}
use native.Mathlib.Omega.{arith}
use borrow.Author.Tests.{le-ltb, lt-ltb}
use lib.Dec.{ltb}
use lib.ListN.{length, drop, length-append, length-drop}
use Rattle.lists.specs.Search.{bad_from}
use Rattle.lists.proofs.Both.{impossible}
use Rattle.event_answer.specs.Answers.{room}
use Rattle.recording.specs.declared.Fault.{Fault}
use Rattle.recording.specs.Recording.{entry_row, stamp_in, body_long, distance_in, stamps}
use Rattle.replay_step.specs.declared.Unplayed.{Unplayed}
use Rattle.replay_step.specs.declared.Unplayed.TheVariants as Entry
use Rattle.replay_step.specs.declared.Compared.TheVariants.{Same, Differs}
use Rattle.replay_step.specs.Step.{same_bytes, Stepped, entry_step, unplayed}
use Rattle.replay_whole.specs.declared.End.{End}
use Rattle.replay_whole.specs.declared.End.TheVariants.{Small, Cut, Refused}
use Rattle.replay_whole.specs.Replay.{Going, Left, is_run, is_other, first_other, end_at, step_at, ongoing, stopped, finished, replay_from}
use Rattle.model_refines.specs.Machine.{Machine, machine, loan_to}
use Rattle.model_refines.specs.Run.{after_run}
use Rattle.theorem_replay.specs.Entries.{is_nothing, body_begins, bytes_left, stamp_before, ticks_up_to}
use Rattle.theorem_replay.specs.Entries.{recorded_answer, entry_events, events_up_to, is_cut, fault_of_entry, is_fine}
use Rattle.theorem_replay.specs.Runs.{machine_stepped, machine_left, compared_to, fresh_machine, machine_after, today_answer, EntryRuns, going_at}
use Rattle.theorem_replay.proofs.First.{other_in}
use Rattle.theorem_replay.proofs.Step.{run-append, step_cut, step-refused, step_runs}

-- an entry that is compared was run
compared-run : (a b : List ℕ) → is_run (compared_to a b) ≡ true
unfolding is_run compared_to
compared-run a b = go (same_bytes b a)
  where
    go : (t : Bool) → is_run (cond t (Ok (Same (length b))) (Ok (Differs (length b)))) ≡ true
    go true = refl
    go false = refl

compared_other : (a b : List ℕ) → is_other (compared_to a b) ≡ not (same_bytes b a)
unfolding is_other compared_to
compared_other a b = go (same_bytes b a)
  where
    go : (t : Bool) → is_other (cond t (Ok (Same (length b))) (Ok (Differs (length b)))) ≡ not t
    go true = refl
    go false = refl

pub nothing_is : (f : Result Unit Fault) → is_nothing f ≡ true → f ≡ Ok tt
unfolding is_nothing
nothing_is (Ok tt) e = refl
nothing_is (Err fault) e = impossible e

-- the two sides of an entry that is fine
pub fine-whole : (c n : Bool) → not c && n ≡ true → (c ≡ false) × (n ≡ true)
fine-whole true n e = impossible e
fine-whole false n e = (refl, e)

-- how an entry that is not fine ends a replay: cut, or by its fault
unfoldable pub end_by : Bool → ℕ → Result Unit Fault → Result Unit End
end_by true i f = Err (Cut (i + 1))
end_by false i (Err fault) = Err (Refused (i + 1) fault)
end_by false i (Ok tt) = Err Small

module _ (image r rx tx : List ℕ) where
  -- the first of n entries whose answer differs, from 1; 0 where none does
  abbrev pub same_at : ℕ → Bool
  same_at i = same_bytes (today_answer image r rx tx i) (recorded_answer r i)

  abbrev pub unlike_in : ℕ → ℕ
  unlike_in n = other_in same_at n

  -- BEFORE ENTRY i
  pub record Stands (i : ℕ) (g : Going) : Type 0 where
    pub left : machine g.state g.rx g.tx ≡ machine_after image r rx tx i
    pub at : g.at ≡ body_begins r i
    pub before : g.before ≡ stamp_before r i
    pub ticks : g.ticks ≡ ticks_up_to r i
    pub differs : g.differs ≡ unlike_in i
    pub long : room ≤ length g.out

  -- the step of entry i is that of the run
  abbrev before : ℕ → Machine
  before i = machine_after image r rx tx i

  abbrev step_run : ℕ → List ℕ → Stepped
  step_run i out = entry_step (loan_to image (before i)) out (stamp_before r i) (entry_row r i) (bytes_left r i)

  step_run_lem : (i : ℕ) (g : Going) → Stands i g → step_at image r i g ≡ step_run i g.out
  step_run_lem i g s =
      ap (λ (m : Machine). entry_step (loan_to image m) g.out g.before (entry_row r i) (drop g.at r)) s.left
      ∙ ap₂ (λ (b a : ℕ). entry_step (loan_to image (before i)) g.out b (entry_row r i) (drop a r)) s.before s.at

  module _ (i : ℕ) (g : Going) (s : Stands i g) where
    abbrev here : Stepped
    here = step_at image r i g

    pub runs : is_fine r i ≡ true → EntryRuns image r rx tx i g.out here
    runs fine =
        let c = fine-whole (is_cut r i) (is_nothing (fault_of_entry r i)) fine in
        subst (EntryRuns image r rx tx i g.out) (sym (step_run_lem i g s))
        (step_runs image (before i) g.out (stamp_before r i) (entry_row r i) (bytes_left r i) s.long c.0 (nothing_is (fault_of_entry r i) c.1))

    -- where it was run, the next entry stands behind it
    stays-long : (a : List ℕ) → length a ≤ room → room ≤ length (a ++ drop (length a) g.out)
    stays-long a h = omega (arith, h, s.long, length-append a (drop (length a) g.out), length-drop (length a) g.out)

    pub stands_on : is_fine r i ≡ true → Stands (suc i) (ongoing image r i g here)
    unfolding events_up_to body_begins stamp_before ticks_up_to other_in
    stands_on fine =
        let ran = runs fine in
        record {
          left = ran.left ∙ sym (run-append image (fresh_machine image rx tx) (events_up_to r i) (entry_events r i));
          at = ap (λ (a : ℕ). a + body_long (entry_row r i)) s.at;
          before = refl;
          ticks = ap₂ (λ (t b : ℕ). t + distance_in stamps b (stamp_in (entry_row r i))) s.ticks s.before;
          differs =
              ap₂ (λ (d : ℕ) (o : Bool). first_other d i o) s.differs
              (ap is_other ran.played ∙ compared_other (recorded_answer r i) (today_answer image r rx tx i));
          long = subst (λ (o : List ℕ). room ≤ length o) (sym ran.front) (stays-long (today_answer image r rx tx i) ran.fits);
        }

    pub goes_on : is_fine r i ≡ true → is_run here.played ≡ true
    goes_on fine = ap is_run (runs fine).played ∙ compared-run (recorded_answer r i) (today_answer image r rx tx i)

    -- where it was not, nothing of it is run
    abbrev not_run : Unplayed → Stepped
    not_run why = unplayed (loan_to image (before i)) g.out why

    -- .. why, and so how the replay ends
    pub record NotRun : Type 0 where
      pub why : Unplayed
      pub step : here ≡ not_run why
      pub ends : (c : Bool) → is_cut r i ≡ c → end_at i (Err why) ≡ end_by c i (fault_of_entry r i)

    not-run : is_fine r i ≡ false → NotRun
    unfolding end_at end_by is_nothing
    not-run bad = go (is_cut r i) refl (fault_of_entry r i) refl bad
      where
        go : (c : Bool) → is_cut r i ≡ c → (f : Result Unit Fault) → fault_of_entry r i ≡ f → not c && is_nothing f ≡ false → NotRun
        go true e f h b =
            record {
              why = Entry.Cut;
              step = step_run_lem i g s ∙ step_cut image (before i) g.out (stamp_before r i) (entry_row r i) (bytes_left r i) s.long e;
              ends = λ d q. sym (ap (λ (x : Bool). end_by x i (fault_of_entry r i)) (sym q ∙ e));
            }
        go false e (Err fault) h b =
            record {
              why = Entry.Refused fault;
              step =
                  step_run_lem i g s ∙ step-refused image (before i) g.out (stamp_before r i) (entry_row r i) (bytes_left r i) s.long e fault h;
              ends = λ d q. sym (ap₂ (λ (x : Bool) (y : Result Unit Fault). end_by x i y) (sym q ∙ e) h);
            }
        go false e (Ok tt) h b = impossible (sym b)

    pub stops : is_fine r i ≡ false → is_run here.played ≡ false
    unfolding is_run
    stops bad = ap (λ (t : Stepped). is_run t.played) (not-run bad).step

    ends_so : is_fine r i ≡ false → end_at i here.played ≡ end_by (is_cut r i) i (fault_of_entry r i)
    ends_so bad = ap (λ (t : Stepped). end_at i t.played) (not-run bad).step ∙ (not-run bad).ends (is_cut r i) refl

  -- WHERE IT ENDS, k entries run of so many
  unfoldable pub end_of : ℕ → ℕ → Result Unit End
  end_of total k = cond (ltb k total) (end_by (is_cut r k) k (fault_of_entry r k)) (Ok tt)

  pub record Ended (total k : ℕ) (l : Left) : Type 0 where
    pub run : l.replayed.run ≡ k
    pub end : l.replayed.end ≡ end_of total k
    pub ticks : l.replayed.ticks ≡ ticks_up_to r k
    pub differs : l.replayed.differs ≡ unlike_in k
    pub left : machine_left l ≡ machine_after image r rx tx k

  finished-ended : (i : ℕ) (g : Going) → Stands i g → Ended i i (finished image r i g)
  unfolding end_of
  finished-ended i g s =
      record {
        run = refl;
        end = ap (λ (b : Bool). cond b (end_by (is_cut r i) i (fault_of_entry r i)) (Ok tt)) (sym (le-ltb i i (omega arith)));
        ticks = s.ticks;
        differs = s.differs;
        left = s.left;
      }

  stopped-ended : (total i : ℕ) (g : Going) → i < total → Stands i g → is_fine r i ≡ false → Ended total i (stopped image r i g (step_at image r i g))
  unfolding end_of
  stopped-ended total i g h s bad =
      record {
        run = refl;
        end =
            ends_so i g s bad ∙ ap (λ (b : Bool). cond b (end_by (is_cut r i) i (fault_of_entry r i)) (Ok tt)) (sym (lt-ltb i total h));
        ticks = s.ticks;
        differs = s.differs;
        left = ap machine_stepped (not-run i g s bad).step;
      }

  -- THE ENTRIES FROM i ON: those before the first that is not fine are run
  abbrev next : ℕ → Going → Going
  next i g = ongoing image r i g (step_at image r i g)

  abbrev either : ℕ → ℕ → Going → Bool → Left
  either n i g go = cond go (replay_from image r n (suc i) (next i g)) (stopped image r i g (step_at image r i g))

  pub replay_ends : (total n i : ℕ) (g : Going) → i + n ≡ total → Stands i g → Ended total (bad_from (is_fine r) n i) (replay_from image r n i g)
  unfolding bad_from replay_from
  replay_ends total zero i g e s =
      let z : i ≡ total = omega (arith, e) in
      subst (λ (t : ℕ). Ended t i (finished image r i g)) z (finished-ended i g s)
  replay_ends total (suc n) i g e s = go (is_fine r i) refl (replay_ends total n (suc i) (next i g) (omega (arith, e)))
    where
      go : (b : Bool) → is_fine r i ≡ b
          → (Stands (suc i) (next i g) → Ended total (bad_from (is_fine r) n (suc i)) (replay_from image r n (suc i) (next i g)))
          → Ended total (cond b (bad_from (is_fine r) n (suc i)) i) (either n i g (is_run (step_at image r i g).played))
      go true f later =
          subst (λ (b : Bool). Ended total (bad_from (is_fine r) n (suc i)) (either n i g b)) (sym (goes_on i g s f)) (later (stands_on i g s f))
      go false f later =
          subst (λ (b : Bool). Ended total i (either n i g b)) (sym (stops i g s f)) (stopped-ended total i g (omega (arith, e)) s f)

  -- BEFORE ENTRY i, where all before it are fine: the replay stands there, and what is left of it is what is left to do
  module _ (out : List ℕ) (long : room ≤ length out) where
    abbrev going : ℕ → Going
    going i = going_at image r rx tx out i

    abbrev FineTo : ℕ → Type 0
    FineTo i = (j : ℕ) → j < i → is_fine r j ≡ true

    pub going-stands : (i : ℕ) → FineTo i → Stands i (going i)
    unfolding going_at events_up_to body_begins stamp_before ticks_up_to other_in after_run
    going-stands zero fine = record { left = refl; at = refl; before = refl; ticks = refl; differs = refl; long = long }
    going-stands (suc i) fine = stands_on i (going i) (going-stands i (λ j h. fine j (omega arith))) (fine i (omega arith))

    one_more : (n i : ℕ) → Stands i (going i) → is_fine r i ≡ true → replay_from image r (suc n) i (going i) ≡ replay_from image r n (suc i) (going (suc i))
    unfolding going_at replay_from
    one_more n i s f = ap (either n i (going i)) (goes_on i (going i) s f)

    pub going-left : (n i : ℕ) → FineTo i → replay_from image r (i + n) 0 (going 0) ≡ replay_from image r n i (going i)
    going-left n zero fine = ap (λ (k : ℕ). replay_from image r k 0 (going 0)) (zero-add n)
    going-left n (suc i) fine =
        ap (λ (k : ℕ). replay_from image r k 0 (going 0)) (omega arith)
        ∙ going-left (suc n) i (λ j h. fine j (omega arith))
        ∙ one_more n i (going-stands i (λ j h. fine j (omega arith))) (fine i (omega arith))
