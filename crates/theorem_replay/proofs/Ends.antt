-- HOW A REPLAY ENDS (R17.3), under an accepted table, of contents that are whole, and into an out buffer of 16,384 bytes or more: by the first entry
-- that is cut or has a fault; the entries before it are run, and nothing of it.
use Rattle.std.proofs.Common.{Ok, Err, Result}
use Prim.Native.Nat.{ℕ, suc, ◌+◌, ◌<◌, ◌≤◌}
use mathlib.Core.Path.{◌≡◌, refl, sym, ap, ap₂, ◌∙◌, subst}
use mathlib.Core.Logic.{◌↔◌}
use mathlib.Core.Bool.{Bool, true, false, cond}
use mathlib.Core.List.{List}
use native.Mathlib.Numerals.{add-one}
use native.Mathlib.Omega.{arith}
use borrow.Author.Tests.{lt-ltb, le-ltb, ltb-true, ltb-false}
use lib.Dec.{ltb}
use lib.ListN.{length}
use Rattle.lists.specs.Search.{first_bad}
use Rattle.lists.proofs.Search.{found-bad}
use Rattle.table.specs.Table.{check_table}
use Rattle.event_answer.specs.Answers.{room}
use Rattle.recording.specs.declared.Fault.{Fault}
use Rattle.recording.specs.Recording.{entries_in, shown_by}
use Rattle.replay_whole.specs.declared.End.{End}
use Rattle.replay_whole.specs.declared.End.TheVariants.{Cut, Refused}
use Rattle.replay_whole.specs.Replay.{Left, under_front, replay_of}
use Rattle.theorem_replay.specs.Entries.{ticks_up_to, is_cut, fault_of_entry, is_fine}
use Rattle.theorem_replay.specs.Runs.{machine_after, RanTo, FirstNotFine}
use Rattle.law_lists.proofs.First.{before-bad, bad-only, bad_none}
use Rattle.theorem_replay.proofs.Fold.{end_by, end_of, Ended}
use Rattle.theorem_replay.proofs.Replay.{under_accepted, long-ends}

module _ (image r rx tx : List ℕ) where
  abbrev bad : ℕ
  bad = first_bad (is_fine r) (entries_in r)

  -- the first entry that is not fine, where there is one
  bad-first : bad < entries_in r → FirstNotFine r bad
  bad-first h = (h, before-bad (is_fine r) (entries_in r), found-bad (is_fine r) (entries_in r) h)

  first-is : (i : ℕ) → FirstNotFine r i → bad ≡ i
  first-is i f = bad-only (is_fine r) (entries_in r) i f.0 f.1 f.2

  -- the end, by the entry k before which the replay stopped
  abbrev ended : ℕ → Result Unit End
  ended k = end_of image r rx tx (entries_in r) k

  end-cut : (k i : ℕ) → ended k ≡ Err (Cut (suc i)) → (k < entries_in r) × (k ≡ i) × (is_cut r k ≡ true)
  unfolding end_of end_by
  end-cut k i e = go (ltb k (entries_in r)) refl (is_cut r k) (fault_of_entry r k) e
    where
      go : (b : Bool) → ltb k (entries_in r) ≡ b → (c : Bool) (f : Result Unit Fault) → cond b (end_by c k f) (Ok (tt {0})) ≡ Err (Cut (suc i))
          → (k < entries_in r) × (k ≡ i) × (c ≡ true)
      go true l true f e = (ltb-true k (entries_in r) l, (let n : k + 1 ≡ suc i = cc in omega arith), refl)
      go true l false (Ok _) e = cc
      go true l false (Err fault) e = cc
      go false l c f e = cc

  end_refused : (k i : ℕ) (fault : Fault) → ended k ≡ Err (Refused (suc i) fault)
      → (k < entries_in r) × (k ≡ i) × (is_cut r k ≡ false) × (fault_of_entry r k ≡ Err fault)
  unfolding end_of end_by
  end_refused k i fault e = go (ltb k (entries_in r)) refl (is_cut r k) (fault_of_entry r k) e
    where
      go : (b : Bool) → ltb k (entries_in r) ≡ b → (c : Bool) (f : Result Unit Fault) → cond b (end_by c k f) (Ok (tt {0})) ≡ Err (Refused (suc i) fault)
          → (k < entries_in r) × (k ≡ i) × (c ≡ false) × (f ≡ Err fault)
      go true l true f e = cc
      go true l false (Ok _) e = cc
      go true l false (Err g) e = (ltb-true k (entries_in r) l, (let n : k + 1 ≡ suc i = cc in omega arith), refl, cc)
      go false l c f e = cc

  end_whole : (k : ℕ) → ended k ≡ Ok tt → entries_in r ≤ k
  unfolding end_of end_by
  end_whole k e = go (ltb k (entries_in r)) refl (is_cut r k) (fault_of_entry r k) e
    where
      go : (b : Bool) → ltb k (entries_in r) ≡ b → (c : Bool) (f : Result Unit Fault) → cond b (end_by c k f) (Ok (tt {0})) ≡ Ok (tt {0}) → entries_in r ≤ k
      go true l true f e = cc
      go true l false (Ok _) e = cc
      go true l false (Err fault) e = cc
      go false l c f e = ltb-false k (entries_in r) l

  ended-there : (k : ℕ) → k < entries_in r → ended k ≡ end_by (is_cut r k) k (fault_of_entry r k)
  unfolding end_of
  ended-there k h = ap (λ (b : Bool). cond b (end_by (is_cut r k) k (fault_of_entry r k)) (Ok tt)) (lt-ltb k (entries_in r) h)

  ended-whole : ended (entries_in r) ≡ Ok tt
  unfolding end_of
  ended-whole =
      let n = entries_in r in
      ap (λ (b : Bool). cond b (end_by (is_cut r n) n (fault_of_entry r n)) (Ok tt)) (le-ltb n n (omega arith))

  first-at : (i : ℕ) → (bad < entries_in r) → bad ≡ i → FirstNotFine r i
  first-at i h e = subst (FirstNotFine r) e (bad-first h)

  cut_at : (i : ℕ) → FirstNotFine r i → is_cut r i ≡ true → ended bad ≡ Err (Cut (suc i))
  unfolding end_by
  cut_at i f c = ap ended (first-is i f) ∙ ended-there i f.0 ∙ ap (λ (b : Bool). end_by b i (fault_of_entry r i)) c ∙ ap (λ (k : ℕ). Err (Cut k)) (add-one i)

  refused-at : (i : ℕ) (f : Fault) → FirstNotFine r i → is_cut r i ≡ false → fault_of_entry r i ≡ Err f → ended bad ≡ Err (Refused (suc i) f)
  unfolding end_by
  refused-at i f n c e =
      ap ended (first-is i n) ∙ ended-there i n.0 ∙ ap₂ (λ (b : Bool) (g : Result Unit Fault). end_by b i g) c e ∙ ap (λ (k : ℕ). Err (Refused k f)) (add-one i)

  -- THE REPLAY
  module _ (out : List ℕ) (accepted : check_table image ≡ Ok tt) (sized : shown_by r ≡ Ok tt) (long : room ≤ length out) where
    abbrev replay : Left
    replay = replay_of image r rx tx out

    pub replay_ended : Ended image r rx tx (entries_in r) bad replay
    unfolding under_front
    replay_ended =
        subst (Ended image r rx tx (entries_in r) bad) (sym (under_accepted image r rx tx out accepted ∙ ap (under_front image r rx tx out) sized))
        (long-ends image r rx tx out long)

    -- CUT, by the first entry that is not fine, where it is cut
    pub cut-first : (i : ℕ) → (replay.replayed.end ≡ Err (Cut (suc i))) ↔ (FirstNotFine r i × (is_cut r i ≡ true))
    cut-first i = (
      λ e. let f = end-cut bad i (sym replay_ended.end ∙ e) in (first-at i f.0 f.1, ap (is_cut r) (sym f.1) ∙ f.2),
      λ f. replay_ended.end ∙ cut_at i f.0 f.1,
    )

    -- REFUSED, by the first entry that is not fine, where it is not cut, and for its fault
    pub refused-first : (i : ℕ) (f : Fault)
        → (replay.replayed.end ≡ Err (Refused (suc i) f)) ↔ (FirstNotFine r i × (is_cut r i ≡ false) × (fault_of_entry r i ≡ Err f))
    refused-first i f = (
      λ e. let n = end_refused bad i f (sym replay_ended.end ∙ e) in
          (first-at i n.0 n.1, ap (is_cut r) (sym n.1) ∙ n.2, ap (fault_of_entry r) (sym n.1) ∙ n.3),
      λ n. replay_ended.end ∙ refused-at i f n.0 n.1 n.2,
    )

    -- WHOLE, where every entry is fine
    pub whole_exactly : (replay.replayed.end ≡ Ok tt) ↔ ((j : ℕ) → j < entries_in r → is_fine r j ≡ true)
    whole_exactly = (
      λ e j h. before-bad (is_fine r) (entries_in r) j (omega (arith, h, end_whole bad (sym replay_ended.end ∙ e))),
      λ all. replay_ended.end ∙ ap ended (bad_none (is_fine r) (entries_in r) all) ∙ ended-whole,
    )

    -- THE ENTRIES BEFORE IT HAVE BEEN RUN, and nothing of it; all of them where none is cut or has a fault
    ran : (n : ℕ) → bad ≡ n → RanTo image r rx tx n replay
    ran n is = (replay_ended.run ∙ is, replay_ended.ticks ∙ ap (ticks_up_to r) is, replay_ended.left ∙ ap (machine_after image r rx tx) is)

    pub run-before : (i : ℕ) → FirstNotFine r i → RanTo image r rx tx i replay
    run-before i f = ran i (first-is i f)

    pub run-whole : ((j : ℕ) → j < entries_in r → is_fine r j ≡ true) → RanTo image r rx tx (entries_in r) replay
    run-whole all = ran (entries_in r) (bad_none (is_fine r) (entries_in r) all)
