-- THE FIRST DIFFERENCE (R17.7), under an accepted table, for every recording, memories and out buffer: it is the first entry whose recorded answer
-- is not the answer of the run; none is told exactly when there is none.
use Rattle.std.proofs.Common.{Ok}
use Prim.Native.Nat.{ℕ, suc, ◌<◌}
use mathlib.Core.Path.{◌≡◌, refl, sym, ◌∙◌}
use mathlib.Core.Logic.{◌↔◌}
use mathlib.Core.Bool.{Bool, true, false}
use mathlib.Core.List.{List}
use Rattle.lists.proofs.Both.{impossible}
use Rattle.table.specs.Table.{check_table}
use Rattle.replay_whole.specs.declared.Replayed.{Replayed}
use Rattle.replay_whole.specs.Replay.{replay_of}
use Rattle.theorem_replay.specs.Entries.{recorded_answer}
use Rattle.theorem_replay.specs.Runs.{today_answer, Alike, FirstUnlike}
use Rattle.replay_step.proofs.Same.{same_equal}
use Rattle.theorem_replay.proofs.Same.{list_same}
use Rattle.theorem_replay.proofs.First.{none_other, some_other, all_same, first-other}
use Rattle.theorem_replay.proofs.Fold.{same_at, unlike_in}
use Rattle.theorem_replay.proofs.Replay.{replay_along}

module _ (image r rx tx : List ℕ) where
  -- the same byte by byte is alike
  to-alike : (i : ℕ) → same_at image r rx tx i ≡ true → Alike image r rx tx i
  to-alike i e = sym (same_equal (today_answer image r rx tx i) (recorded_answer r i) e)

  from_alike : (i : ℕ) → Alike image r rx tx i → same_at image r rx tx i ≡ true
  from_alike i a = list_same (today_answer image r rx tx i) (recorded_answer r i) (sym a)

  to_unlike : (i : ℕ) → same_at image r rx tx i ≡ false → Alike image r rx tx i → ⊥
  to_unlike i e a = impossible (sym e ∙ from_alike i a)

  from_unlike : (i : ℕ) → (Alike image r rx tx i → ⊥) → same_at image r rx tx i ≡ false
  from_unlike i un = go (same_at image r rx tx i) refl
    where
      go : (b : Bool) → same_at image r rx tx i ≡ b → b ≡ false
      go true e = absurd (un (to-alike i e))
      go false e = refl

  -- of n entries
  first_unlike : (n i : ℕ) → unlike_in image r rx tx n ≡ suc i → FirstUnlike image r rx tx n i
  first_unlike n i e =
      let f = some_other (same_at image r rx tx) n i e in
      (f.0, to_unlike i f.1, λ j h. to-alike j (f.2 j h))

  unlike_first : (n i : ℕ) → FirstUnlike image r rx tx n i → unlike_in image r rx tx n ≡ suc i
  unlike_first n i f = first-other (same_at image r rx tx) n i f.0 (from_unlike i f.1) (λ j h. from_alike j (f.2 j h))

  module _ (out : List ℕ) (accepted : check_table image ≡ Ok tt) where
    abbrev replay : Replayed
    replay = (replay_of image r rx tx out).replayed

    -- THE ENTRY THAT IS TOLD, from 1
    pub first_difference : (i : ℕ) → (replay.differs ≡ suc i) ↔ FirstUnlike image r rx tx replay.run i
    first_difference i =
        let told = (replay_along image r rx tx out accepted).differs in
        (λ e. first_unlike replay.run i (sym told ∙ e), λ f. told ∙ unlike_first replay.run i f)

    -- NONE IS TOLD
    pub no_difference : (replay.differs ≡ 0) ↔ ((j : ℕ) → j < replay.run → Alike image r rx tx j)
    no_difference =
        let told = (replay_along image r rx tx out accepted).differs in (
          λ e j h. to-alike j (none_other (same_at image r rx tx) replay.run (sym told ∙ e) j h),
          λ all. told ∙ all_same (same_at image r rx tx) replay.run (λ j h. from_alike j (all j h)),
        )
