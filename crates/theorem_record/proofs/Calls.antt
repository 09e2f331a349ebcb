-- CALLS, RECORDED FROM A FRESH STATE, are read back as those calls, and replay with no difference.
use Rattle.std.proofs.Common.{Ok}
use Prim.Native.Nat.{ℕ, ◌≤◌}
use mathlib.Core.Path.{◌≡◌, refl, sym, ap, ◌∙◌, subst}
use mathlib.Core.List.{List, [], ◌∷◌, ◌++◌, map}
use native.Mathlib.Omega.{arith}
use lib.ListN.{length, length-map}
use Rattle.table.specs.Table.{check_table}
use Rattle.state.specs.Fresh.{fresh_state}
use Rattle.event_answer.specs.Answers.{room}
use Rattle.model_refines.specs.Machine.{Machine, machine}
use Rattle.recording.specs.Recording.{distance_in, stamps}
use Rattle.replay_whole.specs.Replay.{replay_of}
use Rattle.theorem_record.specs.Record.{Noted, recording_of, Recordable, first_stamp, notes_in}
use Rattle.theorem_record.specs.Again.{Timed, after_ticks, after_note, Answered, recorded, first_at, recorded_fresh, timed_of, NoDifference}
use Rattle.theorem_record.proofs.Back.{recording_back}
use Rattle.theorem_record.proofs.Replay.{record_replay}

module _ (image : List ℕ) where
  recorded-answered : (before : ℕ) (m : Machine) (cs : List Timed) → Answered image before m (recorded image before m cs)
  unfolding recorded
  recorded-answered before m [] = tt
  recorded-answered before m (c ∷ cs) =
      (refl, recorded-answered c.stamp (after_note image c.number c.arguments (after_ticks image (distance_in stamps before c.stamp) m)) cs)

  recorded-calls : (before : ℕ) (m : Machine) (cs : List Timed) → map timed_of (recorded image before m cs) ≡ cs
  unfolding recorded
  recorded-calls before m [] = refl
  recorded-calls before m (c ∷ cs) =
      ap (λ (l : List Timed). c ∷ l)
      (recorded-calls c.stamp (after_note image c.number c.arguments (after_ticks image (distance_in stamps before c.stamp) m)) cs)

  recorded-first : (m : Machine) (cs : List Timed) → first_stamp (recorded image (first_at cs) m cs) ≡ first_at cs
  unfolding recorded
  recorded-first m [] = refl
  recorded-first m (c ∷ cs) = refl

module _ (image rx tx : List ℕ) (cs : List Timed) (more : List ℕ) (can : Recordable (recorded_fresh image rx tx cs)) where
  abbrev fresh : Machine
  fresh = machine (fresh_state image) rx tx

  abbrev made : List ℕ
  made = recording_of (recorded_fresh image rx tx cs) ++ more

  -- READ BACK AS THOSE CALLS: number, arguments and stamp of each, in order
  pub calls_back : map timed_of (notes_in made) ≡ cs
  calls_back =
      ap (map timed_of) (recording_back (recorded_fresh image rx tx cs) more (omega (arith, can.entries)) can.each)
      ∙ recorded-calls image (first_at cs) fresh cs

  -- REPLAYED WITH NO DIFFERENCE
  pub calls_replay : check_table image ≡ Ok tt → (out : List ℕ) → room ≤ length out
      → NoDifference (length cs) (replay_of image made rx tx out)
  calls_replay accepted out long =
      let es : List Noted = recorded_fresh image rx tx cs in
      let said : Answered image (first_stamp es) fresh es =
      subst (λ (b : ℕ). Answered image b fresh es) (sym (recorded-first image fresh cs)) (recorded-answered image (first_at cs) fresh cs) in
      subst (λ (n : ℕ). NoDifference n (replay_of image made rx tx out))
      (sym (length-map es timed_of) ∙ ap length (recorded-calls image (first_at cs) fresh cs))
      (record_replay image rx tx out es more accepted long can said)
