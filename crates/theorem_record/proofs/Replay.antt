-- RECORD, THEN REPLAY: for any calls from a fresh state with stamps whose distances are at most 65,535, the recording made of them and their
-- answers replays with no difference.
use Rattle.std.proofs.Common.{Ok}
use Prim.Native.Nat.{ℕ, suc, ◌+◌, ◌-◌, ◌%◌, ◌≤◌, ◌<◌, ◌^◌}
use mathlib.Core.Path.{◌≡◌, refl, sym, ap, ap₂, ◌∙◌, subst}
use mathlib.Core.Bool.{true, cond}
use mathlib.Core.List.{List, [], ◌∷◌, ◌++◌}
use native.Mathlib.Omega.{arith}
use borrow.Author.Tests.{le-ltb, le-leb}
use lib.ListN.{length, drop, length-append, length-drop}
use Rattle.lists.specs.Search.{bad_from}
use Rattle.table.specs.Table.{check_table}
use Rattle.state.specs.Fresh.{fresh_state}
use Rattle.event_answer.specs.Answers.{room}
use Rattle.model_refines.specs.Machine.{Machine, machine, loan_to}
use Rattle.recording.specs.Recording.{contents_to, entry_row, stamp_in, body_long, distance_in, stamps, body_short, sized_of, shown_by}
use Rattle.replay_step.specs.Step.{Stepped, entry_step}
use Rattle.replay_whole.specs.Replay.{Going, Left, is_run, is_other, first_other, step_at, ongoing, stopped, replay_from, under_front, under_table, replay_of}
use Rattle.theorem_record.specs.Record.{Noted, bodies_for, recording_of, Notable, AllNotable, Near, first_stamp, Recordable}
use Rattle.theorem_record.specs.Again.{after_ticks, after_note, Answered, NoDifference}
use Rattle.theorem_record.proofs.Back.{WrittenAt, row_back, body-first, long-is, stamp_back}
use Rattle.theorem_record.proofs.Back.{written_on, edition_back, entries_back, front-there, made_written}
use Rattle.theorem_record.proofs.Step.{stepped_to, step_same}
use Rattle.replay_step.specs.declared.Compared.TheVariants as Entry

-- THE CONTENTS: whole, of this edition, and no entry too long
none_long : (r : List ℕ) (i at : ℕ) (es : List Noted) (behind more : List ℕ) → WrittenAt r i at es behind more → AllNotable es
    → bad_from (body_short r) (length es) i ≡ i + length es
unfolding bad_from
none_long r i at [] behind more s each = omega arith
none_long r i at (e ∷ es) behind more s (n, each) =
    let short : body_short r i ≡ true = le-leb (body_long (entry_row r i)) 4096 (omega (arith, long-is s n, n.short)) in
    rw short (none_long r (suc i) (at + body_long (entry_row r i)) es behind more (written_on s n) each ∙ omega arith)

module _ (es : List Noted) (more : List ℕ) (can : Recordable es) where
  abbrev r : List ℕ
  r = recording_of es ++ more

  few : length es < 256 ^ 2
  few = omega (arith, can.entries)

  sized : sized_of r (length es) ≡ Ok tt
  unfolding sized_of
  sized =
      let all : bad_from (body_short r) (length es) 0 ≡ 0 + length es =
      none_long r 0 (contents_to (length es)) es (bodies_for es ++ more) more (made_written es more few) can.each in
      rw (
        le-ltb (length r) (contents_to (length es)) (front-there es more few),
        le-ltb 4000 (length es) can.entries,
        le-ltb (bad_from (body_short r) (length es) 0) (length es) (omega (arith, all)),
      )
      refl

  front-sized : shown_by r ≡ Ok tt
  unfolding shown_by
  front-sized =
      rw (le-ltb (length r) 2 (omega (arith, front-there es more few)), edition_back es more few, entries_back es more few) sized

-- THE ENTRIES, one after the other
abbrev going : Machine → List ℕ → ℕ → ℕ → ℕ → Going
going m out at before ticks =
    record { state = m.state; rx = m.rx; tx = m.tx; out = out; at = at; before = before; ticks = ticks; differs = 0 }

module _ (image r behind more : List ℕ) where
  abbrev Replays : List Noted → Type 0
  Replays es =
      (i at before ticks : ℕ) (m : Machine) (out : List ℕ) → room ≤ length out → WrittenAt r i at es behind more → AllNotable es → Near before es
      → Answered image before m es → NoDifference (i + length es) (replay_from image r (length es) i (going m out at before ticks))

  replays_none : Replays []
  unfolding replay_from
  replays_none i at before ticks m out long s each near said = record { end = refl; run = omega arith; differs = refl }

  replays_one : (e : Noted) (es : List Noted) → Replays es → Replays (e ∷ es)
  unfolding replay_from is_run is_other first_other
  replays_one e es others i at before ticks m out long s (n, each) (close, near) (is, said) =
      let gap : ℕ = distance_in stamps before e.stamp in
      let after : Machine = after_note image e.number e.arguments (after_ticks image gap m) in
      let ticks' : ℕ = ticks + distance_in stamps before (stamp_in (entry_row r i)) in
      let out' : List ℕ = e.answer ++ drop (length e.answer) out in
      let g : Going = going m out at before ticks in
      let short : length e.answer ≤ length out = omega (arith, n.short, length-append e.arguments e.answer, long) in
      let long' : room ≤ length out' =
      omega (arith, length-append e.answer (drop (length e.answer) out), length-drop (length e.answer) out, short, long) in
      let step : step_at image r i g ≡ stepped_to (Ok (Entry.Same (length e.answer))) after out' =
      ap₂ (λ (row rest : List ℕ). entry_step (loan_to image m) out before row rest) (row_back s) (body-first s)
      ∙ step_same image m out long before e n close is (bodies_for es ++ more) in
      let stamp : stamp_in (entry_row r i) ≡ e.stamp = ap stamp_in (row_back s) ∙ stamp_back e n in
      let on : replay_from image r (length (e ∷ es)) i g
      ≡ replay_from image r (length es) (suc i)
      (going after out' (at + body_long (entry_row r i)) e.stamp ticks') =
      ap (λ (x : Stepped). cond (is_run x.played) (replay_from image r (length es) (suc i) (ongoing image r i g x)) (stopped image r i g x)) step
      ∙ ap (λ (b : ℕ). replay_from image r (length es) (suc i) (going after out' (at + body_long (entry_row r i)) b ticks')) stamp in
      let count : suc i + length es ≡ i + length (e ∷ es) = omega arith in
      subst (λ (k : ℕ). NoDifference k (replay_from image r (length (e ∷ es)) i g)) count
      (subst (NoDifference (suc i + length es)) (sym on)
      (others (suc i) (at + body_long (entry_row r i)) e.stamp ticks' after out' long' (written_on s n) each near said))

  replays : (es : List Noted) → Replays es
  replays [] = replays_none
  replays (e ∷ es) = replays_one e es (replays es)

-- the first stamp counts as distance 0
first-near : (s : ℕ) → s < stamps → distance_in stamps s s ≡ 0
unfolding distance_in
first-near s h = let whole : s + (stamps - s) ≡ stamps = omega arith in ap (λ (x : ℕ). x % stamps) whole

module _ (image rx tx out more : List ℕ) (long : room ≤ length out) where
  abbrev fresh : Machine
  fresh = machine (fresh_state image) rx tx

  abbrev replayed : List Noted → ℕ → Left
  replayed es before = replay_from image (recording_of es ++ more) (length es) 0 (going fresh out (contents_to (length es)) before 0)

  all_same : (es : List Noted) → Recordable es → Answered image (first_stamp es) fresh es
      → NoDifference (length es) (replayed es (stamp_in (entry_row (recording_of es ++ more) 0)))
  all_same [] can said =
      replays image (recording_of [] ++ more) (bodies_for [] ++ more) more [] 0 4 (stamp_in (entry_row (recording_of [] ++ more) 0)) 0 fresh out long
      (made_written [] more (few [] more can)) tt tt tt
  all_same (e ∷ es) can said =
      let n : Notable e = can.each.0 in
      let stands = made_written (e ∷ es) more (few (e ∷ es) more can) in
      let stamp : stamp_in (entry_row (recording_of (e ∷ es) ++ more) 0) ≡ e.stamp = ap stamp_in (row_back stands) ∙ stamp_back e n in
      let zeroth : distance_in stamps e.stamp e.stamp ≤ 65535 = omega (arith, first-near e.stamp n.in_width) in
      let none : 0 + length (e ∷ es) ≡ length (e ∷ es) = omega arith in
      subst (λ (k : ℕ). NoDifference k (replayed (e ∷ es) (stamp_in (entry_row (recording_of (e ∷ es) ++ more) 0)))) none
      (subst (λ (b : ℕ). NoDifference (0 + length (e ∷ es)) (replayed (e ∷ es) b)) (sym stamp)
      (replays image (recording_of (e ∷ es) ++ more) (bodies_for (e ∷ es) ++ more) more (e ∷ es) 0 (contents_to (length (e ∷ es))) e.stamp 0 fresh out long
      stands can.each (zeroth, can.near) said))

  replay_is : (es : List Noted) → check_table image ≡ Ok tt → Recordable es
      → replay_of image (recording_of es ++ more) rx tx out ≡ replayed es (stamp_in (entry_row (recording_of es ++ more) 0))
  unfolding replay_of under_table under_front
  replay_is es accepted can =
      ap (under_table image (recording_of es ++ more) rx tx out) accepted
      ∙ ap (under_front image (recording_of es ++ more) rx tx out) (front-sized es more can)
      ∙ ap
      (λ (n : ℕ). replay_from image (recording_of es ++ more) n 0 (going fresh out (contents_to n) (stamp_in (entry_row (recording_of es ++ more) 0)) 0))
      (entries_back es more (few es more can))

-- RECORD, THEN REPLAY: what was answered so from a fresh state under an accepted table replays with no difference, whatever bytes stand behind
-- the last body
pub record_replay : (image rx tx out : List ℕ) (es : List Noted) (more : List ℕ) → check_table image ≡ Ok tt → room ≤ length out → Recordable es
    → Answered image (first_stamp es) (machine (fresh_state image) rx tx) es → NoDifference (length es) (replay_of image (recording_of es ++ more) rx tx out)
record_replay image rx tx out es more accepted long can said =
    subst (NoDifference (length es)) (sym (replay_is image rx tx out more long es accepted can)) (all_same image rx tx out more long es can said)
