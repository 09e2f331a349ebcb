-- RECORDED IN ONE MEMORY, REPLAYED IN ANOTHER: of the right lengths, whatever stands in them at the start.
use Rattle.std.proofs.Common.{Ok}
use Prim.Native.Nat.{ℕ, suc, ◌≤◌}
use mathlib.Core.Path.{◌≡◌, refl, sym, ap, ap₂, ◌∙◌, subst}
use mathlib.Core.List.{List, [], ◌∷◌, ◌++◌}
use lib.ListN.{length, replicate}
use Rattle.lists.specs.Each.{each}
use Rattle.table.specs.Table.{check_table}
use Rattle.reading_lengths.specs.Listed.{Bytes}
use Rattle.connection.specs.declared.Connection.{Connection}
use Rattle.connection.specs.Connection.{zero_record}
use Rattle.state.specs.Fresh.{fresh_at, fresh_state}
use Rattle.event_decode.specs.Calls.{call_of}
use Rattle.event_answer.specs.Answers.{room}
use Rattle.model.specs.Events.{Event}
use Rattle.model.specs.World.{World, Held, view_from}
use Rattle.model.specs.Step.{run}
use Rattle.model_runs.specs.Streams.{RunBytes}
use Rattle.model_refines.specs.Table.{table_of}
use Rattle.model_refines.specs.Whole.{whole_of}
use Rattle.model_refines.specs.Machine.{Machine, machine}
use Rattle.model_refines.specs.Run.{after_run, Good}
use Rattle.theorems.proofs.Runs.{run_good, run_view}
use Rattle.theorems.proofs.Three.{fresh_good}
use Rattle.dispatch_refines.specs.Spelt.{events_of}
use Rattle.dispatch_refines.proofs.Calls.{ticks-bytes, events_bytes}
use Rattle.recording.specs.Recording.{distance_in, stamps}
use Rattle.replay_whole.specs.Replay.{replay_of}
use Rattle.theorem_record.specs.Record.{Noted, recording_of, AllNotable, Recordable}
use Rattle.theorem_record.specs.Again.{Timed, first_at, after_ticks, after_note, answer_to, recorded, recorded_fresh, NoDifference}
use Rattle.theorem_record.proofs.Memory.{HoldsAlike, answers-same}
use Rattle.theorem_record.proofs.Calls.{calls_replay}

module _ (image : List ℕ) where
  -- a run keeps two good machines alike
  run-alike : {m m' : Machine} → Good image m → Good image m' → HoldsAlike m m' → (es : List Event) → RunBytes es
      → HoldsAlike (after_run image m es) (after_run image m' es)
  run-alike {m} {m'} g g' same es b =
      record {
        held = run_view image m es b g ∙ ap (λ (w : World). run (table_of image) (whole_of image) w es) same.held ∙ sym (run_view image m' es b g');
        rx = (run_good image m es b g).passed.receive ∙ sym (run_good image m' es b g').passed.receive;
        tx = (run_good image m es b g).passed.send ∙ sym (run_good image m' es b g').passed.send;
      }

  -- so the recorder writes the same
  abbrev TimedBytes : List Timed → Type 0
  TimedBytes [] = Unit {0}
  TimedBytes (c ∷ cs) = Bytes c.arguments × TimedBytes cs

  recorded-bytes : (before : ℕ) (m : Machine) (cs : List Timed) → AllNotable (recorded image before m cs) → TimedBytes cs
  unfolding recorded
  recorded-bytes before m [] h = tt
  recorded-bytes before m (c ∷ cs) (n, h) =
      (n.bytes, recorded-bytes c.stamp (after_note image c.number c.arguments (after_ticks image (distance_in stamps before c.stamp) m)) cs h)

  recorded-same : (before : ℕ) (m m' : Machine) → Good image m → Good image m' → HoldsAlike m m' → (cs : List Timed) → TimedBytes cs
      → recorded image before m cs ≡ recorded image before m' cs
  unfolding recorded
  recorded-same before m m' g g' same [] h = refl
  recorded-same before m m' g g' same (c ∷ cs) (bytes, h) =
      let gap : ℕ = distance_in stamps before c.stamp in
      let u : Machine = after_ticks image gap m in
      let u' : Machine = after_ticks image gap m' in
      let ticks : RunBytes (replicate gap _) = ticks-bytes gap in
      let gu : Good image u = run_good image m _ ticks g in
      let gu' : Good image u' = run_good image m' _ ticks g' in
      let later : HoldsAlike u u' = run-alike g g' same _ ticks in
      let events : RunBytes (events_of c.arguments (call_of c.number c.arguments)) =
      events_bytes c.arguments bytes (call_of c.number c.arguments) in
      let one : answer_to image c.number c.arguments u ≡ answer_to image c.number c.arguments u' =
      answers-same image gu gu' later c.arguments bytes (call_of c.number c.arguments) in
      ap₂ (λ (a : List ℕ) (es : List Noted). record { stamp = c.stamp; number = c.number; arguments = c.arguments; answer = a } ∷ es) one
      (recorded-same c.stamp (after_note image c.number c.arguments u) (after_note image c.number c.arguments u')
      (run_good image u _ events gu) (run_good image u' _ events gu') (run-alike gu gu' later _ events) cs h)

  -- a fresh state holds nothing
  fresh_view : (rx rx' tx tx' : List ℕ) (k : ℕ) (cs : List Connection)
      → view_from rx tx k (each (fresh_at image) k cs) ≡ view_from rx' tx' k (each (fresh_at image) k cs)
  fresh_view rx rx' tx tx' k [] = refl
  fresh_view rx rx' tx tx' k (c ∷ cs) =
      ap (λ (hs : List Held). record { connection = fresh_at image k c; received = []; waiting = [] } ∷ hs) (fresh_view rx rx' tx tx' (suc k) cs)

  module _ (accepted : check_table image ≡ Ok tt) (rx rx' tx tx' : List ℕ)
      (a : length rx ≡ 23424) (a' : length rx' ≡ 23424) (b : length tx ≡ 23552) (b' : length tx' ≡ 23552) where
    fresh-alike : HoldsAlike (machine (fresh_state image) rx tx) (machine (fresh_state image) rx' tx')
    unfolding fresh_state
    fresh-alike =
        record {
          held = ap (λ (hs : List Held). record { held = hs; udp = 0; tcp = 0 }) (fresh_view rx rx' tx tx' 0 (replicate 16 zero_record));
          rx = a ∙ sym a';
          tx = b ∙ sym b';
        }

    pub made_same : (cs : List Timed) → TimedBytes cs → recorded_fresh image rx tx cs ≡ recorded_fresh image rx' tx' cs
    made_same cs =
        recorded-same (first_at cs) (machine (fresh_state image) rx tx) (machine (fresh_state image) rx' tx')
        (fresh_good image accepted rx tx a b) (fresh_good image accepted rx' tx' a' b') fresh-alike cs

    -- RECORD, THEN REPLAY
    pub replay_anywhere : (cs : List Timed) (more : List ℕ) → Recordable (recorded_fresh image rx tx cs) → (out : List ℕ) → room ≤ length out
        → NoDifference (length cs) (replay_of image (recording_of (recorded_fresh image rx tx cs) ++ more) rx' tx' out)
    replay_anywhere cs more can out long =
        let same : recorded_fresh image rx tx cs ≡ recorded_fresh image rx' tx' cs =
        made_same cs (recorded-bytes (first_at cs) (machine (fresh_state image) rx tx) cs can.each) in
        subst (λ (es : List Noted). NoDifference (length cs) (replay_of image (recording_of es ++ more) rx' tx' out)) (sym same)
        (calls_replay image rx' tx' cs more (subst Recordable same can) accepted out long)
