-- THE REPORT THAT IS COUNTED OF A RUN OF CALLS (R21.10, R21.11), entry by entry from number, arguments and the answer that the core gives, is the report of the
-- run of events that these calls spell: a function of the list that demand 3 speaks of, and of the drops.
use Prim.Native.Nat.{ℕ}
use mathlib.Core.Path.{◌≡◌, refl, sym, ap, ◌∙◌}
use mathlib.Core.Bool.{true}
use mathlib.Core.List.{List, [], ◌∷◌, ◌++◌, append_assoc}
use lib.ListN.{replicate, get_or-replicate}
use Rattle.reading.specs.Feed.{Out}
use Rattle.event_decode.specs.Calls.{call_of}
use Rattle.report.specs.Report.{empty_report, add_reports, report_of}
use Rattle.report_count.specs.declared.Run.{Run}
use Rattle.report_count.specs.Count.{run_begun, event_counted}
use Rattle.recording.specs.Recording.{distance_in, stamps}
use Rattle.model.specs.Events.{Event, tick, on_whole}
use Rattle.model_runs.specs.Same.{Same}
use Rattle.model_runs.specs.Streams.{RunBytes}
use Rattle.model_refines.specs.Machine.{Machine}
use Rattle.model_refines.specs.Run.{after_event, given, after_run, given_in, Good}
use Rattle.dispatch_refines.specs.Spelt.{events_of}
use Rattle.dispatch_refines.proofs.Calls.{ticks-bytes, events_bytes}
use Rattle.theorem_report.proofs.Counts.{report_full}
use Rattle.theorem_report.proofs.Joins.{empty_add, empty_full}
use Rattle.theorem_record.specs.Again.{Timed, after_ticks, after_note, answer_to, recorded}
use Rattle.theorem_tally.specs.Items.{items_from, sum_to, connection_report, run_report}
use Rattle.theorem_tally.specs.Tally.{entries_counted, events_timed, TimedBytes}
use Rattle.theorem_tally.proofs.Sums.{sum_full, sum_below}
use Rattle.theorem_tally.proofs.Same.{same_report}
use Rattle.theorem_tally.proofs.Tallied.{told_report, told_sum, Tallied, tallied_same, none_tallied, both_tallied}
use Rattle.theorem_tally.proofs.Calls.{ticks_silent, call_counted}

module _ (image : List ℕ) where
  -- what a connection is given in two runs, one behind the other
  given-append : (k : ℕ) (m : Machine) (es fs : List Event)
      → given_in image k m (es ++ fs) ≡ given_in image k m es ++ given_in image k (after_run image m es) fs
  unfolding given_in after_run
  given-append k m [] fs = refl
  given-append k m (e ∷ es) fs =
      ap (λ (l : List Out). given image k e m ++ l) (given-append k (after_event image e m) es fs)
      ∙ sym (append_assoc (given image k e m) (given_in image k (after_event image e m) es) (given_in image k (after_run image (after_event image e m) es) fs))

  -- the ticks before a call give nothing
  behind-ticks : (k n : ℕ) (m : Machine) (es : List Event)
      → given_in image k (after_ticks image n m) es ≡ given_in image k m (replicate n (on_whole tick) ++ es)
  behind-ticks k n m es =
      sym (given-append k m (replicate n (on_whole tick)) es
      ∙ ap (λ (l : List Out). l ++ given_in image k (after_ticks image n m) es) (ticks_silent image k [] n m))

  call_behind : (k n : ℕ) (m : Machine) (es fs : List Event)
      → given_in image k (after_ticks image n m) es ++ given_in image k (after_run image (after_ticks image n m) es) fs
      ≡ given_in image k m (replicate n (on_whole tick) ++ (es ++ fs))
  call_behind k n m es fs = sym (given-append k (after_ticks image n m) es fs) ∙ behind-ticks k n m (es ++ fs)

  -- R21.10: CALLS, ONE AFTER THE OTHER, with the ticks between them
  pub calls-counted : (cs : List Timed) → TimedBytes cs → (before : ℕ) (m : Machine) (r : Run)
      → Tallied r (λ k. given_in image k m (events_timed before cs)) (entries_counted r (recorded image before m cs))
  unfolding events_timed entries_counted recorded given_in
  calls-counted [] bytes before m r = none_tallied r
  calls-counted (c ∷ cs) (bytes, later) before m r =
      let n : ℕ = distance_in stamps before c.stamp in
      let at : Machine = after_ticks image n m in
      let es : List Event = events_of c.arguments (call_of c.number c.arguments) in
      let next : Machine = after_note image c.number c.arguments at in
      let d : Run = event_counted c.number c.arguments (answer_to image c.number c.arguments at) r in
      let e : Run = entries_counted d (recorded image c.stamp next cs) in
      tallied_same r e (λ k. given_in image k at es ++ given_in image k next (events_timed c.stamp cs))
      (λ k. given_in image k m (replicate n (on_whole tick) ++ (es ++ events_timed c.stamp cs)))
      (λ k l. call_behind k n m es (events_timed c.stamp cs))
      (both_tallied r d e (λ k. given_in image k at es) (λ k. given_in image k next (events_timed c.stamp cs))
      (call_counted image at c.arguments bytes r c.number) (calls-counted cs later c.stamp next d))

  module _ (before : ℕ) (m : Machine) where
    abbrev pub counted_run : List Timed → Run
    counted_run cs = entries_counted run_begun (recorded image before m cs)

    begun_sum : (f : ℕ → List Out) → told_sum run_begun f ≡ sum_to (λ k. report_of (items_from k 0 (f k))) 16
    begun_sum f =
        sum_below (told_report run_begun f) (λ k. report_of (items_from k 0 (f k))) 16
        (λ k l. ap (λ (n : ℕ). report_of (items_from k n (f k))) (get_or-replicate 16 k 0 0 l))

    -- R21.11, THE REPORT THAT IS COUNTED, where no sum passed 64 bits, is that of the run
    pub tally_report : (cs : List Timed) → TimedBytes cs → (counted_run cs).fits ≡ true → (counted_run cs).report ≡ run_report image m (events_timed before cs)
    tally_report cs bytes fits =
        (calls-counted cs bytes before m run_begun).sums empty_full refl fits
        ∙ ap (add_reports empty_report) (begun_sum (λ k. given_in image k m (events_timed before cs)))
        ∙ empty_add (run_report image m (events_timed before cs))
        (sum_full (connection_report image m (events_timed before cs)) 16 (λ k. report_full (items_from k 0 (given_in image k m (events_timed before cs)))))

-- calls whose arguments are bytes spell a run whose segments are bytes
both_bytes : (es fs : List Event) → RunBytes es → RunBytes fs → RunBytes (es ++ fs)
both_bytes [] fs p q = q
both_bytes (e ∷ es) fs (b, p) q = (b, both_bytes es fs p q)

timed-bytes : (before : ℕ) (cs : List Timed) → TimedBytes cs → RunBytes (events_timed before cs)
unfolding events_timed
timed-bytes before [] b = tt
timed-bytes before (c ∷ cs) (b, bs) =
    both_bytes (replicate (distance_in stamps before c.stamp) (on_whole tick)) _ (ticks-bytes (distance_in stamps before c.stamp))
    (both_bytes (events_of c.arguments (call_of c.number c.arguments)) _ (events_bytes c.arguments b (call_of c.number c.arguments))
    (timed-bytes c.stamp cs bs))

-- R21.11: from one accepted table, one sound state and memory of the right lengths, calls that spell same runs (swapped, cut, joined) are counted to the same
-- report
pub same_tally : (image : List ℕ) (m : Machine) → Good image m → (before first : ℕ) (cs ds : List Timed) → TimedBytes cs → TimedBytes ds
    → Same (events_timed before cs) (events_timed first ds) → (counted_run image before m cs).fits ≡ true → (counted_run image first m ds).fits ≡ true
    → (counted_run image before m cs).report ≡ (counted_run image first m ds).report
same_tally image m good before first cs ds bytes others alike fits fit =
    tally_report image before m cs bytes fits ∙ same_report image m good alike (timed-bytes before cs bytes) ∙ sym (tally_report image first m ds others fit)
