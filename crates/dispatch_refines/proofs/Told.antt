-- THE ANSWERS OF CALLS TELL THE OUTCOMES THAT THE MACHINE GIVES in the run that they spell: so demand 3 holds of the dispatcher.
use Rattle.std.proofs.Common.{Result, Ok, Err}
use Prim.Native.Nat.{ℕ, zero, suc}
use mathlib.Core.Path.{◌≡◌, refl, sym, ap, ap₂, ◌∙◌}
use mathlib.Core.Bool.{Bool, true, false, cond}
use mathlib.Core.List.{List, [], ◌∷◌, ◌++◌, append_assoc, append-nil}
use lib.Dec.{eqb, ltb}
use lib.ListN.{length, replicate}
use Rattle.reading.specs.Feed.{Out, compared}
use Rattle.reading_lengths.specs.Listed.{Bytes}
use Rattle.event_decode.specs.declared.Call.{Call}
use Rattle.event_decode.specs.declared.BadCall.{BadCall}
use Rattle.event_decode.specs.declared.Call.TheVariants.{Ticks, Own, Lost, Segment, Walk}
use Rattle.event_decode.specs.declared.Call.TheVariants.{TakeWaiting, Datagram, Accept, Transmit, SwitchAll, ReadCount, ClearCount}
use Rattle.event_decode.specs.Calls.{call_of, bytes_from}
use Rattle.event_answer.specs.Answers.{room}
use Rattle.model.specs.Events.{tick, Event, on_whole}
use Rattle.model_runs.specs.Same.{Same}
use Rattle.model_refines.specs.Machine.{Machine, seen}
use Rattle.model_refines.specs.Run.{after_event, given, after_run, given_in, Good}
use Rattle.theorems.specs.Three.{Demand3}
use Rattle.theorems.proofs.Three.{demand_3}
use Rattle.dispatch_refines.specs.Spelt.{events_of, Spoken, spelt_by, spelt_in, CallBytes, after_dispatch}
use Rattle.dispatch_refines.specs.Told.{tells_of, tells_by, tells_in}
use Rattle.dispatch_refines.specs.Read.{told_by_call, told_in}
use Rattle.dispatch_refines.specs.Three.{CallsAlike}
use Rattle.dispatch_refines.proofs.Takes.{segment-takes_told}
use Rattle.dispatch_refines.proofs.Fits.{answers-read}
use Rattle.dispatch_refines.proofs.Event.{dispatched_events}
use Rattle.dispatch_refines.proofs.Calls.{calls-run, spelt-bytes}

module _ (image : List ℕ) (k : ℕ) where
  ticks_tell : (n : ℕ) (m : Machine) → [] ≡ given_in image k m (replicate n (on_whole tick))
  unfolding given_in given
  ticks_tell zero m = refl
  ticks_tell (suc n) m = ticks_tell n (after_event image (on_whole tick) m)

  call_tells : (m : Machine) (body : List ℕ) (call : Result Call BadCall) → tells_of image k m body call ≡ given_in image k m (events_of body call)
  unfolding tells_of events_of given_in given
  call_tells m body (Err bad) = refl
  call_tells m body (Ok (Ticks n)) = ticks_tell n m
  call_tells m body (Ok (Own c e)) = refl
  call_tells m body (Ok (Lost c)) = refl
  call_tells m body (Ok (Segment c at)) =
      ap (λ (l : List Out). cond (eqb c k) l []) (segment-takes_told image c (bytes_from body at) m) ∙ sym (append-nil _)
  call_tells m body (Ok (Walk c place at)) = sym (append-nil _)
  call_tells m body (Ok (TakeWaiting c n)) = refl
  call_tells m body (Ok (Datagram group source)) = refl
  call_tells m body (Ok (Accept group source)) = refl
  call_tells m body (Ok (Transmit number at)) = refl
  call_tells m body (Ok (SwitchAll number position)) = refl
  call_tells m body (Ok (ReadCount protocol)) = refl
  call_tells m body (Ok (ClearCount protocol)) = refl

  -- ONE CALL, by the takes or the walk that it answers; and by the bytes of its answer
  call_told : (m : Machine) (c : Spoken) → tells_by image k m c ≡ given_in image k m (spelt_by c)
  unfolding tells_by spelt_by given_in
  call_told m c = go (ltb (length c.out) room)
    where
      go : (b : Bool) → cond b [] (tells_of image k m c.body (call_of c.number c.body))
          ≡ given_in image k m (cond b [] (events_of c.body (call_of c.number c.body)))
      go true = refl
      go false = call_tells m c.body (call_of c.number c.body)

  call-read : (m : Machine) (c : Spoken) → Bytes c.body → told_by_call image k m c ≡ tells_by image k m c
  unfolding told_by_call tells_by
  call-read m c bytes = ap (λ (l : List Out). cond (ltb (length c.out) room) [] l) (answers-read image k m c bytes)

  pub dispatched_tells : (m : Machine) (c : Spoken) → Bytes c.body → told_by_call image k m c ≡ given_in image k m (spelt_by c)
  dispatched_tells m c bytes = call-read m c bytes ∙ call_told m c

  given-append : (m : Machine) (es fs : List Event) → given_in image k m (es ++ fs) ≡ given_in image k m es ++ given_in image k (after_run image m es) fs
  unfolding given_in after_run
  given-append m [] fs = refl
  given-append m (e ∷ es) fs =
      ap (λ (l : List Out). given image k e m ++ l) (given-append (after_event image e m) es fs)
      ∙ sym (append_assoc (given image k e m) (given_in image k (after_event image e m) es) (given_in image k (after_run image (after_event image e m) es) fs))

  -- CALLS one after the other
  pub calls_tell : (m : Machine) (cs : List Spoken) → tells_in image k m cs ≡ given_in image k m (spelt_in cs)
  unfolding tells_in spelt_in given_in
  calls_tell m [] = refl
  calls_tell m (c ∷ cs) =
      ap₂ ◌++◌ (call_told m c)
      (calls_tell (after_dispatch image c m) cs ∙ ap (λ (n : Machine). given_in image k n (spelt_in cs)) (dispatched_events image m c))
      ∙ sym (given-append m (spelt_by c) (spelt_in cs))

  calls-read : (m : Machine) (cs : List Spoken) → CallBytes cs → told_in image k m cs ≡ tells_in image k m cs
  unfolding told_in tells_in
  calls-read m [] bytes = refl
  calls-read m (c ∷ cs) (bytes, later) = ap₂ ◌++◌ (call-read m c bytes) (calls-read (after_dispatch image c m) cs later)

  pub calls_told : (m : Machine) (cs : List Spoken) → CallBytes cs → told_in image k m cs ≡ given_in image k m (spelt_in cs)
  calls_told m cs bytes = calls-read m cs bytes ∙ calls_tell m cs

-- DEMAND 3, of the dispatcher: calls that spell same runs end in the same state, and have told the same PDUs and transfers, exactly demand
-- 2's: by the takes and walks that they answer ..
pub calls-alike : (image : List ℕ) (m : Machine) → Good image m → (cs ds : List Spoken) → CallBytes cs → Same (spelt_in cs) (spelt_in ds)
    → CallsAlike (tells_in image) image m cs ds
calls-alike image m good cs ds bytes alike = go (demand_3 image m good alike (spelt-bytes cs bytes))
  where
    go : Demand3 image m (spelt_in cs) (spelt_in ds) → CallsAlike (tells_in image) image m cs ds
    go d =
        record {
          state = ap seen (calls-run image m cs) ∙ d.state ∙ ap seen (sym (calls-run image m ds));
          pdus = λ k. ap compared (calls_tell image k m cs) ∙ d.pdus k ∙ ap compared (sym (calls_tell image k m ds));
          list = λ k there tcp. ap compared (calls_tell image k m cs) ∙ d.list k there tcp;
        }

-- .. and by the bytes of their answers
pub calls-demand_3 : (image : List ℕ) (m : Machine) → Good image m → (cs ds : List Spoken) → CallBytes cs → CallBytes ds → Same (spelt_in cs) (spelt_in ds)
    → CallsAlike (told_in image) image m cs ds
calls-demand_3 image m good cs ds bytes others alike = go (calls-alike image m good cs ds bytes alike)
  where
    go : CallsAlike (tells_in image) image m cs ds → CallsAlike (told_in image) image m cs ds
    go d =
        record {
          state = d.state;
          pdus = λ k. ap compared (calls-read image k m cs bytes) ∙ d.pdus k ∙ ap compared (sym (calls-read image k m ds others));
          list = λ k there tcp. ap compared (calls-read image k m cs bytes) ∙ d.list k there tcp;
        }
