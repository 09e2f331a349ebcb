-- A RUN OF CALLS IS A RUN OF THE MACHINE over the events that they spell: so what demands say of runs holds of the dispatcher.
use Rattle.std.proofs.Common.{Err, Result, Ok}
use Prim.Native.Nat.{ℕ, zero, suc}
use mathlib.Core.Path.{◌≡◌, refl, sym, ap, ◌∙◌, subst}
use mathlib.Core.Bool.{Bool, true, false, cond}
use mathlib.Core.List.{List, [], ◌∷◌, ◌++◌}
use lib.Dec.{ltb}
use lib.ListN.{length, replicate}
use Rattle.reading_lengths.specs.Listed.{Bytes}
use Rattle.reading_lengths.proofs.Bytes.{bytes_drop}
use Rattle.connection.specs.declared.Refusal.{Refusal}
use Rattle.gate.specs.Gate.{gate_of}
use Rattle.event_decode.specs.declared.Call.{Call}
use Rattle.event_decode.specs.declared.BadCall.{BadCall}
use Rattle.event_decode.specs.declared.Call.TheVariants.{Ticks, Own, Lost, Segment, Walk}
use Rattle.event_decode.specs.declared.Call.TheVariants.{TakeWaiting, Datagram, Accept, Transmit, SwitchAll, ReadCount, ClearCount}
use Rattle.event_decode.specs.Calls.{call_of}
use Rattle.event_answer.specs.Answers.{room}
use Rattle.model.specs.Events.{tick, Event, on_whole}
use Rattle.model_runs.specs.Streams.{RunBytes}
use Rattle.model_refines.specs.Machine.{Machine, lent_to}
use Rattle.model_refines.specs.Run.{after_event, after_run, Good}
use Rattle.theorems.proofs.Runs.{run_good}
use Rattle.theorems.proofs.Refused.{run-stays}
use Rattle.dispatch_refines.specs.Spelt.{events_of, Spoken, spelt_by, spelt_in, CallBytes, after_dispatch, after_dispatches}
use Rattle.dispatch_refines.proofs.Event.{dispatched_events}

module _ (image : List ℕ) where
  run-append : (m : Machine) (es fs : List Event) → after_run image m (es ++ fs) ≡ after_run image (after_run image m es) fs
  unfolding after_run
  run-append m [] fs = refl
  run-append m (e ∷ es) fs = run-append (after_event image e m) es fs

  pub calls-run : (m : Machine) (cs : List Spoken) → after_dispatches image m cs ≡ after_run image m (spelt_in cs)
  unfolding after_dispatches spelt_in after_run
  calls-run m [] = refl
  calls-run m (c ∷ cs) =
      calls-run (after_dispatch image c m) cs
      ∙ ap (λ (n : Machine). after_run image n (spelt_in cs)) (dispatched_events image m c)
      ∙ sym (run-append m (spelt_by c) (spelt_in cs))

-- calls whose bodies are bytes spell a run whose segments are bytes
pub ticks-bytes : (n : ℕ) → RunBytes (replicate n (on_whole tick))
ticks-bytes zero = tt
ticks-bytes (suc n) = (tt, ticks-bytes n)

pub events_bytes : (body : List ℕ) → Bytes body → (call : Result Call BadCall) → RunBytes (events_of body call)
unfolding events_of
events_bytes body b (Err bad) = tt
events_bytes body b (Ok (Ticks n)) = ticks-bytes n
events_bytes body b (Ok (Own c e)) = (tt, tt)
events_bytes body b (Ok (Lost c)) = (tt, tt)
events_bytes body b (Ok (Segment c at)) = (bytes_drop at body b, tt)
events_bytes body b (Ok (Walk c place at)) = (tt, tt)
events_bytes body b (Ok (TakeWaiting c n)) = (tt, tt)
events_bytes body b (Ok (Datagram group source)) = (tt, tt)
events_bytes body b (Ok (Accept group source)) = (tt, tt)
events_bytes body b (Ok (Transmit pdu at)) = (tt, tt)
events_bytes body b (Ok (SwitchAll number position)) = (tt, tt)
events_bytes body b (Ok (ReadCount protocol)) = (tt, tt)
events_bytes body b (Ok (ClearCount protocol)) = (tt, tt)

both_bytes : (es fs : List Event) → RunBytes es → RunBytes fs → RunBytes (es ++ fs)
both_bytes [] fs p q = q
both_bytes (e ∷ es) fs (b, p) q = (b, both_bytes es fs p q)

one-bytes : (c : Spoken) → Bytes c.body → RunBytes (spelt_by c)
unfolding spelt_by
one-bytes c b = go (ltb (length c.out) room)
  where
    go : (t : Bool) → RunBytes (cond t [] (events_of c.body (call_of c.number c.body)))
    go true = tt
    go false = events_bytes c.body b (call_of c.number c.body)

pub spelt-bytes : (cs : List Spoken) → CallBytes cs → RunBytes (spelt_in cs)
unfolding spelt_in
spelt-bytes [] b = tt
spelt-bytes (c ∷ cs) (b, bs) = both_bytes (spelt_by c) (spelt_in cs) (one-bytes c b) (spelt-bytes cs bs)

-- DEMAND 1, of the dispatcher: sound stays sound, and the memories keep their lengths
pub calls_good : (image : List ℕ) (m : Machine) (cs : List Spoken) → CallBytes cs → Good image m → Good image (after_dispatches image m cs)
calls_good image m cs b g = subst (Good image) (sym (calls-run image m cs)) (run_good image m (spelt_in cs) (spelt-bytes cs b) g)

-- .. and where the gate refuses (11, 12), calls leave state and lent memory as they were
pub calls_stay : (image : List ℕ) (m : Machine) (r : Refusal) → gate_of (lent_to image m) ≡ Err r → (cs : List Spoken)
    → after_dispatches image m cs ≡ m
calls_stay image m r shut cs = calls-run image m cs ∙ run-stays image m r shut (spelt_in cs)
