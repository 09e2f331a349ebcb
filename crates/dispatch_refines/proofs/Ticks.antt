-- MANY TICKS UNDER ONE CHECK ARE A RUN of that many tick events: of any image, state and memory.
use Rattle.std.proofs.Common.{Result, Ok, Err}
use Prim.Native.Nat.{ℕ, zero, suc}
use mathlib.Core.Path.{◌≡◌, refl, sym, ap, ◌∙◌}
use mathlib.Core.List.{List}
use lib.ListN.{replicate}
use Rattle.connection.specs.declared.Refusal.{Refusal}
use Rattle.state.specs.declared.State.{State}
use Rattle.gate.specs.Gate.{gate_of}
use Rattle.gate.proofs.Pass.{gate_passed}
use Rattle.entry_ticks.specs.declared.Ticked.{Ticked}
use Rattle.entry_ticks.specs.Tick.{tick_event, ticks_event}
use Rattle.law_keeps.specs.Calls.{calls}
use Rattle.law_keeps.proofs.Single.{ticks-single}
use Rattle.model.specs.Events.{tick, Event, on_whole}
use Rattle.model_refines.specs.Machine.{machine, lent_to}
use Rattle.model_refines.specs.Run.{after_whole, after_event, after_run}

abbrev ticks_of : ℕ → List Event
ticks_of n = replicate n (on_whole tick)

module _ (image rx tx : List ℕ) where
  -- calls of `tick`, one after the other, are such a run
  ticked-run : (n : ℕ) (s : State) → machine (calls n (lent_to image (machine s rx tx))) rx tx ≡ after_run image (machine s rx tx) (ticks_of n)
  unfolding calls after_run after_event after_whole
  ticked-run zero s = refl
  ticked-run (suc n) s = ticked-run n (tick_event (lent_to image (machine s rx tx))).state

  -- where the gate refuses, no tick changes anything
  module _ (s : State) (r : Refusal) (shut : gate_of (lent_to image (machine s rx tx)) ≡ Err r) where
    no_tick : (tick_event (lent_to image (machine s rx tx))).state ≡ s
    unfolding tick_event
    no_tick = rw shut

    no_ticks : (n : ℕ) → (ticks_event (lent_to image (machine s rx tx)) n).state ≡ s
    unfolding ticks_event
    no_ticks n = rw shut

    still : (n : ℕ) → after_run image (machine s rx tx) (ticks_of n) ≡ machine s rx tx
    unfolding after_run after_event after_whole
    still zero = refl
    still (suc n) = ap (λ (t : State). after_run image (machine t rx tx) (ticks_of n)) no_tick ∙ still n

  pub ticks-run : (s : State) (n : ℕ) → machine (ticks_event (lent_to image (machine s rx tx)) n).state rx tx ≡ after_run image (machine s rx tx) (ticks_of n)
  ticks-run s n = go (gate_of (lent_to image (machine s rx tx))) refl
    where
      go : (g : Result Unit Refusal) → gate_of (lent_to image (machine s rx tx)) ≡ g
          → machine (ticks_event (lent_to image (machine s rx tx)) n).state rx tx ≡ after_run image (machine s rx tx) (ticks_of n)
      go (Ok tt) e =
          ap (λ (t : Ticked). machine t.state rx tx) (ticks-single (lent_to image (machine s rx tx)) n (gate_passed (lent_to image (machine s rx tx)) e))
          ∙ ticked-run n s
      go (Err r) e = ap (λ (t : State). machine t rx tx) (no_ticks s r e n) ∙ sym (still s r e n)
