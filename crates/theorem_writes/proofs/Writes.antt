-- DEMAND 1: what a call writes, of every event, from any table, state and memory.
use Prim.Native.Nat.{ℕ, suc}
use mathlib.Core.Path.{◌≡◌, refl, ap}
use mathlib.Core.List.{List}
use lib.ListN.{length}
use Rattle.wire.specs.Be.{byte_at}
use Rattle.model.specs.Events.{Own, change, segment, walk, take_waiting, Whole, datagram, accept}
use Rattle.model.specs.Events.{tick, transmit, switch_all, read_count, clear_count, Event, on, on_whole}
use Rattle.model_refines.specs.Machine.{Machine}
use Rattle.model_refines.specs.Run.{after_own, after_whole, after_event}
use Rattle.theorems.proofs.Waiting.{own-tx}
use Rattle.theorem_writes.specs.Writes.{WritesRx, by_segment, WritesTx, Writes}
use Rattle.theorem_writes.proofs.Segment.{takes_stay, takes-long}
use Rattle.theorem_writes.proofs.Transmit.{sent-stays, sent-long}

module _ (image : List ℕ) (m : Machine) where
  -- an event of one connection: only a segment event writes, and only receive memory
  own-long : (k : ℕ) (e : Own) → length (after_own image k e m).rx ≡ length m.rx
  unfolding after_own
  own-long k (change e) = refl
  own-long k (segment bytes) = takes-long image k (suc (length bytes)) m bytes
  own-long k (walk d p) = refl
  own-long k (take_waiting room) = refl

  own-stays : (k : ℕ) (e : Own) (i : ℕ) → (WritesRx image m (on k e) i → ⊥) → byte_at (after_own image k e m).rx i ≡ byte_at m.rx i
  unfolding after_own
  own-stays k (change e) i not = refl
  own-stays k (segment bytes) i not = takes_stay image k (suc (length bytes)) m bytes i (λ w. not (by_segment k bytes i w))
  own-stays k (walk d p) i not = refl
  own-stays k (take_waiting room) i not = refl

  -- of a whole group or module: only a transmit writes, and only send memory
  whole-rx : (e : Whole) → (after_whole image e m).rx ≡ m.rx
  unfolding after_whole
  whole-rx (datagram group source) = refl
  whole-rx (accept group source) = refl
  whole-rx tick = refl
  whole-rx (transmit pdu payload) = refl
  whole-rx (switch_all n b) = refl
  whole-rx (read_count p) = refl
  whole-rx (clear_count p) = refl

  whole_long : (e : Whole) → length (after_whole image e m).tx ≡ length m.tx
  unfolding after_whole
  whole_long (datagram group source) = refl
  whole_long (accept group source) = refl
  whole_long tick = refl
  whole_long (transmit pdu payload) = sent-long image m pdu payload
  whole_long (switch_all n b) = refl
  whole_long (read_count p) = refl
  whole_long (clear_count p) = refl

  whole-stays : (e : Whole) (i : ℕ) → (WritesTx image m (on_whole e) i → ⊥) → byte_at (after_whole image e m).tx i ≡ byte_at m.tx i
  unfolding after_whole
  whole-stays (datagram group source) i not = refl
  whole-stays (accept group source) i not = refl
  whole-stays tick i not = refl
  whole-stays (transmit pdu payload) i not = sent-stays image m pdu payload i not
  whole-stays (switch_all n b) i not = refl
  whole-stays (read_count p) i not = refl
  whole-stays (clear_count p) i not = refl

  -- ANY EVENT
  pub writes_only : (e : Event) → Writes image m e
  unfolding after_event
  writes_only (on k e) =
      record {
        rx_long = own-long k e;
        tx_long = ap length (own-tx image k e m);
        rx_stays = own-stays k e;
        tx_stays = λ i not. ap (λ (l : List ℕ). byte_at l i) (own-tx image k e m);
      }
  writes_only (on_whole e) =
      record {
        rx_long = ap length (whole-rx e);
        tx_long = whole_long e;
        rx_stays = λ i not. ap (λ (l : List ℕ). byte_at l i) (whole-rx e);
        tx_stays = whole-stays e;
      }
