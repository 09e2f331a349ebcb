-- DEMAND 1 AND DEMAND 2, each by its parts.
use Prim.Native.Nat.{ℕ, ◌<◌}
use mathlib.Core.Path.{◌≡◌, subst}
use mathlib.Core.List.{List}
use Rattle.table_layout.specs.Layout.{rows_of}
use Rattle.table_layout.specs.declared.Kind.TheVariants.{Connection as Connections}
use Rattle.table.proofs.Facts.{accepted_facts}
use Rattle.switches.proofs.Switches.{on_from, on-to}
use Rattle.connection.specs.Sound.{Sound}
use Rattle.state.specs.Fresh.{config_of}
use Rattle.state.specs.State.{record_at}
use Rattle.gate.proofs.Records.{row-sound}
use Rattle.entry_receive.specs.Routes.{routes_in, DecidedIn}
use Rattle.entry_receive.proofs.Decided.{header-decided, decided-header}
use Rattle.law_keeps.proofs.Rows.{sound-row-at}
use Rattle.law_transitions.proofs.Effect.{event-moves, tick-moves}
use Rattle.model_refines.specs.Machine.{Machine, lent_to, loan_to}
use Rattle.model_refines.specs.Run.{Good}
use Rattle.theorems.proofs.Refusals.{refusal-stays}
use Rattle.theorems.proofs.Refused.{any_run}
use Rattle.theorems.proofs.Single.{any_order, any_order_given}
use Rattle.theorems.proofs.Waiting.{run-waits}
use Rattle.theorems.proofs.Trip as Trip
use Rattle.theorem_answers.proofs.When.{exactly_when}
use Rattle.theorem_transmit.proofs.Exactly.{transmit-answer}
use Rattle.theorem_match.proofs.Match.{arrival_answer}
use Rattle.theorem_demands.specs.Demands.{Demand1, Demand2}

pub demand_1 : (image : List ℕ) (m : Machine) → Demand1 image m
demand_1 image m =
    record {
      number = exactly_when image m;
      refusal = refusal-stays image m;
      order = any_order image m;
      given = λ i. any_order_given image i m;
      run = any_run image m;
    }

module _ (image : List ℕ) (m : Machine) (good : Good image m) where
  -- the record of a row is sound
  sound : (k : ℕ) → k < rows_of image Connections → Sound (config_of image k) (record_at m.state k)
  sound k there = row-sound image k (record_at m.state k) (sound-row-at image m.state.connections k good.passed.sound there) there

  pub demand_2 : Demand2 image m
  demand_2 =
      record {
        headers = λ k id n d.
            let a = accepted_facts image good.passed.table in (
              λ (e : routes_in image m.state k id n ≡ d). subst (DecidedIn image m.state k id n) e (header-decided image a m.state k id n),
              decided-header image a m.state k id n d,
            );
        switches = λ groups word. (on_from groups word, on-to groups word);
        selection = λ accept group source. arrival_answer (lent_to image m) accept group source;
        states = λ k there e. event-moves e (config_of image k) (record_at m.state k) (sound k there);
        tick_states = λ k there. tick-moves (config_of image k) (record_at m.state k) (sound k there);
        transmits = λ pdu payload. transmit-answer (loan_to image m) pdu payload;
        waiting = λ j es bytes. run-waits image j m es bytes good;
        stream_trip = λ j there nothing es bytes out room image' b good' k reader ps routed pieces is bytes'.
            Trip.round_trip image m good j there nothing es bytes out room image' b good' k reader routed pieces is bytes';
        carried_trip = λ j there nothing es bytes out room image' b good' k reader os carried pieces is bytes'.
            Trip.carried_trip image m good j there nothing es bytes out room image' b good' k reader carried pieces is bytes';
        datagram_trip = λ j there nothing es bytes out room image' b good' k walker ps routed steps enough.
            Trip.datagram_trip image m good j there nothing es bytes out room image' b good' k walker routed steps enough;
      }
