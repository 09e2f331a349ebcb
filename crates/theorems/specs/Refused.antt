-- ANY RUN FROM ANY START, by what the gate says there: it refuses, and every event of the run is answered its number, 11 or 12; or it
-- passes, and passes again at the end.
use Rattle.std.specs.Prelude.{ℕ, ◌≡◌, false, List, map, length, Result, Ok, Err}
use Rattle.connection.specs.declared.Refusal.{Refusal}
use Rattle.connection.specs.Event.{refusal_number}
use Rattle.gate.specs.Gate.{gate_of}
use Rattle.gate.specs.Sound.{sound_state}
use Rattle.model.specs.Events.{Event}
use Rattle.model_refines.specs.Machine.{Machine, lent_to}
use Rattle.model_refines.specs.Run.{after_run, Good}
use Rattle.theorems.specs.Numbers.{numbers_in}

-- what the gate says of a machine
abbrev pub gate_here : List ℕ → Machine → Result Unit Refusal
gate_here image m = gate_of (lent_to image m)

-- R4.1: which number it refuses with, and why: 11, lent memory of another length; 12, state or table not sound
pub data Shut (image : List ℕ) (m : Machine) : ℕ → Type 0 where
  other_length : ((length m.rx ≡ 23424) × (length m.tx ≡ 23552) → ⊥) → Shut image m 11
  not_sound : length m.rx ≡ 23424 → length m.tx ≡ 23552 → sound_state image m.state ≡ false → Shut image m 12

-- past the gate the machine is good at the end; where it is shut by a refusal, every event is answered that refusal's number and nothing
-- changes
pub data Run (image : List ℕ) (m : Machine) (es : List Event) : Type 0 where
  keeps_good : gate_here image m ≡ Ok tt → Good image (after_run image m es) → Run image m es
  leaves_all : (r : Refusal) → gate_here image m ≡ Err r
      → numbers_in image m es ≡ map (λ (e : Event). refusal_number r) es → after_run image m es ≡ m → Run image m es
