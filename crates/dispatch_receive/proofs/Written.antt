-- The bytes of a walk and of a take, as they are written.
use Prim.Native.Nat.{ℕ, ◌+◌, ◌%◌, ◌≤◌}
use mathlib.Core.Path.{◌≡◌, sym, ap, ◌∙◌}
use mathlib.Core.Bool.{Bool}
use mathlib.Core.List.{List, ◌++◌}
use native.Mathlib.Omega.{arith}
use native.Mathlib.Nat.{add-mod}
use lib.ListN.{length, length-append}
use Rattle.wire.specs.Lay.{spell, lay}
use Rattle.wire.proofs.Spell.{length-spell}
use Rattle.event_answer.specs.Answers.{done_alone, found_bytes}
use Rattle.event_answer.proofs.Chain.{then, spell-low, length_found}
use Rattle.dispatch_receive.specs.Walk.{step_bytes, pdu_bytes}
use Rattle.dispatch_receive.specs.Segment.{here_bytes, held_bytes, piece_kind, piece_spelt}

-- a walk's step, and a PDU with its place
pub length-step : (next kind which id n : ℕ) → length (step_bytes next kind which id n) ≡ 16
length-step next kind which id n = simp (length-append, length-spell)

pub step-laid : {e f : List ℕ} (d : List ℕ) (next kind which id n : ℕ) → e ≡ lay d 0 done_alone → f ≡ lay e 2 (found_bytes next kind which id n)
    → 16 ≤ length d → f ≡ lay d 0 (step_bytes next kind which id n)
step-laid d next kind which id n p q h =
    then d 0 2 done_alone (found_bytes next kind which id n) p q (omega (arith, length-spell 2 0)) (omega (arith, length_found next kind which id n))

pub length-pdu : (next route id n at : ℕ) → length (pdu_bytes next route id n at) ≡ 20
length-pdu next route id n at = simp (length-append, length-spell)

pub pdu-laid : {e f : List ℕ} (d : List ℕ) (next route id n at : ℕ) → e ≡ lay d 0 (step_bytes next 1 route id n) → f ≡ lay e 16 (spell 4 at)
    → 20 ≤ length d → f ≡ lay d 0 (pdu_bytes next route id n at)
pdu-laid d next route id n at p q h =
    then d 0 16 (step_bytes next 1 route id n) (spell 4 at) p q (omega (arith, length-step next 1 route id n)) (omega (arith, length-spell 4 at))

-- the low bytes of a sum are those of the sum of the low bytes
pub sum_low : (a b : ℕ) → spell 4 (a % 4294967296 + b % 4294967296) ≡ spell 4 (a + b)
sum_low a b =
    sym (spell-low 4 (a % 4294967296 + b % 4294967296) (omega arith))
    ∙ ap (spell 4) (sym (add-mod a b 4294967296))
    ∙ spell-low 4 (a + b) (omega arith)

-- a PDU of a take: its payload in the segment, or in receive memory
pub length-here : (read route id n from at : ℕ) → length (here_bytes read route id n from at) ≡ 19
length-here read route id n from at = simp (length-append, length-spell)

pub here-laid : {e f g : List ℕ} (d : List ℕ) (place read route id n from at : ℕ)
    → e ≡ lay d place (found_bytes read 1 route id n) → f ≡ lay e (place + 14) (spell 1 0)
    → g ≡ lay f (place + 15) (spell 4 (from + at)) → place + 19 ≤ length d → g ≡ lay d place (here_bytes read route id n from at)
here-laid d place read route id n from at p q r h =
    let m = length_found read 1 route id n in
    let p₂ = then d place (place + 14) (found_bytes read 1 route id n) (spell 1 0) p q (omega arith) (simp length-spell (omega arith)) in
    then d place (place + 15) (found_bytes read 1 route id n ++ spell 1 0)
    (spell 4 (from + at)) p₂ r (simp (length-append, length-spell)) (simp length-spell (omega arith))

pub length-held : (read route id n : ℕ) (payload : List ℕ) → length (held_bytes read route id n payload) ≡ length payload + 15
length-held read route id n payload = simp (length-append, length-spell) (omega arith)

pub held-laid : {e f g : List ℕ} (d : List ℕ) (place read route id n : ℕ) (payload : List ℕ)
    → e ≡ lay d place (found_bytes read 1 route id n) → f ≡ lay e (place + 14) (spell 1 1)
    → g ≡ lay f (place + 15) payload → place + (length payload + 15) ≤ length d → g ≡ lay d place (held_bytes read route id n payload)
held-laid d place read route id n payload p q r h =
    let m = length_found read 1 route id n in
    let p₂ = then d place (place + 14) (found_bytes read 1 route id n) (spell 1 1) p q (omega arith) (simp length-spell (omega arith)) in
    then d place (place + 15) (found_bytes read 1 route id n ++ spell 1 1) payload p₂ r (simp (length-append, length-spell)) (omega arith)

-- a piece of a transfer
pub length-piece : (read route id n : ℕ) (last : Bool) (from at : ℕ) → length (piece_spelt read route id n last from at) ≡ 18
length-piece read route id n last from at = simp (length-append, length-spell)

pub piece-laid : {e f : List ℕ} (d : List ℕ) (place read kind route id n : ℕ) (last : Bool) (from at : ℕ) → kind ≡ piece_kind last
    → e ≡ lay d place (found_bytes read kind route id (n % 4294967296)) → f ≡ lay e (place + 14) (spell 4 (from + at)) → place + 18 ≤ length d
    → f ≡ lay d place (piece_spelt read route id n last from at)
piece-laid d place read kind route id n last from at ek p q h =
    let found : List ℕ → List ℕ = λ (l : List ℕ). spell 4 read ++ spell 1 (piece_kind last) ++ spell 1 route ++ spell 4 id ++ l in
    let told : found_bytes read kind route id (n % 4294967296) ≡ found_bytes read (piece_kind last) route id n =
    ap (λ (k : ℕ). found_bytes read k route id (n % 4294967296)) ek ∙ ap found (spell-low 4 n (omega arith)) in
    then d place (place + 14) (found_bytes read (piece_kind last) route id n) (spell 4 (from + at)) (p ∙ ap (lay d place) told) q
    (omega (arith, length_found read (piece_kind last) route id n)) (omega (arith, length-spell 4 (from + at)))
