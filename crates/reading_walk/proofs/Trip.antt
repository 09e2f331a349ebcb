-- THE ROUND TRIP over one datagram: what is framed, and walked from place 0 with routes that accept it, comes back, one PDU a step:
-- the same PDUs in the same order, no drop, and then the end.
use Prim.Native.Nat.{ℕ, ◌+◌}
use mathlib.Core.Path.{◌≡◌, refl, sym, ap, ap₂, ◌∙◌}
use mathlib.Core.List.{List, [], ◌∷◌, ◌++◌, append_assoc, append-nil, map}
use native.Mathlib.Omega.{arith}
use lib.ListN.{length, take, drop, length-append}
use lib.Seq.{drop-drop, drop-append_seam, take-append_seam}
use Rattle.reading.specs.declared.Decision.{Decision}
use Rattle.reading.specs.declared.Decision.TheVariants.{Accept}
use Rattle.reading.specs.Feed.{Routes, Out, pdu, Pdu, as_out}
use Rattle.frame.specs.Frame.{frame, Sent, frames, Fits}
use Rattle.reading.specs.Routed.{Routed, routed_none, routed_one}
use Rattle.reading_lengths.specs.Head.{head_of}
use Rattle.reading_lengths.proofs.Splits.{head-frame, frame-body, frame-long}
use Rattle.reading_walk.specs.Walk.{the_end, a_pdu, Walked, walked, whole_at, walk_step, walk_at, outs_told, walks, place_after_steps}
use Rattle.reading_walk.proofs.Steps.{at_last}

-- ONE STEP at a frame that stands behind the bytes `before`
step-frame : (R : Routes) (d before more : List ℕ) (s : Sent) (r : ℕ)
    → d ≡ before ++ (frame s.id s.body ++ more) → Fits s → R s.id (length s.body) ≡ Accept r
    → walk_at R d (length before) ≡ walked (a_pdu r (length before + 8) (length s.body) s.id) (length before + 8 + length s.body)
unfolding walk_at
step-frame R d before more s r e fits ac =
    ap (λ (l : List ℕ). walk_step R (length d) (length before) (head_of l))
    (ap (drop (length before)) e ∙ drop-append_seam before (frame s.id s.body ++ more))
    ∙ ap (walk_step R (length d) (length before)) (sym (head-frame s more fits))
    ∙ ap (λ (q : Decision). whole_at q (length before) s.id (length s.body)) ac

-- the payload that it names
body_at : (d before more : List ℕ) (s : Sent) → d ≡ before ++ (frame s.id s.body ++ more) → take (length s.body) (drop (length before + 8) d) ≡ s.body
body_at d before more s e =
    ap (take (length s.body))
    (sym (drop-drop 8 (length before) d)
    ∙ ap (λ (l : List ℕ). drop 8 (drop (length before) l)) e
    ∙ ap (drop 8) (drop-append_seam before (frame s.id s.body ++ more))
    ∙ frame-body s more)
    ∙ take-append_seam s.body more

-- the place behind it
place-behind : (before : List ℕ) (s : Sent) → length before + 8 + length s.body ≡ length (before ++ (frame s.id s.body ++ []))
place-behind before s = omega (arith, length-append before (frame s.id s.body ++ []), frame-long s [])

later-frames : (before more : List ℕ) (s : Sent) → before ++ (frame s.id s.body ++ more) ≡ (before ++ (frame s.id s.body ++ [])) ++ more
later-frames before more s =
    sym (append_assoc before (frame s.id s.body) more) ∙ ap (λ (l : List ℕ). (before ++ l) ++ more) (sym (append-nil (frame s.id s.body)))

trip : (R : Routes) (d before : List ℕ) {ss : List Sent} {ps : List Pdu} → Routed R ss ps
    → d ≡ before ++ frames ss → walks R (length ss) d (length before) ≡ map as_out ps
unfolding walks frames
trip R d before routed_none e = refl
trip R d before (routed_one {s} {r} {ss} {ps} fits ac h) e =
    ap (λ (w : Walked). outs_told d w.found (walks R (length ss) d w.next)) (step-frame R d before (frames ss) s r e fits ac)
    ∙ ap₂ (λ (b : List ℕ) (os : List Out). pdu r b ∷ os) (body_at d before (frames ss) s e)
    (ap (walks R (length ss) d) (place-behind before s)
    ∙ trip R d (before ++ (frame s.id s.body ++ [])) h (e ∙ later-frames before (frames ss) s))

trip_place : (R : Routes) (d before : List ℕ) {ss : List Sent} {ps : List Pdu} → Routed R ss ps
    → d ≡ before ++ frames ss → place_after_steps R (length ss) d (length before) ≡ length d
unfolding place_after_steps frames
trip_place R d before routed_none e = ap length (sym (e ∙ append-nil before))
trip_place R d before (routed_one {s} {r} {ss} {ps} fits ac h) e =
    ap (λ (w : Walked). place_after_steps R (length ss) d w.next) (step-frame R d before (frames ss) s r e fits ac)
    ∙ ap (place_after_steps R (length ss) d) (place-behind before s)
    ∙ trip_place R d (before ++ (frame s.id s.body ++ [])) h (e ∙ later-frames before (frames ss) s)

-- the PDUs, a step each ..
pub round_trip : (R : Routes) {ss : List Sent} {ps : List Pdu} → Routed R ss ps → walks R (length ss) (frames ss) 0 ≡ map as_out ps
round_trip R {ss} {ps} h = trip R (frames ss) [] h refl

-- .. and then the end
pub then_the_end : (R : Routes) {ss : List Sent} {ps : List Pdu} → Routed R ss ps
    → walk_at R (frames ss) (place_after_steps R (length ss) (frames ss) 0) ≡ walked the_end (length (frames ss))
then_the_end R {ss} {ps} h = ap (walk_at R (frames ss)) (trip_place R (frames ss) [] h refl) ∙ at_last R (frames ss)
