-- WHAT STANDS IN THE BYTES OF A TAKE OR A WALK IS READ BACK: kind, route or reason, id, length, place and payload, where they fit their
-- widths.
use Rattle.std.proofs.Common.{Result, Ok, Err}
use Prim.Native.Nat.{ℕ, ◌+◌, ◌^◌, ◌<◌}
use mathlib.Core.Path.{◌≡◌, refl, sym, ap, ap₂, ◌∙◌}
use mathlib.Core.Bool.{Bool, true, false}
use mathlib.Core.List.{List, [], ◌∷◌, ◌++◌, append_assoc, append-nil}
use native.Mathlib.Omega.{arith}
use lib.Dec.{eqb}
use lib.ListN.{length, take, drop, length-append}
use lib.Seq.{take_at, drop_at}
use Rattle.reading.specs.declared.DropReason.{DropReason}
use Rattle.reading.specs.Reasons.{reason_number}
use Rattle.reading.proofs.Reasons.{reason_back}
use Rattle.wire.specs.Be.{be}
use Rattle.wire.specs.Lay.{spell}
use Rattle.wire.proofs.Spell.{length-spell, be-spell}
use Rattle.table_layout.specs.Layout.{part_of}
use Rattle.reading.specs.Feed.{Out, pdu, dropped, start, piece}
use Rattle.connection.specs.declared.Refusal.{Refusal}
use Rattle.connection.specs.declared.Refusal.TheVariants.{Memory, Unsound, Missing, Denied}
use Rattle.connection.specs.Event.{refusal_number}
use Rattle.receive_stream.specs.declared.Outcome.{Outcome}
use Rattle.receive_stream.specs.declared.Outcome.TheVariants as Found
use Rattle.receive_datagram.specs.declared.Outcome.{Outcome as Step}
use Rattle.receive_datagram.specs.declared.Outcome.TheVariants as Met
use Rattle.entry_receive.specs.declared.NotReceived.TheVariants.{Refused, NotReceiving}
use Rattle.entry_receive.specs.Answer.{is_done}
use Rattle.event_answer.specs.Answers.{refused, done_with, found_bytes}
use Rattle.event_answer.proofs.Chain.{length_found}
use Rattle.dispatch_receive.specs.Segment.{here_bytes, held_bytes, piece_kind, piece_spelt, take_bytes, event_bytes}
use Rattle.dispatch_receive.specs.Walk.{or_refused, step_bytes, walk_bytes}
use Rattle.dispatch_receive.proofs.Written.{length-here, length-held, length-piece}
use Rattle.model_refines.specs.Run.{told_walk}
use Rattle.dispatch_refines.specs.Told.{Take, bytes_in, out_in, outs_in, took_then}
use Rattle.dispatch_refines.specs.Read.{payload_read, take_read, take_long, takes_read, step_read, if_done, segment_read, walk_read}
use Rattle.dispatch_refines.proofs.Drops.{Spelt}
use Rattle.entry_receive.specs.declared.NotReceived.{NotReceived}

-- a number behind other bytes
pub number_at : (w v : ℕ) (a r : List ℕ) {l : List ℕ} (at : ℕ) → v < 256 ^ w → length a ≡ at → l ≡ a ++ (spell w v ++ r) → be w l at ≡ v
number_at w v a r at small e f = ap₂ (λ (x : List ℕ) (n : ℕ). be w x n) f (sym e) ∙ be-spell w v a r small

-- WHAT A TAKE OR A WALK FOUND, and r behind it
module _ (first kind which id n : ℕ) (r : List ℕ) {l : List ℕ} (is : l ≡ found_bytes first kind which id n ++ r) where
  pub kind_at : kind < 256 → be 1 l 4 ≡ kind
  kind_at h =
      number_at 1 kind (spell 4 first) (spell 1 which ++ spell 4 id ++ spell 4 n ++ r) 4 h (length-spell 4 first) (is ∙ simp append_assoc)

  which_at : which < 256 → be 1 l 5 ≡ which
  which_at h =
      number_at 1 which (spell 4 first ++ spell 1 kind) (spell 4 id ++ spell 4 n ++ r) 5 h (simp (length-append, length-spell)) (is ∙ simp append_assoc)

  id-at : id < 256 ^ 4 → be 4 l 6 ≡ id
  id-at h =
      number_at 4 id (spell 4 first ++ spell 1 kind ++ spell 1 which) (spell 4 n ++ r) 6 h (simp (length-append, length-spell)) (is ∙ simp append_assoc)

  pub length_at : n < 256 ^ 4 → be 4 l 10 ≡ n
  length_at h =
      number_at 4 n (spell 4 first ++ spell 1 kind ++ spell 1 which ++ spell 4 id) r 10 h (simp (length-append, length-spell)) (is ∙ simp append_assoc)

-- what fits its width: route, length, and the place of the payload or the payload as long as it is said to be; of a drop reason, id and
-- length; of a start route, id and length, and its mark is length 0; of a piece route, length and place
abbrev pub TakeFits : ℕ → Outcome → List ℕ → Type 0
TakeFits begins Found.More payload = Unit {0}
TakeFits begins (Found.Pdu route id true at n) payload = (route < 256) × ((n < 256 ^ 4) × (begins + at < 256 ^ 4))
TakeFits begins (Found.Pdu route id false at n) payload = (route < 256) × ((n < 256 ^ 4) × (length payload ≡ n))
TakeFits begins (Found.Drop reason id n) payload = Spelt (reason_number reason) id n
TakeFits begins (Found.Start route id n last) payload = Spelt route id n × (last ≡ eqb n 0)
TakeFits begins (Found.Piece route id at n last) payload = (route < 256) × ((n < 256 ^ 4) × (begins + at < 256 ^ 4))

pub kind-small : (last : Bool) → piece_kind last < 256
kind-small true = omega arith
kind-small false = omega arith

-- A TAKE
module _ (segment : List ℕ) where
  none_read : (l : List ℕ) → be 1 l 4 ≡ 0 → (take_read segment l ≡ []) × (take_long l ≡ 14)
  unfolding take_read take_long
  none_read l e = (rw e refl, rw e refl)

  drop-read : (l : List ℕ) (reason : DropReason) (id n : ℕ) → be 1 l 4 ≡ 2 → be 1 l 5 ≡ reason_number reason → be 4 l 6 ≡ id → be 4 l 10 ≡ n
      → (take_read segment l ≡ dropped reason id n ∷ []) × (take_long l ≡ 14)
  unfolding take_read take_long
  drop-read l reason id n e w i m = (rw (e, w, reason_back reason, i, m) refl, rw e refl)

  start-read : (l : List ℕ) (route id n : ℕ) → be 1 l 4 ≡ 3 → be 1 l 5 ≡ route → be 4 l 6 ≡ id → be 4 l 10 ≡ n
      → (take_read segment l ≡ start route id n (eqb n 0) ∷ []) × (take_long l ≡ 14)
  unfolding take_read take_long
  start-read l route id n e w i m = (rw (e, w, i, m) refl, rw e refl)

  piece-read : (last : Bool) (l : List ℕ) (route place n : ℕ) → be 1 l 4 ≡ piece_kind last → be 1 l 5 ≡ route → be 4 l 14 ≡ place → be 4 l 10 ≡ n
      → (take_read segment l ≡ piece route (part_of segment place n) last ∷ []) × (take_long l ≡ 18)
  unfolding take_read take_long
  piece-read true l route place n e w p m = (rw (e, w, p, m) refl, rw e refl)
  piece-read false l route place n e w p m = (rw (e, w, p, m) refl, rw e refl)

  pdu-read : (l : List ℕ) (route : ℕ) (payload : List ℕ) → be 1 l 4 ≡ 1 → be 1 l 5 ≡ route
      → payload_read segment l ≡ payload → take_read segment l ≡ pdu route payload ∷ []
  unfolding take_read
  pdu-read l route payload e f g = rw (e, f, g) refl

  here-read : (l : List ℕ) (place n : ℕ) → be 1 l 4 ≡ 1 → be 1 l 14 ≡ 0 → be 4 l 15 ≡ place → be 4 l 10 ≡ n
      → (payload_read segment l ≡ part_of segment place n) × (take_long l ≡ 19)
  unfolding payload_read take_long
  here-read l place n e w p f = (rw (w, p, f) refl, rw (e, w) refl)

  held-read : (l payload : List ℕ) (n : ℕ) → be 1 l 4 ≡ 1 → be 1 l 14 ≡ 1 → be 4 l 10 ≡ n → take n (drop 15 l) ≡ payload
      → (payload_read segment l ≡ payload) × (take_long l ≡ 15 + n)
  unfolding payload_read take_long
  held-read l payload n e w f p = (rw (w, f) p, rw (e, w, f) refl)

  -- what it found, and the bytes behind it
  abbrev Back : ℕ → ℕ → Outcome → List ℕ → List ℕ → Type 0
  Back begins read o payload rest =
      (take_read segment (take_bytes begins read o payload ++ rest) ≡ out_in segment begins o payload)
      × (drop (take_long (take_bytes begins read o payload ++ rest)) (take_bytes begins read o payload ++ rest) ≡ rest)

  take_back : (begins read : ℕ) (o : Outcome) (payload rest : List ℕ) → TakeFits begins o payload → Back begins read o payload rest
  take_back begins read Found.More payload rest h =
      let l : List ℕ = found_bytes read 0 0 0 0 ++ rest in
      let t = none_read l (kind_at read 0 0 0 0 rest refl (omega arith)) in
      (t.0, drop_at (found_bytes read 0 0 0 0) rest (take_long l) (length_found read 0 0 0 0 ∙ sym t.1))
  take_back begins read (Found.Drop reason id n) payload rest h =
      let l : List ℕ = found_bytes read 2 (reason_number reason) id n ++ rest in
      let t =
      drop-read l reason id n (kind_at read 2 (reason_number reason) id n rest refl (omega arith)) (which_at read 2 (reason_number reason) id n rest refl h.0)
      (id-at read 2 (reason_number reason) id n rest refl h.1.0) (length_at read 2 (reason_number reason) id n rest refl h.1.1) in
      (t.0, drop_at (found_bytes read 2 (reason_number reason) id n) rest (take_long l) (length_found read 2 (reason_number reason) id n ∙ sym t.1))
  take_back begins read (Found.Start route id n last) payload rest h =
      let l : List ℕ = found_bytes read 3 route id n ++ rest in
      let t =
      start-read l route id n (kind_at read 3 route id n rest refl (omega arith)) (which_at read 3 route id n rest refl h.0.0)
      (id-at read 3 route id n rest refl h.0.1.0) (length_at read 3 route id n rest refl h.0.1.1) in (
        t.0 ∙ ap (λ (m : Bool). start route id n m ∷ []) (sym h.1),
        drop_at (found_bytes read 3 route id n) rest (take_long l) (length_found read 3 route id n ∙ sym t.1),
      )
  take_back begins read (Found.Piece route id at n last) payload rest h =
      let kind : ℕ = piece_kind last in
      let l : List ℕ = piece_spelt read route id n last begins at ++ rest in
      let behind : List ℕ = spell 4 (begins + at) ++ rest in
      let is : l ≡ found_bytes read kind route id n ++ behind = simp append_assoc in
      let place : be 4 l 14 ≡ begins + at =
      number_at 4 (begins + at) (found_bytes read kind route id n) rest 14 h.1.1 (length_found read kind route id n) is in
      let t =
      piece-read last l route (begins + at) n (kind_at read kind route id n behind is (kind-small last)) (which_at read kind route id n behind is h.0) place
      (length_at read kind route id n behind is h.1.0) in
      (t.0, drop_at (piece_spelt read route id n last begins at) rest (take_long l) (length-piece read route id n last begins at ∙ sym t.1))
  take_back begins read (Found.Pdu route id true at n) payload rest h =
      let l : List ℕ = here_bytes read route id n begins at ++ rest in
      let behind : List ℕ = spell 1 0 ++ (spell 4 (begins + at) ++ rest) in
      let is : l ≡ found_bytes read 1 route id n ++ behind = simp append_assoc in
      let kind : be 1 l 4 ≡ 1 = kind_at read 1 route id n behind is (omega arith) in
      let where₀ : be 1 l 14 ≡ 0 =
      number_at 1 0 (found_bytes read 1 route id n) (spell 4 (begins + at) ++ rest) 14 (omega arith) (length_found read 1 route id n) is in
      let place : be 4 l 15 ≡ begins + at =
      number_at 4 (begins + at) (found_bytes read 1 route id n ++ spell 1 0) rest 15 h.1.1 (simp (length-append, length-spell)) (simp append_assoc) in
      let t = here-read l (begins + at) n kind where₀ place (length_at read 1 route id n behind is h.1.0) in (
        pdu-read l route (part_of segment (begins + at) n) kind (which_at read 1 route id n behind is h.0) t.0,
        drop_at (here_bytes read route id n begins at) rest (take_long l) (length-here read route id n begins at ∙ sym t.1),
      )
  take_back begins read (Found.Pdu route id false at n) payload rest h =
      let l : List ℕ = held_bytes read route id n payload ++ rest in
      let behind : List ℕ = spell 1 1 ++ (payload ++ rest) in
      let is : l ≡ found_bytes read 1 route id n ++ behind = simp append_assoc in
      let kind : be 1 l 4 ≡ 1 = kind_at read 1 route id n behind is (omega arith) in
      let where₁ : be 1 l 14 ≡ 1 = number_at 1 1 (found_bytes read 1 route id n) (payload ++ rest) 14 (omega arith) (length_found read 1 route id n) is in
      let parted : l ≡ found_bytes read 1 route id n ++ spell 1 1 ++ (payload ++ rest) = simp append_assoc in
      let body : take n (drop 15 l) ≡ payload =
      ap (λ (x : List ℕ). take n (drop 15 x)) parted
      ∙ ap (take n) (drop_at (found_bytes read 1 route id n ++ spell 1 1) (payload ++ rest) 15 (simp (length-append, length-spell)))
      ∙ take_at payload rest n h.1.1 in
      let t = held-read l payload n kind where₁ (length_at read 1 route id n behind is h.1.0) body in (
        pdu-read l route payload kind (which_at read 1 route id n behind is h.0) t.0,
        drop_at (held_bytes read route id n payload) rest (take_long l) (omega (arith, length-held read route id n payload, h.1.1, t.1)),
      )

  -- TAKES, one after the other
  abbrev TookFits : Take → Type 0
  TookFits t = TakeFits t.begins t.outcome t.payload

  one_back : (t : Take) (ts : List Take) → TookFits t → takes_read segment (length ts) (bytes_in ts) ≡ outs_in segment ts
      → takes_read segment (length (t ∷ ts)) (bytes_in (t ∷ ts)) ≡ outs_in segment (t ∷ ts)
  unfolding takes_read bytes_in outs_in
  one_back t ts h later =
      let b = take_back t.begins t.read t.outcome t.payload (bytes_in ts) h in
      ap₂ ◌++◌ b.0 (ap (takes_read segment (length ts)) b.1 ∙ later)

  pub more_back : (done left : Bool) (t : Take) (ts : List Take) → (done ≡ true → TakeFits t.begins t.outcome t.payload)
      → takes_read segment (length ts) (bytes_in ts) ≡ outs_in segment ts
      → takes_read segment (length (took_then done left t ts)) (bytes_in (took_then done left t ts)) ≡ outs_in segment (took_then done left t ts)
  unfolding takes_read bytes_in outs_in
  more_back true true t ts h later = one_back t ts (h refl) later
  more_back true false t ts h later = one_back t [] (h refl) refl
  more_back false left t ts h later = refl

  -- THE ANSWER OF A SEGMENT EVENT
  pub done_back : (ts : List Take) → length ts < 256 ^ 2 → takes_read segment (length ts) (bytes_in ts) ≡ outs_in segment ts
      → segment_read segment (event_bytes (Ok tt) (length ts) (bytes_in ts)) ≡ outs_in segment ts
  unfolding segment_read
  done_back ts few later =
      let l : List ℕ = event_bytes (Ok tt) (length ts) (bytes_in ts) in
      let zero-at : be 2 l 0 ≡ 0 = number_at 2 0 [] (spell 2 (length ts) ++ bytes_in ts) 0 (omega arith) refl (simp append_assoc) in
      let count : be 2 l 2 ≡ length ts = number_at 2 (length ts) (spell 2 0) (bytes_in ts) 2 few (length-spell 2 0) (simp append_assoc) in
      let rest : drop 4 l ≡ bytes_in ts = drop_at (done_with 2 (length ts)) (bytes_in ts) 4 (simp (length-append, length-spell)) in
      rw (zero-at, count, rest) later

-- A REFUSAL tells nothing
pub some_number : (r : Refusal) → (refusal_number r < 256 ^ 2) × (eqb (refusal_number r) 0 ≡ false)
some_number Memory = (omega arith, refl)
some_number Unsound = (omega arith, refl)
some_number Missing = (omega arith, refl)
some_number Denied = (omega arith, refl)

not_read : (number : ℕ) (read : List Out) → number < 256 ^ 2 → eqb number 0 ≡ false → if_done (refused number 0) read ≡ []
not_read number read h e =
    let z : be 2 (refused number 0) 0 ≡ number = number_at 2 number [] (spell 4 0) 0 h refl refl in
    rw (z, e) refl

pub refused_back : (segment : List ℕ) (a : Result Unit NotReceived) (count : ℕ) (bytes : List ℕ) → is_done a ≡ false
    → segment_read segment (event_bytes a count bytes) ≡ []
unfolding segment_read
refused_back segment (Ok tt) count bytes e = let z : ◌≡◌ {A = ℕ} 0 1 = cc in absurd (omega arith)
refused_back segment (Err (Refused r)) count bytes e = not_read (refusal_number r) _ (some_number r).0 (some_number r).1
refused_back segment (Err NotReceiving) count bytes e = not_read 4 _ (omega arith) refl

-- A WALK
abbrev pub StepFits : Step → Type 0
StepFits Met.End = Unit {0}
StepFits (Met.Pdu route id at n) = (route < 256) × ((n < 256 ^ 4) × (at < 256 ^ 4))
StepFits (Met.Drop reason id n) = Spelt (reason_number reason) id n

module _ (datagram : List ℕ) where
  -- the bytes of a step that found no PDU
  module _ (next kind which id n : ℕ) where
    abbrev told : List ℕ
    told = step_bytes next kind which id n

    is-done : be 2 told 0 ≡ 0
    is-done = number_at 2 0 [] (found_bytes next kind which id n) 0 (omega arith) refl refl

    behind : drop 2 told ≡ found_bytes next kind which id n ++ []
    behind = drop_at (spell 2 0) (found_bytes next kind which id n) 2 (length-spell 2 0) ∙ sym (append-nil _)

  none_step : (next : ℕ) → walk_read datagram (step_bytes next 0 0 0 0) ≡ []
  unfolding walk_read step_read
  none_step next = rw (is-done next 0 0 0 0, kind_at next 0 0 0 0 [] (behind next 0 0 0 0) (omega arith)) refl

  drop-step : (next : ℕ) (reason : DropReason) (id n : ℕ) → Spelt (reason_number reason) id n
      → walk_read datagram (step_bytes next 2 (reason_number reason) id n) ≡ dropped reason id n ∷ []
  unfolding walk_read step_read
  drop-step next reason id n h =
      let is = behind next 2 (reason_number reason) id n in
      rw (
        is-done next 2 (reason_number reason) id n,
        kind_at next 2 (reason_number reason) id n [] is (omega arith),
        which_at next 2 (reason_number reason) id n [] is h.0,
        reason_back reason,
        id-at next 2 (reason_number reason) id n [] is h.1.0,
        length_at next 2 (reason_number reason) id n [] is h.1.1,
      )
      refl

  step_back : (next : ℕ) (o : Step) → StepFits o → walk_read datagram (walk_bytes next o) ≡ told_walk datagram o
  unfolding walk_read step_read
  step_back next Met.End h = none_step next
  step_back next (Met.Drop reason id n) h = drop-step next reason id n h
  step_back next (Met.Pdu route id at n) h =
      let l : List ℕ = walk_bytes next (Met.Pdu route id at n) in
      let zero-at : be 2 l 0 ≡ 0 = number_at 2 0 [] (found_bytes next 1 route id n ++ spell 4 at) 0 (omega arith) refl (simp append_assoc) in
      let is : drop 2 l ≡ found_bytes next 1 route id n ++ spell 4 at =
      ap (drop 2) (append_assoc (spell 2 0) (found_bytes next 1 route id n) (spell 4 at))
      ∙ drop_at (spell 2 0) (found_bytes next 1 route id n ++ spell 4 at) 2 (length-spell 2 0) in
      let k : be 1 (drop 2 l) 4 ≡ 1 = kind_at next 1 route id n (spell 4 at) is (omega arith) in
      let w : be 1 (drop 2 l) 5 ≡ route = which_at next 1 route id n (spell 4 at) is h.0 in
      let m : be 4 (drop 2 l) 10 ≡ n = length_at next 1 route id n (spell 4 at) is h.1.0 in
      let p : be 4 (drop 2 l) 14 ≡ at =
      number_at 4 at (found_bytes next 1 route id n) [] 14 h.1.1 (length_found next 1 route id n)
      (is ∙ ap (λ (x : List ℕ). found_bytes next 1 route id n ++ x) (sym (append-nil (spell 4 at)))) in
      rw (zero-at, k, w, m, p) refl

  pub walk-read_back : (a : Result Unit NotReceived) (next : ℕ) (o : Step) → StepFits o → (is_done a ≡ false → o ≡ Met.End)
      → walk_read datagram (or_refused a (walk_bytes next o)) ≡ told_walk datagram o
  unfolding walk_read
  walk-read_back (Ok tt) next o h none = step_back next o h
  walk-read_back (Err (Refused r)) next o h none = not_read (refusal_number r) _ (some_number r).0 (some_number r).1 ∙ sym (ap (told_walk datagram) (none refl))
  walk-read_back (Err NotReceiving) next o h none = not_read 4 _ (omega arith) refl ∙ sym (ap (told_walk datagram) (none refl))
