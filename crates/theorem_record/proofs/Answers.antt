-- EVERY ANSWER FITS ITS EVENT (R17.2): what the dispatcher answers to arguments that spell an event is laid out as that event's answer.
use Rattle.std.proofs.Common.{Result, Ok, Err, ℕ}
use Prim.Native.Nat.{ℕ, zero, suc, ◌+◌, ◌≤◌, ◌<◌, ◌^◌}
use mathlib.Core.Path.{◌≡◌, refl, sym, ap, ◌∙◌, subst}
use mathlib.Core.Bool.{Bool, true, false, ◌||◌}
use mathlib.Core.List.{List, [], ◌∷◌, ◌++◌, append_assoc, append-nil}
use native.Mathlib.Nat.{zero-add}
use native.Mathlib.Omega.{arith}
use borrow.Author.Tests.{le-leb, eq-eqb, eqb-true}
use lib.Dec.{eqb, ltb, leb}
use lib.ListN.{length, take, drop, replicate, length-append, length-drop, length-take}
use lib.Seq.{drop_at}
use Rattle.reading.specs.Reasons.{reason_number}
use Rattle.wire.specs.Be.{be}
use Rattle.wire.specs.Lay.{spell}
use Rattle.wire.proofs.Spell.{length-spell}
use Rattle.lists.proofs.Both.{and_both, impossible}
use Rattle.reading_lengths.specs.Listed.{Bytes}
use Rattle.reading_lengths.proofs.Bytes.{bytes_drop}
use Rattle.connection.specs.declared.Remote.{Remote}
use Rattle.connection.specs.declared.Refusal.{Refusal}
use Rattle.connection.specs.declared.Event.{Event}
use Rattle.connection.specs.declared.Event.TheVariants.{Open, Close, Connected, SetRemote, Switch, Cancel}
use Rattle.connection.specs.Event.{refusal_number}
use Rattle.gate.specs.Lent.{Loan, sizes}
use Rattle.gate.specs.Gate.{gate_of, through}
use Rattle.entry_events.specs.Change.{event_of, loss_of}
use Rattle.entry_events.specs.Module.{switch_all_of}
use Rattle.entry_events.specs.Count.{read_of, clear_of}
use Rattle.entry_arrivals.specs.Arrivals.{datagram_of, accept_of}
use Rattle.entry_receive.specs.Walk.{walk_of}
use Rattle.receive_stream.specs.declared.Outcome.{Outcome}
use Rattle.receive_stream.specs.declared.Outcome.TheVariants as Found
use Rattle.receive_datagram.specs.declared.Outcome.{Outcome as Walked}
use Rattle.receive_datagram.specs.declared.Outcome.TheVariants as Met
use Rattle.entry_receive.specs.Answer.{is_done}
use Rattle.select.specs.declared.NotMet.TheVariants as Arrived
use Rattle.send.specs.declared.NotSent.TheVariants as Sent
use Rattle.send.specs.Send.{transmitted_of}
use Rattle.send_waiting.specs.declared.NotTaken.TheVariants as Took
use Rattle.entry_send.specs.Sending.{not_sent, send_of, taken_waiting, taken_out}
use Rattle.event_decode.specs.declared.Call.{Call}
use Rattle.event_decode.specs.declared.BadCall.{BadCall}
use Rattle.event_decode.specs.declared.Call.TheVariants.{Own, Lost, Segment, Walk, TakeWaiting, Datagram, Accept, Transmit, SwitchAll, ReadCount, ClearCount}
use Rattle.event_decode.specs.Calls.{remote_in, call_of, bytes_from}
use Rattle.event_answer.specs.Answers.{refused, refusal, done_alone, done_with, found_bytes, waiting}
use Rattle.event_answer.proofs.Chain.{length_found, length-waiting}
use Rattle.dispatch_events.specs.Events.{told_bytes, failed_byte, loss_bytes, count_bytes}
use Rattle.dispatch_receive.specs.Long.{longest_body}
use Rattle.dispatch_receive.specs.Walk.{or_refused, walk_bytes}
use Rattle.dispatch_receive.specs.Segment.{here_bytes, held_bytes, piece_kind, piece_spelt, take_bytes, lent_next, Progress, begun, one_take, all_takes}
use Rattle.dispatch_receive.proofs.Written.{length-step, length-pdu, length-here, length-held, length-piece}
use Rattle.dispatch_receive.proofs.Run.{read-within, count_fits}
use Rattle.dispatch_send.specs.Send.{arrival_bytes, transmission_bytes, taking_bytes, room_of}
use Rattle.dispatch.proofs.Sizes.{taken_size, buffer_size}
use Rattle.dispatch.proofs.Calls.{Short, call_short, segment-fits as not-long}
use Rattle.model_refines.specs.Machine.{machine}
use Rattle.theorems.specs.Numbers.{among}
use Rattle.theorems.proofs.Numbers.{refused-at}
use Rattle.dispatch_refines.specs.Told.{Take, bytes_in, next_take, took_then, takes_from}
use Rattle.dispatch_refines.specs.Answer.{takes_over, takes_answer, take_answer, answer_of}
use Rattle.dispatch_refines.proofs.Answer.{takes_count}
use Rattle.dispatch_refines.proofs.Read.{number_at, kind_at, length_at, some_number, kind-small, TakeFits}
use Rattle.dispatch_refines.proofs.Fits.{take-fits}
use Rattle.recording.specs.Entry.{is_recorded, is_spelt, take_fits, pdu_needs, other_needs, take_needs, takes_fit, segment_fits, step_fits}
use Rattle.recording.specs.Entry.{done_long, done_fits, answer_fits}
use Rattle.theorem_record.proofs.Numbers.{by_call}
use Rattle.entry_receive.specs.declared.NotReceived.{NotReceived}
use Rattle.entry_receive.specs.declared.NotReceived.TheVariants as Received
use Rattle.select.specs.declared.NotMet.{NotMet}
use Rattle.send.specs.declared.NotSent.{NotSent}
use Rattle.send_waiting.specs.declared.NotTaken.{NotTaken}

-- A REFUSAL: its number, and four bytes more
refused-fits : (n number destination : ℕ) → number < 256 ^ 2 → eqb number 0 ≡ false → answer_fits n (refused number destination) ≡ true
unfolding answer_fits
refused-fits n number destination small some =
    let is : be 2 (refused number destination) 0 ≡ number = number_at 2 number [] (spell 4 destination) 0 small refl refl in
    let long : length (refused number destination) ≡ 6 = simp (length-append, length-spell) in
    rw (is, some, long) refl

refusal-fits : (n : ℕ) (r : Refusal) → answer_fits n (refusal r) ≡ true
refusal-fits n r = refused-fits n (refusal_number r) 0 (some_number r).0 (some_number r).1

-- DONE: by the event's layout
done-fits : (n : ℕ) (a behind : List ℕ) → a ≡ done_alone ++ behind → done_fits n a ≡ true → answer_fits n a ≡ true
unfolding answer_fits
done-fits n a behind is fits = rw (number_at 2 0 [] behind 0 (omega arith) refl is) fits

-- .. of an event whose answer has a fixed length
abbrev Plain : ℕ → Type 0
Plain n = (a : List ℕ) → done_fits n a ≡ eqb (done_long n) (length a)

with-fits : (n w v : ℕ) → Plain n → done_long n ≡ 2 + w → answer_fits n (done_with w v) ≡ true
with-fits n w v plain long =
    let is : length (done_with w v) ≡ 2 + w = simp (length-append, length-spell) in
    done-fits n (done_with w v) (spell w v) refl (plain (done_with w v) ∙ eq-eqb (done_long n) (length (done_with w v)) (long ∙ sym is))

alone_fits : (n : ℕ) → Plain n → done_long n ≡ 2 → answer_fits n done_alone ≡ true
alone_fits n plain long =
    done-fits n done_alone [] (sym (append-nil done_alone)) (plain done_alone ∙ eq-eqb (done_long n) (length done_alone) (long ∙ sym (length-spell 2 0)))

module _ (n : ℕ) (plain : Plain n) where
  told_fits : (a : Result Unit Refusal) → done_long n ≡ 2 → answer_fits n (told_bytes a) ≡ true
  told_fits (Ok tt) long = alone_fits n plain long
  told_fits (Err r) long = refusal-fits n r

  loss_fits : (a : Result Unit Refusal) (failed : Bool) → done_long n ≡ 3 → answer_fits n (loss_bytes a failed) ≡ true
  loss_fits (Ok tt) failed long = with-fits n 1 (failed_byte failed) plain long
  loss_fits (Err r) failed long = refusal-fits n r

  counted-fits : (a : Result ℕ Refusal) → done_long n ≡ 6 → answer_fits n (count_bytes a) ≡ true
  counted-fits (Ok v) long = with-fits n 4 v plain long
  counted-fits (Err r) long = refusal-fits n r

  arrival_fits : (a : Result ℕ NotMet) → done_long n ≡ 3 → answer_fits n (arrival_bytes a) ≡ true
  arrival_fits (Ok k) long = with-fits n 1 k plain long
  arrival_fits (Err (Arrived.Refused r)) long = refusal-fits n r
  arrival_fits (Err Arrived.Unmatched) long = refused-fits n 10 0 (omega arith) refl

  -- the destination that refuses a transmit is named with 4, 7 or 8
  named-number : (a : ℕ) → among a (4 ∷ 7 ∷ 8 ∷ []) ≡ true → (a < 256 ^ 2) × (eqb a 0 ≡ false)
  unfolding among
  named-number a = go (eqb a 4) (eqb a 7) (eqb a 8) refl refl refl
    where
      Some : ℕ → Type 0
      Some x = (x < 256 ^ 2) × (eqb x 0 ≡ false)

      go : (x y z : Bool) → eqb a 4 ≡ x → eqb a 7 ≡ y → eqb a 8 ≡ z → x || (y || (z || false)) ≡ true → Some a
      go true y z p q s e = subst Some (sym (eqb-true a 4 p)) (omega arith, refl)
      go false true z p q s e = subst Some (sym (eqb-true a 7 q)) (omega arith, refl)
      go false false true p q s e = subst Some (sym (eqb-true a 8 s)) (omega arith, refl)
      go false false false p q s e = impossible e

  transmission_fits : (t : Result Unit NotSent) → ((a d : ℕ) → t ≡ Err (Sent.RefusedAt a d) → among a (4 ∷ 7 ∷ 8 ∷ []) ≡ true) → done_long n ≡ 2
      → answer_fits n (transmission_bytes t) ≡ true
  transmission_fits (Ok tt) named long = alone_fits n plain long
  transmission_fits (Err (Sent.Refused r)) named long = refusal-fits n r
  transmission_fits (Err Sent.NoDestination) named long = refused-fits n 5 0 (omega arith) refl
  transmission_fits (Err Sent.SwitchedOff) named long = refused-fits n 6 0 (omega arith) refl
  transmission_fits (Err (Sent.RefusedAt a d)) named long = let h = named-number a (named a d refl) in refused-fits n a d h.0 h.1

  sent-fits : (l : Loan) (pdu : ℕ) (payload : List ℕ) → done_long n ≡ 2 → answer_fits n (transmission_bytes (send_of l pdu payload).answer) ≡ true
  unfolding send_of
  sent-fits l pdu payload long = go (gate_of (sizes l))
    where
      go : (g : Result Unit Refusal)
          → answer_fits n (transmission_bytes (through g (not_sent l.state) (transmitted_of l.image l.state pdu payload l.tx)).answer) ≡ true
      go (Ok tt) = transmission_fits _ (refused-at l.image (machine l.state l.rx l.tx) pdu payload) long
      go (Err r) = refusal-fits n r

-- WAITING BYTES, no more than the call's own buffer has
taking_fits : (a : Result (ℕ × Remote) NotTaken) (buffer : List ℕ) → length buffer ≤ 1472 → answer_fits 9 (taking_bytes a buffer) ≡ true
unfolding done_fits
taking_fits (Ok (count, remote)) buffer short =
    let bytes : List ℕ = take count buffer in
    let a : List ℕ = waiting remote bytes in
    let told : be 4 a 2 ≡ length bytes =
    number_at 4 (length bytes) (spell 2 0) (spell 1 4 ++ spell 12 0 ++ spell 4 remote.address ++ spell 2 remote.port ++ bytes) 2
    (omega (arith, short, length-take count buffer)) (length-spell 2 0) (simp append_assoc) in
    done-fits 9 a (spell 4 (length bytes) ++ (spell 1 4 ++ spell 12 0 ++ spell 4 remote.address ++ spell 2 remote.port) ++ bytes) (simp append_assoc)
    (eq-eqb (be 4 a 2 + 25) (length a) (omega (arith, told, length-waiting remote bytes)))
taking_fits (Err (Took.Refused r)) buffer short = refusal-fits 9 r
taking_fits (Err Took.Short) buffer short = refused-fits 9 9 0 (omega arith) refl

taken-fits : (l : Loan) (c room : ℕ) → answer_fits 9 (take_answer l c (take (room_of room) (replicate 1472 0))) ≡ true
taken-fits l c room =
    taking_fits (taken_waiting l c (take (room_of room) (replicate 1472 0))).answer (taken_out l c (take (room_of room) (replicate 1472 0)))
    (omega (arith, taken_size l c (take (room_of room) (replicate 1472 0)), buffer_size room))

-- A WALK
module _ (next kind which id n : ℕ) (behind : List ℕ) {a : List ℕ} (is : a ≡ done_alone ++ (found_bytes next kind which id n ++ behind)) where
  step-kind : kind < 256 → be 1 a 6 ≡ kind
  step-kind h =
      number_at 1 kind (spell 2 0 ++ spell 4 next) (spell 1 which ++ spell 4 id ++ spell 4 n ++ behind) 6 h (simp (length-append, length-spell))
      (is ∙ simp append_assoc)

nothing-behind : (l : List ℕ) → done_alone ++ l ≡ done_alone ++ (l ++ [])
nothing-behind l = ap (λ (x : List ℕ). done_alone ++ x) (sym (append-nil l))

step_fits_lem : (next : ℕ) (o : Walked) → step_fits (walk_bytes next o) ≡ true
unfolding step_fits
step_fits_lem next Met.End =
    rw (step-kind next 0 0 0 0 [] (nothing-behind (found_bytes next 0 0 0 0)) (omega arith), length-step next 0 0 0 0) refl
step_fits_lem next (Met.Pdu route id at n) =
    let is : walk_bytes next (Met.Pdu route id at n) ≡ done_alone ++ (found_bytes next 1 route id n ++ spell 4 at) = append_assoc done_alone _ (spell 4 at) in
    rw (step-kind next 1 route id n (spell 4 at) is (omega arith), length-pdu next route id n at) refl
step_fits_lem next (Met.Drop reason id n) =
    rw (
      step-kind next 2 (reason_number reason) id n [] (nothing-behind (found_bytes next 2 (reason_number reason) id n)) (omega arith),
      length-step next 2 (reason_number reason) id n,
    ) refl

walk_done : (next : ℕ) (o : Walked) → answer_fits 8 (walk_bytes next o) ≡ true
unfolding done_fits
walk_done next Met.End = done-fits 8 _ (found_bytes next 0 0 0 0) refl (step_fits_lem next Met.End)
walk_done next (Met.Pdu route id at n) =
    done-fits 8 _ (found_bytes next 1 route id n ++ spell 4 at) (append_assoc done_alone (found_bytes next 1 route id n) (spell 4 at))
    (step_fits_lem next (Met.Pdu route id at n))
walk_done next (Met.Drop reason id n) = done-fits 8 _ (found_bytes next 2 (reason_number reason) id n) refl (step_fits_lem next (Met.Drop reason id n))

or_fits : (n : ℕ) (a : Result Unit NotReceived) (bytes : List ℕ) → (a ≡ Ok tt → answer_fits n bytes ≡ true) → answer_fits n (or_refused a bytes) ≡ true
or_fits n (Ok tt) bytes h = h refl
or_fits n (Err (Received.Refused r)) bytes h = refusal-fits n r
or_fits n (Err Received.NotReceiving) bytes h = refused-fits n 4 0 (omega arith) refl

-- A TAKE, and other bytes behind it: its kind and mark are known, and it has as many bytes as they say
module _ (l : List ℕ) where
  other-needs : (k n : ℕ) → be 1 l 4 ≡ k → eqb k 1 ≡ false → leb k 5 ≡ true → other_needs k ≡ n → (take_fits l ≡ true) × (take_needs l ≡ n)
  unfolding take_fits take_needs
  other-needs k n e no_pdu low needs = (rw (e, no_pdu) low, rw (e, no_pdu) needs)

  here_needs : be 1 l 4 ≡ 1 → be 1 l 14 ≡ 0 → (take_fits l ≡ true) × (take_needs l ≡ 19)
  unfolding take_fits take_needs pdu_needs
  here_needs e mark = (rw (e, mark) refl, rw (e, mark) refl)

  held_needs : (n : ℕ) → be 1 l 4 ≡ 1 → be 1 l 14 ≡ 1 → be 4 l 10 ≡ n → (take_fits l ≡ true) × (take_needs l ≡ n + 15)
  unfolding take_fits take_needs pdu_needs
  held_needs n e mark long = (rw (e, mark) refl, rw (e, mark, long) refl)

abbrev pub TakeStands : List ℕ → List ℕ → Type 0
TakeStands t rest = (take_fits (t ++ rest) ≡ true) × (take_needs (t ++ rest) ≡ length t)

stands_by : (t rest : List ℕ) (n : ℕ) → (take_fits (t ++ rest) ≡ true) × (take_needs (t ++ rest) ≡ n) → length t ≡ n → TakeStands t rest
stands_by t rest n h long = (h.0, h.1 ∙ sym long)

-- a piece, the last or not
piece_needs : (last : Bool) (l : List ℕ) → be 1 l 4 ≡ piece_kind last → (take_fits l ≡ true) × (take_needs l ≡ 18)
unfolding other_needs
piece_needs true l e = other-needs l 5 18 e refl refl refl
piece_needs false l e = other-needs l 4 18 e refl refl refl

pub take-stands : (begins read : ℕ) (o : Outcome) (payload rest : List ℕ) → TakeFits begins o payload → TakeStands (take_bytes begins read o payload) rest
unfolding other_needs
take-stands begins read Found.More payload rest h =
    stands_by (found_bytes read 0 0 0 0) rest 14 (other-needs _ 0 14 (kind_at read 0 0 0 0 rest refl (omega arith)) refl refl refl) (length_found read 0 0 0 0)
take-stands begins read (Found.Drop reason id n) payload rest h =
    stands_by (found_bytes read 2 (reason_number reason) id n) rest 14
    (other-needs _ 2 14 (kind_at read 2 (reason_number reason) id n rest refl (omega arith)) refl refl refl) (length_found read 2 (reason_number reason) id n)
take-stands begins read (Found.Start route id n last) payload rest h =
    stands_by (found_bytes read 3 route id n) rest 14
    (other-needs _ 3 14 (kind_at read 3 route id n rest refl (omega arith)) refl refl refl) (length_found read 3 route id n)
take-stands begins read (Found.Piece route id at n last) payload rest h =
    let l : List ℕ = piece_spelt read route id n last begins at ++ rest in
    let behind : List ℕ = spell 4 (begins + at) ++ rest in
    let is : l ≡ found_bytes read (piece_kind last) route id n ++ behind = simp append_assoc in
    stands_by (piece_spelt read route id n last begins at) rest 18
    (piece_needs last l (kind_at read (piece_kind last) route id n behind is (kind-small last))) (length-piece read route id n last begins at)
take-stands begins read (Found.Pdu route id true at n) payload rest h =
    let l : List ℕ = here_bytes read route id n begins at ++ rest in
    let behind : List ℕ = spell 1 0 ++ (spell 4 (begins + at) ++ rest) in
    let is : l ≡ found_bytes read 1 route id n ++ behind = simp append_assoc in
    let mark : be 1 l 14 ≡ 0 =
    number_at 1 0 (found_bytes read 1 route id n) (spell 4 (begins + at) ++ rest) 14 (omega arith) (length_found read 1 route id n) is in
    stands_by (here_bytes read route id n begins at) rest 19
    (here_needs l (kind_at read 1 route id n behind is (omega arith)) mark) (length-here read route id n begins at)
take-stands begins read (Found.Pdu route id false at n) payload rest h =
    let l : List ℕ = held_bytes read route id n payload ++ rest in
    let behind : List ℕ = spell 1 1 ++ (payload ++ rest) in
    let is : l ≡ found_bytes read 1 route id n ++ behind = simp append_assoc in
    let mark : be 1 l 14 ≡ 1 = number_at 1 1 (found_bytes read 1 route id n) (payload ++ rest) 14 (omega arith) (length_found read 1 route id n) is in
    stands_by (held_bytes read route id n payload) rest (n + 15)
    (held_needs l n (kind_at read 1 route id n behind is (omega arith)) mark (length_at read 1 route id n behind is h.1.0))
    (length-held read route id n payload ∙ ap (λ (k : ℕ). k + 15) h.1.1)

-- TAKES, one after the other, and nothing behind them
abbrev AllFit : List Take → Type 0
AllFit ts = takes_fit (length ts) (bytes_in ts) ≡ true

one-fits : (t : Take) (ts : List Take) → TakeFits t.begins t.outcome t.payload → AllFit ts → AllFit (t ∷ ts)
unfolding takes_fit bytes_in
one-fits t ts h later =
    let b : List ℕ = take_bytes t.begins t.read t.outcome t.payload in
    let s = take-stands t.begins t.read t.outcome t.payload (bytes_in ts) h in
    let room : take_needs (b ++ bytes_in ts) ≤ length (b ++ bytes_in ts) = omega (arith, s.1, length-append b (bytes_in ts)) in
    let rest : drop (take_needs (b ++ bytes_in ts)) (b ++ bytes_in ts) ≡ bytes_in ts = drop_at b (bytes_in ts) (take_needs (b ++ bytes_in ts)) (sym s.1) in
    and_both (and_both s.0 (le-leb (take_needs (b ++ bytes_in ts)) (length (b ++ bytes_in ts)) room)) (ap (takes_fit (length ts)) rest ∙ later)

more-fit : (done left : Bool) (t : Take) (ts : List Take) → (done ≡ true → TakeFits t.begins t.outcome t.payload)
    → AllFit ts → AllFit (took_then done left t ts)
unfolding takes_fit bytes_in
more-fit true true t ts h later = one-fits t ts (h refl) later
more-fit true false t ts h later = one-fits t [] (h refl) refl
more-fit false left t ts h later = refl

-- A SEGMENT EVENT, whose bytes are bytes
module _ (l : Loan) (k : ℕ) (seg : List ℕ) (bytes : Bytes seg) (short : length seg ≤ longest_body) where
  abbrev next : Progress → Progress
  next r = one_take l k seg r

  takes-fit : (n : ℕ) (r : Progress) → r.at ≤ length seg → AllFit (takes_from l k seg n r)
  unfolding takes_from one_take takes_fit bytes_in
  takes-fit zero r within =
      more-fit (is_done (next r).answer) false (next_take l k seg r) [] (take-fits l k seg bytes short (lent_next l k seg r) r.at within) refl
  takes-fit (suc n) r within =
      more-fit (is_done (next r).answer) (ltb (next r).at (length seg)) (next_take l k seg r) (takes_from l k seg n (next r))
      (take-fits l k seg bytes short (lent_next l k seg r) r.at within)
      (takes-fit n (next r) (omega (arith, within, read-within (lent_next l k seg r) k (drop r.at seg), length-drop r.at seg)))

  segment_done : (ts : List Take) → length ts < 256 ^ 2 → AllFit ts → answer_fits 7 (done_with 2 (length ts) ++ bytes_in ts) ≡ true
  unfolding done_fits segment_fits
  segment_done ts few later =
      let a : List ℕ = done_with 2 (length ts) ++ bytes_in ts in
      let count : be 2 a 2 ≡ length ts = number_at 2 (length ts) (spell 2 0) (bytes_in ts) 2 few (length-spell 2 0) (simp append_assoc) in
      let front : length (done_with 2 (length ts)) ≡ 4 = simp (length-append, length-spell) in
      let rest : drop 4 a ≡ bytes_in ts = drop_at (done_with 2 (length ts)) (bytes_in ts) 4 front in
      done-fits 7 a (spell 2 (length ts) ++ bytes_in ts) (append_assoc (spell 2 0) (spell 2 (length ts)) (bytes_in ts))
      (and_both (le-leb 4 (length a) (omega (arith, front, length-append (done_with 2 (length ts)) (bytes_in ts)))) (rw (count, rest) later))

  takes-answer-fits : answer_fits 7 (takes_answer l k seg) ≡ true
  takes-answer-fits =
      or_fits 7 (all_takes l k seg).answer (done_with 2 (length (takes_over l k seg)) ++ bytes_in (takes_over l k seg))
      (λ e.
      segment_done (takes_over l k seg)
      (omega
      (arith, zero-add (length (takes_over l k seg)), takes_count l k seg (length seg) (begun l.state l.rx) (ap is_done e), count_fits l k seg short))
      (takes-fit (length seg) (begun l.state l.rx) (omega arith)))

-- EVERY EVENT: of arguments that spell it
module _ (l : Loan) (a : List ℕ) where
  abbrev Fitting : ℕ → Result Call BadCall → Type 0
  Fitting n call = Short a call → answer_fits n (answer_of l a call) ≡ true

  own-fits : (n c : ℕ) (event : Event) → Plain n → done_long n ≡ 2 → Fitting n (Ok (Own c event))
  unfolding answer_of
  own-fits n c event plain long short = told_fits n plain (event_of (sizes l) c event).answer long

  lost-fits : (n c : ℕ) → Plain n → done_long n ≡ 3 → Fitting n (Ok (Lost c))
  unfolding answer_of
  lost-fits n c plain long short = loss_fits n plain (loss_of (sizes l) c).answer (loss_of (sizes l) c).failed long

  segment-fits : Bytes a → (c at : ℕ) → Fitting 7 (Ok (Segment c at))
  unfolding answer_of
  segment-fits bytes c at short = takes-answer-fits l c (bytes_from a at) (bytes_drop at a bytes) (not-long a c at short)

  walk-fits : (c place at : ℕ) → Fitting 8 (Ok (Walk c place at))
  unfolding answer_of
  walk-fits c place at short =
      let w = walk_of (sizes l) c (bytes_from a at) place in or_fits 8 w.answer (walk_bytes w.next w.outcome) (λ _. walk_done w.next w.outcome)

  waiting-fits : (c room : ℕ) → Fitting 9 (Ok (TakeWaiting c room))
  unfolding answer_of
  waiting-fits c room short = taken-fits l c room

  datagram-fits : (n group : ℕ) (source : Remote) → Plain n → done_long n ≡ 3 → Fitting n (Ok (Datagram group source))
  unfolding answer_of
  datagram-fits n group source plain long short = arrival_fits n plain (datagram_of (sizes l) group source).answer long

  accept-fits : (n group : ℕ) (source : Remote) → Plain n → done_long n ≡ 3 → Fitting n (Ok (Accept group source))
  unfolding answer_of
  accept-fits n group source plain long short = arrival_fits n plain (accept_of (sizes l) group source).answer long

  transmit-fits : (n pdu at : ℕ) → Plain n → done_long n ≡ 2 → Fitting n (Ok (Transmit pdu at))
  unfolding answer_of
  transmit-fits n pdu at plain long short = sent-fits n plain l pdu (bytes_from a at) long

  switches-fit : (n number : ℕ) (position : Bool) → Plain n → done_long n ≡ 2 → Fitting n (Ok (SwitchAll number position))
  unfolding answer_of
  switches-fit n number position plain long short = told_fits n plain (switch_all_of (sizes l) number position).answer long

  read_fits : (n protocol : ℕ) → Plain n → done_long n ≡ 6 → Fitting n (Ok (ReadCount protocol))
  unfolding answer_of
  read_fits n protocol plain long short = counted-fits n plain (read_of (sizes l) protocol).answer long

  clear_fits : (n protocol : ℕ) → Plain n → done_long n ≡ 6 → Fitting n (Ok (ClearCount protocol))
  unfolding answer_of
  clear_fits n protocol plain long short = counted-fits n plain (clear_of (sizes l) protocol).answer long

call_fits : (n : ℕ) → is_recorded n ≡ true → (a : List ℕ) → is_spelt (call_of n a) ≡ true → (l : Loan) → Bytes a → Fitting l a n (call_of n a)
unfolding done_fits done_long
call_fits =
    by_call (λ n a call. (l : Loan) → Bytes a → Fitting l a n call)
    (λ a t l b. own-fits l a 1 (be 1 a 1) Open (λ _. refl) refl)
    (λ a t l b. own-fits l a 2 (be 1 a 1) Close (λ _. refl) refl)
    (λ a t l b. own-fits l a 3 (be 1 a 1) Connected (λ _. refl) refl)
    (λ a t l b. lost-fits l a 4 (be 1 a 1) (λ _. refl) refl)
    (λ a t l b. own-fits l a 5 (be 1 a 1) (SetRemote (remote_in (drop 2 a))) (λ _. refl) refl)
    (λ a t l b. own-fits l a 6 (be 1 a 1) (Switch (be 1 a 2) (eqb (be 1 a 3) 1)) (λ _. refl) refl)
    (λ a t l b. segment-fits l a b (be 1 a 1) 6)
    (λ a t l b. walk-fits l a (be 1 a 1) (be 4 a 2) 10)
    (λ a t l b. waiting-fits l a (be 1 a 1) (be 4 a 2))
    (λ a t l b. datagram-fits l a 10 (be 1 a 1) (remote_in (drop 2 a)) (λ _. refl) refl)
    (λ a t l b. accept-fits l a 11 (be 1 a 1) (remote_in (drop 2 a)) (λ _. refl) refl)
    (λ a t l b. transmit-fits l a 12 (be 2 a 1) 7 (λ _. refl) refl)
    (λ a t l b. switches-fit l a 13 (be 1 a 1) (eqb (be 1 a 2) 1) (λ _. refl) refl)
    (λ a t l b. read_fits l a 14 (be 1 a 1) (λ _. refl) refl)
    (λ a t l b. clear_fits l a 15 (be 1 a 1) (λ _. refl) refl)
    (λ a t l b. own-fits l a 16 (be 1 a 1) Cancel (λ _. refl) refl)

-- THE ANSWER FITS, of any image, state and memory
pub answer-fits : (n : ℕ) → is_recorded n ≡ true → (l : Loan) (a : List ℕ) → Bytes a → is_spelt (call_of n a) ≡ true
    → answer_fits n (answer_of l a (call_of n a)) ≡ true
answer-fits n event l a bytes spells = call_fits n event a spells l bytes (call_short n a)
