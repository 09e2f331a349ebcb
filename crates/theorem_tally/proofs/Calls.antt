-- ANY CALL, COUNTED FROM ITS NUMBER, ITS ARGUMENTS AND ITS ANSWER, counts what the machine gives at the events that it spells (R21.9, R21.10): a segment or a
-- walk its takes, any other call nothing.
use Rattle.std.proofs.Common.{Result, Ok, Err}
use Prim.Native.Nat.{ℕ, zero, suc, ◌+◌, ◌≤◌}
use mathlib.Core.Path.{◌≡◌, refl, sym, ap, subst, ◌∙◌}
use mathlib.Core.Bool.{Bool, true, false, cond, ◌&&◌}
use mathlib.Core.List.{List, [], append-nil}
use native.Mathlib.Omega.{arith}
use lib.Dec.{eqb, ltb, leb}
use lib.ListN.{length, drop, replicate, length-drop}
use lib.Seq.{set-get_or}
use borrow.Author.Tests.{ltb-true, ltb-false, leb-true, eqb-true}
use Rattle.wire.specs.Be.{be}
use Rattle.lists.proofs.Both.{and_right}
use Rattle.reading.specs.Feed.{Out}
use Rattle.reading_lengths.specs.Listed.{Bytes}
use Rattle.reading_lengths.proofs.Bytes.{bytes_drop}
use Rattle.connection.specs.declared.Event.{Event as Change}
use Rattle.connection.specs.declared.Event.TheVariants.{Open, Close, Connected, SetRemote, Switch, Cancel}
use Rattle.connection.specs.declared.Remote.{Remote}
use Rattle.event_decode.specs.declared.Call.{Call}
use Rattle.event_decode.specs.declared.BadCall.{BadCall}
use Rattle.event_decode.specs.declared.BadCall.TheVariants.{Unknown, Unfit}
use Rattle.event_decode.specs.declared.Call.TheVariants.{Ticks, Own, Lost, Segment, Walk}
use Rattle.event_decode.specs.declared.Call.TheVariants.{TakeWaiting, Datagram, Accept, Transmit, SwitchAll, ReadCount, ClearCount}
use Rattle.event_decode.specs.Calls.{fitted, plain, length_fits, addressed, remote_in, positioned, call_of, bytes_from}
use Rattle.dispatch_receive.specs.Long.{longest_body}
use Rattle.entry_receive.specs.Walk.{walk_of}
use Rattle.dispatch_receive.specs.Walk.{walked_bytes}
use Rattle.model.specs.Events.{tick, on_whole}
use Rattle.model_refines.specs.Machine.{Machine, loan_to, lent_to, told_segment}
use Rattle.model_refines.specs.Run.{after_event, given, given_in, told_walk}
use Rattle.dispatch_refines.specs.Spelt.{events_of}
use Rattle.dispatch_refines.specs.Answer.{takes_answer, answer_of}
use Rattle.report_count.specs.declared.Counting.{Counting}
use Rattle.report_count.specs.declared.Run.{Run}
use Rattle.report_count.specs.Count.{adds_nothing, adds_of_kind, one_counted, takes_counted, takes_in}
use Rattle.report_count.specs.Count.{takes_at, connection_named, counting_at, after_counting, event_counted}
use Rattle.theorem_tally.specs.Items.{items_from, length_kept}
use Rattle.theorem_tally.proofs.Counted.{Counts, nothing-counts}
use Rattle.theorem_tally.proofs.Segments.{segment-given}
use Rattle.theorem_tally.proofs.Walks.{walk-given}
use Rattle.theorem_tally.proofs.Tallied.{kept_at, Tallied, tallied_same, none_tallied, alone, past_tallied, alone_tallied}

-- CALLS THAT TELL NOTHING, one law for each kind
module _ (image : List ℕ) (k : ℕ) (body : List ℕ) where
  abbrev pub Silent : Result Call BadCall → Type 0
  Silent call = (m : Machine) → given_in image k m (events_of body call) ≡ []

  pub ticks_silent : (n : ℕ) (m : Machine) → given_in image k m (replicate n (on_whole tick)) ≡ []
  unfolding given_in given
  ticks_silent zero m = refl
  ticks_silent (suc n) m = ticks_silent n (after_event image (on_whole tick) m)

  unknown_tells : Silent (Err Unknown)
  unfolding events_of given_in
  unknown_tells m = refl

  unfit_tells : Silent (Err Unfit)
  unfolding events_of given_in
  unfit_tells m = refl

  ticks_tell : (n : ℕ) → Silent (Ok (Ticks n))
  unfolding events_of
  ticks_tell n m = ticks_silent n m

  own_tells : (c : ℕ) (e : Change) → Silent (Ok (Own c e))
  unfolding events_of given_in given
  own_tells c e m = refl

  lost_tells : (c : ℕ) → Silent (Ok (Lost c))
  unfolding events_of given_in given
  lost_tells c m = refl

  taking_tells : (c n : ℕ) → Silent (Ok (TakeWaiting c n))
  unfolding events_of given_in given
  taking_tells c n m = refl

  datagram_tells : (group : ℕ) (source : Remote) → Silent (Ok (Datagram group source))
  unfolding events_of given_in given
  datagram_tells group source m = refl

  accept_tells : (group : ℕ) (source : Remote) → Silent (Ok (Accept group source))
  unfolding events_of given_in given
  accept_tells group source m = refl

  transmit_tells : (number at : ℕ) → Silent (Ok (Transmit number at))
  unfolding events_of given_in given
  transmit_tells number at m = refl

  switching_tells : (number : ℕ) (position : Bool) → Silent (Ok (SwitchAll number position))
  unfolding events_of given_in given
  switching_tells number position m = refl

  reading_tells : (protocol : ℕ) → Silent (Ok (ReadCount protocol))
  unfolding events_of given_in given
  reading_tells protocol m = refl

  clearing_tells : (protocol : ℕ) → Silent (Ok (ClearCount protocol))
  unfolding events_of given_in given
  clearing_tells protocol m = refl

  either : (t : Bool) (x y : Result Call BadCall) → Silent x → Silent y → Silent (cond t x y)
  either true x y p q = p
  either false x y p q = q

  not_this : (t : Bool) (x y : Result Call BadCall) → t ≡ false → Silent y → Silent (cond t x y)
  not_this t x y e q = subst (λ (b : Bool). Silent (cond b x y)) (sym e) q

  fitting : (t : Bool) (x : Call) → Silent (Ok x) → Silent (fitted t x)
  fitting true x p = p
  fitting false x p = unfit_tells

  -- .. so every number but 7 and 8 tells nothing
  others_silent : (n : ℕ) → eqb n 7 ≡ false → eqb n 8 ≡ false → Silent (call_of n body)
  unfolding call_of
  others_silent n seven eight =
      either (eqb n 0) _ _ (fitting (eqb (length body) 4) _ (ticks_tell (be 4 body 0)))
      (either (eqb n 1) _ _ (fitting (plain body 2) _ (own_tells (be 1 body 1) Open))
      (either (eqb n 2) _ _ (fitting (plain body 2) _ (own_tells (be 1 body 1) Close))
      (either (eqb n 3) _ _ (fitting (plain body 2) _ (own_tells (be 1 body 1) Connected))
      (either (eqb n 4) _ _ (fitting (plain body 2) _ (lost_tells (be 1 body 1)))
      (either (eqb n 5) _ _ (fitting (addressed body) _ (own_tells (be 1 body 1) (SetRemote (remote_in (drop 2 body)))))
      (either (eqb n 6) _ _ (fitting (positioned body 4 3) _ (own_tells (be 1 body 1) (Switch (be 1 body 2) (eqb (be 1 body 3) 1))))
      (not_this (eqb n 7) (fitted (length_fits body 2) (Segment (be 1 body 1) 6)) _ seven
      (not_this (eqb n 8) (fitted (length_fits body 6) (Walk (be 1 body 1) (be 4 body 2) 10)) _ eight
      (either (eqb n 9) _ _ (fitting (plain body 6) _ (taking_tells (be 1 body 1) (be 4 body 2)))
      (either (eqb n 10) _ _ (fitting (addressed body) _ (datagram_tells (be 1 body 1) (remote_in (drop 2 body))))
      (either (eqb n 11) _ _ (fitting (addressed body) _ (accept_tells (be 1 body 1) (remote_in (drop 2 body))))
      (either (eqb n 12) _ _ (fitting (length_fits body 3) _ (transmit_tells (be 2 body 1) 7))
      (either (eqb n 13) _ _ (fitting (positioned body 3 2) _ (switching_tells (be 1 body 1) (eqb (be 1 body 2) 1)))
      (either (eqb n 14) _ _ (fitting (plain body 2) _ (reading_tells (be 1 body 1)))
      (either (eqb n 15) _ _ (fitting (plain body 2) _ (clearing_tells (be 1 body 1)))
      (either (eqb n 16) _ _ (fitting (plain body 2) _ (own_tells (be 1 body 1) Cancel))
      unknown_tells))))))))))))))))

-- an answer without takes counts nothing
none_at : (k number : ℕ) (answer : List ℕ) (r : Run) → takes_in number answer ≡ 0
    → after_counting k r (takes_counted k (takes_in number answer) (drop (takes_at number) answer) (counting_at k r)) ≡ r
unfolding takes_counted
none_at k number answer r e =
    ap (λ (n : ℕ). after_counting k r (takes_counted k n (drop (takes_at number) answer) (counting_at k r))) e
    ∙ ap (λ (l : List ℕ). record { fits = r.fits; report = r.report; lengths = l }) (set-get_or r.lengths k 0)

none_counted : (number : ℕ) (arguments answer : List ℕ) (r : Run) → takes_in number answer ≡ 0 → event_counted number arguments answer r ≡ r
unfolding event_counted
none_counted number arguments answer r e = go (ltb (connection_named arguments) 16)
  where
    go : (b : Bool)
        → cond b
        (after_counting (connection_named arguments) r
        (takes_counted (connection_named arguments) (takes_in number answer) (drop (takes_at number) answer) (counting_at (connection_named arguments) r)))
        r
        ≡ r
    go true = none_at (connection_named arguments) number answer r e
    go false = refl

others_none : (number : ℕ) (answer : List ℕ) → eqb number 7 ≡ false → eqb number 8 ≡ false → takes_in number answer ≡ 0
unfolding takes_in
others_none number answer seven eight = rw (seven, eight) (go (eqb (be 2 answer 0) 0))
  where
    go : (b : Bool) → cond {A = ℕ} b 0 0 ≡ 0
    go true = refl
    go false = refl

-- WHAT ONE CONNECTION TOLD, where the count of the answer's takes is of it: past the sixteen none counts
abbrev counted_at : ℕ → ℕ → List ℕ → Counting → Counting
counted_at k number answer c = takes_counted k (takes_in number answer) (drop (takes_at number) answer) c

event_tallied : (number : ℕ) (arguments answer : List ℕ) (r : Run) (os : List Out)
    → Counts (items_from (connection_named arguments) (kept_at r (connection_named arguments)) os) (counting_at (connection_named arguments) r)
    (counted_at (connection_named arguments) number answer (counting_at (connection_named arguments) r))
    × ((counted_at (connection_named arguments) number answer (counting_at (connection_named arguments) r)).kept
    ≡ length_kept (kept_at r (connection_named arguments)) os)
    → Tallied r (alone r (connection_named arguments) os) (event_counted number arguments answer r)
unfolding event_counted
event_tallied number arguments answer r os told = go (ltb (connection_named arguments) 16) refl
  where
    go : (b : Bool) → ltb (connection_named arguments) 16 ≡ b
        → Tallied r (alone r (connection_named arguments) os)
        (cond b
        (after_counting (connection_named arguments) r (counted_at (connection_named arguments) number answer (counting_at (connection_named arguments) r)))
        r)
    go true e =
        alone_tallied r (connection_named arguments) os (ltb-true (connection_named arguments) 16 e)
        (counted_at (connection_named arguments) number answer (counting_at (connection_named arguments) r)) told.0 told.1
    go false e = past_tallied r (connection_named arguments) os (ltb-false (connection_named arguments) 16 e)

-- the bytes that a call carries are no more than its body has
body-long : (b : List ℕ) (at : ℕ) → length_fits b at ≡ true → length b ≤ longest_body
body-long b at e = leb-true (length b) 4096 (and_right (eqb (be 4 b at + (at + 4)) (length b) && eqb (be 1 b 0) 0) (leb (length b) 4096) e)

carried_long : (b : List ℕ) (at : ℕ) → length b ≤ longest_body → length (bytes_from b at) ≤ longest_body
carried_long b at h = omega (arith, h, length-drop at b)

module _ (image : List ℕ) (m : Machine) (body : List ℕ) (bytes : Bytes body) (r : Run) where
  abbrev Counted : ℕ → Result Call BadCall → Type 0
  Counted number call =
      Tallied r (λ k. given_in image k m (events_of body call)) (event_counted number body (answer_of (loan_to image m) body call) r)

  -- a segment
  segment_tells : (c at k : ℕ) → alone r c (told_segment image c m (bytes_from body at)) k ≡ given_in image k m (events_of body (Ok (Segment c at)))
  unfolding events_of given_in given
  segment_tells c at k = sym (append-nil _)

  segment_tallied : length body ≤ longest_body → Counted 7 (Ok (Segment (be 1 body 1) 6))
  unfolding answer_of
  segment_tallied h =
      tallied_same r (event_counted 7 body (takes_answer (loan_to image m) (be 1 body 1) (bytes_from body 6)) r)
      (alone r (be 1 body 1) (told_segment image (be 1 body 1) m (bytes_from body 6))) (λ k. given_in image k m (events_of body (Ok (Segment (be 1 body 1) 6))))
      (λ k l. segment_tells (be 1 body 1) 6 k)
      (event_tallied 7 body (takes_answer (loan_to image m) (be 1 body 1) (bytes_from body 6)) r (told_segment image (be 1 body 1) m (bytes_from body 6))
      (segment-given image m (be 1 body 1) (bytes_from body 6) (bytes_drop 6 body bytes) (carried_long body 6 h) (counting_at (be 1 body 1) r)))

  -- a walk
  walk_tells : (c place at k : ℕ)
      → alone r c (told_walk (bytes_from body at) (walk_of (lent_to image m) c (bytes_from body at) place).outcome) k
      ≡ given_in image k m (events_of body (Ok (Walk c place at)))
  unfolding events_of given_in given
  walk_tells c place at k = sym (append-nil _)

  walk_tallied : length body ≤ longest_body → Counted 8 (Ok (Walk (be 1 body 1) (be 4 body 2) 10))
  unfolding answer_of
  walk_tallied h =
      tallied_same r (event_counted 8 body (walked_bytes (walk_of (lent_to image m) (be 1 body 1) (bytes_from body 10) (be 4 body 2))) r)
      (alone r (be 1 body 1) (told_walk (bytes_from body 10) (walk_of (lent_to image m) (be 1 body 1) (bytes_from body 10) (be 4 body 2)).outcome))
      (λ k. given_in image k m (events_of body (Ok (Walk (be 1 body 1) (be 4 body 2) 10))))
      (λ k l. walk_tells (be 1 body 1) (be 4 body 2) 10 k)
      (event_tallied 8 body (walked_bytes (walk_of (lent_to image m) (be 1 body 1) (bytes_from body 10) (be 4 body 2))) r
      (told_walk (bytes_from body 10) (walk_of (lent_to image m) (be 1 body 1) (bytes_from body 10) (be 4 body 2)).outcome)
      (walk-given (lent_to image m) (be 1 body 1) (bytes_from body 10) (be 4 body 2) (bytes_drop 10 body bytes) (carried_long body 10 h)
      (counting_at (be 1 body 1) r)))

  -- a body that does not fit has no answer: of a segment no take, of a walk one that says nothing
  silent_tallied : (number : ℕ) (call : Result Call BadCall) → ((k : ℕ) → Silent image k body call)
      → takes_in number (answer_of (loan_to image m) body call) ≡ 0
      → Counted number call
  silent_tallied number call silent none =
      subst (λ (d : Run). Tallied r (λ k. given_in image k m (events_of body call)) d)
      (sym (none_counted number body (answer_of (loan_to image m) body call) r none))
      (tallied_same r r (λ k. []) (λ k. given_in image k m (events_of body call)) (λ k l. sym (silent k m)) (none_tallied r))

  unfit-segment : Counted 7 (Err Unfit)
  unfolding answer_of takes_in be
  unfit-segment = silent_tallied 7 (Err Unfit) (λ k. unfit_tells image k body) refl

  unfit-counted : (c : Counting) → counted_at (be 1 body 1) 8 [] c ≡ one_counted (be 1 body 1) (adds_nothing c.kept) c
  unfolding takes_counted takes_in takes_at adds_of_kind be
  unfit-counted c = refl

  unfit_told : (c : Counting)
      → Counts (items_from (be 1 body 1) c.kept []) c (counted_at (be 1 body 1) 8 [] c)
      × ((counted_at (be 1 body 1) 8 [] c).kept ≡ length_kept c.kept [])
  unfolding items_from length_kept one_counted
  unfit_told c = (
    subst (λ (d : Counting). Counts [] c d) (sym (unfit-counted c)) (nothing-counts (be 1 body 1) c c.kept),
    ap (λ (d : Counting). d.kept) (unfit-counted c),
  )

  alone_none : (c k : ℕ) → alone r c [] k ≡ []
  alone_none c k = go (eqb c k)
    where
      go : (b : Bool) → cond {A = List Out} b [] [] ≡ []
      go true = refl
      go false = refl

  unfit-walk : Counted 8 (Err Unfit)
  unfolding answer_of
  unfit-walk =
      tallied_same r (event_counted 8 body [] r) (alone r (be 1 body 1) []) (λ k. given_in image k m (events_of body (Err Unfit)))
      (λ k l. alone_none (be 1 body 1) k ∙ sym (unfit_tells image k body m))
      (event_tallied 8 body [] r [] (unfit_told (counting_at (be 1 body 1) r)))

  -- BY ITS NUMBER
  seven-counted : Counted 7 (call_of 7 body)
  unfolding call_of
  seven-counted = go (length_fits body 2) refl
    where
      go : (b : Bool) → length_fits body 2 ≡ b → Counted 7 (fitted b (Segment (be 1 body 1) 6))
      go true e = segment_tallied (body-long body 2 e)
      go false e = unfit-segment

  eight-counted : Counted 8 (call_of 8 body)
  unfolding call_of
  eight-counted = go (length_fits body 6) refl
    where
      go : (b : Bool) → length_fits body 6 ≡ b → Counted 8 (fitted b (Walk (be 1 body 1) (be 4 body 2) 10))
      go true e = walk_tallied (body-long body 6 e)
      go false e = unfit-walk

  -- R21.10: what any call adds to the count is what the machine gives at the events that it spells
  pub call_counted : (number : ℕ) → Counted number (call_of number body)
  call_counted number = go (eqb number 7) (eqb number 8) refl refl
    where
      go : (a b : Bool) → eqb number 7 ≡ a → eqb number 8 ≡ b → Counted number (call_of number body)
      go true b seven eight = subst (λ (n : ℕ). Counted n (call_of n body)) (sym (eqb-true number 7 seven)) seven-counted
      go false true seven eight = subst (λ (n : ℕ). Counted n (call_of n body)) (sym (eqb-true number 8 eight)) eight-counted
      go false false seven eight =
          silent_tallied number (call_of number body) (λ k. others_silent image k body number seven eight)
          (others_none number (answer_of (loan_to image m) body (call_of number body)) seven eight)
