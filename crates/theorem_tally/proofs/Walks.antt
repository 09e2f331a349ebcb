-- A WALK, COUNTED FROM THE BYTES OF ITS ANSWER, counts what it found (R21.9, R21.10).
use Rattle.std.proofs.Common.{Result, Ok, Err}
use Prim.Native.Nat.{ℕ, ◌+◌, ◌/◌, ◌^◌, ◌<◌, ◌≤◌}
use mathlib.Core.Path.{◌≡◌, refl, sym, ap, subst, ◌∙◌}
use mathlib.Core.Bool.{Bool, true, false, cond, true≢false}
use mathlib.Core.List.{List, [], ◌∷◌, ◌++◌, append_assoc, append-nil}
use native.Mathlib.Omega.{arith}
use lib.Dec.{eqb, leb}
use lib.ListN.{length, take, drop, length-drop}
use lib.Seq.{drop_at, length-take-le}
use borrow.Author.Tests.{leb-true}
use Rattle.reading.specs.Reasons.{reason_number}
use Rattle.reading.proofs.Reasons.{reason_small}
use Rattle.wire.specs.Be.{be}
use Rattle.wire.specs.Lay.{spell}
use Rattle.wire.proofs.Spell.{length-spell}
use Rattle.table_layout.specs.Layout.{body_of}
use Rattle.table_layout.specs.declared.Kind.TheVariants.{Route as RouteRows}
use Rattle.reading.specs.declared.Decision.{Decision}
use Rattle.reading.specs.declared.Decision.TheVariants as Decided
use Rattle.reading.specs.Feed.{Routes, Out}
use Rattle.reading_lengths.specs.Listed.{Bytes}
use Rattle.reading_lengths.specs.Head.{Head, ended, short, beyond, whole, head_of}
use Rattle.reading_lengths.proofs.Bytes.{bytes_drop}
use Rattle.reading_lengths.proofs.Heads.{whole-fits}
use Rattle.reading_walk.specs.Walk.{whole_at, walk_step, walk_at}
use Rattle.receive_route.specs.Route.{rows_in, lookup_of}
use Rattle.receive_route.proofs.Decided.{route-accepted, route_transfers}
use Rattle.receive_datagram.specs.declared.Outcome.{Outcome as Step}
use Rattle.receive_datagram.specs.declared.Outcome.TheVariants as Met
use Rattle.receive_datagram.specs.Datagram.{walked_of}
use Rattle.receive_datagram.specs.Datagram as met
use Rattle.connection.specs.Event.{refusal_number}
use Rattle.state.specs.State.{record_at}
use Rattle.gate.specs.Lent.{Lent}
use Rattle.entry_receive.specs.declared.NotReceived.TheVariants.{Refused, NotReceiving}
use Rattle.entry_receive.specs.Answer.{is_done}
use Rattle.entry_receive.specs.Walk.{walk_on, none_walked, walk_answer, walk_of}
use Rattle.event_answer.specs.Answers.{refused, found_bytes}
use Rattle.dispatch_receive.specs.Long.{longest_body}
use Rattle.dispatch_receive.specs.Walk.{or_refused, step_bytes, walk_bytes, walked_bytes}
use Rattle.report_count.specs.declared.Adds.{Adds}
use Rattle.report_count.specs.declared.Counting.{Counting}
use Rattle.report_count.specs.Count.{adds_nothing, adds_drop, adds_pdu, adds_of_kind, adds_of, one_counted, takes_counted, takes_in, takes_at}
use Rattle.report.specs.Report.{got, count_from}
use Rattle.model_refines.specs.Run.{told_walk}
use Rattle.dispatch_refines.proofs.Read.{number_at, some_number, StepFits}
use Rattle.dispatch_refines.proofs.Drops.{head_small}
use Rattle.theorem_tally.specs.Items.{items_from, length_kept}
use Rattle.theorem_tally.proofs.Counted.{Counts, nothing-counts, drop-counts, pdu-counts, pdu_kept, found-adds}
use Rattle.entry_receive.specs.declared.NotReceived.{NotReceived}

-- what a step adds, by what it found
abbrev adds_step : Step → ℕ → Adds
adds_step Met.End kept = adds_nothing kept
adds_step (Met.Pdu route id at n) kept = adds_pdu route n kept
adds_step (Met.Drop reason id n) kept = adds_drop (reason_number reason) kept

-- the payload that it names is as long as it says
abbrev ExactStep : List ℕ → Step → Type 0
ExactStep d Met.End = Unit {0}
ExactStep d (Met.Pdu route id at n) = length (take n (drop at d)) ≡ n
ExactStep d (Met.Drop reason id n) = Unit {0}

abbrev pub ToldStep : ℕ → List Out → Counting → Counting → Type 0
ToldStep k os c d = Counts (items_from k c.kept os) c d × (d.kept ≡ length_kept c.kept os)

step_told : (k : ℕ) (c : Counting) (d : List ℕ) (o : Step) → ExactStep d o → ToldStep k (told_walk d o) c (one_counted k (adds_step o c.kept) c)
unfolding items_from length_kept one_counted
step_told k c d Met.End e = (nothing-counts k c c.kept, refl)
step_told k c d (Met.Pdu route id at n) e = (
  subst (λ (m : ℕ). Counts (got route m ∷ []) c (one_counted k (adds_pdu route n c.kept) c)) (sym e) (pdu-counts k c route n c.kept),
  pdu_kept route n c.kept,
)
step_told k c d (Met.Drop reason id n) e = (drop-counts k c (reason_number reason) c.kept, refl)

-- its bytes
abbrev counted : ℕ → List ℕ → Counting → Counting
counted k answer c = takes_counted k (takes_in 8 answer) (drop (takes_at 8) answer) c

one-take : (k : ℕ) (c : Counting) (answer l : List ℕ) (a : Adds) → be 2 answer 0 ≡ 0 → drop 2 answer ≡ l → adds_of l c.kept ≡ a
    → counted k answer c ≡ one_counted k a c
unfolding takes_in takes_at takes_counted
one-take k c answer l a z behind adds = rw (z, behind) (ap (λ (x : Adds). one_counted k x c) adds)

plain_step : (k : ℕ) (c : Counting) (next kind which id n : ℕ) (a : Adds) → kind < 256 → which < 256 → n < 256 ^ 4 → adds_of_kind kind which n c.kept ≡ a
    → counted k (step_bytes next kind which id n) c ≡ one_counted k a c
plain_step k c next kind which id n a p q r e =
    let is : found_bytes next kind which id n ≡ found_bytes next kind which id n ++ [] = sym (append-nil _) in
    one-take k c (step_bytes next kind which id n) (found_bytes next kind which id n) a
    (number_at 2 0 [] (found_bytes next kind which id n) 0 (omega arith) refl refl)
    (drop_at (spell 2 0) (found_bytes next kind which id n) 2 (length-spell 2 0)) (found-adds next kind which id n [] is p q r c.kept ∙ e)

step-counted : (k : ℕ) (c : Counting) (next : ℕ) (o : Step) → StepFits o → counted k (walk_bytes next o) c ≡ one_counted k (adds_step o c.kept) c
unfolding adds_of_kind
step-counted k c next Met.End h = plain_step k c next 0 0 0 0 (adds_nothing c.kept) (omega arith) (omega arith) (omega arith) refl
step-counted k c next (Met.Drop reason id n) h =
    plain_step k c next 2 (reason_number reason) id n (adds_drop (reason_number reason) c.kept) (omega arith) h.0 h.1.1 refl
step-counted k c next (Met.Pdu route id at n) h =
    let l : List ℕ = walk_bytes next (Met.Pdu route id at n) in
    one-take k c l (found_bytes next 1 route id n ++ spell 4 at) (adds_pdu route n c.kept)
    (number_at 2 0 [] (found_bytes next 1 route id n ++ spell 4 at) 0 (omega arith) refl (simp append_assoc))
    (ap (drop 2) (append_assoc (spell 2 0) (found_bytes next 1 route id n) (spell 4 at))
    ∙ drop_at (spell 2 0) (found_bytes next 1 route id n ++ spell 4 at) 2 (length-spell 2 0))
    (found-adds next 1 route id n (spell 4 at) refl (omega arith) h.0 h.1.0 c.kept)

-- a refusal has none
empty_told : (k : ℕ) (c : Counting) (n : ℕ) (x : List ℕ) → n ≡ 0 → ToldStep k [] c (takes_counted k n x c)
unfolding takes_counted items_from length_kept count_from
empty_told k c n x e =
    subst (λ (m : ℕ). ToldStep k [] c (takes_counted k m x c)) (sym e) (record { before = λ h. h; sums = λ full h. refl }, refl)

refused-counted : (k : ℕ) (c : Counting) (number : ℕ) → number < 256 ^ 2 → eqb number 0 ≡ false → ToldStep k [] c (counted k (refused number 0) c)
unfolding takes_in
refused-counted k c number h e =
    let z : be 2 (refused number 0) 0 ≡ number = number_at 2 number [] (spell 4 0) 0 h refl refl in
    empty_told k c (takes_in 8 (refused number 0)) (drop (takes_at 8) (refused number 0)) (rw (z, e) refl)

-- THE WALK
few_rows : (routes : List ℕ) → rows_in routes ≤ 64
unfolding rows_in
few_rows routes = go (leb (length routes / 16) 64) refl
  where
    go : (b : Bool) → leb (length routes / 16) 64 ≡ b → cond b (length routes / 16) 64 ≤ 64
    go true e = leb-true (length routes / 16) 64 e
    go false e = omega arith

abbrev Stands : List ℕ → Step → Type 0
Stands d o = StepFits o × ExactStep d o

module _ (l : Lent) (k : ℕ) (d : List ℕ) (place : ℕ) (bytes : Bytes d) (not_long : length d ≤ longest_body) where
  abbrev routes : List ℕ
  routes = body_of l.image RouteRows

  abbrev R : Routes
  R = lookup_of routes k (record_at l.state k).switches

  pdu-stands : (r i n : ℕ) → r < 64 → head_of (drop place d) ≡ whole i n → Stands d (Met.Pdu r i (place + 8) n)
  pdu-stands r i n low e =
      let w = whole-fits (drop place d) i n e in
      let x = length-drop place d in
      let y = length-drop (place + 8) d in (
        (omega (arith, low), (omega (arith, not_long, w, x), omega (arith, not_long, w, x))),
        length-take-le n (drop (place + 8) d) (omega (arith, w, x, y)),
      )

  decided : (q : Decision) (i n : ℕ) → R i n ≡ q → head_of (drop place d) ≡ whole i n → Stands d (met.walk_outcome (whole_at q place i n).found)
  decided (Decided.Accept r) i n a e =
      pdu-stands r i n (omega (arith, (route-accepted routes k (record_at l.state k).switches i n r a).bears.there, few_rows routes)) e
  decided (Decided.Transfer r) i n a e =
      pdu-stands r i n (omega (arith, (route_transfers routes k (record_at l.state k).switches i n r a).bears.there, few_rows routes)) e
  decided (Decided.Refuse j) i n a e =
      let h = head_small (drop place d) (bytes_drop place d bytes) (whole i n) e in
      ((reason_small j, (h.0, h.1)), tt)

  stands : (h : Head) → head_of (drop place d) ≡ h → Stands d (met.walk_outcome (walk_step R (length d) place h).found)
  stands ended e = (tt, tt)
  stands short e = ((omega arith, (omega arith, omega arith)), tt)
  stands (beyond i n) e = let h = head_small (drop place d) (bytes_drop place d bytes) (beyond i n) e in ((omega arith, (h.0, h.1)), tt)
  stands (whole i n) e = decided (R i n) i n refl e

  answered : (c : Counting) (a : Result Unit NotReceived) (next : ℕ) (o : Step) → Stands d o → (is_done a ≡ false → o ≡ Met.End)
      → ToldStep k (told_walk d o) c (counted k (or_refused a (walk_bytes next o)) c)
  answered c (Ok tt) next o s none = subst (λ (x : Counting). ToldStep k (told_walk d o) c x) (sym (step-counted k c next o s.0)) (step_told k c d o s.1)
  answered c (Err (Refused r)) next o s none =
      subst (λ (x : Step). ToldStep k (told_walk d x) c (counted k (refused (refusal_number r) 0) c)) (sym (none refl))
      (refused-counted k c (refusal_number r) (some_number r).0 (some_number r).1)
  answered c (Err NotReceiving) next o s none =
      subst (λ (x : Step). ToldStep k (told_walk d x) c (counted k (refused 4 0) c)) (sym (none refl)) (refused-counted k c 4 (omega arith) refl)

  -- R21.9: what a walk adds, by the bytes of its answer, is what it found
  pub walk-given : (c : Counting) → ToldStep k (told_walk d (walk_of l k d place).outcome) c (counted k (walked_bytes (walk_of l k d place)) c)
  unfolding walk_of walk_on walked_of walk_at
  walk-given c = go (is_done (walk_answer l k d place))
    where
      go : (b : Bool)
          → ToldStep k (told_walk d (cond b (walk_on l.image l.state k d place) (none_walked l.state place (walk_answer l k d place))).outcome) c
          (counted k (walked_bytes (cond b (walk_on l.image l.state k d place) (none_walked l.state place (walk_answer l k d place)))) c)
      go true =
          answered c (Ok tt) (walk_on l.image l.state k d place).next (walk_on l.image l.state k d place).outcome
          (stands (head_of (drop place d)) refl) (λ z. absurd (true≢false z))
      go false = answered c (walk_answer l k d place) place Met.End (tt, tt) (λ z. refl)
