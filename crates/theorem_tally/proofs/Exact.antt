-- THE TAKES OF A SEGMENT EVENT STAND IN ITS ANSWER: each fits its bytes, and each PDU is as long as it says. So counting from the answer is counting what the
-- event has told (R21.9).
use Prim.Native.Nat.{ℕ, zero, suc, ◌+◌, ◌-◌, ◌<◌, ◌≤◌}
use mathlib.Core.Path.{◌≡◌, refl, sym, ap, subst, ◌∙◌}
use mathlib.Core.Bool.{Bool, true, false, cond}
use mathlib.Core.List.{List, [], ◌∷◌}
use native.Mathlib.Omega.{arith}
use native.Mathlib.Decide.{dec_le}
use lib.Dec.{leb, ltb}
use lib.ListN.{length, take, drop, length-drop}
use lib.Seq.{length-take-le}
use borrow.Author.Tests.{lt-leb}
use Rattle.table_layout.specs.Layout.{part_of, body_of}
use Rattle.table_layout.specs.declared.Kind.TheVariants.{Route as RouteRows}
use Rattle.table_layout.proofs.Parts.{part-fits}
use Rattle.reading.specs.Feed.{Out, nothing, pdu, dropped, start, piece, emit, take_b}
use Rattle.reading_lengths.specs.Listed.{Bytes}
use Rattle.reading_lengths.proofs.Bytes.{bytes_drop}
use Rattle.receive_route.specs.Route.{lookup_of}
use Rattle.receive_stream.specs.declared.Outcome.{Outcome}
use Rattle.receive_stream.specs.Stream.{cell_of, is_in_segment, id_of, take_outcome, took_of, taken_of}
use Rattle.state.specs.State.{record_at}
use Rattle.state.specs.Fresh.{config_of}
use Rattle.state.specs.Memory.{stretch}
use Rattle.gate.specs.Lent.{Loan, sizes}
use Rattle.entry_receive.specs.Answer.{is_done}
use Rattle.entry_receive.specs.Segment.{take_on, segment_answer, segment_of, payload_of}
use Rattle.entry_receive.proofs.Answers.{Clear, done_clear}
use Rattle.dispatch_receive.specs.Long.{longest_body}
use Rattle.dispatch_receive.specs.Segment.{lent_next, Progress, take_at, memory_at, one_take}
use Rattle.dispatch_receive.proofs.Room.{answer-is}
use Rattle.dispatch_receive.proofs.Run.{read-within}
use Rattle.model_refines.specs.Machine.{Machine, machine, pdu_told}
use Rattle.model_refines.proofs.Take.{one_told}
use Rattle.dispatch_refines.specs.Told.{Take, bytes_in, took_then, next_take, takes_from}
use Rattle.dispatch_refines.proofs.Fits.{take-fits}
use Rattle.dispatch_refines.proofs.Read.{TakeFits}
use Rattle.theorem_record.proofs.Answers.{take-stands}
use Rattle.theorem_tally.proofs.Counted.{Exact, AllStand}

-- a part that is as long in what is left of a segment is as long in the segment
none_long : (l : List ℕ) (at n : ℕ) → n ≡ 0 → length (part_of l at n) ≡ n
unfolding part_of
none_long l at n e = ap (λ (m : ℕ). length (part_of l at m)) e ∙ go (leb (at + 0) (length l)) ∙ sym e
  where
    go : (b : Bool) → length (cond b (take 0 (drop at l)) []) ≡ 0
    go true = refl
    go false = refl

past_none : (l : List ℕ) (at n : ℕ) → length l < at + n → part_of l at n ≡ []
unfolding part_of
past_none l at n h = rw (lt-leb (at + n) (length l) h)

part-long : (seg : List ℕ) (begins at n : ℕ) → length (part_of (drop begins seg) at n) ≡ n → length (part_of seg (begins + at) n) ≡ n
part-long seg begins at n e = go (dec_le (begins + at + n) (length seg))
  where
    go : Dec (begins + at + n ≤ length seg) → length (part_of seg (begins + at) n) ≡ n
    go (yes h) =
        ap length (part-fits seg (begins + at) n h) ∙ length-take-le n (drop (begins + at) seg) (omega (arith, length-drop (begins + at) seg))
    go (no h) = none_long seg (begins + at) n (other (dec_le (at + n) (length (drop begins seg))))
      where
        other : Dec (at + n ≤ length (drop begins seg)) → n ≡ 0
        other (yes l) = omega (arith, length-drop begins seg, h, l)
        other (no l) = sym e ∙ ap length (past_none (drop begins seg) at n (omega (arith, l)))

-- A TAKE: what it found and what it told agree on the payload
exact_by : (image seg rx : List ℕ) (k begins : ℕ) (ids : ℕ → ℕ) (s : Bool) (read : ℕ) (o : Out)
    → pdu_told image k (payload_of (drop begins seg) rx k (take_outcome ids s read o)) (take_outcome ids s read o) ≡ emit o []
    → TakeFits begins (take_outcome ids s read o) (payload_of (drop begins seg) rx k (take_outcome ids s read o))
    → Exact seg begins (take_outcome ids s read o) (payload_of (drop begins seg) rx k (take_outcome ids s read o))
unfolding payload_of
exact_by image seg rx k begins ids s read nothing h fits = tt
exact_by image seg rx k begins ids true read (pdu r p) h fits =
    let e : part_of (drop begins seg) (read - length p) (length p) ≡ p = cc in
    part-long seg begins (read - length p) (length p) (ap length e)
exact_by image seg rx k begins ids false read (pdu r p) h fits =
    let e : part_of (stretch 1464 k rx) 0 (length p) ≡ p = cc in
    ap length e
exact_by image seg rx k begins ids s read (dropped q i n) h fits = tt
exact_by image seg rx k begins ids s read (start r i n m) h fits = fits.1
exact_by image seg rx k begins ids s read (piece r p m) h fits = tt

module _ (start : Loan) (k : ℕ) (seg : List ℕ) (bytes : Bytes seg) (not_long : length seg ≤ longest_body) where
  module _ (l : Loan) (at : ℕ) (within : at ≤ length seg) (d : is_done (take_at l k seg at).answer ≡ true) where
    abbrev rest : List ℕ
    rest = drop at seg

    abbrev m : Machine
    m = machine l.state l.rx l.tx

    abbrev routes : List ℕ
    routes = body_of l.image RouteRows

    e : is_done (segment_answer (sizes l) k) ≡ true
    e = sym (answer-is l k rest) ∙ d

    clear : Clear (sizes l) k (config_of l.image k).tcp
    clear = done_clear (sizes l) k (config_of l.image k).tcp e

    abbrev out : Out
    out = (take_b (lookup_of routes k (record_at l.state k).switches) (cell_of (record_at l.state k).part (stretch 1464 k l.rx)) rest).out

    abbrev read : ℕ
    read =
        length rest - length (take_b (lookup_of routes k (record_at l.state k).switches)
        (cell_of (record_at l.state k).part (stretch 1464 k l.rx)) rest).rest

    outcome-is : (segment_of l k rest).outcome ≡ take_outcome (id_of routes) (is_in_segment (cell_of (record_at l.state k).part (stretch 1464 k l.rx))) read out
    unfolding segment_of take_on taken_of took_of
    outcome-is = rw e refl

    told : pdu_told l.image k (payload_of rest (memory_at l k seg at) k (take_at l k seg at).outcome) (take_at l k seg at).outcome ≡ emit out []
    told = one_told l.image k m rest clear (bytes_drop at seg bytes)

    abbrev Both : Outcome → Type 0
    Both o =
        (pdu_told l.image k (payload_of rest (memory_at l k seg at) k o) o ≡ emit out [])
        × TakeFits at o (payload_of rest (memory_at l k seg at) k o)

    take_exact : Exact seg at (take_at l k seg at).outcome (payload_of rest (memory_at l k seg at) k (take_at l k seg at).outcome)
    take_exact =
        let b = subst Both outcome-is (told, take-fits start k seg bytes not_long l at within d) in
        subst (λ (o : Outcome). Exact seg at o (payload_of rest (memory_at l k seg at) k o)) (sym outcome-is)
        (exact_by l.image seg (memory_at l k seg at) k at (id_of routes)
        (is_in_segment (cell_of (record_at l.state k).part (stretch 1464 k l.rx))) read out b.0 b.1)

  -- THE TAKES, one after the other
  abbrev next : Progress → Progress
  next r = one_take start k seg r

  stand_one : (t : Take) (ts : List Take) → TakeFits t.begins t.outcome t.payload → Exact seg t.begins t.outcome t.payload
      → AllStand seg ts → AllStand seg (t ∷ ts)
  stand_one t ts fits exact all = ((fits, (exact, (take-stands t.begins t.read t.outcome t.payload (bytes_in ts) fits).1)), all)

  more_stand : (done left : Bool) (t : Take) (ts : List Take) → (done ≡ true → TakeFits t.begins t.outcome t.payload)
      → (done ≡ true → Exact seg t.begins t.outcome t.payload) → AllStand seg ts → AllStand seg (took_then done left t ts)
  more_stand true true t ts fits exact all = stand_one t ts (fits refl) (exact refl) all
  more_stand true false t ts fits exact all = stand_one t [] (fits refl) (exact refl) tt
  more_stand false left t ts fits exact all = tt

  pub takes_stand : (n : ℕ) (r : Progress) → r.at ≤ length seg → AllStand seg (takes_from start k seg n r)
  unfolding takes_from one_take
  takes_stand zero r within =
      more_stand (is_done (next r).answer) false (next_take start k seg r) [] (take-fits start k seg bytes not_long (lent_next start k seg r) r.at within)
      (take_exact (lent_next start k seg r) r.at within) tt
  takes_stand (suc n) r within =
      more_stand (is_done (next r).answer) (ltb (next r).at (length seg)) (next_take start k seg r) (takes_from start k seg n (next r))
      (take-fits start k seg bytes not_long (lent_next start k seg r) r.at within) (take_exact (lent_next start k seg r) r.at within)
      (takes_stand n (next r) (omega (arith, within, read-within (lent_next start k seg r) k (drop r.at seg), length-drop r.at seg)))
