-- WHAT STOOD IN LENT MEMORY BEFORE DOES NOT MATTER: two machines that hold the same (`seen`) are answered the same, event by event, all bytes.
use Rattle.std.proofs.Common.{Result, Ok, Err}
use Prim.Native.Nat.{ℕ, zero, suc, ◌+◌, ◌*◌}
use mathlib.Core.Path.{◌≡◌, refl, sym, ap, ap₂, ◌∙◌, subst}
use mathlib.Core.Bool.{Bool, true, false, cond, false≢true}
use mathlib.Core.List.{List, [], ◌∷◌}
use lib.Dec.{ltb}
use lib.ListN.{length, take, drop, replicate}
use lib.Seq.{take-take}
use Rattle.table_layout.specs.Layout.{body_of}
use Rattle.table.proofs.Facts.{accepted_facts}
use Rattle.table_layout.specs.declared.Kind.TheVariants.{Route as RouteRows}
use Rattle.reading.specs.Feed.{Cell, Out, nothing, pdu, dropped, start, piece, Took, take_b, emit}
use Rattle.reading_lengths.specs.Listed.{Bytes}
use Rattle.reading_lengths.proofs.Bytes.{bytes_drop}
use Rattle.receive_route.specs.Route.{lookup_of}
use Rattle.connection.specs.Connection.{with_part}
use Rattle.state.specs.declared.State.{State}
use Rattle.state.specs.State.{record_at, with_record}
use Rattle.state.specs.Fresh.{config_of}
use Rattle.state.specs.Memory.{stretch}
use Rattle.gate.specs.Lent.{Lent, lent, Loan, sizes}
use Rattle.gate.specs.Gate.{gate_of, gate_at, through}
use Rattle.law_keeps.proofs.Transmitted.{all_fit}
use Rattle.entry_events.specs.Change.{event_of, loss_of}
use Rattle.entry_events.specs.Module.{switch_all_of}
use Rattle.entry_events.specs.Count.{read_of, clear_of}
use Rattle.entry_ticks.specs.Tick.{ticks_event}
use Rattle.entry_arrivals.specs.Arrivals.{datagram_of, accept_of}
use Rattle.entry_receive.specs.Walk.{walk_of}
use Rattle.send.specs.declared.NotSent.TheVariants as Sent
use Rattle.send.specs.Send.{check_of, transmitted_of}
use Rattle.send_waiting.specs.Waiting.{waiting_of, out_of}
use Rattle.entry_send.specs.Sending.{not_sent, send_of, not_taken, take_past, taken_waiting, taken_out}
use Rattle.event_decode.specs.declared.Call.{Call}
use Rattle.event_decode.specs.declared.BadCall.{BadCall}
use Rattle.event_decode.specs.declared.Call.TheVariants.{Ticks, Own, Lost, Segment, Walk}
use Rattle.event_decode.specs.declared.Call.TheVariants.{TakeWaiting, Datagram, Accept, Transmit, SwitchAll, ReadCount, ClearCount}
use Rattle.event_decode.specs.Calls.{bytes_from}
use Rattle.dispatch_events.specs.Events.{told_bytes, loss_bytes, ticks_bytes, count_bytes}
use Rattle.dispatch_receive.specs.Walk.{walked_bytes}
use Rattle.dispatch_send.specs.Send.{arrival_bytes, transmission_bytes, taking_bytes, room_of}
use Rattle.receive_stream.specs.declared.Outcome.{Outcome}
use Rattle.receive_stream.specs.declared.Outcome.TheVariants as Found
use Rattle.receive_stream.specs.declared.Taken.{Taken}
use Rattle.receive_stream.specs.Stream.{cell_of, is_in_segment, id_of, answered, took_of, taken_of}
use Rattle.entry_receive.specs.declared.SegmentTaken.{SegmentTaken}
use Rattle.entry_receive.specs.Answer.{is_done}
use Rattle.entry_receive.specs.Segment.{count_take, taken_at, take_on, none_taken, segment_answer, segment_of, payload_of}
use Rattle.entry_receive.proofs.Answers.{done_clear}
use Rattle.dispatch_receive.specs.Segment.{Progress, begun, one_take, all_takes, event_bytes}
use Rattle.dispatch_receive.proofs.Room.{answer-is}
use Rattle.dispatch_receive.proofs.Run.{first-answer}
use Rattle.model.specs.World.{World, Held, held_at, cell_at, with_cell, state_of}
use Rattle.model.specs.Step.{acted, left}
use Rattle.model.proofs.View.{state_view, view_at}
use Rattle.model_runs.proofs.Keeps.{cell-follow}
use Rattle.model_refines.specs.Table.{table_of}
use Rattle.model_refines.specs.Machine.{Machine, loan_to, lent_to, seen, taken, after_one, pdu_told, told_by}
use Rattle.model_refines.specs.Run.{Good}
use Rattle.model_refines.proofs.Take.{Open, took_at, one_view, one_told, open_after}
use Rattle.dispatch_refines.specs.Told.{Take, bytes_in, next_take, took_then, takes_from}
use Rattle.dispatch_refines.specs.Answer.{takes_over, takes_answer, take_answer, answer_of}
use Rattle.dispatch_refines.proofs.Segment.{machine_at}
use Rattle.connection.specs.declared.Refusal.{Refusal}
use Rattle.entry_receive.specs.declared.NotReceived.{NotReceived}

-- machines that hold the same, in memories of the same lengths
pub record HoldsAlike (m m' : Machine) : Type 0 where
  pub held : seen m ≡ seen m'
  pub rx : length m.rx ≡ length m'.rx
  pub tx : length m.tx ≡ length m'.tx

module _ (image : List ℕ) {m m' : Machine} (same : HoldsAlike m m') where
  pub state-same : m.state ≡ m'.state
  state-same = sym (state_view m.state m.rx m.tx) ∙ ap state_of same.held ∙ state_view m'.state m'.rx m'.tx

  pub lent_same : lent_to image m ≡ lent_to image m'
  lent_same =
      ap₂ (λ (s : State) (n : ℕ). lent image s n (length m.tx)) state-same same.rx
      ∙ ap (λ (n : ℕ). lent image m'.state (length m'.rx) n) same.tx

-- A TAKE on connection k
module _ (image : List ℕ) (k : ℕ) {m m' : Machine} (same : HoldsAlike m m') (segment : List ℕ) where
  abbrev routes : List ℕ
  routes = body_of image RouteRows

  abbrev cell : Machine → Cell
  cell n = cell_of (record_at n.state k).part (stretch 1464 k n.rx)

  cell-seen : (n : Machine) → cell_at (held_at (seen n) k) ≡ cell n
  cell-seen n = ap cell_at (view_at n.state n.rx n.tx k) ∙ cell-follow (record_at n.state k).part (stretch 1464 k n.rx)

  cell_same : cell m ≡ cell m'
  cell_same = sym (cell-seen m) ∙ ap (λ (w : World). cell_at (held_at w k)) same.held ∙ cell-seen m'

  switches-same : (record_at m.state k).switches ≡ (record_at m'.state k).switches
  switches-same = ap (λ (s : State). (record_at s k).switches) (state-same image same)

  stream-same : taken_at image m.state m.rx k segment ≡ taken_at image m'.state m'.rx k segment
  unfolding taken_of took_of
  stream-same =
      ap₂ (λ (w : ℕ) (c : Cell). answered (id_of routes) (is_in_segment c) (length segment) (take_b (lookup_of routes k w) c segment)) switches-same cell_same

  -- its answer, what it reads and finds, and the state that it leaves
  pub taken-same : taken image k m segment ≡ taken image k m' segment
  unfolding segment_of take_on
  taken-same = ap₂ by (lent_same image same) stream-same
    where
      by : Lent → Taken → SegmentTaken
      by l t =
          cond (is_done (segment_answer l k))
          (record {
            answer = Ok tt;
            read = t.read;
            outcome = t.outcome;
            state = count_take t.outcome (with_record k (with_part t.part (record_at l.state k)) l.state);
          })
          (none_taken l.state (segment_answer l k))

  -- where it is not refused: what it leaves, and the payload that it hands out
  module _ (bytes : Bytes segment) (d : is_done (taken image k m segment).answer ≡ true) where
    here : Open image k m
    here = done_clear (lent_to image m) k (config_of image k).tcp (sym (answer-is (loan_to image m) k segment) ∙ d)

    there : Open image k m'
    there =
        done_clear (lent_to image m') k (config_of image k).tcp
        (sym (answer-is (loan_to image m') k segment) ∙ sym (ap (λ (t : SegmentTaken). is_done t.answer) taken-same) ∙ d)

    took-same : took_at image k m segment here bytes ≡ took_at image k m' segment there bytes
    took-same = ap₂ (λ (w : ℕ) (c : Cell). take_b (lookup_of routes k w) c segment) switches-same cell_same

    pub after-alike : HoldsAlike (after_one image k m segment) (after_one image k m' segment)
    after-alike =
        record {
          held =
              one_view image k m segment here bytes
              ∙ ap₂ (λ (w : World) (t : Took). left (table_of image) w k (acted (with_cell t.to (held_at w k)) (emit t.out []))) same.held took-same
              ∙ sym (one_view image k m' segment there bytes);
          rx = (open_after image k m segment here bytes).passed.receive ∙ sym (open_after image k m' segment there bytes).passed.receive;
          tx = same.tx;
        }

    told_same : told_by image k m segment ≡ told_by image k m' segment
    told_same =
        one_told image k m segment here bytes ∙ ap (λ (t : Took). emit t.out []) took-same ∙ sym (one_told image k m' segment there bytes)

    pub payload_same : payload_of segment (after_one image k m segment).rx k (taken image k m segment).outcome
        ≡ payload_of segment (after_one image k m' segment).rx k (taken image k m' segment).outcome
    unfolding payload_of
    payload_same = go (taken image k m segment).outcome (taken image k m' segment).outcome (ap (λ (t : SegmentTaken). t.outcome) taken-same) told_same
      where
        z : List ℕ
        z = (after_one image k m segment).rx

        z' : List ℕ
        z' = (after_one image k m' segment).rx

        payload_in : List Out → List ℕ
        payload_in [] = []
        payload_in (nothing ∷ os) = []
        payload_in (pdu r p ∷ os) = p
        payload_in (dropped j i n ∷ os) = []
        payload_in (start r i n m ∷ os) = []
        payload_in (piece r p m ∷ os) = p

        one : (o : Outcome)
            → pdu_told image k (payload_of segment z k o) o ≡ pdu_told image k (payload_of segment z' k o) o → payload_of segment z k o
            ≡ payload_of segment z' k o
        one Found.More e = refl
        one (Found.Pdu route id inside at n) e = ap payload_in e
        one (Found.Drop reason id n) e = refl
        one (Found.Start route id n last) e = refl
        one (Found.Piece route id at n last) e = ap payload_in e

        go : (o o' : Outcome) → o ≡ o' → pdu_told image k (payload_of segment z k o) o ≡ pdu_told image k (payload_of segment z' k o') o'
            → payload_of segment z k o ≡ payload_of segment z' k o'
        go o o' e =
            subst
            (λ (x : Outcome).
            pdu_told image k (payload_of segment z k o) o ≡ pdu_told image k (payload_of segment z' k x) x
            → payload_of segment z k o ≡ payload_of segment z' k x)
            e (one o)

-- ALL TAKES over a segment
then_same : (d d' left left' : Bool) (t t' : Take) (ts ts' : List Take) → d ≡ d' → (d ≡ true → left ≡ left') → (d ≡ true → t ≡ t') → (d ≡ true → ts ≡ ts')
    → took_then d left t ts ≡ took_then d' left' t' ts'
then_same true true left left' t t' ts ts' e p q s = rw (p refl, q refl, s refl) refl
then_same true false left left' t t' ts ts' e p q s = absurd (false≢true (sym e))
then_same false true left left' t t' ts ts' e p q s = absurd (false≢true e)
then_same false false left left' t t' ts ts' e p q s = refl

module _ (image : List ℕ) (k : ℕ) (seg : List ℕ) (bytes : Bytes seg) (m m' : Machine) where
  abbrev l : Loan
  l = loan_to image m

  abbrev l' : Loan
  l' = loan_to image m'

  -- as far as the takes are
  abbrev at : Progress → Machine
  at r = machine_at l k seg r

  abbrev at' : Progress → Machine
  at' r = machine_at l' k seg r

  abbrev rest : Progress → List ℕ
  rest r = drop r.at seg

  module _ (r r' : Progress) (same : HoldsAlike (at r) (at' r')) (place : r.at ≡ r'.at) where
    rests : rest r ≡ rest r'
    rests = ap (λ (n : ℕ). drop n seg) place

    take_same : taken image k (at r) (rest r) ≡ taken image k (at' r') (rest r')
    take_same = taken-same image k same (rest r) ∙ ap (taken image k (at' r')) rests

    module _ (d : is_done (taken image k (at r) (rest r)).answer ≡ true) where
      next-alike : HoldsAlike (after_one image k (at r) (rest r)) (after_one image k (at' r') (rest r'))
      next-alike =
          subst (λ (s : List ℕ). HoldsAlike (after_one image k (at r) (rest r)) (after_one image k (at' r') s)) rests
          (after-alike image k same (rest r) (bytes_drop r.at seg bytes) d)

      next-same : next_take l k seg r ≡ next_take l' k seg r'
      next-same =
          ap₂
          (λ (t : SegmentTaken) (p : ℕ × List ℕ). record { begins = p.0; read = t.read; outcome = t.outcome; payload = p.1 })
          take_same
          (ap₂ (λ (n : ℕ) (p : List ℕ). (n, p)) place
          (payload_same image k same (rest r) (bytes_drop r.at seg bytes) d
          ∙ ap (λ (s : List ℕ). payload_of s (after_one image k (at' r') s).rx k (taken image k (at' r') s).outcome) rests))

  abbrev next : Progress → Progress
  next r = one_take l k seg r

  abbrev next' : Progress → Progress
  next' r = one_take l' k seg r

  takes_same : (n : ℕ) (r r' : Progress) → HoldsAlike (at r) (at' r') → r.at ≡ r'.at → takes_from l k seg n r ≡ takes_from l' k seg n r'
  unfolding takes_from one_take
  takes_same zero r r' same place =
      then_same (is_done (next r).answer) (is_done (next' r').answer) false false (next_take l k seg r) (next_take l' k seg r') [] []
      (ap (λ (t : SegmentTaken). is_done t.answer) (take_same r r' same place)) (λ d. refl) (next-same r r' same place) (λ d. refl)
  takes_same (suc n) r r' same place =
      let on : (next r).at ≡ (next' r').at = ap₂ ◌+◌ place (ap (λ (t : SegmentTaken). t.read) (take_same r r' same place)) in
      then_same (is_done (next r).answer) (is_done (next' r').answer) (ltb (next r).at (length seg)) (ltb (next' r').at (length seg))
      (next_take l k seg r) (next_take l' k seg r') (takes_from l k seg n (next r)) (takes_from l' k seg n (next' r'))
      (ap (λ (t : SegmentTaken). is_done t.answer) (take_same r r' same place))
      (λ d. ap (λ (a : ℕ). ltb a (length seg)) on)
      (next-same r r' same place)
      (λ d. takes_same n (next r) (next' r') (next-alike r r' same place d) on)

  pub segment-same : HoldsAlike m m' → takes_answer l k seg ≡ takes_answer l' k seg
  segment-same same =
      let ts : takes_over l k seg ≡ takes_over l' k seg =
      takes_same (length seg) (begun m.state m.rx) (begun m'.state m'.rx) same refl in
      let a : (all_takes l k seg).answer ≡ (all_takes l' k seg).answer =
      first-answer l k seg bytes ∙ ap (λ (t : SegmentTaken). t.answer) (taken-same image k same (drop 0 seg)) ∙ sym (first-answer l' k seg bytes) in
      ap₂ (λ (x : Result Unit NotReceived) (ts : List Take). event_bytes x (length ts) (bytes_in ts)) a ts

-- EVERY EVENT
module _ (image : List ℕ) {m m' : Machine} (good : Good image m) (good' : Good image m') (same : HoldsAlike m m') where
  -- a transmit is answered by lengths alone
  sent_by : (l : Loan) (number : ℕ) (payload : List ℕ)
      → (send_of l number payload).answer ≡ through (gate_of (sizes l)) (λ x. Err (Sent.Refused x)) (check_of l.image l.state number (length payload))
  unfolding send_of
  sent_by l number payload = go (gate_of (sizes l))
    where
      go : (g : Result Unit Refusal)
          → (through g (not_sent l.state) (transmitted_of l.image l.state number payload l.tx)).answer
          ≡ through g (λ x. Err (Sent.Refused x)) (check_of l.image l.state number (length payload))
      go (Ok tt) = refl
      go (Err r) = refl

  sent-same : (number : ℕ) (payload : List ℕ) → (send_of (loan_to image m) number payload).answer ≡ (send_of (loan_to image m') number payload).answer
  sent-same number payload =
      sent_by (loan_to image m) number payload
      ∙ ap (λ (l : Lent). through (gate_of l) (λ x. Err (Sent.Refused x)) (check_of l.image l.state number (length payload))) (lent_same image same)
      ∙ sym (sent_by (loan_to image m') number payload)

  -- the waiting bytes are what the machine holds
  waits-seen : {n : Machine} → Good image n → (j : ℕ) → waiting_of n.tx j (record_at n.state j).used ≡ (held_at (seen n) j).waiting
  unfolding waiting_of
  waits-seen {n} g j =
      sym
      (ap (λ (h : Held). h.waiting) (view_at n.state n.rx n.tx j)
      ∙ take-take (record_at n.state j).used 1472 (drop (j * 1472) n.tx)
      (all_fit image (accepted_facts image g.passed.table) n.state g.passed.sound j))

  waits-same : (j : ℕ) → waiting_of m.tx j (record_at m.state j).used ≡ waiting_of m'.tx j (record_at m'.state j).used
  waits-same j = waits-seen good j ∙ ap (λ (w : World). (held_at w j).waiting) same.held ∙ sym (waits-seen good' j)

  waiting-same : (c : ℕ) (buffer : List ℕ) → take_answer (loan_to image m) c buffer ≡ take_answer (loan_to image m') c buffer
  unfolding taken_waiting taken_out
  waiting-same c buffer =
      ap₂
      (λ (l : Lent) (w : List ℕ).
      taking_bytes (through (gate_at l c) (not_taken l.state) (take_past l.image l.state c (length buffer))).answer
      (through (gate_at l c) (λ r. buffer) (out_of (record_at l.state c) w buffer)))
      (lent_same image same) (waits-same c)

  -- THE ANSWER OF A CALL, whose body is bytes
  pub answers-same : (a : List ℕ) → Bytes a → (call : Result Call BadCall) → answer_of (loan_to image m) a call ≡ answer_of (loan_to image m') a call
  unfolding answer_of
  answers-same a b (Err bad) = refl
  answers-same a b (Ok (Ticks n)) = ap (λ (l : Lent). ticks_bytes (ticks_event l n).answer (ticks_event l n).failed) (lent_same image same)
  answers-same a b (Ok (Own c e)) = ap (λ (l : Lent). told_bytes (event_of l c e).answer) (lent_same image same)
  answers-same a b (Ok (Lost c)) = ap (λ (l : Lent). loss_bytes (loss_of l c).answer (loss_of l c).failed) (lent_same image same)
  answers-same a b (Ok (Segment c at)) = segment-same image c (bytes_from a at) (bytes_drop at a b) m m' same
  answers-same a b (Ok (Walk c place at)) = ap (λ (l : Lent). walked_bytes (walk_of l c (bytes_from a at) place)) (lent_same image same)
  answers-same a b (Ok (TakeWaiting c n)) = waiting-same c (take (room_of n) (replicate 1472 0))
  answers-same a b (Ok (Datagram group source)) = ap (λ (l : Lent). arrival_bytes (datagram_of l group source).answer) (lent_same image same)
  answers-same a b (Ok (Accept group source)) = ap (λ (l : Lent). arrival_bytes (accept_of l group source).answer) (lent_same image same)
  answers-same a b (Ok (Transmit number at)) = ap transmission_bytes (sent-same number (bytes_from a at))
  answers-same a b (Ok (SwitchAll number position)) = ap (λ (l : Lent). told_bytes (switch_all_of l number position).answer) (lent_same image same)
  answers-same a b (Ok (ReadCount protocol)) = ap (λ (l : Lent). count_bytes (read_of l protocol).answer) (lent_same image same)
  answers-same a b (Ok (ClearCount protocol)) = ap (λ (l : Lent). count_bytes (clear_of l protocol).answer) (lent_same image same)
