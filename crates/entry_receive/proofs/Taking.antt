-- The take of a segment at each of its returns, and a stretch of receive memory.
use Rattle.std.proofs.Common.{Result}
use Prim.Native.Nat.{ℕ, ◌+◌, ◌-◌, ◌*◌, ◌%◌, ◌<◌}
use mathlib.Core.Path.{◌≡◌, refl, sym, ap, ap₂, ◌∙◌, subst}
use mathlib.Core.Bool.{Bool, true, false, cond}
use mathlib.Core.List.{List, [], ◌++◌, append_assoc}
use native.Mathlib.Nat.{add-sub_cancel_left}
use native.Mathlib.Omega.{arith}
use lib.ListN.{length, get_or, take, drop, length-drop, drop_of_length-le}
use lib.Seq.{take_all, set-get_or}
use borrow.Rule.Slice.PartMut.{put_mid, Post-is}
use Rattle.wire.specs.Place.{behind, from_at}
use Rattle.wire.specs.Lay.{lay}
use Rattle.wire.proofs.Lay.{lay-fits}
use Rattle.table_layout.specs.Layout.{body_of}
use Rattle.table_layout.specs.declared.Kind.TheVariants.{Route as Routes}
use Rattle.connection.specs.declared.Connection.{Connection}
use Rattle.connection.specs.Connection.{zero_record, with_part}
use Rattle.state.specs.State.{record_at, with_records, with_record, with_count}
use Rattle.state.specs.Fresh.{config_of}
use Rattle.receive_stream.specs.declared.Outcome.{Outcome}
use Rattle.receive_stream.specs.declared.Outcome.TheVariants.{More, Pdu}
use Rattle.receive_stream.specs.declared.Taken.{Taken}
use Rattle.receive_stream.specs.Stream.{taken_of, rx_after, payload_at, payload_place, Fit}
use Rattle.receive_stream.proofs.Leaves.{leaves-length}
use Rattle.state.specs.Memory.{stretch}
use Rattle.entry_receive.specs.declared.SegmentTaken.{SegmentTaken}
use Rattle.entry_receive.specs.declared.TakeStep.{TakeStep}
use Rattle.gate.specs.Lent.{Lent, Loan, sizes}
use Rattle.gate.specs.Gate.{gate_at}
use Rattle.entry_receive.specs.Answer.{is_done, answer_past, stream_past}
use Rattle.entry_receive.specs.Segment.{drops_after, taken_by, stretch_by, step_memory, step_taken, take_on, memory_on}
use Rattle.entry_receive.specs.Segment.{Takes, none_taken, segment_answer, segment_of, memory_of, payload_of, payload_stands}
use Rattle.entry_receive.proofs.Answers.{Clear, done_clear, is-done, answer-is, past-stream}
use Rattle.entry_receive.proofs.Past.{below_sixteen, passed-takes}
use Rattle.connection.specs.declared.Refusal.{Refusal}
use Rattle.entry_receive.specs.declared.NotReceived.{NotReceived}

-- what there is of a stretch: nothing, less than all, all of it
module _ (n : ℕ) (rx : List ℕ) where
  pub stretch_none : length rx < n * 1464 → [] ≡ stretch 1464 n rx
  stretch_none h = sym (ap (take 1464) (drop_of_length-le rx {i = n * 1464} (omega arith)))

  pub stretch-some : length rx - n * 1464 < 1464 → take (length rx - n * 1464) (drop (n * 1464) rx) ≡ stretch 1464 n rx
  stretch-some h =
      take_all (length rx - n * 1464) (drop (n * 1464) rx) (omega (arith, length-drop (n * 1464) rx))
      ∙ sym (take_all 1464 (drop (n * 1464) rx) (omega (arith, length-drop (n * 1464) rx)))

  pub stretch-all : take (n * 1464 + 1464 - n * 1464) (drop (n * 1464) rx) ≡ stretch 1464 n rx
  stretch-all = ap (λ (k : ℕ). take k (drop (n * 1464) rx)) (add-sub_cancel_left (n * 1464) 1464)

-- a stretch put back in the middle of receive memory is laid there
pub mid_laid : (n : ℕ) (rx m : List ℕ) → n < 16 → length rx ≡ 23424 → length m ≡ 1464
    → put_mid (n * 1464) (n * 1464 + 1464 - n * 1464) rx m ≡ lay rx (n * 1464) m
mid_laid n rx m small room l =
    ap (λ (z : List ℕ). take (n * 1464) rx ++ (m ++ z)) (Post-is (n * 1464) (n * 1464 + 1464) rx (omega arith))
    ∙ sym (append_assoc (take (n * 1464) rx) m (drop (n * 1464 + 1464) rx))
    ∙ ap (λ (k : ℕ). take (n * 1464) rx ++ m ++ drop (n * 1464 + k) rx) (sym l)
    ∙ sym (lay-fits rx (n * 1464) m (omega (arith, small, room)))

-- the payload of a PDU
pub payload-pdu : (segment rx : List ℕ) (n : ℕ) (outcome : Outcome) (route id : ℕ) (inside : Bool) (at size : ℕ) → outcome ≡ Pdu route id inside at size
    → (own : List ℕ) → own ≡ stretch 1464 n rx → (p : List ℕ) → p ≡ payload_at segment own inside at size → p ≡ payload_of segment rx n outcome
unfolding payload_of
payload-pdu segment rx n outcome route id inside at size eo own ew p ep =
    rw eo (ep ∙ ap (λ (l : List ℕ). payload_at segment l inside at size) ew)

-- and where it stands
pub payload-there : (p : ℕ × ℕ) (segment : List ℕ) (q : ℕ × ℕ) (rx : List ℕ) (n : ℕ) (outcome : Outcome) (route id : ℕ) (inside : Bool) (at size : ℕ)
    → outcome ≡ Pdu route id inside at size
    → (own : List ℕ) → own ≡ stretch 1464 n rx → (o : ℕ × ℕ) → o ≡ behind q (from_at rx (n * 1464))
    → (r : ℕ × ℕ) → r ≡ payload_place p segment o own inside at size
    → r ≡ payload_stands p segment q rx n outcome
unfolding payload_stands
payload-there p segment q rx n outcome route id inside at size eo own ew o ep r er =
    rw eo (er ∙ ap₂ (λ (x : ℕ × ℕ) (l : List ℕ). payload_place p segment x l inside at size) ep ew)

-- PAST ALL REFUSALS: the take on the part part of receive memory
module _ (image : List ℕ) (c : Connection) (rx : List ℕ) (n : ℕ) (segment : List ℕ)
    (takes : Takes image c rx n) (routes : List ℕ) (er : routes ≡ body_of image Routes) where
  abbrev part : List ℕ
  part = take (n * 1464 + 1464 - n * 1464) (drop (n * 1464) rx)

  pub part-fit : Fit routes c.part part
  part-fit =
      subst (λ (l : List ℕ). Fit l c.part part) (sym er)
      (subst (Fit (body_of image Routes) c.part) (sym (stretch-all n rx)) takes.fit)

  module _ (answer : Result Unit NotReceived) (done : is_done answer ≡ true) where
    pub step_done : (t : Taken) (next : Connection) (drops after : ℕ) → t ≡ taken_of routes n c.switches c.part part segment
        → next ≡ with_part t.part c → after ≡ drops_after t.outcome drops
        → record { connection = next; drops = after; read = t.read; outcome = t.outcome } ≡ step_taken image c drops rx n segment answer
    unfolding step_taken
    step_done t next drops after et en ed =
        let same : t ≡ taken_by image c rx n segment = et ∙ ap₂ (λ (l m : List ℕ). taken_of l n c.switches c.part m segment) er (stretch-all n rx) in
        rw done
        (ap₂ (λ (d : ℕ) (x : Connection). record { connection = x; drops = d; read = t.read; outcome = t.outcome }) ed en
        ∙ ap
        (λ (u : Taken). record { connection = with_part u.part c; drops = drops_after u.outcome drops; read = u.read; outcome = u.outcome })
        same)

    pub memory_done : ((i : ℕ) → get_or segment i 0 < 256) → (m : List ℕ) → m ≡ rx_after routes n c.switches c.part part segment
        → put_mid (n * 1464) (n * 1464 + 1464 - n * 1464) rx m ≡ step_memory image c rx n segment answer
    unfolding step_memory
    memory_done bytes m em =
        let same : m ≡ stretch_by image c rx n segment = em ∙ ap₂ (λ (l z : List ℕ). rx_after l n c.switches c.part z segment) er (stretch-all n rx) in
        let l : length (stretch_by image c rx n segment) ≡ 1464 =
        leaves-length (body_of image Routes) n c.switches c.part (stretch 1464 n rx) segment takes.fit bytes ∙ takes.fit.room in
        rw done (ap (put_mid (n * 1464) (n * 1464 + 1464 - n * 1464) rx) same ∙ mid_laid n rx (stretch_by image c rx n segment) takes.small takes.room l)

-- refused: nothing is read
module _ (image : List ℕ) (c : Connection) (rx : List ℕ) (n : ℕ) (segment : List ℕ) (answer : Result Unit NotReceived) (done : is_done answer ≡ false) where
  pub step_none : (drops : ℕ) → record { connection = c; drops = drops; read = 0; outcome = More } ≡ step_taken image c drops rx n segment answer
  unfolding step_taken
  step_none drops = rw done

  pub memory_none : rx ≡ step_memory image c rx n segment answer
  unfolding step_memory
  memory_none = rw done

pub segment-answer : (l : Lent) (n : ℕ) (asked : Result Unit Refusal) → asked ≡ gate_at l n → (tcp : Bool) → tcp ≡ stream_past asked (config_of l.image n).tcp
    → (c : Connection) → c ≡ record_at l.state (n % 16) → (a : Result Unit NotReceived) → a ≡ answer_past asked tcp c → a ≡ segment_answer l n
segment-answer l n asked eg tcp et c ec a e =
    let t : Bool = (config_of l.image n).tcp in
    answer-is l n t asked eg c ec a (e ∙ ap (λ (b : Bool). answer_past asked b c) et ∙ past-stream asked (λ (b : Bool). b) t c)

-- THE ENTRY: record n modulo 16 is replaced, in a refusal by itself
module _ (l : Loan) (n : ℕ) (segment : List ℕ) (c : Connection) (ec : c ≡ record_at l.state (n % 16))
    (answer : Result Unit NotReceived) (ea : answer ≡ segment_answer (sizes l) n) where
  cleared : is_done answer ≡ true → Clear (sizes l) n (config_of l.image n).tcp
  cleared p = done_clear (sizes l) n (config_of l.image n).tcp (ap is_done (sym ea) ∙ p)

  within : is_done answer ≡ true → n % 16 ≡ n
  within p = let k : Clear (sizes l) n (config_of l.image n).tcp = cleared p in
      let small : n < 16 = below_sixteen l.image k.passed.table n k.there in
      omega arith

  own : is_done answer ≡ true → c ≡ record_at l.state n
  own p = ec ∙ ap (record_at l.state) (within p)

  pub may_take : is_done answer ≡ true → Takes l.image c l.rx n
  may_take p =
      let k : Clear (sizes l) n (config_of l.image n).tcp = cleared p in
      subst (λ (x : Connection). Takes l.image x l.rx n) (sym (own p)) (passed-takes l n k.passed k.there)

  -- what is told of a step, its record put back at a number
  abbrev told : Result Unit NotReceived → TakeStep → ℕ → SegmentTaken
  told a u k = record { state = with_count true u.drops (with_record k u.connection l.state); answer = a; read = u.read; outcome = u.outcome }

  abbrev taken : Connection → TakeStep
  taken x =
      record {
        connection = with_part (taken_by l.image x l.rx n segment).part x;
        drops = drops_after (taken_by l.image x l.rx n segment).outcome l.state.tcp_drops;
        read = (taken_by l.image x l.rx n segment).read;
        outcome = (taken_by l.image x l.rx n segment).outcome;
      }

  abbrev stays : TakeStep
  stays = record { connection = c; drops = l.state.tcp_drops; read = 0; outcome = More }

  module _ (t : TakeStep) (et : t ≡ step_taken l.image c l.state.tcp_drops l.rx n segment answer) where
    segment_done : is_done answer ≡ true → told answer t (n % 16) ≡ segment_of l n segment
    unfolding segment_of step_taken take_on
    segment_done p =
        let steps : t ≡ taken c = et ∙ ap (λ (b : Bool). cond b (taken c) stays) p in
        ap (λ (u : TakeStep). told answer u (n % 16)) steps
        ∙ ap₂ (λ (x : Connection) (k : ℕ). told answer (taken x) k) (own p) (within p)
        ∙ ap (λ (a : Result Unit NotReceived). told a (taken (record_at l.state n)) n) (is-done answer p)
        ∙ sym
        (ap (λ (b : Bool). cond b (take_on l.image l.state l.rx n segment) (none_taken l.state (segment_answer (sizes l) n)))
        (ap is_done (sym ea) ∙ p))

    segment-stays : is_done answer ≡ false → told answer t (n % 16) ≡ segment_of l n segment
    unfolding segment_of step_taken
    segment-stays p =
        let steps : t ≡ stays = et ∙ ap (λ (b : Bool). cond b (taken c) stays) p in
        ap (λ (u : TakeStep). told answer u (n % 16)) steps
        ∙ ap (λ (x : Connection). told answer (record { connection = x; drops = l.state.tcp_drops; read = 0; outcome = More }) (n % 16)) ec
        ∙ ap (λ (cs : List Connection). none_taken (with_records cs l.state) answer) (set-get_or l.state.connections (n % 16) zero_record)
        ∙ ap (none_taken l.state) ea
        ∙ sym
        (ap (λ (b : Bool). cond b (take_on l.image l.state l.rx n segment) (none_taken l.state (segment_answer (sizes l) n)))
        (ap is_done (sym ea) ∙ p))

    pub segment-is : told answer t (n % 16) ≡ segment_of l n segment
    segment-is = go (is_done answer) refl
      where
        go : (b : Bool) → is_done answer ≡ b → told answer t (n % 16) ≡ segment_of l n segment
        go true p = segment_done p
        go false p = segment-stays p

  module _ (m : List ℕ) (em : m ≡ step_memory l.image c l.rx n segment answer) where
    memory-taken : is_done answer ≡ true → m ≡ memory_of l n segment
    unfolding memory_of step_memory memory_on
    memory-taken p =
        em
        ∙ ap (λ (b : Bool). cond b (lay l.rx (n * 1464) (stretch_by l.image c l.rx n segment)) l.rx) p
        ∙ ap (λ (x : Connection). lay l.rx (n * 1464) (stretch_by l.image x l.rx n segment)) (own p)
        ∙ sym (ap (λ (b : Bool). cond b (memory_on l.image l.state l.rx n segment) l.rx) (ap is_done (sym ea) ∙ p))

    memory-stays : is_done answer ≡ false → m ≡ memory_of l n segment
    unfolding memory_of step_memory
    memory-stays p =
        em
        ∙ ap (λ (b : Bool). cond b (lay l.rx (n * 1464) (stretch_by l.image c l.rx n segment)) l.rx) p
        ∙ sym (ap (λ (b : Bool). cond b (memory_on l.image l.state l.rx n segment) l.rx) (ap is_done (sym ea) ∙ p))

    pub memory-is : m ≡ memory_of l n segment
    memory-is = go (is_done answer) refl
      where
        go : (b : Bool) → is_done answer ≡ b → m ≡ memory_of l n segment
        go true p = memory-taken p
        go false p = memory-stays p
