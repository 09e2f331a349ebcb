-- ONE TAKE of a segment, on a TCP connection that receives: what the entry point leaves is the stream's take on its record, and no
-- other record changes; and what the caller is given is the stream's PDU.
use Prim.Native.Nat.{ℕ, ◌-◌, ◌*◌}
use mathlib.Core.Path.{◌≡◌, refl, sym, ap, ap₂, ◌∙◌, subst}
use mathlib.Core.Bool.{Bool, true, cond}
use mathlib.Core.List.{List, [], ◌∷◌}
use native.Mathlib.Omega.{arith}
use lib.ListN.{length, take, drop}
use lib.Seq.{get_or-set_same}
use Rattle.table_layout.specs.Layout.{body_of}
use Rattle.table_layout.specs.declared.Kind.TheVariants.{Route as Routes}
use Rattle.receive_part.specs.declared.Part.{Part}
use Rattle.receive_part.specs.declared.Part.TheVariants.{Header, Payload, Skip, Transfer}
use Rattle.connection.specs.declared.Connection.{Connection}
use Rattle.connection.specs.Connection.{with_part}
use Rattle.state.specs.declared.State.{State}
use Rattle.state.specs.State.{record_at, with_record}
use Rattle.state.specs.Fresh.{config_of}
use Rattle.reading.specs.Feed.{Out, nothing, pdu, dropped, start, piece, emit, Took, take_b, drops}
use Rattle.reading.proofs.Cut.{take_rest}
use Rattle.reading_lengths.specs.Listed.{Bytes}
use Rattle.receive_stream.specs.Stream.{cell_of, part_from, held_in, is_in_segment, take_outcome, took_of, taken_of, payload_at}
use Rattle.receive_stream.proofs.Leaves.{leaves-cell, leaves-length, hands_out, handed-piece}
use Rattle.receive_route.specs.Route.{lookup_of}
use Rattle.gate.proofs.Pass.{passed_gate_at}
use Rattle.gate.specs.Lent.{sizes, received}
use Rattle.entry_receive.specs.declared.SegmentTaken.{SegmentTaken}
use Rattle.entry_receive.specs.Answer.{is_done, judged_of, judged_answer}
use Rattle.entry_receive.specs.Segment.{count_take, taken_at, stretch_at, take_on, memory_on, Takes, segment_answer, segment_of, memory_of, payload_of}
use Rattle.entry_receive.proofs.Answers.{Clear}
use Rattle.entry_receive.proofs.Past.{passed-takes}
use Rattle.entry_receive.proofs.Keeps.{in_range, take_clear}
use Rattle.state.specs.Memory.{stretch}
use Rattle.model.specs.World.{Held, blank, held_at, held_by, held_of, view_of, cell_at, with_cell}
use Rattle.model.specs.Step.{count_after, acted, left}
use Rattle.model.proofs.View.{view_length, view_at}
use Rattle.state.proofs.Stretch.{stretch-apart, stretch-own}
use Rattle.model_runs.proofs.Keeps.{cell-follow}
use Rattle.model_refines.specs.Table.{table_of}
use Rattle.model_refines.specs.Machine.{Machine, loan_to, lent_to, seen, taken, after_one, rest_of, pdu_told, told_by}
use Rattle.model_refines.proofs.Left.{drops_of, view_left}

-- a machine whose connection k takes segments: nothing refuses a take on it
abbrev pub Open : List ℕ → ℕ → Machine → Type 0
Open image k m = Clear (lent_to image m) k (config_of image k).tcp

-- the bytes that a part holds are those of its cell
held_bytes : (p : Part) (st : List ℕ) → take (held_by p) st ≡ held_in (cell_of p st)
held_bytes (Header held value) st = refl
held_bytes (Payload route n held) st = refl
held_bytes (Skip bytes) st = refl
held_bytes (Transfer route left) st = refl

-- the count after a take
count-is : (ids : ℕ → ℕ) (b : Bool) (n : ℕ) (o : Out) (s : State) (k : ℕ) (c : Connection)
    → count_take (take_outcome ids b n o) (with_record k c s) ≡ with_record k c (drops_of true (drops (emit o [])) s)
unfolding drops count_after
count-is ids b n nothing s k c = refl
count-is ids b n (pdu r p) s k c = refl
count-is ids b n (dropped q i l) s k c = refl
count-is ids b n (start r i l x) s k c = refl
count-is ids b n (piece r p x) s k c = refl

module _ (image : List ℕ) (k : ℕ) (m : Machine) (segment : List ℕ) (o : Open image k m) (bytes : Bytes segment) where
  abbrev s : State
  s = m.state

  abbrev rx : List ℕ
  rx = m.rx

  abbrev tx : List ℕ
  tx = m.tx

  abbrev c : Connection
  c = record_at s k

  abbrev routes : List ℕ
  routes = body_of image Routes

  abbrev st : List ℕ
  st = stretch 1464 k rx

  -- the stream's take
  abbrev pub took_at : Took
  took_at = take_b (lookup_of routes k c.switches) (cell_of c.part st) segment

  abbrev c' : Connection
  c' = with_part (part_from took_at.to) c

  takes : Takes image (record_at s k) rx k
  takes = passed-takes (loan_to image m) k o.passed o.there

  -- nothing refuses it
  done : is_done (segment_answer (lent_to image m) k) ≡ true
  unfolding judged_answer judged_of
  done = rw (passed_gate_at (lent_to image m) k o.passed o.there, o.allows, o.receives)

  taken_is : taken image k m segment ≡ take_on image s rx k segment
  unfolding segment_of
  taken_is = rw done

  memory-is : memory_of (loan_to image m) k segment ≡ memory_on image s rx k segment
  unfolding memory_of
  memory-is = rw done

  pub answer_done : is_done (taken image k m segment).answer ≡ true
  unfolding take_on
  answer_done = ap (λ (t : SegmentTaken). is_done t.answer) taken_is

  pub rest-took : rest_of image k m segment ≡ took_at.rest
  unfolding take_on taken_of took_of
  rest-took = ap (λ (t : SegmentTaken). drop t.read segment) taken_is ∙ take_rest (lookup_of routes k c.switches) (cell_of c.part st) segment

  -- its state, its stretch
  state-is : (taken image k m segment).state ≡ with_record k c' (drops_of true (drops (emit took_at.out [])) s)
  unfolding take_on taken_of took_of
  state-is = ap (λ (t : SegmentTaken). t.state) taken_is ∙ count-is _ _ _ took_at.out s k c'

  long : length (stretch_at image s rx k segment) ≡ 1464
  long = leaves-length routes k c.switches c.part st segment takes.fit bytes ∙ takes.fit.room

  own : stretch 1464 k (memory_on image s rx k segment) ≡ stretch_at image s rx k segment
  unfolding memory_on
  own = stretch-own 1464 k rx (stretch_at image s rx k segment) long (omega (arith, takes.small, takes.room))

  others : (j : ℕ) → (j ≡ k → ⊥) → stretch 1464 j (memory_on image s rx k segment) ≡ stretch 1464 j rx
  unfolding memory_on
  others = stretch-apart 1464 k rx (k * 1464) (stretch_at image s rx k segment) (omega arith) (omega (arith, long))

  -- the record with its held bytes
  bytes-held : take (held_by (part_from took_at.to)) (stretch 1464 k (memory_on image s rx k segment)) ≡ held_in took_at.to
  unfolding taken_of took_of
  bytes-held =
      ap (take (held_by (part_from took_at.to))) own
      ∙ held_bytes (part_from took_at.to) (stretch_at image s rx k segment)
      ∙ ap held_in (leaves-cell routes k c.switches c.part st segment takes.fit bytes)

  held-is : held_of (memory_on image s rx k segment) tx k c' ≡ with_cell took_at.to (held_of rx tx k c)
  held-is = ap (λ (l : List ℕ). record { connection = c'; received = l; waiting = take c.used (stretch 1472 k tx) }) bytes-held

  -- WHAT IT LEAVES
  pub one_view : seen (after_one image k m segment) ≡ left (table_of image) (seen m) k (acted (with_cell took_at.to (held_at (seen m) k)) (emit took_at.out []))
  one_view =
      ap₂ (λ (t : State) (r : List ℕ). view_of t r tx)
      (state-is ∙ ap (λ (b : Bool). with_record k c' (drops_of b (drops (emit took_at.out [])) s)) (sym o.allows)) memory-is
      ∙ view_left (table_of image) s rx tx (memory_on image s rx k segment) tx k others (λ j ne. refl) c' (emit took_at.out [])
      ∙ ap (λ (h : Held). left (table_of image) (seen m) k (acted h (emit took_at.out []))) (held-is ∙ ap (with_cell took_at.to) (sym (view_at s rx tx k)))

  -- the stream's take, as the world has it
  pub cell-is : cell_at (held_at (seen m) k) ≡ cell_of c.part st
  cell-is = ap cell_at (view_at s rx tx k) ∙ cell-follow c.part st

  pub switches-is : (held_at (seen m) k).connection.switches ≡ c.switches
  switches-is = ap (λ (h : Held). h.connection.switches) (view_at s rx tx k)

  -- WHAT IT HANDS OUT
  told_is : (out : Out) → took_at.out ≡ out
      → pdu_told image k (payload_of segment (memory_on image s rx k segment) k (taken_at image s rx k segment).outcome) (taken_at image s rx k segment).outcome
      ≡ emit out []
  unfolding taken_of took_of payload_of
  told_is nothing e = rw e
  told_is (pdu r p) e =
      rw e
      (ap (λ (l : List ℕ). pdu r l ∷ [])
      (ap
      (λ (z : List ℕ).
      payload_at segment z (is_in_segment (cell_of c.part st))
      (cond (is_in_segment (cell_of c.part st)) (length segment - length took_at.rest - length p) 0) (length p))
      own
      ∙ hands_out routes k c.switches c.part st segment takes.fit bytes r p e))
  told_is (dropped q i n) e = rw e
  told_is (start r i n x) e = rw e
  told_is (piece r p x) e = rw e (ap (λ (l : List ℕ). piece r l x ∷ []) (handed-piece routes k c.switches c.part st segment r p x e))

  pub one_told : told_by image k m segment ≡ emit took_at.out []
  unfolding take_on
  one_told =
      ap₂ (λ (t : SegmentTaken) (z : List ℕ). pdu_told image k (payload_of segment z k t.outcome) t.outcome) taken_is memory-is ∙ told_is took_at.out refl

  -- and nothing refuses the next one
  pub open_after : Open image k (after_one image k m segment)
  open_after =
      subst (λ (x : SegmentTaken). Clear (sizes (received (loan_to image m) x.state (memory_of (loan_to image m) k segment))) k (config_of image k).tcp)
      (sym taken_is)
      (subst (λ (r : List ℕ). Clear (sizes (received (loan_to image m) (take_on image s rx k segment).state r)) k (config_of image k).tcp) (sym memory-is)
      (take_clear (loan_to image m) k segment bytes o))

  pub held_after : held_at (left (table_of image) (seen m) k (acted (with_cell took_at.to (held_at (seen m) k)) (emit took_at.out []))) k
      ≡ with_cell took_at.to (held_at (seen m) k)
  held_after = get_or-set_same (seen m).held k (with_cell took_at.to (held_at (seen m) k)) blank
      (omega (arith, in_range s k o.receives, view_length rx tx 0 s.connections))
