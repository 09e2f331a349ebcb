-- One take past the gate is the entry point's, on the state that part and drop count are put back into.
use Rattle.std.proofs.Common.{Result, Ok, Err}
use Prim.Native.Nat.{ℕ, ◌+◌, ◌-◌, ◌*◌, ◌<◌, ◌≤◌}
use mathlib.Core.Path.{◌≡◌, refl, sym, ap, ap₂, ◌∙◌}
use mathlib.Core.Bool.{true, false}
use mathlib.Core.List.{List, []}
use native.Mathlib.Omega.{arith}
use borrow.Rule.Slice.PartMut.{put_mid}
use lib.ListN.{length, set, take, drop, length-drop}
use lib.Seq.{set-set, set-get_or, get_or-set_same}
use Rattle.table_layout.specs.Layout.{body_of}
use Rattle.table_layout.specs.declared.Kind.TheVariants.{Route as Routes}
use Rattle.receive_part.specs.declared.Part.{Part}
use Rattle.connection.specs.declared.Connection.{Connection}
use Rattle.connection.specs.Connection.{with_part, zero_record}
use Rattle.state.specs.declared.State.{State}
use Rattle.state.specs.State.{record_at, with_record}
use Rattle.state.specs.Memory.{stretch}
use Rattle.wire.specs.Lay.{lay}
use Rattle.reading_lengths.specs.Listed.{Bytes}
use Rattle.reading_lengths.proofs.Bytes.{bytes_drop}
use Rattle.pieces.specs.Pieces.{place_after}
use Rattle.receive_stream.specs.declared.Outcome.{Outcome}
use Rattle.receive_stream.specs.declared.Taken.{Taken}
use Rattle.receive_stream.specs.Stream.{taken_of, rx_after}
use Rattle.receive_stream.proofs.Leaves.{leaves-length}
use Rattle.entry_receive.proofs.Taking.{stretch-all, mid_laid}
use Rattle.entry_receive.specs.declared.NotReceived.TheVariants.{Refused, NotReceiving}
use Rattle.entry_receive.specs.declared.SegmentTaken.{SegmentTaken}
use Rattle.entry_receive.specs.Answer.{is_done}
use Rattle.entry_receive.specs.Segment.{drops_after, count_take, taken_at, take_on, memory_on, segment_answer, payload_of}
use Rattle.gate.specs.Lent.{Loan, sizes, received}
use Rattle.dispatch_receive.specs.declared.Turn.{Turn}
use Rattle.dispatch_receive.specs.Segment.{take_bytes, bytes_if_done, take_at, memory_at, bytes_at}
use Rattle.dispatch_receive.specs.Turn.{taken_from, memory_from, turn_bytes, take_turn, Goes, put_back}
use Rattle.dispatch_receive.proofs.Room.{taken_is, memory-is}
use Rattle.entry_receive.specs.declared.NotReceived.{NotReceived}

-- a refused take has no bytes, another has them
pub refused_none : (a : Result Unit NotReceived) (x : List ℕ) → is_done a ≡ false → [] ≡ bytes_if_done a x
refused_none (Ok tt) x e = let z : ◌≡◌ {A = ℕ} 0 1 = cc in absurd (omega arith)
refused_none (Err (Refused r)) x e = refl
refused_none (Err NotReceiving) x e = refl

pub done_all : (a : Result Unit NotReceived) (x : List ℕ) → is_done a ≡ true → x ≡ bytes_if_done a x
done_all (Ok tt) x e = refl
done_all (Err (Refused r)) x e = let z : ◌≡◌ {A = ℕ} 0 1 = cc in absurd (omega arith)
done_all (Err NotReceiving) x e = let z : ◌≡◌ {A = ℕ} 0 1 = cc in absurd (omega arith)

-- part and drop count put back
module _ (s : State) (k : ℕ) where
  -- as they were
  pub joined-own : s ≡ put_back s k (record_at s k).part s.tcp_drops
  joined-own =
      ap (λ (l : List Connection). record { connections = l; udp_drops = s.udp_drops; tcp_drops = s.tcp_drops })
      (sym (set-get_or s.connections k zero_record))

  module _ (there : k < length s.connections) (p : Part) (drops : ℕ) where
    -- the record has the part, and is else as it was
    pub record_joined : record_at (put_back s k p drops) k ≡ with_part p (record_at s k)
    record_joined = get_or-set_same s.connections k (with_part p (record_at s k)) zero_record there

    -- and once more
    pub joined_again : (q : Part) (o : Outcome)
        → count_take o (with_record k (with_part q (record_at (put_back s k p drops) k)) (put_back s k p drops)) ≡ put_back s k q (drops_after o drops)
    joined_again q o =
        ap (λ (l : List Connection). record { connections = l; udp_drops = s.udp_drops; tcp_drops = drops_after o drops })
        (set-set s.connections k (with_part p (record_at s k)) (with_part q (record_at (put_back s k p drops) k))
        ∙ ap (λ (c : Connection). set s.connections k (with_part q c)) record_joined)

-- THE TAKE of a turn, by the routes and switches of its connection
module _ (l : Loan) (k : ℕ) (segment : List ℕ) (t : Turn) (rx : List ℕ) (there : k < length l.state.connections)
    (clear : is_done (segment_answer (sizes (received l (put_back l.state k t.part t.drops) rx)) k) ≡ true) where
  abbrev image : List ℕ
  image = l.image

  abbrev s : State
  s = l.state

  abbrev at_turn : State
  at_turn = put_back s k t.part t.drops

  abbrev taken : Taken
  taken = taken_from (body_of image Routes) (record_at s k).switches k segment t rx

  abbrev memory : List ℕ
  memory = memory_from (body_of image Routes) (record_at s k).switches k segment t rx

  abbrev pub turned : SegmentTaken
  turned = record { answer = Ok tt; read = taken.read; outcome = taken.outcome; state = put_back s k taken.part (drops_after taken.outcome t.drops) }

  same_taken : taken_at image at_turn rx k (drop t.at segment) ≡ taken
  same_taken =
      ap (λ (c : Connection). taken_of (body_of image Routes) k c.switches c.part (stretch 1464 k rx) (drop t.at segment))
      (record_joined s k there t.part t.drops)

  pub turn-taken : take_at (received l at_turn rx) k segment t.at ≡ turned
  unfolding take_on
  turn-taken =
      taken_is (received l at_turn rx) k (drop t.at segment) clear
      ∙ ap (λ (x : State). record {
        answer = Ok tt;
        read = (taken_at image at_turn rx k (drop t.at segment)).read;
        outcome =
            (taken_at image at_turn rx k (drop t.at segment)).outcome;
        state = x;
      })
      (joined_again s k there t.part t.drops (taken_at image at_turn rx k (drop t.at segment)).part
      (taken_at image at_turn rx k (drop t.at segment)).outcome)
      ∙ ap (λ (u : Taken). record
      { answer = Ok tt; read = u.read; outcome = u.outcome; state = put_back s k u.part (drops_after u.outcome t.drops) }) same_taken

  pub turn-memory : memory_at (received l at_turn rx) k segment t.at ≡ memory
  unfolding memory_on
  turn-memory =
      memory-is (received l at_turn rx) k (drop t.at segment) clear
      ∙ ap (λ (c : Connection). lay rx (k * 1464) (rx_after (body_of image Routes) k c.switches c.part (stretch 1464 k rx) (drop t.at segment)))
      (record_joined s k there t.part t.drops)

  pub turn-bytes : bytes_at (received l at_turn rx) k segment t.at ≡ turn_bytes (body_of image Routes) (record_at s k).switches k segment t rx
  unfolding bytes_at
  turn-bytes =
      ap₂ (λ (u : SegmentTaken) (m : List ℕ). bytes_if_done u.answer
      (take_bytes t.at u.read u.outcome (payload_of (drop t.at segment) m k u.outcome)))
      turn-taken turn-memory

-- ONE TURN, on the lent part of receive memory
module _ (routes : List ℕ) (switches k : ℕ) (segment : List ℕ) (t : Turn) (rx out : List ℕ) (goes : Goes routes k segment t rx) (bytes : Bytes segment)
    {rest : List ℕ} (left : rest ≡ drop t.at segment) where
  abbrev lent : List ℕ
  lent = take (k * 1464 + 1464 - k * 1464) (drop (k * 1464) rx)

  module _ {u : Taken} (eu : u ≡ taken_of routes k switches t.part lent rest) where
    same : u ≡ taken_from routes switches k segment t rx
    same = eu ∙ ap₂ (λ (l m : List ℕ). taken_of routes k switches t.part l m) (stretch-all k rx) left

    -- no more is read than there is
    pub turn-within : t.at + u.read ≤ length segment
    unfolding taken_of
    turn-within = omega (arith, ap (λ (v : Taken). v.read) same, goes.within, length-drop t.at segment)

    module _ {m : List ℕ} (em : m ≡ rx_after routes k switches t.part lent rest) where
      laid : put_mid (k * 1464) (k * 1464 + 1464 - k * 1464) rx m ≡ memory_from routes switches k segment t rx
      laid =
          ap (put_mid (k * 1464) (k * 1464 + 1464 - k * 1464) rx) (em ∙ ap₂ (λ (l z : List ℕ). rx_after routes k switches t.part l z) (stretch-all k rx) left)
          ∙ mid_laid k rx _ goes.small goes.room
          (leaves-length routes k switches t.part (stretch 1464 k rx) (drop t.at segment) goes.fit (bytes_drop t.at segment bytes)
          ∙ goes.fit.room)

      pub turn_is : {payload : List ℕ} {place drops : ℕ} {out' : List ℕ}
          → payload ≡ payload_of rest (put_mid (k * 1464) (k * 1464 + 1464 - k * 1464) rx m) k u.outcome
          → place ≡ place_after out t.place (take_bytes t.at u.read u.outcome payload)
          → out' ≡ lay out t.place (take_bytes t.at u.read u.outcome payload)
          → drops ≡ drops_after u.outcome t.drops
          → (record { part = u.part; drops = drops; at = t.at + u.read; place = place; count = t.count + 1 } ≡ take_turn routes switches k segment t rx out)
          × ((put_mid (k * 1464) (k * 1464 + 1464 - k * 1464) rx m ≡ memory_from routes switches k segment t rx)
          × (out' ≡ lay out t.place (turn_bytes routes switches k segment t rx)))
      turn_is {payload} {place} {drops} {out'} ep el eo ed =
          let told : take_bytes t.at u.read u.outcome payload ≡ turn_bytes routes switches k segment t rx =
          ap (take_bytes t.at u.read u.outcome) (ep ∙ ap₂ (λ (z w : List ℕ). payload_of z w k u.outcome) left laid)
          ∙ ap (λ (v : Taken). take_bytes t.at v.read v.outcome
          (payload_of (drop t.at segment) (memory_from routes switches k segment t rx) k v.outcome)) same in (
            ap₂ (turn_with u) ed (el ∙ ap (place_after out t.place) told)
                ∙ ap (λ (v : Taken). turn_with v (drops_after v.outcome t.drops)
                (place_after out t.place (turn_bytes routes switches k segment t rx))) same,
            (laid, eo ∙ ap (lay out t.place) told),
          )
        where
          turn_with : Taken → ℕ → ℕ → Turn
          turn_with v d p = record { part = v.part; drops = d; at = t.at + v.read; place = p; count = t.count + 1 }
