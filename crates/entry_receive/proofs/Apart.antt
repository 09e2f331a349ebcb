-- A take touches its own record, its own stretch of receive memory and the TCP count alone; a walk the UDP count alone.
use Prim.Native.Nat.{ℕ, ◌*◌, ◌<◌}
use mathlib.Core.Path.{◌≡◌, refl, ap, ◌∙◌}
use mathlib.Core.Bool.{Bool, true, false, cond}
use mathlib.Core.List.{List}
use native.Mathlib.Omega.{arith}
use lib.ListN.{length, get_or}
use lib.Seq.{get_or-set_other}
use Rattle.table_layout.specs.Layout.{body_of}
use Rattle.table_layout.specs.declared.Kind.TheVariants.{Route as Routes}
use Rattle.connection.specs.declared.Connection.{Connection}
use Rattle.connection.specs.Connection.{zero_record, with_part}
use Rattle.state.specs.declared.State.{State}
use Rattle.state.specs.State.{record_at, with_record}
use Rattle.state.specs.Fresh.{config_of}
use Rattle.receive_stream.specs.declared.Outcome.{Outcome}
use Rattle.receive_stream.specs.declared.Outcome.TheVariants.{More, Pdu, Drop, Start, Piece}
use Rattle.receive_stream.proofs.Leaves.{leaves-length}
use Rattle.receive_datagram.specs.declared.Outcome.{Outcome as Found}
use Rattle.receive_datagram.specs.declared.Outcome.TheVariants as Met
use Rattle.state.specs.Memory.{stretch}
use Rattle.state.proofs.Stretch.{stretch-apart}
use Rattle.gate.specs.Lent.{Lent, Loan, sizes}
use Rattle.entry_receive.specs.Answer.{is_done}
use Rattle.entry_receive.specs.Segment.{count_take, taken_at, stretch_at, take_on, memory_on, Takes, none_taken, segment_answer, segment_of, memory_of, Apart}
use Rattle.entry_receive.specs.Walk.{count_walk, walked_at, walk_on, none_walked, walk_answer, walk_of}
use Rattle.entry_receive.proofs.Past.{passed-takes}
use Rattle.entry_receive.proofs.Answers.{Clear, done_clear}
use Rattle.entry_receive.proofs.Keeps.{count-records}

count-udp : (o : Outcome) (s : State) → (count_take o s).udp_drops ≡ s.udp_drops
count-udp More s = refl
count-udp (Pdu route id inside at n) s = refl
count-udp (Drop reason id n) s = refl
count-udp (Start route id n last) s = refl
count-udp (Piece route id at n last) s = refl

count-tcp : (o : Found) (s : State) → (count_walk o s).tcp_drops ≡ s.tcp_drops
count-tcp Met.End s = refl
count-tcp (Met.Pdu route id at n) s = refl
count-tcp (Met.Drop reason id n) s = refl

take-apart : (image : List ℕ) (s : State) (rx : List ℕ) (k : ℕ) (segment : List ℕ) → ((i : ℕ) → get_or segment i 0 < 256) → Takes image (record_at s k) rx k
    → Apart k s (take_on image s rx k segment).state rx (memory_on image s rx k segment)
unfolding take_on memory_on
take-apart image s rx k segment bytes takes =
    let after : Connection = with_part (taken_at image s rx k segment).part (record_at s k) in
    let l : length (stretch_at image s rx k segment) ≡ 1464 =
    leaves-length (body_of image Routes) k (record_at s k).switches (record_at s k).part (stretch 1464 k rx) segment takes.fit bytes ∙ takes.fit.room in
    record {
      records = λ j ne.
          ap (λ (cs : List Connection). get_or cs j zero_record) (count-records (taken_at image s rx k segment).outcome (with_record k after s))
          ∙ get_or-set_other s.connections k j after zero_record ne;
      stretches = stretch-apart 1464 k rx (k * 1464) (stretch_at image s rx k segment) (omega arith) (omega arith);
      udp = count-udp (taken_at image s rx k segment).outcome (with_record k after s);
    }

-- THE SEGMENT ENTRY, whatever it answers
pub segment-apart : (l : Loan) (k : ℕ) (segment : List ℕ) → ((i : ℕ) → get_or segment i 0 < 256)
    → Apart k l.state (segment_of l k segment).state l.rx (memory_of l k segment)
unfolding segment_of memory_of
segment-apart l k segment bytes = go (is_done (segment_answer (sizes l) k)) refl
  where
    go : (b : Bool) → is_done (segment_answer (sizes l) k) ≡ b
        → Apart k l.state (cond b (take_on l.image l.state l.rx k segment) (none_taken l.state (segment_answer (sizes l) k))).state
        l.rx (cond b (memory_on l.image l.state l.rx k segment) l.rx)
    go true e =
        let c : Clear (sizes l) k (config_of l.image k).tcp = done_clear (sizes l) k (config_of l.image k).tcp e in
        take-apart l.image l.state l.rx k segment bytes (passed-takes l k c.passed c.there)
    go false e = record { records = λ j ne. refl; stretches = λ j ne. refl; udp = refl }

-- THE WALK ENTRY: no record (crate's proofs/Keeps, `walk-records`), and not the TCP count
pub walk-apart : (l : Lent) (k : ℕ) (datagram : List ℕ) (place : ℕ) → (walk_of l k datagram place).state.tcp_drops ≡ l.state.tcp_drops
unfolding walk_of walk_on
walk-apart l k datagram place = go (is_done (walk_answer l k datagram place))
  where
    go : (b : Bool) → (cond b (walk_on l.image l.state k datagram place) (none_walked l.state place (walk_answer l k datagram place))).state.tcp_drops
        ≡ l.state.tcp_drops
    go true = count-tcp (walked_at l.image l.state k datagram place).outcome l.state
    go false = refl
