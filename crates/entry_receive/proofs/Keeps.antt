-- A take and a walk leave a sound state sound, and receive memory as long as it was.
use Rattle.std.proofs.Common.{Ok}
use Prim.Native.Nat.{ℕ, ◌*◌, ◌/◌, ◌≤◌, ◌<◌}
use mathlib.Core.Path.{◌≡◌, refl, sym, ap, ◌∙◌}
use mathlib.Core.Bool.{Bool, true, false, cond, not, false≢true}
use mathlib.Core.List.{List}
use native.Mathlib.Omega.{arith}
use native.Mathlib.Decide.{dec_lt}
use lib.ListN.{length, get_or, set, get_or-eq_default}
use lib.Seq.{get_or-set_same}
use Rattle.wire.proofs.Lay.{lay-length}
use Rattle.lists.proofs.Both.{and_left, and_both}
use Rattle.table_layout.specs.Layout.{body_of}
use Rattle.table_layout.specs.declared.Kind.TheVariants.{Route as Routes}
use Rattle.table_layout.proofs.Parts.{body-rows}
use Rattle.table.specs.Table.{check_table}
use Rattle.table.specs.Accepts.{Accepts}
use Rattle.table.proofs.Facts.{accepted_facts}
use Rattle.connection.specs.declared.Connection.{Connection}
use Rattle.connection.specs.Connection.{is_online, zero_record, with_part}
use Rattle.connection.proofs.Keeps.{part_keeps}
use Rattle.state.specs.declared.State.{State}
use Rattle.state.specs.State.{record_at, with_record}
use Rattle.state.specs.Fresh.{config_of}
use Rattle.receive_stream.specs.declared.Outcome.{Outcome}
use Rattle.receive_stream.specs.declared.Outcome.TheVariants.{More, Pdu, Drop, Start, Piece}
use Rattle.receive_stream.proofs.Leaves.{PartHolds, Owns, Moves, leaves-fit, leaves-owned}
use Rattle.receive_datagram.specs.declared.Outcome.{Outcome as Found}
use Rattle.receive_datagram.specs.declared.Outcome.TheVariants as Met
use Rattle.gate.specs.Lent.{Lent, next, Loan, sizes, received}
use Rattle.gate.specs.Sound.{sound_at, records_sound}
use Rattle.gate.specs.Gate.{Passed}
use Rattle.gate.proofs.Pass.{passed-next, passed-received}
use Rattle.gate.proofs.Records.{row-sound, row-routed, sound-row, record-at, record_set}
use Rattle.state.specs.Memory.{stretch}
use Rattle.connection.specs.Event.{receiving}
use Rattle.entry_receive.specs.Answer.{is_done}
use Rattle.entry_receive.specs.Segment.{count_take, taken_at, stretch_at, take_on, memory_on, Takes, none_taken, segment_answer, segment_of, memory_of}
use Rattle.entry_receive.specs.Walk.{count_walk, walked_at, walk_on, none_walked, walk_answer, walk_of}
use Rattle.entry_receive.proofs.Past.{passed-takes}
use Rattle.entry_receive.proofs.Answers.{Clear, done_clear}
use Rattle.entry_receive.proofs.Routed.{routed_owns, owns_routed}

-- a connection that receives has a record
pub in_range : (s : State) (k : ℕ) → receiving (record_at s k) ≡ true → k < length s.connections
in_range s k h = go (dec_lt k (length s.connections))
  where
    go : Dec (k < length s.connections) → k < length s.connections
    go (yes lt) = lt
    go (no ge) = absurd (false≢true (sym (ap receiving (get_or-eq_default s.connections zero_record (omega arith))) ∙ h))

-- an accepted table has 64 routes at most
few_routes : (image : List ℕ) → check_table image ≡ Ok tt → length (body_of image Routes) / 16 ≤ 64
few_routes image table =
    let facts : Accepts image = accepted_facts image table in
    omega (arith, body-rows image facts.laid Routes, facts.most Routes)

-- a drop leaves the records
pub count-records : (o : Outcome) (s : State) → (count_take o s).connections ≡ s.connections
count-records More s = refl
count-records (Pdu route id inside at n) s = refl
count-records (Drop reason id n) s = refl
count-records (Start route id n last) s = refl
count-records (Piece route id at n last) s = refl

pub walk-count-records : (o : Found) (s : State) → (count_walk o s).connections ≡ s.connections
walk-count-records Met.End s = refl
walk-count-records (Met.Pdu route id at n) s = refl
walk-count-records (Met.Drop reason id n) s = refl

-- A TAKE THAT NOTHING REFUSES
module _ (l : Loan) (k : ℕ) (segment : List ℕ) (bytes : (i : ℕ) → get_or segment i 0 < 256) (clear : Clear (sizes l) k (config_of l.image k).tcp) where
  abbrev image : List ℕ
  image = l.image

  abbrev s : State
  s = l.state

  abbrev rx : List ℕ
  rx = l.rx

  abbrev after : Connection
  after = with_part (taken_at image s rx k segment).part (record_at s k)

  takes : Takes image (record_at s k) rx k
  takes = passed-takes l k clear.passed clear.there

  sound-before : sound_at image k (record_at s k) ≡ true
  sound-before = record-at image s.connections k clear.passed.sound (in_range s k clear.receives)

  owned : PartHolds (Owns (body_of image Routes) k) (Moves (body_of image Routes) k) (taken_at image s rx k segment).part
  owned =
      leaves-owned (body_of image Routes) k (record_at s k).switches (record_at s k).part (stretch 1464 k rx) segment takes.fit bytes
      (routed_owns (body_of image Routes) k (record_at s k).part (few_routes image clear.passed.table)
      (row-routed image k (record_at s k) sound-before clear.there))

  -- the record is sound again: shaped; a payload's route the connection's, unmarked, the length allowed; a transfer's the connection's, marked
  sound-after : sound_at image k after ≡ true
  sound-after =
      sound-row image k after clear.there
      (part_keeps (config_of image k) (record_at s k) (row-sound image k (record_at s k) sound-before clear.there) (taken_at image s rx k segment).part
      (leaves-fit (body_of image Routes) k (record_at s k).switches (record_at s k).part (stretch 1464 k rx) segment takes.fit bytes).shape
      (and_both (and_left (is_online (record_at s k).mode) (not (record_at s k).close_wanted) clear.receives) clear.allows))
      (owns_routed (body_of image Routes) k (taken_at image s rx k segment).part owned)

  records-after : (take_on image s rx k segment).state.connections ≡ set s.connections k after
  unfolding take_on
  records-after = count-records (taken_at image s rx k segment).outcome (with_record k after s)

  pub record-after : record_at (take_on image s rx k segment).state k ≡ with_part (taken_at image s rx k segment).part (record_at s k)
  record-after =
      ap (λ (cs : List Connection). get_or cs k zero_record) records-after
      ∙ get_or-set_same s.connections k after zero_record (in_range s k clear.receives)

  -- the loan after it
  abbrev pub lends : Loan
  lends = received l (take_on image s rx k segment).state (memory_on image s rx k segment)

  pub take-passed : Passed (sizes lends)
  unfolding memory_on
  take-passed =
      passed-received l (take_on image s rx k segment).state clear.passed
      (ap (records_sound image) records-after ∙ record_set image s.connections k after clear.passed.sound sound-after)
      (memory_on image s rx k segment) (lay-length rx (k * 1464) (stretch_at image s rx k segment))

  -- and nothing refuses the next one
  pub take_clear : Clear (sizes lends) k (config_of image k).tcp
  take_clear =
      record { passed = take-passed; there = clear.there; allows = clear.allows; receives = ap receiving record-after ∙ clear.receives }

-- THE SEGMENT ENTRY, whatever it answers
pub segment-passed : (l : Loan) (k : ℕ) (segment : List ℕ) → ((i : ℕ) → get_or segment i 0 < 256) → Passed (sizes l)
    → Passed (sizes (received l (segment_of l k segment).state (memory_of l k segment)))
unfolding segment_of memory_of
segment-passed l k segment bytes passed = go (is_done (segment_answer (sizes l) k)) refl
  where
    go : (b : Bool) → is_done (segment_answer (sizes l) k) ≡ b
        → Passed
        (sizes
        (received l (cond b (take_on l.image l.state l.rx k segment) (none_taken l.state (segment_answer (sizes l) k))).state
        (cond b (memory_on l.image l.state l.rx k segment) l.rx)))
    go true e = take-passed l k segment bytes (done_clear (sizes l) k (config_of l.image k).tcp e)
    go false e = passed

-- THE WALK ENTRY: no record changes
pub walk-records : (l : Lent) (k : ℕ) (datagram : List ℕ) (place : ℕ) → (walk_of l k datagram place).state.connections ≡ l.state.connections
unfolding walk_of walk_on
walk-records l k datagram place = go (is_done (walk_answer l k datagram place))
  where
    go : (b : Bool) → (cond b (walk_on l.image l.state k datagram place) (none_walked l.state place (walk_answer l k datagram place))).state.connections
        ≡ l.state.connections
    go true = walk-count-records (walked_at l.image l.state k datagram place).outcome l.state
    go false = refl

pub walk-passed : (l : Lent) (k : ℕ) (datagram : List ℕ) (place : ℕ) → Passed l → Passed (next l (walk_of l k datagram place).state)
walk-passed l k datagram place p =
    passed-next l (walk_of l k datagram place).state p (ap (records_sound l.image) (walk-records l k datagram place) ∙ p.sound)
