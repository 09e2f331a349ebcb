-- The takes of a segment event past its one gate: a turn of the loop over part and drop count is a take of the event.
use Rattle.std.proofs.Common.{Result, Ok}
use Prim.Native.Nat.{ℕ, ◌+◌, ◌<◌, ◌≤◌}
use mathlib.Core.Path.{◌≡◌, sym, ap, ap₂, ◌∙◌, subst}
use mathlib.Core.Bool.{true}
use mathlib.Core.List.{List}
use lib.ListN.{length}
use Rattle.reading_lengths.specs.Listed.{Bytes}
use Rattle.wire.specs.Lay.{lay}
use Rattle.table_layout.specs.Layout.{body_of, Laid}
use Rattle.table_layout.specs.declared.Kind.TheVariants.{Route as Routes}
use Rattle.connection.specs.declared.Connection.{Connection}
use Rattle.connection.specs.Connection.{with_part}
use Rattle.state.specs.declared.State.{State}
use Rattle.state.specs.State.{record_at, with_record, with_count}
use Rattle.state.specs.Fresh.{config_of}
use Rattle.state.specs.Memory.{stretch}
use Rattle.receive_stream.specs.Stream.{Fit}
use Rattle.pieces.specs.Pieces.{place_after}
use Rattle.entry_receive.specs.Answer.{is_done}
use Rattle.entry_receive.specs.declared.SegmentTaken.{SegmentTaken}
use Rattle.entry_receive.specs.Segment.{Takes, segment_answer}
use Rattle.entry_receive.proofs.Answers.{Clear, done_clear}
use Rattle.entry_receive.proofs.Past.{below_sixteen, passed-takes}
use Rattle.entry_receive.proofs.Keeps.{in_range}
use Rattle.gate.specs.Lent.{Lent, Loan, sizes, received}
use Rattle.gate.proofs.Pass.{passed-laid}
use Rattle.dispatch_receive.specs.declared.Turn.{Turn}
use Rattle.dispatch_receive.specs.Segment.{Progress, take_at, memory_at, bytes_at, all_takes, answer_room}
use Rattle.dispatch_receive.specs.Turn.{memory_from, turn_bytes, take_turn, Goes, put_back, taken_bytes, takes_of}
use Rattle.dispatch_receive.proofs.Once.{joined-own, record_joined, turned, turn-taken, turn-memory, turn-bytes}
use Rattle.dispatch_receive.proofs.Run.{is-done, Going, going_start, going_on, going_end}
use Rattle.entry_receive.specs.declared.NotReceived.{NotReceived}

-- WHERE THE GATE IS OPEN the image is laid out, and the connection is there
pub record Open (l : Lent) (k : ℕ) : Type 0 where
  pub clear : is_done (segment_answer l k) ≡ true
  pub laid : Laid l.image
  pub small : k < 16
  pub there : k < length l.state.connections

pub gate_open : {a : Result Unit NotReceived} (l : Lent) (k : ℕ) → a ≡ segment_answer l k → is_done a ≡ true → Open l k
gate_open l k e done =
    let d : is_done (segment_answer l k) ≡ true = ap is_done (sym e) ∙ done in
    let c : Clear l k (config_of l.image k).tcp = done_clear l k (config_of l.image k).tcp d in
    record {
      clear = d;
      laid = passed-laid l c.passed;
      small = below_sixteen l.image c.passed.table k c.there;
      there = in_range l.state k c.receives;
    }

module _ (l : Loan) (k : ℕ) (segment : List ℕ) (out₀ : List ℕ) where
  abbrev image : List ℕ
  image = l.image

  abbrev s : State
  s = l.state

  -- the loop at a turn
  abbrev pub AtTurn : Turn → List ℕ → List ℕ → Type 0
  AtTurn t rx out = Going l k segment out₀ (put_back s k t.part t.drops) rx out t.place t.count t.at

  abbrev all : Progress
  all = all_takes l k segment

  -- the event's end, after a turn
  abbrev pub Ends : Turn → List ℕ → List ℕ → Type 0
  Ends t rx out =
      (record { answer = Ok tt; count = t.count; place = t.place; state = put_back s k t.part t.drops } ≡ takes_of all)
      × ((rx ≡ all.rx) × (out ≡ lay out₀ 4 (taken_bytes all)))

  -- the first
  pub turn-start : answer_room segment ≤ length out₀ → is_done (segment_answer (sizes l) k) ≡ true
      → AtTurn (record { part = (record_at s k).part; drops = s.tcp_drops; at = 0; place = 4; count = 0 }) l.rx out₀
  turn-start room clear =
      subst (λ (x : State). Going l k segment out₀ x l.rx out₀ 4 0 0) (joined-own s k) (going_start l k segment out₀ room clear)

  -- the state put together
  pub put_together : (t : Turn) {rx out : List ℕ} → Ends t rx out → {a : Result Unit NotReceived} → is_done a ≡ true → {d : Connection}
      → d ≡ with_part t.part (record_at s k)
      → (record { answer = a; count = t.count; place = t.place; state = with_count true t.drops (with_record k d s) } ≡ takes_of all)
      × ((rx ≡ all.rx) × (out ≡ lay out₀ 4 (taken_bytes all)))
  put_together t e {a} done is = (
    ap₂ (λ (x : Result Unit NotReceived) (d : Connection). record {
      answer = x;
      count = t.count;
      place = t.place;
      state = with_count true t.drops
          (with_record k d s);
    })
        (is-done a done) is
        ∙ e.0,
    e.1,
  )

  module _ (there : k < length s.connections) (t : Turn) (rx out : List ℕ) (g : AtTurn t rx out) {routes : List ℕ} (er : routes ≡ body_of image Routes) where
    abbrev at_turn : State
    at_turn = put_back s k t.part t.drops

    abbrev switches : ℕ
    switches = (record_at s k).switches

    -- what the take asks
    pub turn-goes : Goes routes k segment t rx
    turn-goes =
        let c : Clear (sizes (received l at_turn rx)) k (config_of image k).tcp =
        done_clear (sizes (received l at_turn rx)) k (config_of image k).tcp g.clear in
        let a : Takes image (record_at at_turn k) rx k = passed-takes (received l at_turn rx) k c.passed c.there in
        record {
          small = a.small;
          room = a.room;
          fit =
              subst (λ (z : List ℕ). Fit z t.part (stretch 1464 k rx)) (sym er)
              (subst (λ (c : Connection). Fit (body_of image Routes) c.part (stretch 1464 k rx)) (record_joined s k there t.part t.drops) a.fit);
          within = g.within;
          low = g.low;
        }

    -- what holds of the take, its memory and its bytes, holds of the turn
    moved : (P : SegmentTaken → List ℕ → List ℕ → Type 0)
        → P (take_at (received l at_turn rx) k segment t.at)
        (memory_at (received l at_turn rx) k segment t.at) (bytes_at (received l at_turn rx) k segment t.at)
        → P (turned l k segment t rx there g.clear) (memory_from (body_of image Routes) switches k segment t rx)
        (turn_bytes (body_of image Routes) switches k segment t rx)
    moved P p =
        subst (P (turned l k segment t rx there g.clear) (memory_from (body_of image Routes) switches k segment t rx))
        (turn-bytes l k segment t rx there g.clear)
        (subst (λ (m : List ℕ). P (turned l k segment t rx there g.clear) m (bytes_at (received l at_turn rx) k segment t.at))
        (turn-memory l k segment t rx there g.clear)
        (subst (λ (u : SegmentTaken). P u (memory_at (received l at_turn rx) k segment t.at) (bytes_at (received l at_turn rx) k segment t.at))
        (turn-taken l k segment t rx there g.clear) p))

    read_is : (take_at (received l at_turn rx) k segment t.at).read ≡ (turned l k segment t rx there g.clear).read
    read_is = ap (λ (u : SegmentTaken). u.read) (turn-taken l k segment t rx there g.clear)

    module _ {r : Turn} {rx' out' : List ℕ} (is : r ≡ take_turn routes switches k segment t rx out) (memory : rx' ≡ memory_from routes switches k segment t rx)
        (wrote : out' ≡ lay out t.place (turn_bytes routes switches k segment t rx)) where
      -- by the table's routes
      to : (P : Turn → List ℕ → List ℕ → Type 0)
          → P (take_turn (body_of image Routes) switches k segment t rx out) (memory_from (body_of image Routes) switches k segment t rx)
          (lay out t.place (turn_bytes (body_of image Routes) switches k segment t rx)) → P r rx' out'
      to P p =
          subst (λ (x : Turn). P x rx' out') (sym (is ∙ ap (λ (z : List ℕ). take_turn z switches k segment t rx out) er))
          (subst (λ (m : List ℕ). P (take_turn (body_of image Routes) switches k segment t rx out) m out')
          (sym (memory ∙ ap (λ (z : List ℕ). memory_from z switches k segment t rx) er))
          (subst (P (take_turn (body_of image Routes) switches k segment t rx out) (memory_from (body_of image Routes) switches k segment t rx))
          (sym (wrote ∙ ap (λ (z : List ℕ). lay out t.place (turn_bytes z switches k segment t rx)) er)) p))

      far : r.at ≡ t.at + (take_at (received l at_turn rx) k segment t.at).read
      far = ap (λ (x : Turn). x.at) (is ∙ ap (λ (z : List ℕ). take_turn z switches k segment t rx out) er) ∙ ap (λ (n : ℕ). t.at + n) (sym read_is)

      -- bytes are left
      pub turn_on : Bytes segment → r.at < length segment → AtTurn r rx' out'
      turn_on small h =
          to AtTurn
          (moved (λ (u : SegmentTaken) (m b : List ℕ). Going l k segment out₀ u.state m
          (lay out t.place b) (place_after out t.place b) (t.count + 1) (t.at + u.read))
          (going_on l k segment at_turn rx out t.place t.count t.at g small (subst (λ (n : ℕ). n < length segment) far h)))

      -- all is read
      pub turn-ends : length segment ≤ r.at → Ends r rx' out'
      turn-ends h =
          to Ends
          (moved (λ (u : SegmentTaken) (m b : List ℕ).
          (record { answer = Ok tt; count = t.count + 1; place = place_after out t.place b; state = u.state } ≡ takes_of all)
          × ((m ≡ all.rx) × (lay out t.place b ≡ lay out₀ 4 (taken_bytes all))))
          (going_end l k segment at_turn rx out t.place t.count t.at g (subst (λ (n : ℕ). length segment ≤ n) far h)))

      pub turn-count : r.count ≡ t.count + 1
      turn-count = ap (λ (x : Turn). x.count) is
