-- The takes of a segment event, one after the other.
use Rattle.std.proofs.Common.{Result, Ok, Err}
use Prim.Native.Nat.{ℕ, zero, suc, ◌+◌, ◌-◌, ◌*◌, ◌≤◌, ◌<◌}
use mathlib.Core.Path.{◌≡◌, refl, sym, ap, ap₂, ◌∙◌}
use mathlib.Core.Bool.{Bool, true, false, cond, false≢true}
use mathlib.Core.List.{List, [], ◌∷◌, ◌++◌, append_assoc}
use native.Mathlib.Omega.{arith}
use lib.Dec.{ltb}
use lib.ListN.{length, take, drop, length-append, length-drop}
use lib.Seq.{drop_at, length-take-le}
use borrow.Author.Tests.{ltb-true, lt-ltb, le-ltb}
use Rattle.reading.specs.Feed.{Routes, Cell, take_b}
use Rattle.reading.proofs.Cut.{take_less}
use Rattle.lists.proofs.Both.{and_left, and_right, and_first, and_second, and_both}
use Rattle.reading_lengths.specs.Listed.{Bytes}
use Rattle.wire.specs.Lay.{lay}
use Rattle.wire.proofs.Lay.{lay-fits, lay-length, lay-lay, lay-nothing}
use Rattle.wire.proofs.Spell.{length-spell}
use Rattle.pieces.specs.Pieces.{place_after}
use Rattle.pieces.proofs.Pieces.{moves}
use Rattle.state.specs.declared.State.{State}
use Rattle.table_layout.specs.Layout.{body_of}
use Rattle.table_layout.specs.declared.Kind.TheVariants.{Route as RouteRows}
use Rattle.receive_route.specs.Route.{lookup_of}
use Rattle.state.specs.State.{record_at}
use Rattle.state.specs.Memory.{stretch}
use Rattle.receive_stream.specs.Stream.{cell_of, taken_of, took_of}
use Rattle.entry_receive.specs.declared.NotReceived.TheVariants.{Refused, NotReceiving}
use Rattle.entry_receive.specs.declared.SegmentTaken.{SegmentTaken}
use Rattle.entry_receive.specs.Answer.{is_done}
use Rattle.entry_receive.specs.Segment.{segment_of, segment_answer, take_on, none_taken}
use Rattle.event_answer.specs.declared.NoAnswer.{NoAnswer}
use Rattle.event_answer.specs.declared.Dispatched.{Dispatched}
use Rattle.event_answer.specs.Answers.{dispatched, done_with}
use Rattle.dispatch_receive.specs.declared.Takes.{Takes}
use Rattle.dispatch_receive.specs.Long.{longest_body}
use Rattle.dispatch_receive.specs.Segment.{lent_next, bytes_if_done, Progress, begun, take_at, memory_at, bytes_at}
use Rattle.dispatch_receive.specs.Segment.{one_take, take_follows, takes_up_to, all_takes, event_bytes, takes_effect, answer_room}
use Rattle.dispatch_receive.specs.Turn.{taken_bytes, takes_of, front_of, answer_length}
use Rattle.dispatch_receive.proofs.Once.{refused_none, done_all}
use Rattle.dispatch_receive.proofs.Size.{most, most-all}
use Rattle.gate.specs.Lent.{Loan, sizes, received}
use Rattle.dispatch_receive.proofs.Room.{any, none_is, memory-stays, answer-is, bytes-within, bytes_go, bytes_next}
use Rattle.entry_receive.specs.declared.NotReceived.{NotReceived}

-- a take reads no more than there is, and of what is not empty a byte at least
rest_less : (R : Routes) (c : Cell) (seg : List ℕ) → 0 < length seg → length (take_b R c seg).rest < length seg
rest_less R c [] h = absurd (omega arith)
rest_less R c (b ∷ bs) h = omega (arith, take_less R c (b ∷ bs))

module _ (l : Loan) (connection : ℕ) (seg : List ℕ) where
  pub read-within : (segment_of l connection seg).read ≤ length seg
  unfolding segment_of take_on taken_of
  read-within = go (is_done (segment_answer (sizes l) connection))
    where
      go : (b : Bool) → (cond b (take_on l.image l.state l.rx connection seg)
          (none_taken l.state (segment_answer (sizes l) connection))).read ≤ length seg
      go true = omega arith
      go false = omega arith

  pub read_some : is_done (segment_of l connection seg).answer ≡ true → 0 < length seg → 0 < (segment_of l connection seg).read
  unfolding segment_of take_on taken_of took_of
  read_some d h = go (is_done (segment_answer (sizes l) connection)) refl d
    where
      go : (b : Bool) → is_done (segment_answer (sizes l) connection) ≡ b
          → is_done (cond b (take_on l.image l.state l.rx connection seg) (none_taken l.state (segment_answer (sizes l) connection))).answer ≡ true
          → 0 < (cond b (take_on l.image l.state l.rx connection seg) (none_taken l.state (segment_answer (sizes l) connection))).read
      go true e i = omega (
        arith,
        rest_less (lookup_of (body_of l.image RouteRows) connection (record_at l.state connection).switches)
            (cell_of (record_at l.state connection).part (stretch 1464 connection l.rx)) seg h,
      )
      go false e i = let z : ◌≡◌ {A = ℕ} 0 1 = cc in absurd (omega arith)

pub is-done : (a : Result Unit NotReceived) → is_done a ≡ true → a ≡ Ok tt
is-done (Ok tt) e = refl
is-done (Err (Refused r)) e = absurd (false≢true e)
is-done (Err NotReceiving) e = absurd (false≢true e)

-- how far the loop is: the run with the records, memory, bytes and places as they are
abbrev pub run_at : State → List ℕ → List ℕ → ℕ → ℕ → Progress
run_at s rx bytes count at = record { answer = Ok tt; state = s; rx = rx; bytes = bytes; count = count; at = at }

module _ (l : Loan) (connection : ℕ) (segment : List ℕ) where
  stops : (n : ℕ) (r : Progress) → take_follows l connection segment (one_take l connection segment r) ≡ false
      → takes_up_to l connection segment n r ≡ one_take l connection segment r
  unfolding takes_up_to
  stops zero r e = refl
  stops (suc n) r e = rw e

  more : (n : ℕ) (r : Progress) → take_follows l connection segment (one_take l connection segment r) ≡ true
      → takes_up_to l connection segment (suc n) r ≡ takes_up_to l connection segment n (one_take l connection segment r)
  unfolding takes_up_to
  more n r e = rw e

  -- A LATER TAKE IS NEVER REFUSED: the event's answer is that of its first take
  run_done : Bytes segment → (n : ℕ) (r : Progress) → is_done (segment_answer (sizes (lent_next l connection segment r)) connection) ≡ true
      → is_done (takes_up_to l connection segment n r).answer ≡ true
  unfolding takes_up_to one_take
  run_done small zero r d = answer-is (lent_next l connection segment r) connection (drop r.at segment) ∙ d
  run_done small (suc n) r d =
      go (take_follows l connection segment (one_take l connection segment r))
      (run_done small n (one_take l connection segment r)
      (bytes_next (lent_next l connection segment r) connection segment r.at small
      (answer-is (lent_next l connection segment r) connection (drop r.at segment) ∙ d)))
    where
      go : (b : Bool) → is_done (takes_up_to l connection segment n (one_take l connection segment r)).answer ≡ true
          → is_done (cond b (takes_up_to l connection segment n (one_take l connection segment r)) (one_take l connection segment r)).answer ≡ true
      go true h = h
      go false h = answer-is (lent_next l connection segment r) connection (drop r.at segment) ∙ d

  pub first-answer : Bytes segment → (all_takes l connection segment).answer ≡ (take_at l connection segment 0).answer
  unfolding one_take
  first-answer small = go (is_done (take_at l connection segment 0).answer) refl
    where
      go : (b : Bool) → is_done (take_at l connection segment 0).answer ≡ b → (all_takes l connection segment).answer ≡ (take_at l connection segment 0).answer
      go true e =
          is-done (all_takes l connection segment).answer
          (run_done small (length segment) (begun l.state l.rx) (sym (answer-is l connection (drop 0 segment)) ∙ e))
          ∙ sym (is-done (take_at l connection segment 0).answer e)
      go false e = ap (λ (r : Progress). r.answer)
          (stops (length segment) (begun l.state l.rx) (and_first (is_done (take_at l connection segment 0).answer) _ e))

  -- EACH TAKE BEFORE ANOTHER READS A BYTE: so there are no more takes than bytes
  run-count : (n : ℕ) (r : Progress) → r.count ≤ r.at → r.at < length segment → (takes_up_to l connection segment n r).count ≤ length segment
  unfolding takes_up_to one_take
  run-count zero r low inside = omega (arith, low, inside)
  run-count (suc n) r low inside = go (take_follows l connection segment (one_take l connection segment r)) refl (run-count n (one_take l connection segment r))
    where
      t : SegmentTaken
      t = take_at (lent_next l connection segment r) connection segment r.at

      go : (b : Bool) → take_follows l connection segment (one_take l connection segment r) ≡ b
          → (r.count + 1 ≤ r.at + t.read → r.at + t.read < length segment
          → (takes_up_to l connection segment n (one_take l connection segment r)).count ≤ length segment)
          → (cond b (takes_up_to l connection segment n (one_take l connection segment r)) (one_take l connection segment r)).count ≤ length segment
      go true e h =
          let done : is_done t.answer ≡ true = and_left (is_done t.answer) (ltb (r.at + t.read) (length segment)) e in
          let left : r.at + t.read < length segment =
          ltb-true (r.at + t.read) (length segment) (and_right (is_done t.answer) (ltb (r.at + t.read) (length segment)) e) in
          let some = read_some (lent_next l connection segment r) connection (drop r.at segment) done (omega (arith, inside, length-drop r.at segment)) in
          h (omega (arith, low, some)) left
      go false e h = omega (arith, low, inside)

  -- the answer of the last take is not asked for the next
  blind : (n : ℕ) (a : Result Unit NotReceived) (s : State) (rx bytes : List ℕ) (count at : ℕ)
      → takes_up_to l connection segment n (run_at s rx bytes count at)
      ≡ takes_up_to l connection segment n (record { answer = a; state = s; rx = rx; bytes = bytes; count = count; at = at })
  unfolding takes_up_to one_take
  blind zero a s rx bytes count at = refl
  blind (suc n) a s rx bytes count at = refl

  -- what is left to do from here on is what there was to do from the start on; all bytes so far stand behind the first four, there
  -- is room for those to come, and the next take is not refused
  pub record Going (out₀ : List ℕ) (s : State) (rx out : List ℕ) (place count at : ℕ) : Type 0 where
    pub bytes : List ℕ
    pub same : takes_up_to l connection segment (length segment - count) (run_at s rx bytes count at) ≡ all_takes l connection segment
    pub low : count ≤ at
    pub within : at ≤ length segment
    pub wrote : out ≡ lay out₀ 4 bytes
    pub placed : place ≡ 4 + length bytes
    pub spare : 9 * place + most (record_at s connection).part + 32 * (length segment - at) ≤ 9 * length out₀
    pub clear : is_done (segment_answer (sizes (received l s rx)) connection) ≡ true

  pub going_start : (out : List ℕ) → answer_room segment ≤ length out
      → is_done (segment_answer (sizes l) connection) ≡ true → Going out l.state l.rx out 4 0 0
  going_start out h d =
      record {
        bytes = [];
        same = ap (λ (n : ℕ). takes_up_to l connection segment n (begun l.state l.rx)) (omega arith);
        low = omega arith;
        within = omega arith;
        wrote = sym (lay-nothing out 4);
        placed = refl;
        spare = omega (arith, most-all (record_at l.state connection).part);
        clear = d;
      }

  -- one take more
  module _ (s : State) (rx out : List ℕ) (place count at : ℕ) where
    abbrev pub taken : SegmentTaken
    taken = take_at (received l s rx) connection segment at

    abbrev pub more_bytes : List ℕ
    more_bytes = bytes_at (received l s rx) connection segment at

    pub inside : at ≤ length segment → at + taken.read ≤ length segment
    inside h = omega (arith, read-within (received l s rx) connection (drop at segment), length-drop at segment)

    -- its bytes are written behind the others
    module _ {out₀ : List ℕ} (g : Going out₀ s rx out place count at) where
      done : is_done taken.answer ≡ true
      done = answer-is (received l s rx) connection (drop at segment) ∙ g.clear

      room : place + length more_bytes ≤ length out₀
      room = omega (arith, g.spare, bytes-within (received l s rx) connection segment at)

      long : length out ≡ length out₀
      long = ap length g.wrote ∙ lay-length out₀ 4 g.bytes

      all-wrote : lay out place more_bytes ≡ lay out₀ 4 (g.bytes ++ more_bytes)
      all-wrote = ap (λ (o : List ℕ). lay o place more_bytes) g.wrote ∙ lay-lay out₀ 4 place g.bytes more_bytes g.placed room

      all_placed : place_after out place more_bytes ≡ 4 + length (g.bytes ++ more_bytes)
      all_placed =
          sym (moves (length out) place (length more_bytes) (omega (arith, room, long)))
          ∙ omega (arith, g.placed, length-append g.bytes more_bytes)

      -- where bytes are left
      pub going_on : Bytes segment → at + taken.read < length segment
          → Going out₀ taken.state (memory_at (received l s rx) connection segment at)
          (lay out place more_bytes) (place_after out place more_bytes) (count + 1) (at + taken.read)
      unfolding one_take
      going_on small left =
          let dropped = length-drop at segment in
          let some = read_some (received l s rx) connection (drop at segment) done (omega arith) in
          let n : length segment - count ≡ suc (length segment - (count + 1)) = omega (arith, g.low) in
          record {
            bytes = g.bytes ++ more_bytes;
            same =
                blind (length segment - (count + 1)) taken.answer taken.state
                (memory_at (received l s rx) connection segment at) (g.bytes ++ more_bytes) (count + 1) (at + taken.read)
                ∙ sym (more (length segment - (count + 1)) (run_at s rx g.bytes count at) (and_both done (lt-ltb _ _ left)))
                ∙ ap (λ (k : ℕ). takes_up_to l connection segment k (run_at s rx g.bytes count at)) (sym n)
                ∙ g.same;
            low = omega (arith, g.low);
            within = omega arith;
            wrote = all-wrote;
            placed = all_placed;
            spare =
                omega (
                  arith,
                  g.spare,
                  g.placed,
                  all_placed,
                  length-append g.bytes more_bytes,
                  bytes_go (received l s rx) connection segment at any done left,
                );
            clear = bytes_next (received l s rx) connection segment at small done;
          }

      -- where all is read
      pub going_end : length segment ≤ at + taken.read
          → (record { answer = Ok tt; count = count + 1; place = place_after out place more_bytes; state = taken.state }
          ≡ takes_of (all_takes l connection segment))
          × ((memory_at (received l s rx) connection segment at ≡ (all_takes l connection segment).rx)
          × (lay out place more_bytes ≡ lay out₀ 4 (taken_bytes (all_takes l connection segment))))
      unfolding one_take
      going_end left =
          let r : one_take l connection segment (run_at s rx g.bytes count at) ≡ all_takes l connection segment =
          sym (stops (length segment - count) (run_at s rx g.bytes count at) (and_second (is_done taken.answer) _ (le-ltb _ _ left))) ∙ g.same in
          let b : g.bytes ++ more_bytes ≡ bytes_if_done taken.answer (g.bytes ++ more_bytes) = done_all taken.answer (g.bytes ++ more_bytes) done in (
            ap₂ (λ (a : Result Unit NotReceived) (p : ℕ). kept a (count + 1) p taken.state)
                (sym (is-done taken.answer done)) (all_placed ∙ ap (λ (x : List ℕ). 4 + length x) b) ∙ ap takes_of r,
            (ap (λ (u : Progress). u.rx) r, all-wrote ∙ ap (lay out₀ 4) b ∙ ap (λ (u : Progress). lay out₀ 4 (taken_bytes u)) r),
          )
        where
          kept : Result Unit NotReceived → ℕ → ℕ → State → Takes
          kept a n p u = record { answer = a; count = n; place = p; state = u }

  -- THE FIRST TAKE IS REFUSED: it is the only one, and has no bytes
  pub refused-first : (out : List ℕ) (a : Result Unit NotReceived) → a ≡ segment_answer (sizes l) connection → is_done a ≡ false
      → (record { answer = a; count = 1; place = 4; state = l.state } ≡ takes_of (all_takes l connection segment))
      × ((l.rx ≡ (all_takes l connection segment).rx) × (out ≡ lay out 4 (taken_bytes (all_takes l connection segment))))
  unfolding one_take
  refused-first out a e no-take =
      let f : is_done (segment_answer (sizes l) connection) ≡ false = ap is_done (sym e) ∙ no-take in
      let d : is_done (take_at l connection segment 0).answer ≡ false = answer-is l connection (drop 0 segment) ∙ f in
      let r : one_take l connection segment (begun l.state l.rx) ≡ all_takes l connection segment =
      sym (stops (length segment) (begun l.state l.rx) (and_first (is_done (take_at l connection segment 0).answer) _ d)) in
      let n : [] ≡ bytes_if_done (take_at l connection segment 0).answer ([] ++ bytes_at l connection segment 0) =
      refused_none (take_at l connection segment 0).answer ([] ++ bytes_at l connection segment 0) d in (
        ap (λ (x : Result Unit NotReceived). kept x [] l.state) e
            ∙ ap (λ (t : SegmentTaken). kept t.answer [] t.state) (sym (none_is l connection (drop 0 segment) f))
            ∙ ap (λ (x : List ℕ). kept (take_at l connection segment 0).answer x (take_at l connection segment 0).state) n
            ∙ ap takes_of r,
        (
          memory-stays l connection (drop 0 segment) f ∙ ap (λ (u : Progress). u.rx) r,
          sym (lay-nothing out 4) ∙ ap (lay out 4) n ∙ ap (λ (u : Progress). lay out 4 (taken_bytes u)) r,
        ),
      )
    where
      kept : Result Unit NotReceived → List ℕ → State → Takes
      kept x bytes u = record { answer = x; count = 1; place = 4 + length bytes; state = u }

-- THE NUMBER OF TAKES over a segment that is not too long: an empty one has one take. So two bytes spell it
pub count_fits : (l : Loan) (connection : ℕ) (segment : List ℕ) → length segment ≤ longest_body → (all_takes l connection segment).count ≤ longest_body
unfolding takes_up_to one_take
count_fits l connection [] short = omega arith
count_fits l connection (b ∷ bs) short =
    omega (arith, short, run-count l connection (b ∷ bs) (length (b ∷ bs)) (begun l.state l.rx) (omega arith) (omega arith))

-- THE FRONT OF THE ANSWER, before the takes' bytes: what is laid behind and then before is laid at once
lay-front : (d : List ℕ) (m : ℕ) (x y : List ℕ) → length x ≡ m → m + length y ≤ length d → lay (lay d m y) 0 x ≡ lay d 0 (x ++ y)
lay-front d m x y e h =
    let l = length-append x y in
    let f : drop (length x) (take m d ++ y ++ drop (m + length y) d) ≡ y ++ drop (m + length y) d =
    ap (drop (length x)) (append_assoc (take m d) y (drop (m + length y) d))
    ∙ drop_at (take m d) (y ++ drop (m + length y) d) (length x) (length-take-le m d (omega arith) ∙ sym e) in
    let o : 0 + length x ≡ length x = omega arith in
    let q : m + length y ≡ 0 + length (x ++ y) = omega arith in
    lay-fits (lay d m y) 0 x (omega (arith, lay-length d m y))
    ∙ ap₂ (λ (k : ℕ) (l : List ℕ). x ++ drop k l) o (lay-fits d m y h)
    ∙ ap (λ (l : List ℕ). x ++ l) f
    ∙ sym (append_assoc x y (drop (m + length y) d))
    ∙ ap (λ (k : ℕ). x ++ y ++ drop k d) q
    ∙ sym (lay-fits d 0 (x ++ y) (omega arith))

told_length : (a : Result Unit NotReceived) (count : ℕ) (bytes : List ℕ)
    → answer_length a (4 + length (bytes_if_done a bytes)) ≡ length (event_bytes a count bytes)
told_length (Ok tt) count bytes = simp (length-append, length-spell)
told_length (Err (Refused r)) count bytes = refl
told_length (Err NotReceiving) count bytes = refl

told_out : (a : Result Unit NotReceived) (count : ℕ) (bytes out : List ℕ) → 4 + length bytes ≤ length out
    → lay (lay out 4 (bytes_if_done a bytes)) 0 (front_of a count) ≡ lay out 0 (event_bytes a count bytes)
told_out (Ok tt) count bytes out h = lay-front out 4 (done_with 2 count) bytes (simp (length-append, length-spell)) h
told_out (Err (Refused r)) count bytes out h = ap (λ (o : List ℕ). lay o 0 (front_of (Err (Refused r)) count)) (lay-nothing out 4)
told_out (Err NotReceiving) count bytes out h = ap (λ (o : List ℕ). lay o 0 (front_of (Err NotReceiving) count)) (lay-nothing out 4)

abbrev handed : ℕ → State → Dispatched
handed n s = record { verdict = Ok n; state = s }

-- the takes' answer is put before their bytes, and handed back
pub all_told : {k : Takes} {n : ℕ} {rx o o' : List ℕ} (r : Progress) (tx out : List ℕ) → 4 + length r.bytes ≤ length out
    → k ≡ takes_of r → rx ≡ r.rx → o ≡ lay out 4 (taken_bytes r)
    → n ≡ answer_length k.answer k.place → o' ≡ lay o 0 (front_of k.answer k.count)
    → (handed n k.state ≡ dispatched (takes_effect r tx out)) × ((rx ≡ (takes_effect r tx out).rx) × (o' ≡ (takes_effect r tx out).out))
all_told {k} r tx out h e m w l f = (
  ap₂ handed (l ∙ ap (λ (u : Takes). answer_length u.answer u.place) e ∙ told_length r.answer r.count r.bytes) (ap (λ (u : Takes). u.state) e),
  (
    m,
    f
        ∙ ap (λ (x : List ℕ). lay x 0 (front_of k.answer k.count)) w
        ∙ ap (λ (u : Takes). lay (lay out 4 (taken_bytes r)) 0 (front_of u.answer u.count)) e
        ∙ told_out r.answer r.count r.bytes out h,
  ),
)
