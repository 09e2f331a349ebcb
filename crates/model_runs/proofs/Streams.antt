-- DEMAND 3'S LIST: in any run, what a TCP connection hands out is what its streams hold by lengths, one stream for each online
-- period, the first of them begun with what the record holds at the start (`heard-listed`, at the end).
use Prim.Native.Nat.{ℕ}
use mathlib.Core.Path.{◌≡◌, refl, sym, ap, ap₂, ◌∙◌, subst}
use mathlib.Core.Bool.{Bool, true, false, cond, not, ◌&&◌, true≢false}
use mathlib.Core.List.{List, [], ◌∷◌, ◌++◌, append_assoc, map, map-append}
use lib.ListN.{length}
use lib.Seq.{get_or-set_other}
use lib.Dec.{eqb, ltb}
use native.Mathlib.Decide.{dec_lt, ℕ_discrete}
use native.Mathlib.Omega.{arith}
use borrow.Author.Tests.{eq-eqb, ne_eqb}
use Rattle.lists.proofs.Both.{and_left, and_right}
use Rattle.connection.specs.Connection.{is_online}
use Rattle.reading.specs.Feed.{Routes, Cell, ready, Out, Ran, ran, segment_ran as segment_of, finely, compared}
use Rattle.reading.proofs.Compared.{free, compared-append, free_append}
use Rattle.model.specs.World.{Held, World, blank, held_at, cell_at}
use Rattle.model.specs.Events.{Own, change, segment, walk, take_waiting, Whole, Event, on, on_whole}
use Rattle.connection.specs.Event.{receiving}
use Rattle.model.specs.Step.{Table, Acted, acted, streamed, routes_at, acts, acts_at, step, hands, heard}
use Rattle.model.proofs.Cells.{snug_in, snug_segment, cell_back}
use Rattle.reading_lengths.specs.Listed.{Marked, mark, bytes_of, read_to, read_out, Bytes}
use Rattle.reading_lengths.proofs.Bytes.{bytes-append, bytes-mark}
use Rattle.reading_lengths.proofs.Marks.{out-append, segment_reads}
use Rattle.reading_lengths.proofs.Ready.{ready-list, free_read}
use Rattle.reading_lengths.proofs.Reading.{reading}
use Rattle.model_runs.specs.Streams.{online, Streams, streams, longer, accepts, reads, ends, streams_of}
use Rattle.model_runs.specs.Streams.{listed_later, listed_in, EventBytes, RunBytes, Quiet, Rests, Kept}
use Rattle.model_runs.proofs.Keeps.{kept_same, Other, a_change, a_walk, a_take, kept_acts, acts-nothing, kept_set}
use Rattle.model_runs.proofs.Same.{does-read, does-refused, held_stays}

-- streams of bytes
abbrev LaterBytes : List (List Marked) → Type 0
LaterBytes [] = Unit
LaterBytes (s ∷ ss) = Bytes (bytes_of s) × LaterBytes ss

abbrev StreamBytes : Streams → Type 0
StreamBytes s = Bytes (bytes_of s.first) × LaterBytes s.later

none : Bytes []
none i = omega arith

-- what a group or module event may do to a connection
abbrev pub Gentle : (Whole → World → World) → ℕ → Type 0
Gentle whole k = (e : Whole) (w : World) → Quiet (held_at w k) → Kept (held_at w k) (held_at (whole e w) k)

module _ (T : Table) (whole : Whole → World → World) (k : ℕ) (tcp : (T.config k).tcp ≡ true) (gentle : Gentle whole k) where
  abbrev sw : World → ℕ
  sw w = (held_at w k).connection.switches

  abbrev next : World → Event → World
  next w e = step T whole w e

  -- an event says nothing to the stream of connection k, or its bytes are read
  data Turn (w : World) (e : Event) : Type 0 where
    silent : hands T whole k w e ≡ [] → reads T whole k w e ≡ [] → Kept (held_at w k) (held_at (next w e) k) → Turn w e
    read : (ms : List Marked) → hands T whole k w e ≡ read_out (T.routes k) (cell_at (held_at w k)) ms
        → reads T whole k w e ≡ ms
        → cell_at (held_at (next w e) k) ≡ read_to (T.routes k) (cell_at (held_at w k)) ms
        → online w k ≡ true → online (next w e) k ≡ true → Turn w e

  -- another connection's
  reads_other : (w : World) (i : ℕ) (e : Own) → eqb i k ≡ false → reads T whole k w (on i e) ≡ []
  reads_other w i (change e) ne = refl
  reads_other w i (segment bs) ne = rw ne
  reads_other w i (walk d p) ne = refl
  reads_other w i (take_waiting room) ne = refl

  turn_other : (w : World) (i : ℕ) (e : Own) → (i ≡ k → ⊥) → Quiet (held_at w k) → Turn w (on i e)
  unfolding hands step
  turn_other w i e ne q =
      let f : eqb i k ≡ false = ne_eqb i k ne in
      silent (rw f) (reads_other w i e f)
      (subst (Kept (held_at w k)) (sym (get_or-set_other w.held i k (acts_at T w i e).to blank (λ p. ne (sym p)))) (kept_same (held_at w k) q))

  -- its own, if no segment
  reads_none : (w : World) (e : Own) → Other e → reads T whole k w (on k e) ≡ []
  reads_none w _ (a_change e) = refl
  reads_none w _ (a_walk d p) = refl
  reads_none w _ (a_take room) = refl

  turn-own : (w : World) (e : Own) → Other e → Quiet (held_at w k) → Turn w (on k e)
  unfolding hands step
  turn-own w e o q =
      silent (rw (eq-eqb k k refl) (acts-nothing T k tcp e o (held_at w k) (ltb k T.rows) refl)) (reads_none w e o)
      (kept_set w.held k (acts_at T w k e).to q (kept_acts T k tcp e o (held_at w k) (ltb k T.rows) refl q))

  -- a segment: refused, or read
  acts-read : (h : Held) (bs : List ℕ) → ltb k T.rows ≡ true → ((T.config k).tcp && receiving h.connection) ≡ true
      → acts T k (segment bs) h ≡ streamed h (finely (segment_of (routes_at T k h) (cell_at h) bs))
  unfolding acts
  acts-read h bs t r = rw t (does-read T k h bs r)

  acts-refused : (h : Held) (bs : List ℕ) (t : Bool) → ltb k T.rows ≡ t → (t && ((T.config k).tcp && receiving h.connection)) ≡ false
      → acts T k (segment bs) h ≡ acted h []
  unfolding acts
  acts-refused h bs true t r = rw t (does-refused T k h bs r)
  acts-refused h bs false t r = rw t

  abbrev readable : World → Bool
  readable w = ltb k T.rows && ((T.config k).tcp && receiving (held_at w k).connection)

  turn-segment : (w : World) (bs : List ℕ) (r : Bool) → readable w ≡ r → Quiet (held_at w k) → Turn w (on k (segment bs))
  unfolding hands step
  turn-segment w bs true r q =
      let h : Held = held_at w k in
      let t : ltb k T.rows ≡ true = and_left (ltb k T.rows) _ r in
      let u : ((T.config k).tcp && receiving h.connection) ≡ true = and_right (ltb k T.rows) _ r in
      let on_line : is_online h.connection.mode ≡ true = and_left (is_online h.connection.mode) _ (and_right (T.config k).tcp _ u) in
      let ms : List Marked = map (mark (sw w)) bs in
      let f : finely (segment_of (routes_at T k h) (cell_at h) bs) ≡ ran (read_to (T.routes k) (cell_at h) ms) (read_out (T.routes k) (cell_at h) ms) =
      segment_reads (T.routes k) (sw w) (cell_at h) bs in
      let a : acts_at T w k (segment bs) ≡ streamed h (finely (segment_of (routes_at T k h) (cell_at h) bs)) = acts-read h bs t u in
      let s : held_at (next w (on k (segment bs))) k ≡ (acts_at T w k (segment bs)).to = held_stays T w k bs (dec_lt k (length w.held)) in
      read ms
      (rw (eq-eqb k k refl) (ap (λ (x : Acted). x.list) a ∙ ap (λ (x : Ran). x.list) f))
      (rw (eq-eqb k k refl, r))
      (ap cell_at (s ∙ ap (λ (x : Acted). x.to) a)
      ∙ cell_back (segment_of (routes_at T k h) (cell_at h) bs).to (snug_segment (routes_at T k h) (cell_at h) bs (snug_in h.connection.part h.received))
      ∙ ap (λ (x : Ran). x.to) f)
      on_line
      (ap (λ (x : Held). is_online x.connection.mode) (s ∙ ap (λ (x : Acted). x.to) a) ∙ on_line)
  turn-segment w bs false r q =
      let h : Held = held_at w k in
      let a : acts_at T w k (segment bs) ≡ acted h [] = acts-refused h bs (ltb k T.rows) refl r in
      silent (rw (eq-eqb k k refl) (ap (λ (x : Acted). x.list) a)) (rw (eq-eqb k k refl, r))
      (subst (Kept h) (sym (held_stays T w k bs (dec_lt k (length w.held)) ∙ ap (λ (x : Acted). x.to) a)) (kept_same h q))

  turn_at : (w : World) (e : Own) → Quiet (held_at w k) → Turn w (on k e)
  turn_at w (change e) q = turn-own w (change e) (a_change e) q
  turn_at w (segment bs) q = turn-segment w bs (readable w) refl q
  turn_at w (walk d p) q = turn-own w (walk d p) (a_walk d p) q
  turn_at w (take_waiting room) q = turn-own w (take_waiting room) (a_take room) q

  turn-whole : (w : World) (e : Whole) → Quiet (held_at w k) → Turn w (on_whole e)
  unfolding hands step
  turn-whole w e q = silent refl refl (gentle e w q)

  turn : (w : World) (e : Event) → Quiet (held_at w k) → Turn w e
  turn w (on i e) q = go (ℕ_discrete i k)
    where
      go : Dec (i ≡ k) → Turn w (on i e)
      go (yes p) = subst (λ (j : ℕ). Turn w (on j e)) (sym p) (turn_at w e q)
      go (no ne) = turn_other w i e ne q
  turn w (on_whole e) q = turn-whole w e q

  -- so it stays quiet while it is not online
  turn-quiet : (w : World) (e : Event) → Turn w e → Quiet (held_at (next w e) k)
  turn-quiet w e (silent _ _ kept) = kept.gone
  turn-quiet w e (read bs _ _ _ _ on_line) = λ off. absurd (true≢false (sym on_line ∙ off))

  abbrev Q : ℕ → Routes
  Q = T.routes k

  -- the outcomes of streams, a byte at a time
  unfoldable read_later : List (List Marked) → List Out
  read_later [] = []
  read_later (s ∷ ss) = read_out Q ready s ++ read_later ss

  unfoldable read_in : Cell → Streams → List Out
  read_in c s = read_out Q c s.first ++ read_later s.later

  -- an event that says nothing: the period goes on, or ends here
  never : (x : Bool) → (x && not true) ≡ false
  never true = refl
  never false = refl

  on_silent : (h h' : Held) (s : Streams) (b b' : Bool) → is_online h.connection.mode ≡ b → is_online h'.connection.mode ≡ b' → Quiet h → Kept h h'
      → read_in (cell_at h') s ≡ read_in (cell_at h) (longer (b && not b') [] s)
  unfolding read_in read_later read_out
  on_silent h h' s b true e e' q kept =
      ap (λ (c : Cell). read_in c s) (kept.going e') ∙ ap (λ (x : Bool). read_in (cell_at h) (longer x [] s)) (sym (never b))
  on_silent h h' s true false e e' q kept = ap (λ (c : Cell). read_in c s) (kept.gone e')
  on_silent h h' s false false e e' q kept = ap (λ (c : Cell). read_in c s) (kept.gone e' ∙ sym (q e))

  -- bytes that are read: they stand in front of what the period reads later
  on_read : (c c' : Cell) (ms : List Marked) (s : Streams) → c' ≡ read_to Q c ms → read_out Q c ms ++ read_in c' s ≡ read_in c (longer false ms s)
  unfolding read_in
  on_read c c' ms s e =
      let more : List Out = read_later s.later in
      sym (append_assoc (read_out Q c ms) (read_out Q c' s.first) more)
      ∙ ap (λ (os : List Out). os ++ more)
      (ap (λ (d : Cell). read_out Q c ms ++ read_out Q d s.first) e ∙ sym (out-append Q c ms s.first))

  one-turn : (w : World) (e : Event) (s : Streams) → Turn w e → Quiet (held_at w k)
      → hands T whole k w e ++ read_in (cell_at (held_at (next w e) k)) s
      ≡ read_in (cell_at (held_at w k)) (longer (ends T whole k w e) (reads T whole k w e) s)
  one-turn w e s (silent given bytes kept) q =
      ap (λ (os : List Out). os ++ read_in (cell_at (held_at (next w e) k)) s) given
      ∙ on_silent (held_at w k) (held_at (next w e) k) s (online w k) (online (next w e) k) refl refl q kept
      ∙ ap (λ (ms : List Marked). read_in (cell_at (held_at w k)) (longer (ends T whole k w e) ms s)) (sym bytes)
  one-turn w e s (read ms given bytes to before behind) q =
      let stop : ends T whole k w e ≡ false = ap₂ (λ (x y : Bool). x && not y) before behind in
      ap (λ (os : List Out). os ++ read_in (cell_at (held_at (next w e) k)) s) given
      ∙ on_read (cell_at (held_at w k)) (cell_at (held_at (next w e) k)) ms s to
      ∙ ap₂ (λ (x : Bool) (l : List Marked). read_in (cell_at (held_at w k)) (longer x l s)) (sym stop) (sym bytes)

  nothing_read : (c : Cell) → [] ≡ read_in c (streams [] [])
  unfolding read_in read_later read_out
  nothing_read c = refl

  -- the list, a byte at a time
  heard-read : (w : World) (es : List Event) → Quiet (held_at w k) → heard T whole k w es ≡ read_in (cell_at (held_at w k)) (streams_of T whole k w es)
  unfolding heard streams_of
  heard-read w [] q = nothing_read (cell_at (held_at w k))
  heard-read w (e ∷ es) q =
      let t : Turn w e = turn w e q in
      ap (λ (os : List Out). hands T whole k w e ++ os) (heard-read (next w e) es (turn-quiet w e t))
      ∙ one-turn w e (streams_of T whole k (next w e) es) t q

  -- .. and by lengths: the streams are bytes
  reads_bytes : (w : World) (e : Event) → EventBytes e → Bytes (bytes_of (reads T whole k w e))
  reads_bytes w (on i (change e)) b = none
  reads_bytes w (on i (segment bs)) b = go (accepts T whole k w i)
    where
      go : (x : Bool) → Bytes (bytes_of (cond x (map (mark (sw w)) bs) []))
      go true = subst Bytes (sym (bytes-mark (sw w) bs)) b
      go false = none
  reads_bytes w (on i (walk d p)) b = none
  reads_bytes w (on i (take_waiting room)) b = none
  reads_bytes w (on_whole e) b = none

  longer-bytes : (x : Bool) (ms : List Marked) (s : Streams) → Bytes (bytes_of ms) → StreamBytes s → StreamBytes (longer x ms s)
  longer-bytes true ms s b (f, l) = (none, (f, l))
  longer-bytes false ms s b (f, l) =
      (subst Bytes (sym (map-append (λ (m : Marked). m.byte) ms s.first)) (bytes-append (bytes_of ms) (bytes_of s.first) b f), l)

  streams-bytes : (w : World) (es : List Event) → RunBytes es → StreamBytes (streams_of T whole k w es)
  unfolding streams_of
  streams-bytes w [] b = (none, tt)
  streams-bytes w (e ∷ es) (b, bs) =
      longer-bytes (ends T whole k w e) (reads T whole k w e) (streams_of T whole k (next w e) es) (reads_bytes w e b) (streams-bytes (next w e) es bs)

  -- each later online period begins with no byte of a transfer
  free_later : (ss : List (List Marked)) → free (compared (read_later ss)) ≡ true
  unfolding read_later compared
  free_later [] = refl
  free_later (s ∷ ss) =
      ap free (compared-append (read_out Q ready s) (read_later ss) (free_later ss))
      ∙ free_append (compared (read_out Q ready s)) (compared (read_later ss)) (free_read Q ready s refl) (free_later ss)

  later-listed : (ss : List (List Marked)) → LaterBytes ss → compared (read_later ss) ≡ listed_later Q ss
  unfolding read_later listed_later compared
  later-listed [] b = refl
  later-listed (s ∷ ss) (b, bs) = compared-append (read_out Q ready s) (read_later ss) (free_later ss) ∙ ap₂ ◌++◌ (ready-list Q s b) (later-listed ss bs)

  -- THE LIST: whatever the run, of what a TCP connection has given demand 3 compares what its streams hold by lengths
  pub heard-listed : (w : World) (es : List Event) → Rests (held_at w k) → RunBytes es
      → compared (heard T whole k w es) ≡ listed_in (T.routes k) (cell_at (held_at w k)) (streams_of T whole k w es)
  unfolding read_in listed_in
  heard-listed w es r b =
      let s : Streams = streams_of T whole k w es in
      let sb : StreamBytes s = streams-bytes w es b in
      ap compared (heard-read w es r.quiet)
      ∙ compared-append (read_out Q (cell_at (held_at w k)) s.first) (read_later s.later) (free_later s.later)
      ∙ ap₂ ◌++◌ (reading Q (cell_at (held_at w k)) s.first r.shape sb.0) (later-listed s.later sb.1)
