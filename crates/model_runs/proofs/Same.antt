-- DEMAND 3: runs that count as the same end in the same world, and each connection has given the same outcomes in the same
-- order, PDUs and drops; whatever the table says, whatever the world at the start, whatever events of a whole group or module do.
use Prim.Native.Nat.{ℕ, ◌<◌, ◌≤◌}
use mathlib.Core.Path.{◌≡◌, refl, sym, ap, ap₂, ◌∙◌}
use mathlib.Core.Bool.{Bool, true, false, cond, not, ◌&&◌}
use mathlib.Core.List.{List, [], ◌∷◌, ◌++◌, append_assoc}
use lib.ListN.{length, get_or, set, get_or-eq_default}
use lib.Seq.{set_comm, set-set, get_or-set_other, get_or-set_same, set_out}
use lib.Dec.{eqb, ltb}
use native.Mathlib.Decide.{dec_lt}
use native.Mathlib.Omega.{arith}
use borrow.Author.Tests.{eqb-true}
use Rattle.reading.specs.Feed.{Routes, Cell, segment_ran as segment_of, drops, Out, finely}
use Rattle.reading.proofs.Cut.{cut as cut-segment, drops-append}
use Rattle.model.specs.World.{Held, World, blank, cell_at, with_cell}
use Rattle.model.specs.Events.{Own, segment, Whole, Event, on}
use Rattle.connection.specs.Event.{receiving}
use Rattle.model.specs.Step.{Table, count_after_if, Acted, acted, streamed, routes_at, does, acts, acts_at, left, step, run, hands, heard}
use Rattle.model.proofs.Counts.{counts_if_comm, counts_if_add}
use Rattle.model.proofs.Cells.{snug_in, snug_segment, cell_back}
use Rattle.model_runs.specs.Same.{Same, swap, cut, join, same, later, both}

module _ (T : Table) where
  -- TWO CONNECTIONS: what one leaves, the other does not see
  left_comm : (w : World) (i j : ℕ) (a b : Acted) → (i ≡ j → ⊥) → left T (left T w i a) j b ≡ left T (left T w j b) i a
  left_comm w i j a b ne =
      let p : set (set w.held i a.to) j b.to ≡ set (set w.held j b.to) i a.to = set_comm w.held i j a.to b.to ne in
      let u = counts_if_comm (not (T.config i).tcp) (not (T.config j).tcp) (drops a.list) (drops b.list) w.udp in
      let t = counts_if_comm (T.config i).tcp (T.config j).tcp (drops a.list) (drops b.list) w.tcp in
      λ k. record { held = p k; udp = u k; tcp = t k }

  at_other : (w : World) (i j : ℕ) (a : Acted) (b : Own) → (i ≡ j → ⊥) → acts_at T (left T w i a) j b ≡ acts_at T w j b
  at_other w i j a b ne = ap (acts T j b) (get_or-set_other w.held i j a.to blank (λ e. ne (sym e)))

  swap-left : (w : World) (i j : ℕ) (a b : Own) → (i ≡ j → ⊥)
      → left T (left T w i (acts_at T w i a)) j (acts_at T (left T w i (acts_at T w i a)) j b)
      ≡ left T (left T w j (acts_at T w j b)) i (acts_at T (left T w j (acts_at T w j b)) i a)
  swap-left w i j a b ne =
      ap (left T (left T w i (acts_at T w i a)) j) (at_other w i j (acts_at T w i a) b ne)
      ∙ left_comm w i j (acts_at T w i a) (acts_at T w j b) ne
      ∙ ap (left T (left T w j (acts_at T w j b)) i) (sym (at_other w j i (acts_at T w j b) a (λ e. ne (sym e))))

  -- ONE CONNECTION: two acts one after the other, as one
  abbrev pub following : Acted → Acted → Acted
  following a b = acted b.to (a.list ++ b.list)

  pub left_following : (w : World) (i : ℕ) (a b : Acted) → left T w i (following a b) ≡ left T (left T w i a) i b
  left_following w i a b =
      let p : set w.held i b.to ≡ set (set w.held i a.to) i b.to = sym (set-set w.held i a.to b.to) in
      let c : (q : Bool) (n : ℕ) → count_after_if q (drops (a.list ++ b.list)) n ≡ count_after_if q (drops b.list) (count_after_if q (drops a.list) n) =
      λ q n. ap (λ (d : ℕ). count_after_if q d n) (drops-append a.list b.list) ∙ counts_if_add q (drops a.list) (drops b.list) n in
      let u = c (not (T.config i).tcp) w.udp in
      let t = c (T.config i).tcp w.tcp in
      λ k. record { held = p k; udp = u k; tcp = t k }

  -- a segment that is read, in two pieces: the first leaves mode, wishes and switches
  streamed-cut : (R : Routes) (h : Held) (x y : List ℕ)
      → streamed h (finely (segment_of R (cell_at h) (x ++ y)))
      ≡ following (streamed h (finely (segment_of R (cell_at h) x)))
      (streamed (with_cell (segment_of R (cell_at h) x).to h) (finely (segment_of R (cell_at (with_cell (segment_of R (cell_at h) x).to h)) y)))
  streamed-cut R h x y =
      ap (streamed h) (cut-segment R (cell_at h) x y)
      ∙ ap (λ (c : Cell). following (streamed h (finely (segment_of R (cell_at h) x))) (streamed h (finely (segment_of R c y))))
      (sym (cell_back (segment_of R (cell_at h) x).to (snug_segment R (cell_at h) x (snug_in h.connection.part h.received))))

  -- .. and one that is refused: so are both pieces
  pub does-read : (k : ℕ) (h : Held) (x : List ℕ) → ((T.config k).tcp && receiving h.connection) ≡ true
      → does T k (segment x) h ≡ streamed h (finely (segment_of (routes_at T k h) (cell_at h) x))
  unfolding does
  does-read k h x e = rw e

  pub does-refused : (k : ℕ) (h : Held) (x : List ℕ) → ((T.config k).tcp && receiving h.connection) ≡ false → does T k (segment x) h ≡ acted h []
  unfolding does
  does-refused k h x e = rw e

  does-cut : (k : ℕ) (h : Held) (x y : List ℕ) (r : Bool) → ((T.config k).tcp && receiving h.connection) ≡ r
      → does T k (segment (x ++ y)) h ≡ following (does T k (segment x) h) (does T k (segment y) (does T k (segment x) h).to)
  does-cut k h x y true e =
      let first : Acted = streamed h (finely (segment_of (routes_at T k h) (cell_at h) x)) in
      does-read k h (x ++ y) e
      ∙ streamed-cut (routes_at T k h) h x y
      ∙ ap (following first) (sym (does-read k first.to y e))
      ∙ ap (λ (a : Acted). following a (does T k (segment y) a.to)) (sym (does-read k h x e))
  does-cut k h x y false e =
      does-refused k h (x ++ y) e
      ∙ ap (following (acted h [])) (sym (does-refused k h y e))
      ∙ ap (λ (a : Acted). following a (does T k (segment y) a.to)) (sym (does-refused k h x e))

  acts-cut : (k : ℕ) (h : Held) (x y : List ℕ) (there : Bool) → ltb k T.rows ≡ there
      → acts T k (segment (x ++ y)) h ≡ following (acts T k (segment x) h) (acts T k (segment y) (acts T k (segment x) h).to)
  unfolding acts
  acts-cut k h x y true e = rw e (does-cut k h x y ((T.config k).tcp && receiving h.connection) refl)
  acts-cut k h x y false e = rw e

  -- past the last record nothing is read
  acts-blank : (k : ℕ) (x : List ℕ) (there t : Bool) → ltb k T.rows ≡ there → (T.config k).tcp ≡ t → acts T k (segment x) blank ≡ acted blank []
  unfolding acts does
  acts-blank k x true true e p = rw (e, p)
  acts-blank k x true false e p = rw (e, p)
  acts-blank k x false t e p = rw e

  -- so the second piece meets what the first one left
  pub held_stays : (w : World) (i : ℕ) (x : List ℕ) → Dec (i < length w.held)
      → get_or (set w.held i (acts_at T w i (segment x)).to) i blank ≡ (acts_at T w i (segment x)).to
  held_stays w i x (yes lt) = get_or-set_same w.held i (acts_at T w i (segment x)).to blank lt
  held_stays w i x (no ge) =
      let out : length w.held ≤ i = omega arith in
      ap (λ (hs : List Held). get_or hs i blank) (set_out w.held i (acts_at T w i (segment x)).to out)
      ∙ get_or-eq_default w.held blank out
      ∙ sym
      (ap (λ (h : Held). (acts T i (segment x) h).to) (get_or-eq_default w.held blank out)
      ∙ ap (λ (a : Acted). a.to) (acts-blank i x (ltb i T.rows) (T.config i).tcp refl refl))

  at_cut : (w : World) (i : ℕ) (x y : List ℕ)
      → acts_at T w i (segment (x ++ y)) ≡ following (acts_at T w i (segment x)) (acts_at T (left T w i (acts_at T w i (segment x))) i (segment y))
  at_cut w i x y =
      acts-cut i (get_or w.held i blank) x y (ltb i T.rows) refl
      ∙ ap (λ (h : Held). following (acts_at T w i (segment x)) (acts T i (segment y) h)) (sym (held_stays w i x (dec_lt i (length w.held))))

  cut_left : (w : World) (i : ℕ) (x y : List ℕ)
      → left T w i (acts_at T w i (segment (x ++ y)))
      ≡ left T (left T w i (acts_at T w i (segment x))) i (acts_at T (left T w i (acts_at T w i (segment x))) i (segment y))
  cut_left w i x y =
      ap (left T w i) (at_cut w i x y) ∙ left_following w i (acts_at T w i (segment x)) (acts_at T (left T w i (acts_at T w i (segment x))) i (segment y))

-- of two different numbers at most one is k, so the order of what they hand out does not matter
one_of : (i j k : ℕ) (X Y Z : List Out) → (i ≡ j → ⊥) → cond (eqb i k) X [] ++ (cond (eqb j k) Y [] ++ Z) ≡ cond (eqb j k) Y [] ++ (cond (eqb i k) X [] ++ Z)
one_of i j k X Y Z ne = go (eqb i k) (eqb j k) refl refl
  where
    go : (p q : Bool) → eqb i k ≡ p → eqb j k ≡ q → cond p X [] ++ (cond q Y [] ++ Z) ≡ cond q Y [] ++ (cond p X [] ++ Z)
    go true true ei ej = absurd (ne (eqb-true i k ei ∙ sym (eqb-true j k ej)))
    go true false ei ej = refl
    go false true ei ej = refl
    go false false ei ej = refl

both_of : (b : Bool) (X Y Z : List Out) → cond b (X ++ Y) [] ++ Z ≡ cond b X [] ++ (cond b Y [] ++ Z)
both_of true X Y Z = append_assoc X Y Z
both_of false X Y Z = refl

module _ (T : Table) (whole : Whole → World → World) where
  swap_step : (w : World) (i j : ℕ) (a b : Own) → (i ≡ j → ⊥)
      → step T whole (step T whole w (on i a)) (on j b) ≡ step T whole (step T whole w (on j b)) (on i a)
  unfolding step
  swap_step w i j a b ne = swap-left T w i j a b ne

  cut_step : (w : World) (i : ℕ) (x y : List ℕ) → step T whole w (on i (segment (x ++ y))) ≡ step T whole (step T whole w (on i (segment x))) (on i (segment y))
  unfolding step
  cut_step w i x y = cut_left T w i x y

  swap-heard : (k : ℕ) (w : World) (i j : ℕ) (a b : Own) (es : List Event) → (i ≡ j → ⊥)
      → heard T whole k w (on i a ∷ on j b ∷ es) ≡ heard T whole k w (on j b ∷ on i a ∷ es)
  unfolding heard hands step
  swap-heard k w i j a b es ne =
      let A : Acted = acts_at T w i a in
      let B : Acted = acts_at T w j b in
      let v : World = left T (left T w j B) i (acts_at T (left T w j B) i a) in
      ap₂ (λ (q : Acted) (v' : World). cond (eqb i k) A.list [] ++ (cond (eqb j k) q.list [] ++ heard T whole k v' es))
      (at_other T w i j A b ne) (swap-left T w i j a b ne)
      ∙ one_of i j k A.list B.list (heard T whole k v es) ne
      ∙ ap (λ (q : Acted). cond (eqb j k) B.list [] ++ (cond (eqb i k) q.list [] ++ heard T whole k v es)) (sym (at_other T w j i B a (λ e. ne (sym e))))

  cut-heard : (k : ℕ) (w : World) (i : ℕ) (x y : List ℕ) (es : List Event)
      → heard T whole k w (on i (segment (x ++ y)) ∷ es) ≡ heard T whole k w (on i (segment x) ∷ on i (segment y) ∷ es)
  unfolding heard hands step
  cut-heard k w i x y es =
      let A : Acted = acts_at T w i (segment x) in
      let B : Acted = acts_at T (left T w i A) i (segment y) in
      ap₂ (λ (q : List Out) (v : World). cond (eqb i k) q [] ++ heard T whole k v es) (ap (λ (q : Acted). q.list) (at_cut T w i x y)) (cut_left T w i x y)
      ∙ both_of (eqb i k) A.list B.list (heard T whole k (left T (left T w i A) i B) es)

  -- THE SAME END
  pub same_end : (w : World) {es fs : List Event} → Same es fs → run T whole w es ≡ run T whole w fs
  unfolding run
  same_end w (swap i j a b es ne) = ap (λ (v : World). run T whole v es) (swap_step w i j a b ne)
  same_end w (cut i x y es) = ap (λ (v : World). run T whole v es) (cut_step w i x y)
  same_end w (join i x y es) = sym (ap (λ (v : World). run T whole v es) (cut_step w i x y))
  same_end w (same es) = refl
  same_end w (later e h) = same_end (step T whole w e) h
  same_end w (both h g) = same_end w h ∙ same_end w g

  -- THE SAME OUTCOMES, IN THE SAME ORDER: the PDUs, the drops, and the transfers byte by byte
  pub same-heard : (k : ℕ) (w : World) {es fs : List Event} → Same es fs → heard T whole k w es ≡ heard T whole k w fs
  unfolding heard
  same-heard k w (swap i j a b es ne) = swap-heard k w i j a b es ne
  same-heard k w (cut i x y es) = cut-heard k w i x y es
  same-heard k w (join i x y es) = sym (cut-heard k w i x y es)
  same-heard k w (same es) = refl
  same-heard k w (later e h) = ap (λ (os : List Out). hands T whole k w e ++ os) (same-heard k (step T whole w e) h)
  same-heard k w (both h g) = same-heard k w h ∙ same-heard k w g
