-- THE TABLE CHECK accepts exactly the images that meet every rule, and refuses any other at its first fault.
use Rattle.std.proofs.Common.{Result, Ok, Err}
use Prim.Native.Nat.{ℕ, suc, ◌+◌, ◌-◌, ◌<◌, ◌≤◌}
use mathlib.Core.Path.{◌≡◌, refl, sym, ap, ap₂, ◌∙◌, subst}
use mathlib.Core.Logic.{◌↔◌}
use mathlib.Core.Bool.{Bool, true, false, cond, ◌&&◌, false≢true}
use mathlib.Core.List.{List}
use native.Mathlib.Omega.{arith}
use native.Mathlib.Decide.{dec_lt}
use lib.Dec.{eqb, leb, ltb}
use lib.ListN.{length}
use borrow.Author.Tests.{leb-true, leb-false}
use Rattle.lists.proofs.Search.{none_bad, found-bad}
use Rattle.law_lists.proofs.First.{before-bad}
use Rattle.table_layout.specs.Layout.{number, entry_at, rows_of, row_at, end_of}
use Rattle.table_layout.specs.declared.Kind.{Kind}
use Rattle.table_layout.specs.declared.Kind.TheVariants.{Group, Connection, Route, Destination}
use Rattle.table.specs.declared.BadTable.TheVariants.{At}
use Rattle.table.specs.Table.{head_good, entry_good, row_good, bad_row, demand, then_check, entries_place, head_place, rows_place, all_rows_place, check_table}
use Rattle.table_fault.specs.declared.Spot.{Spot}
use Rattle.table_fault.specs.declared.Spot.TheVariants.{Head, Entry, Total, Row}
use Rattle.table_fault.specs.Spots.{spot_place}
use Rattle.table_fault.specs.Good.{There, good_at}
use Rattle.theorem_calls.specs.Image.{stage_of, within_stage, Earlier, stage, row, TableSays}
use Rattle.theorem_calls.proofs.Spots.{spot_words, words_spot}
use Rattle.table.specs.declared.BadTable.{BadTable}

-- A SPOT IS KNOWN BY ITS STAGE and its number within it
kind_from : ℕ → Kind
kind_from n = cond (eqb n 1) Group (cond (eqb n 2) Connection (cond (eqb n 3) Route Destination))

spot_from : ℕ → ℕ → Spot
spot_from n i = cond (eqb n 0) Head (cond (ltb n 5) (Entry (kind_from n)) (cond (eqb n 5) Total (Row (kind_from (n - 5)) i)))

entry_back : (k : Kind) (i : ℕ) → spot_from (number k) i ≡ Entry k
unfolding spot_from kind_from
entry_back Group i = refl
entry_back Connection i = refl
entry_back Route i = refl
entry_back Destination i = refl

row_back : (k : Kind) (i : ℕ) → spot_from (5 + number k) i ≡ Row k i
unfolding spot_from kind_from
row_back Group i = refl
row_back Connection i = refl
row_back Route i = refl
row_back Destination i = refl

back : (t : Spot) → spot_from (stage_of t) (within_stage t) ≡ t
unfolding spot_from
back Head = refl
back (Entry k) = entry_back k 0
back Total = refl
back (Row k i) = row_back k i

-- the spot of a stage that has one spot, and a row of its kind's stage
only_of : (u : Spot) → ((i : ℕ) → spot_from (stage_of u) i ≡ u) → (t : Spot) → stage_of t ≡ stage_of u → t ≡ u
only_of u one t e = sym (back t) ∙ ap (λ (n : ℕ). spot_from n (within_stage t)) e ∙ one (within_stage t)

row_of : (k : Kind) (t : Spot) → stage_of t ≡ 5 + number k → t ≡ Row k (within_stage t)
row_of k t e = sym (back t) ∙ ap (λ (n : ℕ). spot_from n (within_stage t)) e ∙ row_back k (within_stage t)

number-most : (k : Kind) → number k ≤ 4
number-most Group = omega arith
number-most Connection = omega arith
number-most Route = omega arith
number-most Destination = omega arith

stage-most : (t : Spot) → stage_of t < 10
stage-most Head = omega arith
stage-most (Entry k) = omega (arith, number-most k)
stage-most Total = omega arith
stage-most (Row k i) = omega (arith, number-most k)

-- of two spots one is earlier, or they are the same
compare : {P : Type 0} (t u : Spot) → (Earlier t u → P) → (Earlier u t → P) → (t ≡ u → P) → P
compare {P} t u f g h = stages (dec_lt (stage_of t) (stage_of u)) (dec_lt (stage_of u) (stage_of t))
  where
    rows : stage_of t ≡ stage_of u → Dec (within_stage t < within_stage u) → Dec (within_stage u < within_stage t) → P
    rows e (yes l) m = f (row e l)
    rows e (no l) (yes m) = g (row (sym e) m)
    rows e (no l) (no m) =
        let w : within_stage t ≡ within_stage u = omega (arith, l, m) in
        h (sym (back t) ∙ ap₂ spot_from e w ∙ back u)

    stages : Dec (stage_of t < stage_of u) → Dec (stage_of u < stage_of t) → P
    stages (yes l) m = f (stage l)
    stages (no l) (yes m) = g (stage m)
    stages (no l) (no m) = rows (omega (arith, l, m)) (dec_lt (within_stage t) (within_stage u)) (dec_lt (within_stage u) (within_stage t))

module _ (s : List ℕ) where
  -- WHAT A CHECK OF THE STAGES a TO b - 1 SAYS, by the tests
  record Fault (a b place : ℕ) : Type 0 where
    pub spot : Spot
    pub low : a ≤ stage_of spot
    pub high : stage_of spot < b
    pub there : There s spot
    pub at : spot_place s spot ≡ place
    pub bad : good_at s spot ≡ false
    pub before : (t : Spot) → a ≤ stage_of t → There s t → Earlier t spot → good_at s t ≡ true

  abbrev Part : ℕ → ℕ → Result Unit BadTable → Type 0
  Part a b (Ok tt) = (t : Spot) → a ≤ stage_of t → stage_of t < b → There s t → good_at s t ≡ true
  Part a b (Err (At place)) = Fault a b place

  -- one check after the other
  join : (a b c : ℕ) → a ≤ b → b ≤ c → (x y : Result Unit BadTable) → Part a b x → Part b c y → Part a c (then_check x y)
  unfolding then_check
  join a b c l m (Ok u) (Ok v) f g = λ t lo hi th. go t lo hi th (dec_lt (stage_of t) b)
    where
      go : (t : Spot) → a ≤ stage_of t → stage_of t < c → There s t → Dec (stage_of t < b) → good_at s t ≡ true
      go t lo hi th (yes h) = f t lo h th
      go t lo hi th (no h) = g t (omega (arith, h)) hi th
  join a b c l m (Ok tt) (Err (At p)) f g =
      record {
        spot = g.spot;
        low = omega (arith, l, g.low);
        high = g.high;
        there = g.there;
        at = g.at;
        bad = g.bad;
        before = λ t lo th e. go t lo th e (dec_lt (stage_of t) b);
      }
    where
      go : (t : Spot) → a ≤ stage_of t → There s t → Earlier t g.spot → Dec (stage_of t < b) → good_at s t ≡ true
      go t lo th e (yes h) = f t lo h th
      go t lo th e (no h) = g.before t (omega (arith, h)) th e
  join a b c l m (Err (At p)) y f g =
      record { spot = f.spot; low = f.low; high = omega (arith, m, f.high); there = f.there; at = f.at; bad = f.bad; before = f.before }

  -- a stage of one spot
  one : (u : Spot) → ((i : ℕ) → spot_from (stage_of u) i ≡ u) → There s u → (b : Bool)
      → good_at s u ≡ b → (p : ℕ) → spot_place s u ≡ p → Part (stage_of u) (suc (stage_of u)) (demand b p)
  one u only th true e p q = λ t lo hi _. ap (good_at s) (only_of u only t (omega (arith, lo, hi))) ∙ e
  one u only th false e p q =
      record { spot = u; low = omega arith; high = omega arith; there = th; at = q; bad = e; before = λ t lo _ r. absurd (never t lo r) }
    where
      never : (t : Spot) → stage_of u ≤ stage_of t → Earlier t u → ⊥
      never t lo (stage h) = omega (arith, lo, h)
      never t lo (row e h) = omega (arith, h, ap within_stage (only_of u only t e))

  -- the rows of a kind
  rows : (k : Kind) → Part (5 + number k) (6 + number k) (rows_place s k)
  unfolding There good_at spot_place
  rows k = go (leb (rows_of s k) (bad_row s k)) refl
    where
      at_row : (P : Spot → Type 0) (t : Spot) → stage_of t ≡ 5 + number k → P (Row k (within_stage t)) → P t
      at_row P t e h = subst P (sym (row_of k t e)) h

      go : (b : Bool) → leb (rows_of s k) (bad_row s k) ≡ b → Part (5 + number k) (6 + number k) (demand b (row_at s k (bad_row s k)))
      go true e = λ t lo hi th.
          at_row (λ (u : Spot). There s u → good_at s u ≡ true) t (omega (arith, lo, hi))
          (λ h. none_bad (row_good s k) (rows_of s k) (leb-true _ _ e) (within_stage t) h) th
      go false e =
          let l : bad_row s k < rows_of s k = leb-false _ _ e in
          record {
            spot = Row k (bad_row s k);
            low = omega arith;
            high = omega arith;
            there = l;
            at = refl;
            bad = found-bad (row_good s k) (rows_of s k) l;
            before = λ t lo th r. earlier t lo r;
          }
        where
          earlier : (t : Spot) → 5 + number k ≤ stage_of t → Earlier t (Row k (bad_row s k)) → good_at s t ≡ true
          earlier t lo (stage h) = absurd (omega (arith, lo, h))
          earlier t lo (row q h) = at_row (λ (u : Spot). good_at s u ≡ true) t q (before-bad (row_good s k) (rows_of s k) (within_stage t) h)

  -- an entry
  entry : (k : Kind) → Part (number k) (suc (number k)) (demand (entry_good s k) (entry_at k))
  unfolding There good_at spot_place
  entry k = one (Entry k) (entry_back k) tt (entry_good s k) refl (entry_at k) refl

  -- 36 bytes and the head are one spot
  heads : (a h : Bool) (x y : Result Unit BadTable) → then_check (demand a 0) (then_check (then_check (demand h 0) x) y)
      ≡ then_check (demand (a && h) 0) (then_check x y)
  unfolding then_check
  heads true true x y = refl
  heads true false x y = refl
  heads false h x y = refl

  -- THE WHOLE CHECK, stage by stage
  whole : Part 0 10 (check_table s)
  unfolding check_table head_place entries_place all_rows_place There good_at spot_place spot_from
  whole =
      subst (Part 0 10) (sym (heads (leb 36 (length s)) (head_good s) (entries_place s) (then_check (demand (eqb (length s) (end_of s)) 2) (all_rows_place s))))
      (join 0 1 10 (omega arith) (omega arith) _ _ (one Head (λ i. refl) tt (leb 36 (length s) && head_good s) refl 0 refl)
      (join 1 5 10 (omega arith) (omega arith) (entries_place s) _
      (join 1 2 5 (omega arith) (omega arith) (demand (entry_good s Group) 4) _ (entry Group)
      (join 2 3 5 (omega arith) (omega arith) (demand (entry_good s Connection) 12) _ (entry Connection)
      (join 3 4 5 (omega arith) (omega arith) (demand (entry_good s Route) 20) (demand (entry_good s Destination) 28) (entry Route) (entry Destination))))
      (join 5 6 10 (omega arith) (omega arith) _ (all_rows_place s) (one Total (λ i. refl) tt (eqb (length s) (end_of s)) refl 2 refl)
      (join 6 7 10 (omega arith) (omega arith) (rows_place s Group) _ (rows Group)
      (join 7 8 10 (omega arith) (omega arith) (rows_place s Connection) _ (rows Connection)
      (join 8 9 10 (omega arith) (omega arith) (rows_place s Route) (rows_place s Destination) (rows Route) (rows Destination)))))))

  -- in words
  in_words : (x : Result Unit BadTable) → Part 0 10 x → TableSays s x
  in_words (Ok tt) f = λ t th. spot_words s t (f t (omega arith) (stage-most t) th)
  in_words (Err (At p)) f =
      record {
        spot = f.spot;
        there = f.there;
        at = f.at;
        bad = λ g. false≢true (sym f.bad ∙ words_spot s f.spot g);
        before = λ t th e. spot_words s t (f.before t (omega arith) th e);
      }

  told : TableSays s (check_table s)
  told = in_words (check_table s) whole

  -- only one answer has what it says
  only_one : (x y : Result Unit BadTable) → TableSays s x → TableSays s y → x ≡ y
  only_one (Ok u) (Ok v) f g = refl
  only_one (Ok u) (Err (At p)) f g = absurd (g.bad (f g.spot g.there))
  only_one (Err (At p)) (Ok u) f g = absurd (f.bad (g f.spot f.there))
  only_one (Err (At p)) (Err (At q)) f g =
      compare f.spot g.spot
      (λ e. absurd (f.bad (g.before f.spot f.there e)))
      (λ e. absurd (g.bad (f.before g.spot g.there e)))
      (λ e. ap (λ x. Err (At x)) (sym f.at ∙ ap (spot_place s) e ∙ g.at))

  pub table-given : (x : Result Unit BadTable) → TableSays s x → check_table s ≡ x
  table-given x h = only_one (check_table s) x told h

  -- EXACTLY WHEN
  pub table-answer : (x : Result Unit BadTable) → (check_table s ≡ x) ↔ TableSays s x
  table-answer x = (λ (e : check_table s ≡ x). subst (TableSays s) e told, table-given x)
