-- The check in one pass, at the places where its loop stands.
use Rattle.std.proofs.Common.{Ok, Err, Option, Some, None}
use Rattle.send_destination.specs.declared.Reply.{Reply}
use Rattle.send_destination.specs.Reply.{reply_number}
use Prim.Native.Nat.{ℕ, zero, suc, ◌+◌, ◌<◌, ◌≤◌}
use mathlib.Core.Path.{◌≡◌, refl, sym, ap, subst, ◌∙◌}
use mathlib.Core.Bool.{Bool, true, false, cond, not, ◌&&◌, ◌||◌}
use mathlib.Core.List.{List}
use native.Mathlib.Omega.{arith}
use native.Mathlib.Numerals.{add-one}
use lib.Dec.{eqb}
use borrow.Author.Tests.{eqb-true, lt-ltb, le-ltb, eq-eqb, ne_eqb}
use Rattle.send_destination.specs.Destination.{look_of}
use Rattle.lists.specs.Search.{first_bad, every}
use Rattle.lists.proofs.Both.{and_left, and_right, neither}
use Rattle.lists.proofs.Search.{Searched, search_start, search_on, search_found, search_ended, GoodTo, pass_start, pass_on, pass_failed, every-at, every-all}
use Rattle.table_layout.specs.Layout.{body_of}
use Rattle.table_layout.specs.declared.Kind.TheVariants.{Connection as Connections}
use Rattle.table_rows.specs.declared.DestinationRow.{DestinationRow}
use Rattle.table_rows.specs.Rows.{brief_in, connection_of, destination_of}
use Rattle.state.specs.declared.State.{State}
use Rattle.state.specs.State.{record_at}
use Rattle.send.specs.declared.NotSent.TheVariants.{NoDestination, SwitchedOff, RefusedAt}
use Rattle.send.specs.Verdict.{is_out, passes, decided_at, verdict_of, join_of, transmission_of, ended_of}
use Rattle.send.specs.Send.{look_at}
use Rattle.send.specs.Inner.{refused_number, refused_row}

-- a row that does not refuse
data Passing : ℕ → Type 0 where
  has-fit : Passing 0
  other : Passing 5
  off : Passing 6

passing : (a : ℕ) → passes a ≡ true → Passing a
passing a h = go (eqb a 0) refl (eqb a 5) refl (eqb a 6) refl h
  where
    go : (x : Bool) → eqb a 0 ≡ x → (y : Bool) → eqb a 5 ≡ y → (z : Bool) → eqb a 6 ≡ z → (x || (y || z)) ≡ true → Passing a
    go true p y q z r h = subst Passing (sym (eqb-true a 0 p)) has-fit
    go false p true q z r h = subst Passing (sym (eqb-true a 5 q)) other
    go false p false q true r h = subst Passing (sym (eqb-true a 6 r)) off
    go false p false q false r h = absurd (let o : ◌≡◌ {A = ℕ} 0 1 = cc in omega arith)

-- what is seen so far, with one row more
step : (a b : Bool) (l : ℕ) → (a ≡ true → b ≡ true) → Passing l → join_of (cond a 5 (cond b 6 0)) l ≡ cond (a && eqb l 5) 5 (cond (b && is_out l) 6 0)
unfolding join_of
step true true l h has-fit = refl
step true true l h other = refl
step true true l h off = refl
step true false l h p = absurd (let o : ◌≡◌ {A = ℕ} 0 1 = cc (h refl) in omega arith)
step false true l h has-fit = refl
step false true l h other = refl
step false true l h off = refl
step false false l h has-fit = refl
step false false l h other = refl
step false false l h off = refl

module _ (look : ℕ → ℕ) where
  abbrev pub good : ℕ → Bool
  good i = passes (look i)

  abbrev five : ℕ → Bool
  five i = eqb (look i) 5

  abbrev out : ℕ → Bool
  out i = is_out (look i)

  -- the rows below i, of which none refuses
  unfoldable pub seen_at : ℕ → ℕ
  seen_at zero = 5
  seen_at (suc i) = join_of (seen_at i) (look i)

  five_out : (n : ℕ) → every five n ≡ true → every out n ≡ true
  five_out n e = every-all out n (λ i h. rw (every-at five n i e h))

  seen-is : (n : ℕ) → every good n ≡ true → seen_at n ≡ cond (every five n) 5 (cond (every out n) 6 0)
  unfolding seen_at every
  seen-is zero e = refl
  seen-is (suc n) e =
      ap (λ (x : ℕ). join_of x (look n)) (seen-is n (and_left (every good n) (good n) e))
      ∙ step (every five n) (every out n) (look n) (five_out n) (passing (look n) (and_right (every good n) (good n) e))

  pub record Scanned (n i v : ℕ) : Type 0 where
    pub searched : Searched good n i
    pub passed : GoodTo good n i
    pub is : v ≡ seen_at i

  pub scan_start : (n : ℕ) → Scanned n 0 5
  unfolding seen_at
  scan_start n = record { searched = search_start good n; passed = pass_start good n; is = refl }

  module _ (n i v : ℕ) (s : Scanned n i v) where
    pub scan_on : (w : ℕ) → i < n → good i ≡ true → w ≡ join_of v (look i) → Scanned n (i + 1) w
    unfolding seen_at
    scan_on w h g e =
        record {
          searched = search_on good n i s.searched h g;
          passed = pass_on good n i s.passed h g;
          is = rw (add-one i) (e ∙ ap (λ (x : ℕ). join_of x (look i)) s.is);
        }

    -- a row of another PDU
    pub scan_skip : i < n → look i ≡ 5 → Scanned n (i + 1) v
    unfolding join_of
    scan_skip h e = scan_on v h (rw e) (rw e)

    pub scan_refused : i < n → good i ≡ false → Err (RefusedAt (look i) i) ≡ verdict_of look n
    unfolding verdict_of
    scan_refused h g =
        let p = neither (eqb (look i) 0) (is_out (look i)) g in
        let q = neither (eqb (look i) 5) (eqb (look i) 6) p.1 in
        let a : every five n ≡ false = sym (pass_failed five n i h q.0) in
        let b : every out n ≡ false = sym (pass_failed out n i h p.1) in
        let f : i ≡ first_bad good n = search_found good n i s.searched h g in
        rw (a, b, ← f, lt-ltb _ _ h)

    pub scan_ended : n ≤ i → transmission_of v ≡ verdict_of look n
    unfolding verdict_of
    scan_ended h =
        let e : i ≡ n = omega (arith, s.searched.0) in
        ap transmission_of (s.is ∙ ap seen_at e ∙ seen-is n (rw e at s.passed.1)) ∙ go (every five n) (every out n)
      where
        none : decided_at look n (first_bad good n) ≡ Ok tt
        none = rw (← search_ended good n i s.searched h, le-ltb i n h)

        go : (a b : Bool) → transmission_of (cond a 5 (cond b 6 0))
            ≡ cond a (Err NoDestination) (cond b (Err SwitchedOff) (decided_at look n (first_bad good n)))
        go true b = refl
        go false true = refl
        go false false = sym none

    -- the answer of the pass, where it ended after the last row, and where row i refuses
    pub ended_clear : (refused : Option (Reply × ℕ)) → refused ≡ None → n ≤ i
        → ended_of v (refused_number refused) (refused_row refused) ≡ verdict_of look n
    ended_clear refused e h = ap (λ (x : Option (Reply × ℕ)). ended_of v (refused_number x) (refused_row x)) e ∙ scan_ended h

    pub ended-refused : (refused : Option (Reply × ℕ)) (found : Reply) → refused ≡ Some (found, i) → reply_number found ≡ look i
        → i < n → good i ≡ false → ended_of v (refused_number refused) (refused_row refused) ≡ verdict_of look n
    ended-refused refused found e q h g =
        let p = neither (eqb (look i) 0) (is_out (look i)) g in
        let z : eqb (look i) 0 ≡ false = p.0 in
        ap (λ (x : Option (Reply × ℕ)). ended_of v (refused_number x) (refused_row x)) e
        ∙ ap (λ (x : ℕ). ended_of v x i) q ∙ rw z (scan_refused h g)

-- row i of a table
module _ (image : List ℕ) (s : State) (pdu len i : ℕ) (d : DestinationRow) (e : d ≡ destination_of image i) where
  abbrev look_from : DestinationRow → ℕ
  look_from x = cond (not (eqb x.pdu pdu)) 5 (look_of len (connection_of image x.connection).size x (record_at s x.connection))

  pub look_other : (d.pdu ≡ pdu → ⊥) → look_at image s pdu len i ≡ 5
  unfolding look_at
  look_other ne = sym (ap look_from e) ∙ rw (ne_eqb _ _ ne)

  pub look_own : d.pdu ≡ pdu → (connections : List ℕ) → connections ≡ body_of image Connections
      → (found : ℕ) → found ≡ look_of len (brief_in connections d.connection).size d (record_at s d.connection) → found ≡ look_at image s pdu len i
  unfolding look_at
  look_own same connections eb found q =
      q
      ∙ ap (λ (b : List ℕ). look_of len (brief_in b d.connection).size d (record_at s d.connection)) eb
      ∙ sym (ap (λ (b : Bool). cond (not b) 5 (look_of len (connection_of image d.connection).size d (record_at s d.connection))) (eq-eqb _ _ same))
      ∙ ap look_from e
