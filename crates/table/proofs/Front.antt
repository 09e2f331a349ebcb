-- What is asked before the rows: by numbers of four bytes, at once, and what it gives.
use Rattle.std.proofs.Common.{Result, Ok, Err}
use Prim.Native.Nat.{ℕ, ◌+◌, ◌*◌, ◌<◌, ◌≤◌}
use mathlib.Core.Path.{◌≡◌, refl, sym, ◌∙◌}
use mathlib.Core.Bool.{Bool, true, false, ◌&&◌}
use mathlib.Core.List.{List}
use native.Mathlib.Omega.{arith}
use lib.Dec.{leb, eqb}
use lib.ListN.{length, take}
use borrow.Author.Tests.{le-leb, leb-true, eq-eqb, eqb-true}
use Rattle.wire.specs.Be.{be, byte_at}
use Rattle.wire.proofs.Join.{be-add}
use Rattle.lists.proofs.Both.{and_left, and_right, and3, and4, and_both}
use Rattle.table_layout.specs.Layout.{rows_of, body_bytes, start_of, end_of, Laid}
use Rattle.table_layout.proofs.Parts.{be-taken}
use Rattle.table_layout.specs.declared.Kind.TheVariants.{Group, Connection, Route, Destination}
use Rattle.table_rows.proofs.Heads.{be-small}
use Rattle.table.specs.Table.{head_good, entry_good, front_good, demand, then_check, entries_place, head_place, all_rows_place, check_table}
use Rattle.table.specs.declared.BadTable.TheVariants.{At}
use Rattle.table.proofs.Facts.{entry_facts, contents-head, contents_entry, contents-starts}
use Rattle.table.specs.declared.BadTable.{BadTable}

-- ---- what it gives

module _ (s : List ℕ) where
  abbrev contents : Bool
  contents = head_good s && entry_good s Group && entry_good s Connection && entry_good s Route && entry_good s Destination

  parts : front_good s ≡ true → (contents ≡ true) × (eqb (length s) (end_of s) ≡ true)
  unfolding front_good
  parts e = (and_left contents (eqb (length s) (end_of s)) e, and_right contents (eqb (length s) (end_of s)) e)

  pub front-head : front_good s ≡ true → head_place s ≡ Ok tt
  unfolding head_place entries_place then_check
  front-head e =
      let f = and4 (head_good s && entry_good s Group) (entry_good s Connection) (entry_good s Route) (entry_good s Destination) (parts e).0 in
      rw (and_left (head_good s) (entry_good s Group) f.0, and_right (head_good s) (entry_good s Group) f.0, f.1, f.2, f.3)

  front_total : front_good s ≡ true → length s ≡ end_of s
  front_total e = eqb-true (length s) (end_of s) (parts e).1

  pub front-laid : 36 ≤ length s → front_good s ≡ true → Laid s
  front-laid h e = record { head = h; whole = front_total e; starts = contents-starts s (front-head e) }

  -- the check of an image whose front is good, and of another
  pub check-rows : (r : Result Unit BadTable) → 36 ≤ length s → front_good s ≡ true → r ≡ all_rows_place s → r ≡ check_table s
  unfolding check_table then_check
  check-rows r h e f = rw (le-leb 36 (length s) h, front-head e, eq-eqb (length s) (end_of s) (front_total e)) f

  -- good contents with a front that is not good: the total length is wrong
  wrong_total : head_place s ≡ Ok tt → front_good s ≡ false → eqb (length s) (end_of s) ≡ false
  unfolding front_good
  wrong_total a e = rw (
    contents-head s a,
    contents_entry s a Group,
    contents_entry s a Connection,
    contents_entry s a Route,
    contents_entry s a Destination,
  ) at e

  pub check-refused : 36 ≤ length s → front_good s ≡ false → then_check (head_place s) (Err (At 2)) ≡ check_table s
  unfolding check_table then_check
  check-refused h e = rw (le-leb 36 (length s) h) (go (head_place s) refl)
    where
      go : (a : Result Unit BadTable) → head_place s ≡ a
          → then_check (head_place s) (Err (At 2)) ≡ then_check (head_place s) (then_check (demand (eqb (length s) (end_of s)) 2) (all_rows_place s))
      go (Ok tt) a = rw (a, wrong_total a e)
      go (Err e) a = rw a

-- ---- by numbers of four bytes

-- two tests, each of which gives the other
same : (a b : Bool) → (a ≡ true → b ≡ true) → (b ≡ true → a ≡ true) → a ≡ b
same true b f g = sym (f refl)
same false true f g = g refl
same false false f g = refl

-- the tests of numbers of four bytes: bytes 0..3; the first half of each contents entry; the second halves; the total length
abbrev tests : (h g c r d o₁ o₂ o₃ o₄ long : ℕ) → Bool
tests h g c r d o₁ o₂ o₃ o₄ long =
    eqb h 65540
    && leb 65536 g
    && leb g 65544
    && eqb o₁ 36
    && leb 131072 c
    && leb c 131088
    && eqb (o₂ + 131072) (36 + 2 * g)
    && leb 196608 r
    && leb r 196672
    && eqb (o₃ + 2097152) (o₂ + 16 * c)
    && leb 262144 d
    && leb d 262208
    && eqb (o₄ + 3145728) (o₃ + 16 * r)
    && eqb (long + 4194304) (o₄ + 16 * d)

-- facts of a contents entry as its tests
facts_entry : (k n o w most start : ℕ) → (k ≡ w) × (n ≤ most) × (o ≡ start) → eqb k w && leb n most && eqb o start ≡ true
facts_entry k n o w most start f = and_both (and_both (eq-eqb k w f.0) (le-leb n most f.1)) (eq-eqb o start f.2)

-- kind and row count out of one number
entry_split : (x k n w most : ℕ) → x ≡ k * 65536 + n → n < 65536 → most < 65536 → w * 65536 ≤ x → x ≤ w * 65536 + most → (k ≡ w) × (n ≤ most)
entry_split x k n w most e b m l h = (omega arith, omega arith)

-- edition and number 4; of each kind its number, row count and offset, the first two as one number; the total length
module _ (v u k₁ n₁ o₁ k₂ n₂ o₂ k₃ n₃ o₃ k₄ n₄ o₄ long : ℕ) where
  record Front : Type 0 where
    edition : v ≡ 1
    four : u ≡ 4
    groups : (k₁ ≡ 1) × (n₁ ≤ 8) × (o₁ ≡ 36)
    connections : (k₂ ≡ 2) × (n₂ ≤ 16) × (o₂ ≡ 36 + n₁ * 2)
    routes : (k₃ ≡ 3) × (n₃ ≤ 64) × (o₃ ≡ 36 + n₁ * 2 + n₂ * 16)
    destinations : (k₄ ≡ 4) × (n₄ ≤ 64) × (o₄ ≡ 36 + n₁ * 2 + n₂ * 16 + n₃ * 16)
    total : long ≡ 36 + n₁ * 2 + n₂ * 16 + n₃ * 16 + n₄ * 16

  abbrev rules : Bool
  rules =
      (eqb v 1 && eqb u 4)
      && (eqb k₁ 1 && leb n₁ 8 && eqb o₁ 36)
      && (eqb k₂ 2 && leb n₂ 16 && eqb o₂ (36 + n₁ * 2))
      && (eqb k₃ 3 && leb n₃ 64 && eqb o₃ (36 + n₁ * 2 + n₂ * 16))
      && (eqb k₄ 4 && leb n₄ 64 && eqb o₄ (36 + n₁ * 2 + n₂ * 16 + n₃ * 16))
      && eqb long (36 + n₁ * 2 + n₂ * 16 + n₃ * 16 + n₄ * 16)

  rules_front : rules ≡ true → Front
  rules_front e =
      let f = and4 _ _ _ _ e in
      let g = and3 _ _ _ f.0 in
      record {
        edition = eqb-true _ _ (and_left (eqb v 1) (eqb u 4) g.0);
        four = eqb-true _ _ (and_right (eqb v 1) (eqb u 4) g.0);
        groups = entry_facts _ _ _ _ _ _ g.1;
        connections = entry_facts _ _ _ _ _ _ g.2;
        routes = entry_facts _ _ _ _ _ _ f.1;
        destinations = entry_facts _ _ _ _ _ _ f.2;
        total = eqb-true _ _ f.3;
      }

  front_rules : Front → rules ≡ true
  front_rules x =
      and_both
      (and_both
      (and_both
      (and_both
      (and_both (and_both (eq-eqb _ _ x.edition) (eq-eqb _ _ x.four)) (facts_entry _ _ _ _ _ _ x.groups))
      (facts_entry _ _ _ _ _ _ x.connections))
      (facts_entry _ _ _ _ _ _ x.routes))
      (facts_entry _ _ _ _ _ _ x.destinations))
      (eq-eqb _ _ x.total)

  -- the same by numbers of four bytes
  module _ (h g c r d : ℕ) (eh : h ≡ v * 65536 + u) (eg : g ≡ k₁ * 65536 + n₁) (ec : c ≡ k₂ * 65536 + n₂) (er : r ≡ k₃ * 65536 + n₃)
      (ed : d ≡ k₄ * 65536 + n₄) where
    front_tests : Front → tests h g c r d o₁ o₂ o₃ o₄ long ≡ true
    front_tests x =
        let ng : g ≡ 65536 + n₁ = omega (arith, x.groups.0) in
        let nc : c ≡ 131072 + n₂ = omega (arith, x.connections.0) in
        let nr : r ≡ 196608 + n₃ = omega (arith, x.routes.0) in
        let nd : d ≡ 262144 + n₄ = omega (arith, x.destinations.0) in
        and_both (and_both (and_both (and_both (and_both (and_both (and_both (and_both (and_both (and_both (and_both (and_both (and_both
        (eq-eqb h 65540 (omega (arith, x.edition, x.four)))
        (le-leb 65536 g (omega arith)))
        (le-leb g 65544 (omega (arith, x.groups.1))))
        (eq-eqb o₁ 36 x.groups.2))
        (le-leb 131072 c (omega arith)))
        (le-leb c 131088 (omega (arith, x.connections.1))))
        (eq-eqb (o₂ + 131072) (36 + 2 * g) (omega (arith, x.connections.2))))
        (le-leb 196608 r (omega arith)))
        (le-leb r 196672 (omega (arith, x.routes.1))))
        (eq-eqb (o₃ + 2097152) (o₂ + 16 * c) (omega (arith, x.connections.2, x.routes.2))))
        (le-leb 262144 d (omega arith)))
        (le-leb d 262208 (omega (arith, x.destinations.1))))
        (eq-eqb (o₄ + 3145728) (o₃ + 16 * r) (omega (arith, x.routes.2, x.destinations.2))))
        (eq-eqb (long + 4194304) (o₄ + 16 * d) (omega (arith, x.destinations.2, x.total)))

    tests_front : u < 65536 → n₁ < 65536 → n₂ < 65536 → n₃ < 65536 → n₄ < 65536 → tests h g c r d o₁ o₂ o₃ o₄ long ≡ true → Front
    tests_front bu b₁ b₂ b₃ b₄ e =
        let p = and4 _ _ _ _ e in
        let q = and4 _ _ _ _ p.0 in
        let a = and4 _ _ _ _ q.0 in
        let z = and3 _ _ _ a.0 in
        let y = and3 (eqb h 65540) (leb 65536 g) (leb g 65544) z.0 in
        let head : h ≡ 65540 = eqb-true _ _ y.0 in
        let one = entry_split g k₁ n₁ 1 8 eg b₁ (omega arith) (leb-true _ _ y.1) (leb-true _ _ y.2) in
        let two = entry_split c k₂ n₂ 2 16 ec b₂ (omega arith) (leb-true _ _ z.2) (leb-true _ _ a.1) in
        let three = entry_split r k₃ n₃ 3 64 er b₃ (omega arith) (leb-true _ _ a.3) (leb-true _ _ q.1) in
        let four = entry_split d k₄ n₄ 4 64 ed b₄ (omega arith) (leb-true _ _ q.3) (leb-true _ _ p.1) in
        let s₁ : o₁ ≡ 36 = eqb-true _ _ z.1 in
        let t₂ : o₂ + 131072 ≡ 36 + 2 * g = eqb-true _ _ a.2 in
        let t₃ : o₃ + 2097152 ≡ o₂ + 16 * c = eqb-true _ _ q.2 in
        let t₄ : o₄ + 3145728 ≡ o₃ + 16 * r = eqb-true _ _ p.2 in
        let t₅ : long + 4194304 ≡ o₄ + 16 * d = eqb-true _ _ p.3 in
        let s₂ : o₂ ≡ 36 + n₁ * 2 = omega (arith, one.0) in
        let s₃ : o₃ ≡ 36 + n₁ * 2 + n₂ * 16 = omega (arith, two.0) in
        let s₄ : o₄ ≡ 36 + n₁ * 2 + n₂ * 16 + n₃ * 16 = omega (arith, three.0) in
        record {
          edition = omega arith;
          four = omega arith;
          groups = (one.0, one.1, s₁);
          connections = (two.0, two.1, s₂);
          routes = (three.0, three.1, s₃);
          destinations = (four.0, four.1, s₄);
          total = omega (arith, four.0);
        }

    tests_are : u < 65536 → n₁ < 65536 → n₂ < 65536 → n₃ < 65536 → n₄ < 65536 → tests h g c r d o₁ o₂ o₃ o₄ long ≡ rules
    tests_are bu b₁ b₂ b₃ b₄ =
        same (tests h g c r d o₁ o₂ o₃ o₄ long) rules (λ e. front_rules (tests_front bu b₁ b₂ b₃ b₄ e)) (λ e. front_tests (rules_front e))

-- of an image, by numbers out of its front
module _ (s : List ℕ) (bytes : (i : ℕ) → byte_at s i < 256) where
  -- the two halves of a number, and the whole
  halves : (at x : ℕ) → at + 4 ≤ 36 → x ≡ be 4 (take 36 s) at → x ≡ be 2 s at * 65536 + be 2 s (at + 2)
  halves at x l e = e ∙ be-taken 4 36 s at l ∙ be-add 2 2 s at

  whole : (at x : ℕ) → at + 4 ≤ 36 → x ≡ be 4 (take 36 s) at → x ≡ be 4 s at
  whole at x l e = e ∙ be-taken 4 36 s at l

  pub front_by_numbers : (h g c r d o₁ o₂ o₃ o₄ : ℕ)
      → h ≡ be 4 (take 36 s) 0
      → g ≡ be 4 (take 36 s) 4
      → c ≡ be 4 (take 36 s) 12
      → r ≡ be 4 (take 36 s) 20
      → d ≡ be 4 (take 36 s) 28
      → o₁ ≡ be 4 (take 36 s) 8
      → o₂ ≡ be 4 (take 36 s) 16
      → o₃ ≡ be 4 (take 36 s) 24
      → o₄ ≡ be 4 (take 36 s) 32
      → tests h g c r d o₁ o₂ o₃ o₄ (length s) ≡ front_good s
  unfolding front_good head_good entry_good end_of start_of body_bytes rows_of
  front_by_numbers h g c r d o₁ o₂ o₃ o₄ eh eg ec er ed e₁ e₂ e₃ e₄ =
      let small = be-small s bytes 2 in
      rw (whole 8 o₁ (omega arith) e₁, whole 16 o₂ (omega arith) e₂, whole 24 o₃ (omega arith) e₃, whole 32 o₄ (omega arith) e₄)
      (tests_are (be 2 s 0) (be 2 s 2) (be 2 s 4) (be 2 s 6) (be 4 s 8) (be 2 s 12) (be 2 s 14) (be 4 s 16)
      (be 2 s 20) (be 2 s 22) (be 4 s 24) (be 2 s 28) (be 2 s 30) (be 4 s 32) (length s) h g c r d
      (halves 0 h (omega arith) eh) (halves 4 g (omega arith) eg) (halves 12 c (omega arith) ec) (halves 20 r (omega arith) er)
      (halves 28 d (omega arith) ed) (small 2) (small 6) (small 14) (small 22) (small 30))
