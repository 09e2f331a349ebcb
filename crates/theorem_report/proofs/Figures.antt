-- THE FIGURES OF A ROUTE AND THE DROPS OF A CONNECTION, added up: in any order and any grouping; and how the bytes stand to the lengths.
use Prim.Native.Nat.{ℕ, ◌+◌, ◌*◌, ◌<◌, ◌≤◌, min, max}
use mathlib.Core.Path.{◌≡◌, refl, sym, ap, ap₂, ◌∙◌}
use mathlib.Core.Bool.{Bool, true, false, ◌&&◌}
use native.Mathlib.Omega.{arith}
use native.Mathlib.Decide.{ℕ_discrete}
use native.Mathlib.Nat.{mul-le-mul_left, add-mul, min-le_left, min-le_right, le-max_left, le-max_right}
use lib.Dec.{eqb, ltb}
use borrow.Author.Tests.{lt-ltb, eq-eqb, ne_eqb, eqb-true}
use Rattle.lists.proofs.Both.{and_both}
use Rattle.report.specs.declared.RouteFigures.{RouteFigures}
use Rattle.report.specs.declared.Drops.{Drops}
use Rattle.report.specs.Figures.{no_pdus, one_pdu, smallest_by, add_figures, figures_fit, drops_by, no_drops, add_drops, drops_fit, Between, Bare}
use Rattle.report.proofs.Turns.{figures_small, SmallDrops, drops_small}
use Rattle.theorem_report.proofs.Sums.{Sums}

-- THE SMALLEST LENGTH
none_sum : (m n : ℕ) → eqb (m + n) 0 ≡ (eqb m 0 && eqb n 0)
none_sum m n = go (ℕ_discrete m 0) (ℕ_discrete n 0)
  where
    go : Dec (m ≡ 0) → Dec (n ≡ 0) → eqb (m + n) 0 ≡ (eqb m 0 && eqb n 0)
    go (yes p) (yes q) = eq-eqb (m + n) 0 (omega arith) ∙ sym (rw (eq-eqb m 0 p, eq-eqb n 0 q))
    go (yes p) (no q) = ne_eqb (m + n) 0 (λ e. omega arith) ∙ sym (rw (eq-eqb m 0 p, ne_eqb n 0 q))
    go (no p) q = ne_eqb (m + n) 0 (λ e. omega arith) ∙ sym (rw (ne_eqb m 0 p))

smallest_comm : (p q : Bool) (a b : ℕ) → smallest_by p q a b ≡ smallest_by q p b a
unfolding smallest_by
smallest_comm true true a b = omega arith
smallest_comm true false a b = refl
smallest_comm false true a b = refl
smallest_comm false false a b = omega arith

smallest_assoc : (p q r : Bool) (a b c : ℕ) → smallest_by (p && q) r (smallest_by p q a b) c ≡ smallest_by p (q && r) a (smallest_by q r b c)
unfolding smallest_by
smallest_assoc true true true a b c = omega arith
smallest_assoc true true false a b c = refl
smallest_assoc true false true a b c = refl
smallest_assoc true false false a b c = refl
smallest_assoc false true true a b c = refl
smallest_assoc false true false a b c = refl
smallest_assoc false false true a b c = refl
smallest_assoc false false false a b c = omega arith

-- FIGURES, by their numbers
abbrev figures : ℕ → ℕ → ℕ → ℕ → RouteFigures
figures p b s l = record { pdus = p; bytes = b; smallest = s; largest = l }

same_figures : {p q b c s t l m : ℕ} → p ≡ q → b ≡ c → s ≡ t → l ≡ m → figures p b s l ≡ figures q c t m
same_figures {p} {q} {b} {c} {s} {t} {l} {m} e f g h =
    ap₂ (λ (x y : ℕ). figures x y s l) e f ∙ ap₂ (λ (x y : ℕ). figures q c x y) g h

pub figures_comm : (f g : RouteFigures) → add_figures f g ≡ add_figures g f
unfolding add_figures
figures_comm f g =
    same_figures (omega arith) (omega arith) (smallest_comm (eqb f.pdus 0) (eqb g.pdus 0) f.smallest g.smallest) (omega arith)

pub figures_assoc : (f g h : RouteFigures) → add_figures (add_figures f g) h ≡ add_figures f (add_figures g h)
unfolding add_figures
figures_assoc f g h =
    same_figures (omega arith) (omega arith)
    (ap (λ (n : Bool). smallest_by n (eqb h.pdus 0) (add_figures f g).smallest h.smallest) (none_sum f.pdus g.pdus)
    ∙ smallest_assoc (eqb f.pdus 0) (eqb g.pdus 0) (eqb h.pdus 0) f.smallest g.smallest h.smallest
    ∙ ap (λ (n : Bool). smallest_by (eqb f.pdus 0) n f.smallest (add_figures g h).smallest) (sym (none_sum g.pdus h.pdus)))
    (omega arith)

smallest_none : (p : Bool) (a : ℕ) → smallest_by p true a 0 ≡ a
unfolding smallest_by
smallest_none true a = omega arith
smallest_none false a = refl

pub figures_none : (f : RouteFigures) → add_figures f no_pdus ≡ f
unfolding add_figures
figures_none f = same_figures (omega arith) (omega arith) (smallest_none (eqb f.pdus 0) f.smallest) (omega arith)

pub fits_figures : (f g : RouteFigures) → f.pdus + g.pdus < 18446744073709551616 → f.bytes + g.bytes < 18446744073709551616 → figures_fit f g ≡ true
unfolding figures_fit
fits_figures f g p b = and_both (lt-ltb (f.pdus + g.pdus) 18446744073709551616 p) (lt-ltb (f.bytes + g.bytes) 18446744073709551616 b)

pub figures_fit_comm : (f g : RouteFigures) → figures_fit f g ≡ figures_fit g f
unfolding figures_fit
figures_fit_comm f g =
    let p : f.pdus + g.pdus ≡ g.pdus + f.pdus = omega arith in
    let b : f.bytes + g.bytes ≡ g.bytes + f.bytes = omega arith in
    ap₂ (λ (x y : ℕ). ltb x 18446744073709551616 && ltb y 18446744073709551616) p b

pub figures_fit-turn : (f g h : RouteFigures) → figures_fit f g ≡ true → figures_fit (add_figures f g) h ≡ true → figures_fit f (add_figures g h) ≡ true
unfolding add_figures
figures_fit-turn f g h first e = let s = figures_small (add_figures f g) h e in fits_figures f (add_figures g h) (omega arith) (omega arith)

pub figures_fit_less : (f g h : RouteFigures) → figures_fit f (add_figures g h) ≡ true → figures_fit f g ≡ true
unfolding add_figures
figures_fit_less f g h e = let s = figures_small f (add_figures g h) e in fits_figures f g (omega arith) (omega arith)

abbrev pub figures_sums : Sums RouteFigures
figures_sums =
    record {
      add = add_figures;
      fit = figures_fit;
      comm = figures_comm;
      assoc = figures_assoc;
      fit_comm = figures_fit_comm;
      fit-turn = figures_fit-turn;
      fit_less = figures_fit_less;
    }

-- DROPS
same-drops : {a b c d e p q r s t : ℕ} → a ≡ p → b ≡ q → c ≡ r → d ≡ s → e ≡ t → drops_by a b c d e ≡ drops_by p q r s t
same-drops {a} {b} {c} {d} {e} {p} {q} {r} {s} {t} h i j k l =
    ap₂ (λ (x y : ℕ). drops_by x y c d e) h i ∙ ap₂ (λ (x y : ℕ). drops_by p q x y e) j k ∙ ap (drops_by p q r s) l

pub drops_comm : (d e : Drops) → add_drops d e ≡ add_drops e d
unfolding add_drops
drops_comm d e = same-drops (omega arith) (omega arith) (omega arith) (omega arith) (omega arith)

pub drops_assoc : (d e f : Drops) → add_drops (add_drops d e) f ≡ add_drops d (add_drops e f)
unfolding add_drops
drops_assoc d e f = same-drops (omega arith) (omega arith) (omega arith) (omega arith) (omega arith)

pub drops_none : (d : Drops) → add_drops d no_drops ≡ d
unfolding add_drops
drops_none d = same-drops (omega arith) (omega arith) (omega arith) (omega arith) (omega arith)

pub fits-drops : (d e : Drops) → SmallDrops d e → drops_fit d e ≡ true
unfolding drops_fit
fits-drops d e s =
    and_both
    (and_both (and_both (and_both (lt-ltb (d.unrouted + e.unrouted) 18446744073709551616 s.unrouted)
    (lt-ltb (d.off + e.off) 18446744073709551616 s.off)) (lt-ltb (d.long + e.long) 18446744073709551616 s.long))
    (lt-ltb (d.cut + e.cut) 18446744073709551616 s.cut))
    (lt-ltb (d.short + e.short) 18446744073709551616 s.short)

pub drops-fit_comm : (d e : Drops) → drops_fit d e ≡ drops_fit e d
unfolding drops_fit
drops-fit_comm d e =
    let a : d.unrouted + e.unrouted ≡ e.unrouted + d.unrouted = omega arith in
    let b : d.off + e.off ≡ e.off + d.off = omega arith in
    let f : d.long + e.long ≡ e.long + d.long = omega arith in
    let g : d.cut + e.cut ≡ e.cut + d.cut = omega arith in
    let h : d.short + e.short ≡ e.short + d.short = omega arith in
    rw (a, b, f, g, h)

pub drops-fit-turn : (d e f : Drops) → drops_fit d e ≡ true → drops_fit (add_drops d e) f ≡ true → drops_fit d (add_drops e f) ≡ true
unfolding add_drops
drops-fit-turn d e f first h =
    let s = drops_small (add_drops d e) f h in
    fits-drops d (add_drops e f) (record { unrouted = omega arith; off = omega arith; long = omega arith; cut = omega arith; short = omega arith })

pub drops-fit_less : (d e f : Drops) → drops_fit d (add_drops e f) ≡ true → drops_fit d e ≡ true
unfolding add_drops
drops-fit_less d e f h =
    let s = drops_small d (add_drops e f) h in
    fits-drops d e (record { unrouted = omega arith; off = omega arith; long = omega arith; cut = omega arith; short = omega arith })

abbrev pub drops-sums : Sums Drops
drops-sums =
    record {
      add = add_drops;
      fit = drops_fit;
      comm = drops_comm;
      assoc = drops_assoc;
      fit_comm = drops-fit_comm;
      fit-turn = drops-fit-turn;
      fit_less = drops-fit_less;
    }

-- R21.7: PDUs x smallest <= bytes <= PDUs x largest, of sums, too
low_sum : (p q : ℕ) (n m : Bool) (a b x y : ℕ) → (n ≡ true → p ≡ 0) → (m ≡ true → q ≡ 0) → p * a ≤ x → q * b ≤ y → (p + q) * smallest_by n m a b ≤ x + y
unfolding smallest_by
low_sum p q true true a b x y n m h k = let e = n refl in let f = m refl in rw (e, f) (omega arith)
low_sum p q true false a b x y n m h k = let e = n refl in rw e (omega arith)
low_sum p q false true a b x y n m h k = let f = m refl in rw f (omega arith)
low_sum p q false false a b x y n m h k =
    let e : (p + q) * min a b ≡ p * min a b + q * min a b = add-mul p q (min a b) in
    let u : p * min a b ≤ p * a = mul-le-mul_left p (min-le_left a b) in
    let v : q * min a b ≤ q * b = mul-le-mul_left q (min-le_right a b) in
    omega arith

high_sum : (p q a b x y : ℕ) → x ≤ p * a → y ≤ q * b → x + y ≤ (p + q) * max a b
high_sum p q a b x y h k =
    let e : (p + q) * max a b ≡ p * max a b + q * max a b = add-mul p q (max a b) in
    let u : p * a ≤ p * max a b = mul-le-mul_left p (le-max_left a b) in
    let v : q * b ≤ q * max a b = mul-le-mul_left q (le-max_right a b) in
    omega arith

pub between_none : Between no_pdus
between_none = record { low = omega arith; high = omega arith }

pub between_one : (n : ℕ) → Between (one_pdu n)
between_one n = record { low = omega arith; high = omega arith }

pub between_sum : (f g : RouteFigures) → Between f → Between g → Between (add_figures f g)
unfolding add_figures
between_sum f g a b =
    record {
      low = low_sum f.pdus g.pdus (eqb f.pdus 0) (eqb g.pdus 0) f.smallest g.smallest
          f.bytes g.bytes (eqb-true f.pdus 0) (eqb-true g.pdus 0) a.low b.low;
      high = high_sum f.pdus g.pdus f.largest g.largest f.bytes g.bytes a.high b.high;
    }

-- R21.8: with no PDU smallest and largest are 0, of sums, too
pub bare_none : Bare no_pdus
bare_none = record { smallest = λ e. refl; largest = λ e. refl }

pub bare_one : (n : ℕ) → Bare (one_pdu n)
bare_one n = record { smallest = λ e. absurd (omega arith); largest = λ e. absurd (omega arith) }

pub bare_sum : (f g : RouteFigures) → Bare f → Bare g → Bare (add_figures f g)
unfolding add_figures smallest_by
bare_sum f g a b =
    record {
      smallest = λ e.
          let p : f.pdus ≡ 0 = omega arith in
          let q : g.pdus ≡ 0 = omega arith in
          let s = a.smallest p in
          let t = b.smallest q in
          rw (eq-eqb f.pdus 0 p, eq-eqb g.pdus 0 q) (omega arith);
      largest = λ e.
          let p : f.pdus ≡ 0 = omega arith in
          let q : g.pdus ≡ 0 = omega arith in
          let s = a.largest p in
          let t = b.largest q in
          omega arith;
    }

-- a PDU of length 0 makes the smallest 0, and counts
pub empty_pdu : (f : RouteFigures) → ((add_figures f (one_pdu 0)).pdus ≡ f.pdus + 1) × ((add_figures f (one_pdu 0)).smallest ≡ 0)
unfolding add_figures smallest_by
empty_pdu f = (refl, go (eqb f.pdus 0))
  where
    go : (b : Bool) → smallest_by b false f.smallest 0 ≡ 0
    go true = refl
    go false = omega arith
